use Rattle.std.proofs.Common.{◌≡◌, ◌∙◌, sym, ap, Bool, Option, option_map, Some, None, List, ℕ}
use Rattle.std.specs.List.{position}
use Rattle.listeners.specs.Open.{Open, seen}
use Rattle.listeners.specs.Sockets.{Socket, has_id, socket_of, emptied, taken}
use Rattle.listeners.proofs.SocketLists.{found_socket, no_socket, changed_at}
use Rattle.listeners.proofs.listeners.Listeners.move_to.Goals as goal

abbrev unread : Option Socket → Option (List (List ℕ))
unread o = option_map (λ s. s.messages) o

pub returns-in-Some-clause-messages : goal.returns-in-Some-clause-messages
returns-in-Some-clause-messages c =
    let items = c.self.inside.sockets.items in
    let test : Open → Bool = λ s. has_id c.args.id (seen s) in
    let place : position test items ≡ Some c.in-Some.at = ap (λ (xs : List Open). position test xs) (sym c.deref.ensures.value) ∙ sym c.in-Some.ensures in
    let found = ap (λ (ss : List Socket). socket_of c.args.id ss) (sym c.self.view_is) ∙ found_socket items c.args.id c.in-Some.at c.index_mut-socket.result.now place in
    let moved = c.move_to.ensures.messages ∙ ap (λ (s : Open). s.queue) c.index_mut-socket.ensures.value in
    ap (λ (o : Option Socket). unread o) found ∙ ap (λ (ms : List (List ℕ)). Some ms) (sym moved)

pub returns-in-Some-clause-taken : goal.returns-in-Some-clause-taken
returns-in-Some-clause-taken c =
    let items = c.self.inside.sockets.items in
    let test : Open → Bool = λ s. has_id c.args.id (seen s) in
    let place : position test items ≡ Some c.in-Some.at = ap (λ (xs : List Open). position test xs) (sym c.deref.ensures.value) ∙ sym c.in-Some.ensures in
    let empty = c.move_to.ensures.empty ∙ ap (λ (s : Open). emptied (seen s)) c.index_mut-socket.ensures.value in
    changed_at emptied items c.args.id c.in-Some.at c.move_to.new.self c.index_mut-socket.result.now place empty
    ∙ ap (λ (ss : List Socket). taken c.args.id ss) c.self.view_is

pub returns-in-None-clause-none : goal.returns-in-None-clause-none
returns-in-None-clause-none c =
    let items = c.self.inside.sockets.items in
    let test : Open → Bool = λ s. has_id c.args.id (seen s) in
    let place : position test items ≡ None = ap (λ (xs : List Open). position test xs) (sym c.deref.ensures.value) ∙ sym c.in-None.ensures in
    ap (λ (ss : List Socket). unread (socket_of c.args.id ss)) (sym c.self.view_is) ∙ ap (λ (o : Option Socket). unread o) (no_socket items c.args.id place)
