use Rattle.std.proofs.Common.{◌≡◌, ◌∙◌, sym, ap, Result, ok_or, Bool, Option, option_map, Some, None, List, ℕ}
use Rattle.std.specs.List.{position}
use Rattle.sock_addrs.specs.declared.errno.Errno.{Errno}
use Rattle.sock_addrs.specs.declared.errno.Errno.TheVariants.{EBADF}
use Rattle.listeners.specs.Open.{Open, seen}
use Rattle.listeners.specs.Sockets.{Socket, has_id, socket_of}
use Rattle.listeners.proofs.SocketLists.{found_socket, no_socket}
use Rattle.listeners.proofs.listeners.Listeners.pid_of.Goals as goal

abbrev answer : Option Socket → Result ℕ Errno
answer o = ok_or (option_map (λ s. s.pid) o) EBADF

pub returns-in-Some : goal.returns-in-Some
returns-in-Some c =
    let items = c.self.inside.sockets.items in
    let test : Open → Bool = λ s. has_id c.args.id (seen s) in
    let place : position test items ≡ Some c.in-Some.at = ap (λ (xs : List Open). position test xs) (sym c.deref.ensures.value) ∙ sym c.in-Some.ensures in
    let found = ap (λ (ss : List Socket). socket_of c.args.id ss) (sym c.self.view_is) ∙ found_socket items c.args.id c.in-Some.at c.index.result.now place in
    ap (λ (s : Open). answer (Some (seen s))) c.index.ensures ∙ ap (λ (o : Option Socket). answer o) (sym found)

pub returns-in-None : goal.returns-in-None
returns-in-None c =
    let items = c.self.inside.sockets.items in
    let test : Open → Bool = λ s. has_id c.args.id (seen s) in
    let place : position test items ≡ None = ap (λ (xs : List Open). position test xs) (sym c.deref.ensures.value) ∙ sym c.in-None.ensures in
    let none = ap (λ (ss : List Socket). socket_of c.args.id ss) (sym c.self.view_is) ∙ no_socket items c.args.id place in
    ap (λ (o : Option Socket). answer o) (sym none)
