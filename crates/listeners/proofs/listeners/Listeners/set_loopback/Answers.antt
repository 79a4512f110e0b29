use Rattle.std.proofs.Common.{◌≡◌, ◌∙◌, sym, ap, refl, List, Some, None}
use Rattle.std.specs.List.{position}
use Rattle.listeners.specs.Open.{Open, seen}
use Rattle.listeners.specs.Sockets.{Socket, has_id, looped, socket_of, with_loopback}
use Rattle.listeners.proofs.SocketLists.{found_socket, no_socket, changed_at}
use Rattle.listeners.proofs.listeners.Listeners.set_loopback.Goals as goal
use Rattle.listeners.proofs.listeners.Listeners.set_loopback.Goals.{After-set_loopback}

place : (c : After-set_loopback) → position (λ s. has_id c.args.id (seen s)) c.self.inside.sockets.items ≡ Some c.in-Some.at
place c = ap (λ (xs : List Open). position (λ s. has_id c.args.id (seen s)) xs) (sym c.deref.ensures.value) ∙ sym c.in-Some.ensures

pub returns-in-Some-clause-fault : goal.returns-in-Some-clause-fault
returns-in-Some-clause-fault c =
    let at = (goal.at.returns-in-Some-clause-fault c).After-set_loopback in
    let found = ap (λ (ss : List Socket). socket_of c.args.id ss) (sym c.self.view_is) ∙ found_socket c.self.inside.sockets.items c.args.id c.in-Some.at c.index_mut-socket.result.now (place at) in
    rw found refl

pub returns-in-Some-clause-set : goal.returns-in-Some-clause-set
returns-in-Some-clause-set c =
    let at = (goal.at.returns-in-Some-clause-set c).After-set_loopback in
    let items = c.self.inside.sockets.items in
    let d = c.index_mut-socket.result.now in
    let set = changed_at (looped c.args.on) items c.args.id c.in-Some.at c.set_loopback.new.self d (place at) (ap (λ (s : Open). seen s) c.set_loopback.ensures ∙ ap (λ (s : Open). looped c.args.on (seen s)) c.index_mut-socket.ensures.value) in
    set ∙ ap (λ (ss : List Socket). with_loopback c.args.id c.args.on ss) c.self.view_is

pub returns-in-None-clause-fault : goal.returns-in-None-clause-fault
returns-in-None-clause-fault c =
    let items = c.self.inside.sockets.items in
    let none : position (λ s. has_id c.args.id (seen s)) items ≡ None = ap (λ (xs : List Open). position (λ s. has_id c.args.id (seen s)) xs) (sym c.deref.ensures.value) ∙ sym c.in-None.ensures in
    let closed = ap (λ (ss : List Socket). socket_of c.args.id ss) (sym c.self.view_is) ∙ no_socket items c.args.id none in
    rw closed refl
