use Rattle.std.proofs.Common.{◌≡◌, ◌++◌, map, take, drop}
use Rattle.listeners.specs.Open.{seen}
use Rattle.listeners.specs.Sockets.{after_delivery}
use Rattle.listeners.proofs.socket.deliver.Given as goal

abbrev pub invariant-loop-socket : goal.invariant-loop-socket
invariant-loop-socket l =
    let before = map seen l.fn.sockets in
    map seen l.socket-items ≡ map (after_delivery l.message.bytes.now l.message.family l.message.own) (take l.socket-index before) ++ drop l.socket-index before
