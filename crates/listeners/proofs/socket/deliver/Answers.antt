use Rattle.std.proofs.Common.{◌<◌, length, arith}
use Rattle.listeners.specs.Sockets.{after_delivery}
use Rattle.listeners.proofs.SocketLists.{changed-more}
use Rattle.listeners.proofs.socket.deliver.Goals as goal

pub loop-socket-preserved : goal.loop-socket-preserved
loop-socket-preserved c =
    let m = c.args.message.now in
    let now = c.loop-socket.socket-items in
    let within : c.loop-socket.socket-index < length now = omega (arith, c.loop-socket-test.true, c.loop-socket.auto.socket-items) in
    let after = after_delivery m.bytes.now m.family m.own in
    changed-more after c.args.sockets.now now c.loop-socket.socket-index c.hear.new.self c.socket-item.result c.loop-socket-test.true within c.loop-socket.invariant c.hear.ensures
