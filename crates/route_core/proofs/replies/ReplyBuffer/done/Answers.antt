use Rattle.std.proofs.Common.{◌≡◌, arith}
use Rattle.std.proofs.lemmas.Grind.{common_steps}
use Rattle.route_core.specs.Requests.{done_reply}
use Rattle.route_core.proofs.WholeMessages.{done_is_message}
use Rattle.route_core.proofs.replies.ReplyBuffer.done.Goals as goal

pub returns : goal.returns
returns c =
    let is : c.deref.result.now ≡ done_reply c.args.pid c.args.bytes.now = grind (arith, common_steps) in
    record { reply = is; message = done_is_message c.args.pid c.args.bytes.now _ c.requires.echoed is }
