use Rattle.std.proofs.Common.{◌≡◌, arith}
use Rattle.std.proofs.lemmas.Grind.{common_steps}
use Rattle.route_core.specs.Writes.{refused_reply}
use Rattle.route_core.proofs.WholeMessages.{refused_is_message}
use Rattle.route_core.proofs.replies.ReplyBuffer.refused.Goals as goal

pub returns : goal.returns
returns c =
    let is : c.deref.result.now ≡ refused_reply c.args.errno c.args.pid c.args.bytes.now = grind (arith, common_steps) in
    record { reply = is; message = refused_is_message c.args.errno c.args.pid c.args.bytes.now _ c.requires is }
