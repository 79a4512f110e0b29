use Rattle.std.proofs.Common.{◌∙◌}
use Rattle.if_addrs.proofs.Gone.{same_held}
use Rattle.if_addrs.proofs.interface.Interface.holds.Goals as goal

pub returns : goal.returns
returns c = c.holds.ensures ∙ same_held c.args.address c.left.result.now c.args.self.now.addresses c.left.ensures
