use Rattle.std.proofs.Common.{◌∙◌, ap, List}
use Rattle.if_addrs.specs.Interfaces.{Address}
use Rattle.if_addrs.specs.Searches.{longest}
use Rattle.if_addrs.proofs.Gone.{same_filtered}
use Rattle.if_addrs.proofs.interface.Interface.longest.Goals as goal

pub returns : goal.returns
returns c = c.longest.ensures ∙ ap (λ (xs : List Address). longest xs) (same_filtered c.args.wanted.now c.left.result.now c.args.self.now.addresses c.left.ensures)
