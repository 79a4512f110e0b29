use Rattle.std.proofs.Common.{◌∙◌, ap, List}
use Rattle.if_addrs.specs.Interfaces.{Address, Interface}
use Rattle.if_addrs.specs.Searches.{standing}
use Rattle.if_addrs.proofs.Gone.{behind, standing_behind}
use Rattle.if_addrs.proofs.interface.Interface.left.Goals as goal

pub returns : goal.returns
returns c =
    ap (λ (xs : List Address). standing (behind c.self.inside.gone xs)) c.deref.ensures.value
    ∙ standing_behind c.self.inside.gone c.self.inside.addresses.items c.self.invariant.gone
    ∙ ap (λ (i : Interface). standing i.addresses) c.self.view_is
