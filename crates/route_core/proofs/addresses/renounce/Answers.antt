use Rattle.std.proofs.Common.{◌∙◌}
use Rattle.route_core.proofs.Announcing.{both_told, link_told}
use Rattle.route_core.proofs.addresses.renounce.Goals as goal

pub returns : goal.returns
returns c =
    let index = c.interface_of-index.ensures.number in
    let link = link_told _ c.args.interfaces.now _ c.link_text-link.ensures in
    both_told _ _ _ _ _ _ _
    (c.deref.ensures.0 ∙ (rw index at c.route_deleted.ensures.message))
    (c.deref-2.ensures.0 ∙ (rw (← link, index) at c.address_message-leave.ensures.message))
    c.deliver.ensures
    c.deliver-2.ensures
