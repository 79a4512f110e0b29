use Rattle.std.proofs.Common.{◌≡◌, ◌∙◌, ap, false, rules}
use Rattle.std.specs.List.{find}
use Rattle.if_addrs.specs.Interfaces.{Interface}
use Rattle.if_addrs.specs.Searches.{has_other_end}
use Rattle.if_addrs.specs.Wanted.{is_wanted}
use Rattle.if_addrs.specs.declared.address.Wanted.TheVariants.{Far}
use Rattle.if_addrs.proofs.Gone.{same_found}
use Rattle.if_addrs.proofs.OneKind.{none_far}
use Rattle.if_addrs.proofs.interface.Interface.first.Goals as goal

pub returns-in-Far : goal.returns-in-Far
returns-in-Far c =
    let inside = c.self.inside in
    let other : has_other_end inside.kind ≡ false = search rules in
    rw c.in-Far.is
    (none_far inside.kind c.in-Far.field-0 inside.addresses.items other c.self.invariant.of ∙ ap (λ (i : Interface). find (is_wanted (Far c.in-Far.field-0)) i.addresses) c.self.view_is)

pub returns-in_default : goal.returns-in_default
returns-in_default c = c.first.ensures ∙ same_found c.args.wanted.now c.left.result.now c.args.self.now.addresses c.left.ensures
