use Rattle.std.proofs.Common.{◌≡◌, ◌<◌, ◌∙◌, ap, arith, length, List, slice_set}
use Rattle.if_addrs.specs.Interfaces.{Address, Interface}
use Rattle.if_addrs.specs.Wanted.{marked, marked_at, with_marked}
use Rattle.if_addrs.proofs.Gone.{still_marked}
use Rattle.if_addrs.proofs.OneKind.{still_of_marked}
use Rattle.if_addrs.proofs.Marking.{marked_set}
use Rattle.if_addrs.proofs.interface.Interface.mark.Goals as goal
use Rattle.if_addrs.proofs.interface.Interface.mark.Goals.{After-mark}

-- its addresses are marked in place
is_marked : (c : After-mark) → slice_set c.self.inside.addresses.items c.args.place c.mark.new.self ≡ marked_at c.args.place c.args.mark c.self.inside.addresses.items
is_marked c =
    let items = c.self.inside.addresses.items in
    let within : c.args.place < length items = omega (arith, c.requires, ap (λ (i : Interface). length i.addresses) c.self.view_is) in
    marked_set c.args.place c.args.mark items c.mark.new.self c.index_mut.result.now within (c.mark.ensures ∙ ap (λ (a : Address). marked c.args.mark a) c.index_mut.ensures.value)

pub invariant_of-self : goal.invariant_of-self
invariant_of-self c =
    let at = (goal.at.invariant_of-self c).After-mark in
    let xs = c.self.inside.addresses.items in
    record {
      gone = still_marked c.self.inside.gone c.args.place c.args.mark xs _ c.self.invariant.gone (is_marked at);
      of = rw (is_marked at) (still_of_marked c.self.inside.kind c.args.place c.args.mark xs c.self.invariant.of);
    }

pub returns : goal.returns
returns c =
    let at = (goal.at.returns c).After-mark in
    let was : Interface = record { name = c.self.inside.name; kind = c.self.inside.kind; type_number = c.self.inside.type_number; link = c.self.inside.link; addresses = c.self.inside.addresses.items } in
    c.pass.ensures
    ∙ ap (λ (xs : List Address). record was { addresses = xs }) (is_marked at)
    ∙ ap (λ (i : Interface). with_marked c.args.place c.args.mark i) c.self.view_is
