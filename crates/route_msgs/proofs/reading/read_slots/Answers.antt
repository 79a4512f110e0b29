use Rattle.std.proofs.Common.{◌≡◌, ◌<◌, None, arith, ap, sym, ◌∙◌, not, length, length-set, get_or, is_some}
use Rattle.route_msgs.specs.Slots.{slot_at, slot_in, overruns_below, IsWithin}
use Rattle.route_msgs.proofs.Offsets.{next_there, next_not_there, rounded_most, still_room, put_each, put_any, slots_built}
use Rattle.route_msgs.proofs.reading.read_slots.Goals as goal
use Rattle.route_msgs.proofs.reading.read_slots.Goals.{then-is_some, else-is_some}

pub loop-bit-preserved : goal.loop-bit-preserved
loop-bit-preserved c =
    let m = c.args.message.now in
    let at = c.loop-bit.at in
    let bit = c.loop-bit.bit in
    let inv = c.loop-bit.invariant in
    let slot : c.in_ok-slot.slot ≡ slot_at m bit at = c.in_ok-slot.ensures.slot in
    let fits : bit < length c.loop-bit.slots = omega (arith, inv.eight) in
    record {
      here = elim c.if-is_some.branch [
        | then-is_some w ↦ next_there m bit at c.if-is_some.at w.round-at.result inv.here (ap (λ s. is_some s) (sym slot) ∙ sym c.is_some.ensures ∙ w.if-is_some.true) w.round-at.ensures w.at-is
        | else-is_some w ↦ next_not_there m bit at c.if-is_some.at inv.here (ap (λ s. is_some s) (sym slot) ∙ sym c.is_some.ensures ∙ w.if-is_some.false) w.at-is
      ];
      small = elim c.if-is_some.branch [
        | then-is_some w ↦ omega (arith, w.round-at.ensures, rounded_most (get_or m at 0) (omega (arith, c.type_inv.message at)), w.at-is, inv.small)
        | else-is_some w ↦ omega (arith, w.at-is, inv.small)
      ];
      found = put_each (λ k s. s ≡ slot_in m k) c.loop-bit.slots bit c.in_ok-slot.slot None fits inv.found (slot ∙ ap (slot_at m bit) inv.here);
      room = still_room m bit at inv.here inv.room c.in_ok-slot.ensures.fits;
      within = put_any (IsWithin (length m)) c.loop-bit.slots bit c.in_ok-slot.slot None fits inv.within (c.in_ok-slot.ensures.within inv.least);
      eight = length-set c.loop-bit.slots bit c.in_ok-slot.slot ∙ inv.eight;
      least = elim c.if-is_some.branch [ then-is_some w ↦ omega (arith, w.at-is, inv.least) | else-is_some w ↦ omega (arith, w.at-is, inv.least) ];
    }

pub returns-clause-slots : goal.returns-clause-slots
returns-clause-slots c =
    let m = c.args.message.now in
    let all : c.loop-bit.bit ≡ 8 = omega arith in
    (ap not (ap (overruns_below m) (sym all) ∙ c.loop-bit.invariant.room), slots_built m c.loop-bit.slots c.loop-bit.invariant.eight (λ k less. c.loop-bit.invariant.found k (omega arith)))
