use Rattle.std.proofs.Common.{◌≡◌, ℕ, ◌+◌, ◌-◌, ◌^◌, ◌≤◌, ◌++◌, ◌&&◌, Bool, List, length, take, drop, slice_index, true, refl, arith, ap, sym, ◌∙◌}
use Rattle.std.proofs.Math.Pow.{pow_mono}
use Rattle.route_layouts.specs.Addresses.{address_as, fits}
use Rattle.route_layouts.specs.Walk.{addrs_before, bytes_by, fit_before, has_room_before, is_there_at, offset_before, overruns_at, slot_at}
use Rattle.route_layouts.proofs.Walked.{absent_addrs, absent_bytes, absent_fit, absent_offset, absent_over, lost_by, none_over, over_of, room_lost, still_room, there_addrs, there_bytes, there_fit, there_offset}
use Rattle.route_layouts.proofs.addresses.convert_addresses.Goals as goal
use Rattle.route_layouts.proofs.addresses.convert_addresses.Goals.{then-is_there+else-at-length, else-is_there}

pub loop-bit-init : goal.loop-bit-init
unfolding offset_before bytes_by addrs_before has_room_before fit_before
loop-bit-init c = record { here = refl; small = omega arith; found = c.requires.empty; size = omega (arith, ap length c.requires.empty); bits = refl; few = omega arith; fit = refl; room = refl }

pub returns-then-at-length-clause-overrun : goal.returns-then-at-length-clause-overrun
returns-then-at-length-clause-overrun c =
    let ch = c.args.change.now in
    let m = c.args.message.now in
    let bit = c.loop-bit.bit in
    let at = c.loop-bit.at in
    let here = c.loop-bit.invariant.here in
    let over : overruns_at m c.args.named bit at ≡ true =
    over_of (is_there_at m c.args.named bit at) (length m) (at + slice_index m at) (sym c.is_there.ensures ∙ c.if-is_there.true) (omega (arith, c.if-at-length.true, c.from-length.ensures)) in
    let all : bit + 1 + (7 - bit) ≡ 8 = omega (arith, c.loop-bit-test.true) in
    let lost = lost_by ch m c.args.named c.args.start (bit + 1) (7 - bit) (room_lost ch m c.args.named c.args.start bit at here over) in
    (refl, ap (has_room_before ch m c.args.named c.args.start) (sym all) ∙ lost)

pub loop-bit-preserved : goal.loop-bit-preserved
loop-bit-preserved c =
    let ch = c.args.change.now in
    let m = c.args.message.now in
    let named = c.args.named in
    let start = c.args.start in
    let bit = c.loop-bit.bit in
    let at = c.loop-bit.at in
    let inv = c.loop-bit.invariant in
    record {
      here = elim c.if-is_there.branch [
        | then-is_there+else-at-length w ↦ there_offset ch m named start bit at inv.here c.if-is_there.at (sym c.is_there.ensures ∙ w.if-is_there.true) (w.at-is ∙ ap (λ (n : ℕ). at + n) w.rounded-at.ensures.value)
        | else-is_there w ↦ w.at-is ∙ absent_offset ch m named start bit at inv.here (sym c.is_there.ensures ∙ w.if-is_there.false)
      ];
      small = elim c.if-is_there.branch [
        | then-is_there+else-at-length w ↦ omega (arith, w.at-is, w.rounded-at.ensures.most, inv.small)
        | else-is_there w ↦ omega (arith, w.at-is, inv.small)
      ];
      found = elim c.if-is_there.branch [
        | then-is_there+else-at-length w ↦
            let cut : take (at + w.max.result - at) (drop at m) ≡ slot_at m at = ap (λ (n : ℕ). take n (drop at m)) (omega (arith, w.max.ensures, w.from-length.ensures)) in
            let written = w.put_address.ensures.bytes ∙ ap (λ (xs : List ℕ). c.loop-bit.bytes.items ++ address_as ch bit xs) cut in
            there_bytes ch m named start bit at inv.here c.loop-bit.bytes.items c.if-is_there.bytes.items inv.found (sym c.is_there.ensures ∙ w.if-is_there.true) (rw w.bytes-is written)
        | else-is_there w ↦ rw w.bytes-is (absent_bytes ch m named start bit at inv.here c.loop-bit.bytes.items inv.found (sym c.is_there.ensures ∙ w.if-is_there.false))
      ];
      size = elim c.if-is_there.branch [
        | then-is_there+else-at-length w ↦ rw w.bytes-is (omega (arith, w.put_address.ensures.size, inv.size))
        | else-is_there w ↦ rw w.bytes-is (omega (arith, inv.size))
      ];
      bits = elim c.if-is_there.branch [
        | then-is_there+else-at-length w ↦ there_addrs ch m named start bit at inv.here c.loop-bit.bits c.if-is_there.bits inv.bits (sym c.is_there.ensures ∙ w.if-is_there.true) (let small : 2 ^ bit ≤ 2 ^ 7 = pow_mono {i = bit} {j = 7} (omega (arith, c.loop-bit-test.true)) in omega (arith, w.bits-is, small))
        | else-is_there w ↦ w.bits-is ∙ absent_addrs ch m named start bit at inv.here c.loop-bit.bits inv.bits (sym c.is_there.ensures ∙ w.if-is_there.false)
      ];
      few = elim c.if-is_there.branch [
        | then-is_there+else-at-length w ↦ let small : 2 ^ bit ≤ 2 ^ 7 = pow_mono {i = bit} {j = 7} (omega (arith, c.loop-bit-test.true)) in omega (arith, w.bits-is, inv.few, small)
        | else-is_there w ↦ omega (arith, w.bits-is, inv.few)
      ];
      fit = elim c.if-is_there.branch [
        | then-is_there+else-at-length w ↦
            let cut : take (at + w.max.result - at) (drop at m) ≡ slot_at m at = ap (λ (n : ℕ). take n (drop at m)) (omega (arith, w.max.ensures, w.from-length.ensures)) in
            there_fit ch m named start bit at inv.here c.loop-bit.fit c.if-is_there.fit inv.fit (sym c.is_there.ensures ∙ w.if-is_there.true) (w.fit-is ∙ ap (λ (b : Bool). c.loop-bit.fit && b) w.fits-fit.ensures ∙ ap (λ (xs : List ℕ). c.loop-bit.fit && fits ch bit xs) cut)
        | else-is_there w ↦ w.fit-is ∙ absent_fit ch m named start bit at inv.here c.loop-bit.fit inv.fit (sym c.is_there.ensures ∙ w.if-is_there.false)
      ];
      room = elim c.if-is_there.branch [
        | then-is_there+else-at-length w ↦ still_room ch m named start bit at inv.here inv.room (none_over (is_there_at m named bit at) (length m) (at + slice_index m at) (omega (arith, w.if-at-length.false, w.from-length.ensures)))
        | else-is_there w ↦ still_room ch m named start bit at inv.here inv.room (absent_over (is_there_at m named bit at) (length m) (at + slice_index m at) (sym c.is_there.ensures ∙ w.if-is_there.false))
      ];
    }
