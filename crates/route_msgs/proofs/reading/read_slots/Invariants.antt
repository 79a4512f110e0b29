use Rattle.std.proofs.Common.{◌≡◌, ℕ, ◌+◌, ◌*◌, ◌<◌, ◌≤◌, length, get_or, false, None}
use Rattle.route_msgs.specs.Slots.{offset_of, slot_in, overruns_below, SlotsAreWithin}
use Rattle.route_msgs.proofs.reading.read_slots.Given as goal

abbrev pub invariant-loop-bit : goal.invariant-loop-bit
invariant-loop-bit l = record {
  here : l.at ≡ offset_of l.message l.bit;
  least : 76 ≤ l.at;
  small : l.at ≤ 76 + 256 * l.bit;
  eight : length l.slots ≡ 8;
  found : (k : ℕ) → k < l.bit → get_or l.slots k None ≡ slot_in l.message k;
  room : overruns_below l.message l.bit ≡ false;
  within : SlotsAreWithin (length l.message) l.slots;
}
