use Rattle.std.proofs.Common.{◌≡◌, ◌+◌, ◌*◌, ◌≤◌, length, true}
use Rattle.route_layouts.specs.Walk.{addrs_before, bytes_before, fit_before, has_room_before, offset_before}
use Rattle.route_layouts.proofs.addresses.convert_addresses.Given as goal

abbrev pub invariant-loop-bit : goal.invariant-loop-bit
invariant-loop-bit l = record {
  here : l.at ≡ offset_before l.change l.message l.named l.start l.bit;
  small : l.at ≤ l.start + 263 * l.bit;
  found : l.bytes.items ≡ bytes_before l.change l.message l.named l.start l.bit;
  size : length l.bytes.items ≤ 263 * l.bit;
  bits : l.bits ≡ addrs_before l.change l.message l.named l.start l.bit;
  few : l.bits ≤ 128 * l.bit;
  fit : l.fit ≡ fit_before l.change l.message l.named l.start l.bit;
  room : has_room_before l.change l.message l.named l.start l.bit ≡ true;
}
