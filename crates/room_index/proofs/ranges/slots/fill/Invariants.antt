use Rattle.std.proofs.Common.{◌≡◌, ◌≤◌, None, length, vec_capacity}
use Rattle.std.specs.List.{All}
use Rattle.room_index.proofs.ranges.slots.fill.Given as goal

abbrev pub invariant-loop-slot : goal.invariant-loop-slot
invariant-loop-slot g l = record {
  many : length l.last.items ≡ l._slot;
  none : All (λ slot. slot ≡ None) l.last.items;
  room : l.many ≤ vec_capacity l.last;
}
