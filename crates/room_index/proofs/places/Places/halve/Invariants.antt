use Rattle.std.proofs.Common.{◌≡◌, ◌+◌, ◌*◌, length}
use Rattle.room_index.specs.Places.{AreFiled, HaveSame, IsCounted}
use Rattle.room_index.specs.Sizes.{Folds}
use Rattle.room_index.proofs.places.Places.halve.Given as goal

abbrev pub invariant-loop-place : goal.invariant-loop-place
invariant-loop-place g l = record {
  bits : l.self.bits + 1 ≡ l.fn.self.bits;
  tags : length l.self.tags.items ≡ 2 * l.half;
  entries : length l.self.entries.items ≡ 2 * l.half;
  filed : AreFiled l.self (Folds l.self.bits l.half l.place);
  same : HaveSame l.fn.self l.self;
  used : IsCounted l.self;
  counter : l.visits.turn ≡ l.fn.visits.turn;
}
