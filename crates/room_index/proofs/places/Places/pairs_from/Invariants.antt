use Rattle.std.proofs.Common.{◌≡◌, ℕ, ◌+◌, ◌<◌, Some, length, slice_get}
use Rattle.room_index.specs.Filed.{Filed}
use Rattle.room_index.specs.Places.{stands}
use Rattle.room_index.proofs.places.Places.pairs_from.Given as goal

abbrev pub invariant-loop-number : goal.invariant-loop-number
invariant-loop-number g l = record {
  long : length l.pairs ≡ 256;
  pairs : (n : ℕ) (e : Filed) → n < l.number → stands l.self (l.first + n) ≡ Some e → slice_get l.pairs n ≡ Some e.pair;
  turn : l.visits.turn ≡ l.fn.visits.turn;
}
