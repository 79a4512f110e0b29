use Rattle.std.proofs.Common.{◌≡◌, ℕ, ◌+◌, ◌*◌, ◌/◌, ◌%◌, ◌^◌, ◌<◌, ◌≤◌, Some, length, slice_get}
use Rattle.std.specs.Prelude.{vec_capacity}
use Rattle.room_index.specs.Filed.{Filed}
use Rattle.room_index.specs.Places.{stands, AreFiled, HaveSame, IsCounted, IsIn}
use Rattle.room_index.specs.Ranges.{Has, IsByRange, IsTold}
use Rattle.room_index.specs.Sizes.{Parts}
use Rattle.room_index.proofs.places.Places.double.Given as goal

abbrev pub invariant-loop-place : goal.invariant-loop-place
invariant-loop-place g l = record {
  bits : l.self.bits ≡ l.fn.self.bits;
  tags : length l.self.tags.items ≡ 2 * l.many;
  entries : length l.self.entries.items ≡ 2 * l.many;
  filed : AreFiled l.self (Parts l.fn.self.bits l.many l.place);
  same : HaveSame l.fn.self l.self;
  pairs : (n : ℕ) (e : Filed) → l.place % 256 ≤ n → n < 256 → (l.place % 256 ≡ 0 → ⊥) → 256 * (l.place / 256) + n < l.many
      → stands l.self (256 * (l.place / 256) + n) ≡ Some e → slice_get l.pairs n ≡ Some e.pair;
  left : (n : ℕ) → l.place ≤ n → n < l.many → stands l.self n ≡ stands l.fn.self n;
  used : IsCounted l.self;
  ranges : IsByRange l.ranges;
  within : (e : Filed) → Has l.ranges e → IsIn l.fn.self e;
  told : (n : ℕ) (e : Filed) → n < l.place → stands l.fn.self n ≡ Some e → IsTold l.ranges e.pair;
  ranged : 2 ^ (l.fn.self.bits + 1) / 2 ≤ vec_capacity l.fn.ranges.last → 2 ^ (l.fn.self.bits + 1) ≤ vec_capacity l.fn.ranges.ranks
      → length l.ranges.ranks.items ≡ 2 ^ (l.fn.self.bits + 1);
  counter : l.visits.turn ≡ l.fn.visits.turn;
}
