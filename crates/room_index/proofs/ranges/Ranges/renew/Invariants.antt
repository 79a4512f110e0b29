use Rattle.std.proofs.Common.{◌≡◌, ℕ, ◌<◌, Some, length}
use Rattle.room_index.specs.Places.{stands, IsIn}
use Rattle.room_index.specs.Ranges.{Has, IsByRange, IsTold}
use Rattle.room_index.specs.Filed.{Filed}
use Rattle.room_index.proofs.ranges.Ranges.renew.Given as goal

abbrev pub invariant-loop-place : goal.invariant-loop-place
invariant-loop-place g l = record {
  ranges : IsByRange l.self;
  within : (e : Filed) → Has l.self e → IsIn l.places e;
  told : (n : ℕ) (e : Filed) → n < l.place → stands l.places n ≡ Some e → IsTold l.self e.pair;
  many : length l.self.ranks.items ≡ l.many;
  counter : l.visits.turn ≡ l.fn.visits.turn;
}
