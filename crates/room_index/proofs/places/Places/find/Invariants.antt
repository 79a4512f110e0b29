use Rattle.std.proofs.Common.{◌≡◌, ℕ, ◌+◌, ◌*◌, ◌<◌, ◌≤◌, Some}
use Rattle.room_index.specs.Homes.{place_of}
use Rattle.room_index.specs.Looks.{Reads}
use Rattle.room_index.specs.Places.{stands}
use Rattle.room_index.specs.Filed.{Filed}
use Rattle.room_index.proofs.places.Places.find.Given as goal

abbrev pub invariant-loop-number : goal.invariant-loop-number
invariant-loop-number g l = record {
  reads : Reads l.fn.visits l.visits (16 + l.number + l.number * g.R.Rooms.looks);
  counted : l.fn.visits.count + 16 ≤ l.visits.count;
  none : (k : ℕ) (e : Filed) → k < l.number → stands l.self (place_of l.homes k) ≡ Some e → e.pair ≡ l.pair → ⊥;
}
