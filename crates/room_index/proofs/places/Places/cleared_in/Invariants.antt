use Rattle.std.proofs.Common.{◌≡◌}
use Rattle.room_index.specs.Places.{HasSamePlaces, HaveSame, IsTable}
use Rattle.room_index.proofs.places.Places.cleared_in.Given as goal

abbrev pub invariant-loop-place : goal.invariant-loop-place
invariant-loop-place g l = record {
  table : IsTable l.self;
  same : HaveSame l.fn.self l.self;
  places : HasSamePlaces l.fn.self l.self;
  counter : l.visits.turn ≡ l.fn.visits.turn;
}
