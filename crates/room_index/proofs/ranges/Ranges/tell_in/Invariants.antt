use Rattle.std.proofs.Common.{◌≡◌, ℕ, ◌<◌, ◌≤◌, slice_index}
use Rattle.mask_table.specs.RankSets.{HasRank}
use Rattle.room_index.specs.Ranges.{HasSameLast, TellsMore}
use Rattle.room_index.proofs.ranges.Ranges.tell_in.Given as goal

abbrev pub invariant-loop-range : goal.invariant-loop-range
invariant-loop-range g l = record {
  told : (n : ℕ) → l.from ≤ n → n < l.range → HasRank (slice_index l.self.ranks.items n) l.rank;
  more : TellsMore l.fn.self l.self;
  last : HasSameLast l.fn.self l.self;
  counter : l.visits.turn ≡ l.fn.visits.turn;
}
