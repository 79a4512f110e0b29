use Rattle.std.proofs.Common.{sym, true≢false, ◌∙◌}
use Rattle.std.proofs.lemmas.Option.{none-some}
use Rattle.room_index.proofs.index.RoomIndex.new.Goals as goal

pub invariant_of-result : goal.invariant_of-result
invariant_of-result g c = record {
  table = c.none.ensures.table;
  none = λ up. absurd (true≢false (sym up));
  by_range = c.none-2.ensures.ranges;
  within = λ e has. absurd (c.none-2.ensures.none e has);
  told = λ e at. absurd (none-some e (sym (c.none.ensures.none at.0) ∙ at.1));
}
