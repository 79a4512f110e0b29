use Rattle.std.proofs.Common.{◌≡◌, ◌≤◌, true, false, cond, length, sym, subst, refl, nat_lt, Some, None}
use Rattle.std.proofs.lemmas.Bool.{ltb-false}
use Rattle.std.proofs.lemmas.List.Splits.{join_with_byte-slice_split}
use Rattle.event_file.specs.Grammar.{said_by}
use Rattle.event_file.specs.Lines.{most_line_bytes}
use Rattle.event_file.specs.Printed.{IsWithinBounds, ReadIsWithinBounds}
use Rattle.event_file.specs.Words.{parted_by}
use Rattle.event_file.proofs.ReadForms.{said_by-says}
use Rattle.event_file.proofs.laws.read_is_within_bounds.Goals as goal

said : ReadIsWithinBounds
said line command =
    let words = parted_by 32 line in
    elim (nat_lt most_line_bytes (length line)) as (λ t. nat_lt most_line_bytes (length line) ≡ t → cond t None (said_by words) ≡ Some command → IsWithinBounds command) [
      | true ↦ λ _ h. cc h
      | false ↦ λ short h.
          said_by-says words command (subst (λ l. length l ≤ most_line_bytes) (sym (join_with_byte-slice_split 32 line)) (ltb-false most_line_bytes (length line) short)) h
    ] refl

pub returns : goal.returns
returns c = said
