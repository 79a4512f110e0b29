-- What the grammar says of a line in which one word is open.
use Rattle.std.proofs.Common.{◌≡◌, ◌≤◌, ◌<◌, ℕ, Bool, true, false, cond, List, [], ◌∷◌, ◌++◌, length, refl, sym, subst, arith, nat_lt, None}
use Rattle.std.specs.Prelude.{is_some}
use Rattle.std.specs.List.{join_with_byte}
use Rattle.std.proofs.lemmas.Bool.{ltb-true}
use Rattle.std.proofs.lemmas.List.{append-nil}
use Rattle.event_file.specs.Grammar.{command_of, said_by}
use Rattle.event_file.specs.Lines.{most_line_bytes}
use Rattle.event_file.specs.Words.{parted_by}
use Rattle.event_file.proofs.Joined.{AllLack, parted-joined}

-- what isn't right where it is too long
not_right : (right : Bool) (long : ℕ) → most_line_bytes < long → (right ≡ true → long ≤ most_line_bytes) → false ≡ right
not_right false long past fits = refl
not_right true long past fits = absurd (omega (arith, past, fits refl))

-- a line of these words, which is no longer than it may be where it is right
pub judged : (verb : List ℕ) (words : List (List ℕ)) (right : Bool) → AllLack 32 (verb ∷ words) → is_some (said_by (verb ∷ words)) ≡ right
    → (right ≡ true → length (join_with_byte 32 (verb ∷ words)) ≤ most_line_bytes) → is_some (command_of (join_with_byte 32 (verb ∷ words))) ≡ right
judged verb words right lack says fits =
    let line = join_with_byte 32 (verb ∷ words) in
    elim (nat_lt most_line_bytes (length line))
    as (λ (t : Bool). nat_lt most_line_bytes (length line) ≡ t → is_some (cond t None (said_by (parted_by 32 line))) ≡ right) [
      | true ↦ λ long. not_right right (length line) (ltb-true most_line_bytes (length line) long) fits
      | false ↦ λ _. rw (parted-joined 32 verb words lack) says
    ] refl

-- a word at the end of a line
pub at_end : (before word : List ℕ) (right : Bool) → is_some (command_of (before ++ word)) ≡ right → is_some (command_of (before ++ word ++ [])) ≡ right
at_end before word right h = subst (λ line. is_some (command_of line) ≡ right) (sym (append-nil (before ++ word))) h
