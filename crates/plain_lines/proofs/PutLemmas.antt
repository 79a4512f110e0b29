-- What is appended of a line, step by step.
use Rattle.std.proofs.Common.{◌≡◌, ◌≢◌, ◌<◌, ◌≤◌, ◌∙◌, ◌+◌, ◌-◌, ℕ, suc, Bool, true, false, List, ◌∷◌, ◌++◌, length, take, drop, bytes_eq, refl, sym, ap, subst, arith, append_assoc}
use Rattle.std.specs.Prelude.{not}
use Rattle.std.specs.Bool.{MatchBool}
use Rattle.std.specs.List.{between}
use Rattle.std.proofs.Math.Seq.{drop-append_seam}
use Rattle.std.proofs.lemmas.Slice.{between_to_end}
use Rattle.std.proofs.lemmas.Slice.Eq.{bytes_eq-Decides}
use Rattle.event_file.specs.Words.{parted_by}
use Rattle.plain_lines.specs.Behind.{spaced, words_after}
use Rattle.plain_lines.specs.PlainLines.{plain_behind, plain_of, plain_options}
use Rattle.plain_lines.proofs.Cutting.{plain-first}

-- the words that are still kept, and the options behind them
abbrev pub from_word : ℕ → List (List ℕ) → List (List ℕ)
from_word i words = take (4 - i) words ++ plain_options (drop (4 - i) words)

-- one word more was kept
pub kept_more : (i : ℕ) (old new word : List ℕ) (all rest : List (List ℕ)) (whole : List ℕ) → i < 4 → all ≡ word ∷ rest
    → new ≡ old ++ 32 ∷ word → old ++ spaced (from_word i all) ≡ whole → new ++ spaced (from_word (i + 1) rest) ≡ whole
kept_more i old new word all rest whole within parts put so_far =
    let one : 4 - i ≡ suc (4 - (i + 1)) = omega arith in
    let first : spaced (from_word i (word ∷ rest)) ≡ 32 ∷ word ++ spaced (from_word (i + 1) rest) = rw one refl in
    ap (λ (text : List ℕ). text ++ spaced (from_word (i + 1) rest)) put
    ∙ append_assoc old (32 ∷ word) (spaced (from_word (i + 1) rest))
    ∙ ap (λ (behind : List ℕ). old ++ behind) (sym first)
    ∙ ap (λ (ws : List (List ℕ)). old ++ spaced (from_word i ws)) (sym parts)
    ∙ so_far

-- and none is left to keep
pub kept_all : (i : ℕ) (words : List (List ℕ)) → 4 ≤ i → from_word i words ≡ plain_options words
kept_all i words past = let none : 4 - i ≡ 0 = omega arith in rw none refl

by_test : (t : Bool) (a b : List ℕ) → bytes_eq a b ≡ t → MatchBool (not t) (a ≢ b) (a ≡ b)
by_test true a b e = (bytes_eq-Decides a b).0 e
by_test false a b e = λ same. let is = (bytes_eq-Decides a b).1 same in cc (is, e)

-- what was appended is compared
pub compared : (r : Bool) (from : ℕ) (old plain line bytes : List ℕ) → bytes ≡ old ++ plain → from ≡ length old
    → r ≡ not (bytes_eq (between from (length bytes) bytes) line) → MatchBool r (plain ≢ line) (plain ≡ line)
compared r from old plain line bytes whole begins is =
    let behind : between from (length bytes) bytes ≡ plain =
    between_to_end bytes from (length bytes) (omega arith)
    ∙ ap (λ (k : ℕ). drop k bytes) begins ∙ ap (drop (length old)) whole ∙ drop-append_seam old plain in
    let test : not (bytes_eq plain line) ≡ r = sym (is ∙ ap (λ (w : List ℕ). not (bytes_eq w line)) behind) in
    subst (λ (b : Bool). MatchBool b (plain ≢ line) (plain ≡ line)) test (by_test (bytes_eq plain line) plain line refl)

-- the verb and what stands behind it are the plain line
pub put_both : (old first all verb behind line : List ℕ) → parted_by 32 line ≡ verb ∷ words_after behind → first ≡ old ++ verb
    → all ≡ first ++ spaced (plain_behind verb (words_after behind)) → all ≡ old ++ plain_of line
put_both old first all verb behind line parts put whole =
    let plain = spaced (plain_behind verb (words_after behind)) in
    whole ∙ ap (λ (text : List ℕ). text ++ plain) put ∙ append_assoc old verb plain
    ∙ ap (λ (text : List ℕ). old ++ text) (sym (plain-first verb behind line parts))
