use Rattle.std.proofs.Common.{◌≡◌, ◌<◌, ℕ, Bool, true, false, cond, List, [], ◌∷◌, ◌++◌, length, refl, sym, ap, subst, ◌∙◌, append_assoc, arith, inl, inr, ◌⊎◌}
use Rattle.std.proofs.lemmas.Bool.{eqb-true}
use Rattle.std.proofs.lemmas.List.Elements.{All-nil, All-cons, All-head, All-tail}
use Rattle.event_file.specs.Lines.{is_newline, has_newline, onto_first, lines_of, with_newlines, AreLines, EndedLinesAreRead, LastLineIsRead}
use Rattle.event_file.proofs.LineLemmas.{lines_of-line, lines_of-last, some_lines}
use Rattle.event_file.proofs.laws.lines_are_read.Goals as goal

abbrev IsLine : List ℕ → Type 0
IsLine line = has_newline line ≡ false

ended : EndedLinesAreRead
ended [] are = refl
ended (line ∷ lines) are =
    lines_of-line line (with_newlines lines) (All-head IsLine line lines are)
    ∙ ap (λ ls. line ∷ ls) (ended lines (All-tail IsLine line lines are))

last_read : LastLineIsRead
last_read [] [] are none some = absurd (some refl)
last_read [] (b ∷ bs) are none some = lines_of-last b bs none
last_read (line ∷ lines) last are none some =
    ap lines_of (append_assoc line (10 ∷ with_newlines lines) last)
    ∙ lines_of-line line (with_newlines lines ++ last) (All-head IsLine line lines are)
    ∙ ap (λ ls. line ∷ ls) (last_read lines last (All-tail IsLine line lines are) none some)

-- a byte other than a newline goes onto the first line
onto_first-lines : (b : ℕ) (lines : List (List ℕ)) → is_newline b ≡ false → AreLines lines → AreLines (onto_first b lines)
onto_first-lines b [] is are = All-cons IsLine (b ∷ []) [] (rw is refl) (All-nil IsLine)
onto_first-lines b (line ∷ lines) is are = All-cons IsLine (b ∷ line) lines (rw is (All-head IsLine line lines are)) (All-tail IsLine line lines are)

-- no line has a newline
are_lines : (script : List ℕ) → AreLines (lines_of script)
are_lines [] = All-nil IsLine
are_lines (b ∷ bs) = elim (is_newline b) as (λ t. is_newline b ≡ t → AreLines (cond t ([] ∷ lines_of bs) (onto_first b (lines_of bs)))) [
  | true ↦ λ _. All-cons IsLine [] (lines_of bs) refl (are_lines bs)
  | false ↦ λ is. onto_first-lines b (lines_of bs) is (are_lines bs)
] refl

-- the lines with their newlines are these bytes, or these with a newline at their end
abbrev AreLinesOf : List ℕ → List (List ℕ) → Type 0
AreLinesOf script lines = (with_newlines lines ≡ script) ⊎ (with_newlines lines ≡ script ++ 10 ∷ [])

more : (b : ℕ) (bs xs : List ℕ) → (xs ≡ bs) ⊎ (xs ≡ bs ++ 10 ∷ []) → (b ∷ xs ≡ b ∷ bs) ⊎ (b ∷ xs ≡ b ∷ (bs ++ 10 ∷ []))
more b bs xs (inl e) = inl (ap (λ l. b ∷ l) e)
more b bs xs (inr e) = inr (ap (λ l. b ∷ l) e)

one_more : (b : ℕ) (bs : List ℕ) (lines : List (List ℕ)) (t : Bool) → 0 < length lines → is_newline b ≡ t → AreLinesOf bs lines
    → AreLinesOf (b ∷ bs) (cond t ([] ∷ lines) (onto_first b lines))
one_more b bs [] t some is are = absurd (omega arith)
one_more b bs (line ∷ lines) true some is are =
    subst (λ n. AreLinesOf (n ∷ bs) ([] ∷ line ∷ lines)) (sym (eqb-true b 10 is)) (more 10 bs (with_newlines (line ∷ lines)) are)
one_more b bs (line ∷ lines) false some is are = more b bs (with_newlines (line ∷ lines)) are

lone : (b : ℕ) (t : Bool) → is_newline b ≡ t → AreLinesOf (b ∷ []) (cond t ([] ∷ []) (onto_first b []))
lone b true is = inl (ap (λ n. n ∷ []) (sym (eqb-true b 10 is)))
lone b false is = inr refl

again : (script : List ℕ) → AreLinesOf script (lines_of script)
again [] = inl refl
again (b ∷ []) = lone b (is_newline b) refl
again (b ∷ c ∷ bs) = one_more b (c ∷ bs) (lines_of (c ∷ bs)) (is_newline b) (some_lines c bs) refl (again (c ∷ bs))

pub returns-clause-ended : goal.returns-clause-ended
returns-clause-ended c = ended

pub returns-clause-last : goal.returns-clause-last
returns-clause-last c = last_read

pub returns-clause-script : goal.returns-clause-script
returns-clause-script c = λ script. (are_lines script, again script)
