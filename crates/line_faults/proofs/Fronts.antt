-- The words before a fault have none but that more is to come.
use Rattle.std.proofs.Common.{◌≡◌, ◌∙◌, ◌+◌, ℕ, Bool, true, false, cond, List, [], ◌∷◌, ◌++◌, length, drop, refl, sym, subst, ap, arith, codes, bytes_eq, nat_lt, Option, Some, None}
use Rattle.std.specs.Option.{IfSome}
use Rattle.event_file.specs.Lines.{most_line_bytes}
use Rattle.event_file.specs.Words.{parted_by}
use Rattle.line_faults.specs.Faults.{fault, fault_among, fault_behind, fault_behind_to, fault_by_verb, fault_in, fault_of_address_options, fault_of_cloning, fault_of_more, fault_of_option, fault_of_options, fault_of_verb, fault_of_words, first_of, what_may_come}
use Rattle.line_faults.specs.Kinds.{is_of}
use Rattle.line_faults.specs.Options.{all_options, option_kind, option_text}
use Rattle.line_faults.specs.Verbs.{verb_of, words_of}
use Rattle.line_faults.specs.declared.faults.LineFault.{LineFault}
use Rattle.line_faults.specs.declared.kinds.WordKind.{WordKind}
use Rattle.line_faults.specs.declared.kinds.WordKind.TheVariants.{Address}
use Rattle.line_faults.specs.declared.options.RouteOption.{RouteOption}
use Rattle.line_faults.specs.declared.options.RouteOption.TheVariants.{Via}
use Rattle.line_faults.specs.declared.verbs.Verb.{Verb as VerbWord}
use Rattle.line_faults.specs.declared.verbs.Verb.TheVariants as verb
use Rattle.line_faults.specs.declared.wanted.Wanted.{Wanted}
use Rattle.line_faults.specs.declared.wanted.Wanted.TheVariants.{Verb, Word, Cloning, NothingMore, Options, ShorterLine, ToOrCloning}

-- a fault of these words, the first of which has this place, is behind the last
abbrev AtEnd : ℕ → List (List ℕ) → Option LineFault → Type 0
AtEnd start front o = IfSome o (λ g. g.place ≡ start + length front)

-- a fault at the first of several words is not behind all
not_first : (P : Type 0) (start : ℕ) (wanted : Wanted) (word : List ℕ) (front : List (List ℕ)) (f : LineFault)
    → f.place ≡ start + length (word ∷ front) → Some (fault start wanted) ≡ Some f → P
not_first P start wanted word front f place same =
    let is : fault start wanted ≡ f = cc same in
    let first : start ≡ f.place = ap (λ (g : LineFault). g.place) is in
    absurd (omega (arith, place, first))

later : (start : ℕ) (word : List ℕ) (front : List (List ℕ)) (o : Option LineFault) → AtEnd (start + 1) front o → AtEnd start (word ∷ front) o
later start word front None at = tt
later start word front (Some g) at = omega (arith, at)

-- among these kinds, or behind them as this says
then_front : (kinds : List WordKind) (place : ℕ) (front rest : List (List ℕ)) (behind : List (List ℕ) → Option LineFault) (f : LineFault)
    → ((left : List (List ℕ)) → behind (left ++ rest) ≡ Some f → f.place ≡ place + length kinds + length left → AtEnd (place + length kinds) left (behind left))
    → first_of (fault_among place kinds (front ++ rest)) (behind (drop (length kinds) (front ++ rest))) ≡ Some f → f.place ≡ place + length front
    → AtEnd place front (first_of (fault_among place kinds front) (behind (drop (length kinds) front)))
then_front [] place front rest behind f says h at =
    subst (λ k. AtEnd k front (behind front)) (omega arith) (says front h (omega (arith, at)))
then_front (kind ∷ kinds) place [] rest behind f says h at = omega arith
then_front (kind ∷ kinds) place (word ∷ front) rest behind f says h at =
    elim (is_of kind word)
    as (λ (t : Bool). first_of (cond t (fault_among (place + 1) kinds (front ++ rest)) (Some (fault place (Word kind)))) (behind (drop (length kinds) (front ++ rest))) ≡ Some f
    → AtEnd place (word ∷ front) (first_of (cond t (fault_among (place + 1) kinds front) (Some (fault place (Word kind)))) (behind (drop (length kinds) front)))) [
      | true ↦ λ more. later place word front (first_of (fault_among (place + 1) kinds front) (behind (drop (length kinds) front)))
          (then_front kinds (place + 1) front rest behind f
          (λ left said there. subst (λ k. AtEnd k left (behind left)) (omega arith) (says left said (omega (arith, there)))) more (omega (arith, at)))
      | false ↦ λ same. not_first _ place (Word kind) word front f at same
    ] h

more_front : (place : ℕ) (front rest : List (List ℕ)) (f : LineFault) → fault_of_more place (front ++ rest) ≡ Some f → f.place ≡ place + length front → AtEnd place front (fault_of_more place front)
more_front place [] rest f h at = tt
more_front place (word ∷ front) rest f h at = not_first _ place NothingMore word front f at h

cloning_front : (wanted : Wanted) (place : ℕ) (front rest : List (List ℕ)) (f : LineFault)
    → fault_of_cloning wanted place (front ++ rest) ≡ Some f → f.place ≡ place + length front → AtEnd place front (fault_of_cloning wanted place front)
cloning_front wanted place [] rest f h at = tt
cloning_front wanted place (word ∷ front) rest f h at =
    elim (bytes_eq word (codes "cloning"))
    as (λ (t : Bool). cond t (fault_of_more (place + 1) (front ++ rest)) (Some (fault place wanted)) ≡ Some f → AtEnd place (word ∷ front) (cond t (fault_of_more (place + 1) front) (Some (fault place wanted)))) [
      | true ↦ λ more. later place word front (fault_of_more (place + 1) front) (more_front (place + 1) front rest f more (omega (arith, at)))
      | false ↦ λ same. not_first _ place wanted word front f at same
    ] h

to_front : (place : ℕ) (front rest : List (List ℕ)) (f : LineFault) → fault_behind_to place (front ++ rest) ≡ Some f → f.place ≡ place + length front → AtEnd place front (fault_behind_to place front)
to_front place front rest f h at =
    then_front (Address ∷ []) place front rest (fault_of_cloning Cloning (place + 1)) f (λ left said there. cloning_front Cloning (place + 1) left rest f said there) h at

address_front : (place : ℕ) (front rest : List (List ℕ)) (f : LineFault)
    → fault_of_address_options place (front ++ rest) ≡ Some f → f.place ≡ place + length front → AtEnd place front (fault_of_address_options place front)
address_front place [] rest f h at = tt
address_front place (word ∷ front) rest f h at =
    elim (bytes_eq word (codes "to"))
    as (λ (t : Bool). cond t (fault_behind_to (place + 1) (front ++ rest)) (fault_of_cloning ToOrCloning place (word ∷ (front ++ rest))) ≡ Some f
    → AtEnd place (word ∷ front) (cond t (fault_behind_to (place + 1) front) (fault_of_cloning ToOrCloning place (word ∷ front)))) [
      | true ↦ λ more. later place word front (fault_behind_to (place + 1) front) (to_front (place + 1) front rest f more (omega (arith, at)))
      | false ↦ λ more. cloning_front ToOrCloning place (word ∷ front) rest f more at
    ] h

options_front : (wanted : Wanted) (place : ℕ) (options : List RouteOption) (front rest : List (List ℕ)) (f : LineFault)
    → fault_of_options wanted place options (front ++ rest) ≡ Some f → f.place ≡ place + length front → AtEnd place front (fault_of_options wanted place options front)
options_front wanted place options [] rest f h at = tt
options_front wanted place [] (word ∷ front) rest f h at = not_first _ place wanted word front f at h
options_front wanted place (o ∷ options) (word ∷ front) rest f h at =
    elim (bytes_eq word (option_text o))
    as (λ (t : Bool). cond t (first_of (fault_of_option o (place + 1) (front ++ rest)) (fault_of_options (what_may_come options) (place + 2) options (drop 1 (front ++ rest)))) (fault_of_options wanted place options (word ∷ (front ++ rest))) ≡ Some f
    → AtEnd place (word ∷ front) (cond t (first_of (fault_of_option o (place + 1) front) (fault_of_options (what_may_come options) (place + 2) options (drop 1 front))) (fault_of_options wanted place options (word ∷ front)))) [
      | true ↦ λ more. later place word front (first_of (fault_of_option o (place + 1) front) (fault_of_options (what_may_come options) (place + 2) options (drop 1 front)))
          (then_front (option_kind o ∷ []) (place + 1) front rest (fault_of_options (what_may_come options) (place + 2) options) f
          (λ left said there. subst (λ k. AtEnd k left (fault_of_options (what_may_come options) (place + 2) options left)) (omega arith)
          (options_front (what_may_come options) (place + 2) options left rest f said (omega (arith, there)))) more (omega (arith, at)))
      | false ↦ λ more. options_front wanted place options (word ∷ front) rest f more at
    ] h

behind_front : (verb : VerbWord) (place : ℕ) (front rest : List (List ℕ)) (f : LineFault)
    → fault_behind verb place (front ++ rest) ≡ Some f → f.place ≡ place + length front → AtEnd place front (fault_behind verb place front)
behind_front verb.Addr place front rest f h at = address_front place front rest f h at
behind_front verb.Route place front rest f h at = options_front (Options Via) place all_options front rest f h at
behind_front verb place front rest f h at = more_front place front rest f h at

words_front : (front rest : List (List ℕ)) (f : LineFault) → fault_of_words (front ++ rest) ≡ Some f → f.place ≡ length front → AtEnd 0 front (fault_of_words front)
words_front [] rest f h at = refl
words_front (word ∷ front) rest f h at =
    elim (verb_of word) as (λ o. fault_by_verb o (front ++ rest) ≡ Some f → AtEnd 0 (word ∷ front) (fault_by_verb o front)) [
      | None ↦ λ same. not_first _ 0 Verb word front f (omega (arith, at)) same
      | Some v ↦ λ more. later 0 word front (fault_of_verb v front)
          (then_front (words_of v) 1 front rest (fault_behind v (1 + length (words_of v))) f (λ left said there. behind_front v (1 + length (words_of v)) left rest f said there) more (omega (arith, at)))
    ] h

-- a fault behind no word
none_before : (front : List (List ℕ)) → length front ≡ 0 → AtEnd 0 front (fault_of_words front)
none_before [] none = refl
none_before (word ∷ front) none = absurd (omega (arith, none))

-- counted from the line's first word
from_first : (front : List (List ℕ)) (o : Option LineFault) → AtEnd 0 front o → IfSome o (λ g. g.place ≡ length front)
from_first front None at = tt
from_first front (Some g) at = omega (arith, at)

pub words_before : (line : List ℕ) (f : LineFault) → fault_in line ≡ Some f → (front rest : List (List ℕ)) → parted_by 32 line ≡ front ++ rest → length front ≡ f.place
    → IfSome (fault_of_words front) (λ g. g.place ≡ length front)
words_before line f h front rest parts place =
    from_first front (fault_of_words front) (elim (nat_lt most_line_bytes (length line)) as (λ (t : Bool). cond t (Some (fault 0 ShorterLine)) (fault_of_words (parted_by 32 line)) ≡ Some f → AtEnd 0 front (fault_of_words front)) [
      | true ↦ λ same.
          let is : fault 0 ShorterLine ≡ f = cc same in
          none_before front (place ∙ sym (ap (λ (g : LineFault). g.place) is))
      | false ↦ λ more. words_front front rest f (subst (λ ws. fault_of_words ws ≡ Some f) parts more) (sym place)
    ] h)
