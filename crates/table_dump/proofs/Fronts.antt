-- The longest front of a list of messages that fits.
use Rattle.std.proofs.Common.{◌≡◌, ℕ, ◌+◌, ◌-◌, ◌<◌, ◌≤◌, Bool, true, false, cond, nat_le, nat_lt, List, [], ◌∷◌, ◌++◌, length, Some, None, refl, ap, ◌∙◌, arith}
use Rattle.std.proofs.lemmas.Bool.Decides.{nat_tests}
use Rattle.std.proofs.lemmas.Bool.{leb-true}
use Rattle.std.proofs.lemmas.List.Sums.{sum_by-cons}
use Rattle.table_dump.specs.Dumps.{dump_fault, fitting, size_of, total_of}
use Rattle.table_dump.specs.DumpLaws.{AllAreGiven, GivenFits, GivenIsFront, IsFront, NextDoesNotFit, UnrefusedAreAll}

pub le_true : (m n : ℕ) → m ≤ n → nat_le m n ≡ true
le_true m n h = grind (arith, nat_tests)

pub le_false : (m n : ℕ) → n < m → nat_le m n ≡ false
le_false m n h = grind (arith, nat_tests)

-- a message that fits is given, and those behind it into what is left
pub given_first : (room : ℕ) (m : List ℕ) (ms : List (List ℕ)) → length m ≤ room → fitting room (m ∷ ms) ≡ m ∷ fitting (room - length m) ms
given_first room m ms h = rw (le_true (length m) room h) refl

-- one that doesn't fit ends the dump
pub none_given : (room : ℕ) (m : List ℕ) (ms : List (List ℕ)) → room < length m → fitting room (m ∷ ms) ≡ []
none_given room m ms h = rw (le_false (length m) room h) refl

pub given_is_front : GivenIsFront
given_is_front room [] = record { rest = []; whole = refl }
given_is_front room (m ∷ ms) =
    elim (nat_le (length m) room) as (λ b. IsFront (cond b (m ∷ fitting (room - length m) ms) []) (m ∷ ms)) [
      | true ↦ (let behind = given_is_front (room - length m) ms in record { rest = behind.rest; whole = ap (λ (t : List (List ℕ)). m ∷ t) behind.whole })
      | false ↦ record { rest = m ∷ ms; whole = refl }
    ]

pub given_fits : GivenFits
given_fits room [] = omega arith
given_fits room (m ∷ ms) =
    let given = fitting (room - length m) ms in
    elim (nat_le (length m) room) as (λ b. nat_le (length m) room ≡ b → size_of (cond b (m ∷ given) []) ≤ room) [
      | true ↦ λ k. omega (arith, leb-true (length m) room k, given_fits (room - length m) ms, sum_by-cons length m given)
      | false ↦ λ k. omega arith
    ] refl

tail_is : {X : Type 0} (x y : X) (xs ys : List X) → x ∷ xs ≡ y ∷ ys → (x ≡ y) × (xs ≡ ys)
tail_is x y xs ys h = (cc, cc)

no_next : {X : Type 0} (next : X) (rest : List X) → [] ≡ next ∷ rest → ⊥
no_next next rest h = cc

pub next_does_not_fit : NextDoesNotFit
next_does_not_fit room [] rest next h = absurd (no_next next rest h)
next_does_not_fit room (m ∷ ms) rest next h =
    let given = fitting (room - length m) ms in
    elim (nat_le (length m) room) as (λ b. nat_le (length m) room ≡ b → m ∷ ms ≡ cond b (m ∷ given) [] ++ next ∷ rest → room < size_of (cond b (m ∷ given) []) + length next) [
      | true ↦ λ k is. omega (arith, leb-true (length m) room k, sum_by-cons length m given, next_does_not_fit (room - length m) ms rest next (tail_is m m ms (given ++ next ∷ rest) is).1)
      | false ↦ λ k is. (let same = ap (λ (x : List ℕ). length x) (tail_is m next ms rest is).0 in grind (arith, nat_tests))
    ] refl h

all_fit : (room : ℕ) (all : List (List ℕ)) → size_of all ≤ room → fitting room all ≡ all
all_fit room [] h = refl
all_fit room (m ∷ ms) h =
    given_first room m ms (omega (arith, h, sum_by-cons length m ms)) ∙ ap (λ (t : List (List ℕ)). m ∷ t) (all_fit (room - length m) ms (omega (arith, h, sum_by-cons length m ms)))

lt_false : (room total : ℕ) → total ≤ room → nat_lt room total ≡ false
lt_false room total h = grind (arith, nat_tests)

-- nothing is refused where all messages fit
pub all_given : (room : ℕ) (all : List (List ℕ)) → size_of all ≤ room → dump_fault room all ≡ None
all_given room all h = rw (lt_false room (total_of all) (omega arith)) refl

pub all_are_given : AllAreGiven
all_are_given room all h = (all_fit room all h, all_given room all h)

fault_is : (b : Bool) {X : Type 0} (x : X) → cond b (Some x) None ≡ None → b ≡ false
fault_is true x h = cc
fault_is false x h = refl

pub unrefused_are_all : UnrefusedAreAll
unrefused_are_all room all small h =
    let no = fault_is (nat_lt room (total_of all)) _ h in
    let most : total_of all ≤ room = grind (arith, nat_tests) in
    omega arith
