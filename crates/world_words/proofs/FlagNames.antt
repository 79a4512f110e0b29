-- The names of flags of two tables, one behind the other.
use Rattle.std.proofs.Common.{◌≡◌, ℕ, Bool, true, false, not, if◌then◌else◌, List, [], ◌∷◌, ◌++◌, refl, ap, ◌∙◌, sym, append_assoc}
use Rattle.message_text.specs.Names.{Named, first_after, flag_names, has_bit, high_flag_names, low_flag_names, name_of_bit, names_from, still_first}

names_over : (first : Bool) (xs ys : List Named) (n : ℕ)
    → names_from first xs n ++ names_from (first_after first xs n) ys n ≡ names_from first (xs ++ ys) n
unfolding names_from first_after
names_over first [] ys n = refl
names_over first (x ∷ xs) ys n =
    append_assoc (name_of_bit first n x) (names_from (still_first first n x) xs n) _
    ∙ ap (λ (t : List ℕ). name_of_bit first n x ++ t) (names_over (still_first first n x) xs ys n)

first_over : (first : Bool) (xs ys : List Named) (n : ℕ)
    → first_after (first_after first xs n) ys n ≡ first_after first (xs ++ ys) n
unfolding first_after
first_over first [] ys n = refl
first_over first (x ∷ xs) ys n = first_over (still_first first n x) xs ys n

true_isnt_false : true ≡ false → ⊥
true_isnt_false e = cc

-- once a name stands, none is the first
never_first : (xs : List Named) (n : ℕ) → first_after false xs n ≡ false
unfolding first_after still_first
never_first [] n = refl
never_first (x ∷ xs) n = never_first xs n

-- where no flag is set, no name stands
none_by : (set : Bool) (xs : List Named) (n : ℕ) (name : List ℕ)
    → (first_after true xs n ≡ true → names_from true xs n ≡ [])
    → first_after (not set) xs n ≡ true
    → (if set then name else []) ++ names_from (not set) xs n ≡ []
none_by false xs n name behind none = behind none
none_by true xs n name behind none = absurd (true_isnt_false (sym none ∙ never_first xs n))

none_set : (xs : List Named) (n : ℕ) → first_after true xs n ≡ true → names_from true xs n ≡ []
unfolding first_after names_from still_first name_of_bit
none_set [] n none = refl
none_set (x ∷ xs) n none = none_by (has_bit n x.number) xs n x.name (none_set xs n) none

pub none_named : (n : ℕ) → first_after true flag_names n ≡ true → names_from true flag_names n ≡ []
none_named n none = none_set flag_names n none

pub names_joined : (n : ℕ)
    → names_from true low_flag_names n ++ names_from (first_after true low_flag_names n) high_flag_names n
    ≡ names_from true flag_names n
unfolding flag_names
names_joined n = names_over true low_flag_names high_flag_names n

pub first_joined : (n : ℕ)
    → first_after (first_after true low_flag_names n) high_flag_names n ≡ first_after true flag_names n
unfolding flag_names
first_joined n = first_over true low_flag_names high_flag_names n
