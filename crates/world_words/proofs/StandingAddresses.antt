-- The addresses of an interface that were not removed, from a place on.
use Rattle.std.proofs.Common.{◌≡◌, ℕ, ◌+◌, ◌<◌, ◌≤◌, zero, suc, nat_lt, cond, Bool, true, false, not, List, [], ◌∷◌, ◌++◌, length, drop, flat_map, refl, ap, subst, ◌∙◌, sym, arith, length-drop}
use Rattle.std.proofs.lemmas.List.{drop-drop}
use Rattle.std.specs.Prelude.{filter, Option, Some, None, option_map, MatchOption}
use Rattle.std.specs.List.{position_or_len, slice_get}
use Rattle.std.specs.Option.{option_map_or}
use Rattle.if_addrs.specs.Interfaces.{Address, Interface, interface_numbered}
use Rattle.if_addrs.specs.Told.{is_standing, next_address, next_of, next_of_it, told_before, told_where}
use Rattle.if_addrs.specs.declared.told.AddressTold.{AddressTold}
use Rattle.world_words.specs.Interfaces.{address_line, line_of}
use borrow.Author.Tests.{ltb-true, ltb-false}

-- the lines of those that stand from a place on
abbrev pub lines_behind : ℕ → Interface → List ℕ
lines_behind place i = flat_map line_of (filter is_standing (drop place i.addresses))

abbrev pub lines_from : ℕ → ℕ → List Interface → List ℕ
lines_from place index interfaces = option_map_or (lines_behind place) (interface_numbered index interfaces) []

-- how many addresses the interface has
abbrev pub count_at : ℕ → List Interface → ℕ
count_at index interfaces = option_map_or (λ i. length i.addresses) (interface_numbered index interfaces) 0

-- ---- the first that stands

-- it is at this place
record Found (them : List Address) (n : ℕ) : Type 0 where
  at : Address
  there : slice_get them n ≡ Some at
  all : filter is_standing them ≡ at ∷ filter is_standing (drop (suc n) them)

-- at the place that is searched for it is, or there is none
record Sought (them : List Address) (n : ℕ) : Type 0 where
  some : n < length them → Found them n
  none : length them ≤ n → filter is_standing them ≡ []

sought_by : (stands : Bool) (a : Address) (them : List Address) (n : ℕ) → is_standing a ≡ stands → Sought them n
    → Sought (a ∷ them) (cond (not stands) (1 + n) 0)
sought_by true a them n is behind = record {
  some = λ within. record { at = a; there = refl; all = rw is refl };
  none = λ beyond. absurd (omega (arith, beyond));
}
sought_by false a them n is behind =
    let e : 1 + n ≡ suc n = omega arith in
    let it : Sought (a ∷ them) (suc n) = record {
      some = λ within. let here = behind.some (omega (arith, within)) in
          record { at = here.at; there = here.there; all = rw is here.all };
      none = λ beyond. rw is (behind.none (omega (arith, beyond)));
    } in
    subst (λ (m : ℕ). Sought (a ∷ them) m) (sym e) it

sought : (them : List Address) → Sought them (position_or_len is_standing them)
sought [] = record { some = λ within. absurd (omega (arith, within)); none = λ beyond. refl }
sought (a ∷ them) = sought_by (is_standing a) a them (position_or_len is_standing them) refl (sought them)

-- ---- the next address

-- what an address that was told, or none, says of the lines from a place on
abbrev pub Tells : ℕ → Interface → Option AddressTold → Type 0
Tells place i told = MatchOption told (lines_behind place i ≡ [])
    (λ t. (lines_behind place i ≡ address_line t.address t.facts ++ lines_behind t.next i)
    × (place < t.next) × (t.next ≤ length i.addresses))

get_behind : {X : Type 0} (place n : ℕ) (xs : List X) → slice_get (drop place xs) n ≡ slice_get xs (place + n)
get_behind zero n xs = ap (λ (k : ℕ). slice_get xs k) (omega arith)
get_behind (suc place) n [] = refl
get_behind (suc place) n (x ∷ xs) =
    let e : suc place + n ≡ suc (place + n) = omega arith in
    rw e (get_behind place n xs)

tells_found : (place n : ℕ) (i : Interface) → n < length (drop place i.addresses) → Found (drop place i.addresses) n
    → Tells place i (told_where (Some (place + n)) i)
tells_found place n i within it =
    let there : slice_get i.addresses (place + n) ≡ Some it.at =
    sym (get_behind place n i.addresses) ∙ it.there in
    let behind : drop (suc n) (drop place i.addresses) ≡ drop (place + n + 1) i.addresses =
    drop-drop (suc n) place i.addresses ∙ ap (λ (k : ℕ). drop k i.addresses) (omega arith) in
    let lines : lines_behind place i ≡ line_of it.at ++ lines_behind (place + n + 1) i =
    ap (λ (them : List Address). flat_map line_of them) it.all
    ∙ ap (λ (them : List Address). line_of it.at ++ flat_map line_of (filter is_standing them)) behind in
    let at_it : Tells place i (option_map (told_before (place + n + 1)) (Some it.at)) =
    (lines, omega arith, omega (arith, within, length-drop place i.addresses)) in
    subst (λ (o : Option Address). Tells place i (option_map (told_before (place + n + 1)) o)) (sym there) at_it

tells_by : (place n : ℕ) (i : Interface) (within : Bool) → nat_lt n (length (drop place i.addresses)) ≡ within
    → Sought (drop place i.addresses) n
    → Tells place i (told_where (option_map (λ k. place + k) (cond within (Some n) None)) i)
tells_by place n i true within it =
    let less = ltb-true n (length (drop place i.addresses)) within in tells_found place n i less (it.some less)
tells_by place n i false within it =
    ap (λ (them : List Address). flat_map line_of them) (it.none (ltb-false n (length (drop place i.addresses)) within))

tells_next : (place : ℕ) (i : Interface) → Tells place i (next_of place i)
tells_next place i =
    let them = drop place i.addresses in
    tells_by place (position_or_len is_standing them) i (nat_lt (position_or_len is_standing them) (length them)) refl (sought them)

-- the same by the number of an interface
abbrev pub TellsNext : ℕ → ℕ → List Interface → Option AddressTold → Type 0
TellsNext place index interfaces told = MatchOption told (lines_from place index interfaces ≡ [])
    (λ t. (lines_from place index interfaces ≡ address_line t.address t.facts ++ lines_from t.next index interfaces)
    × (place < t.next) × (t.next ≤ count_at index interfaces))

next_in : (place : ℕ) (i : Option Interface)
    → MatchOption (next_of_it place i) (option_map_or (lines_behind place) i [] ≡ [])
    (λ t. (option_map_or (lines_behind place) i [] ≡ address_line t.address t.facts ++ option_map_or (lines_behind t.next) i [])
    × (place < t.next) × (t.next ≤ option_map_or (λ i. length i.addresses) i 0))
next_in place None = refl
next_in place (Some i) = tells_next place i

next_told : (place index : ℕ) (interfaces : List Interface)
    → TellsNext place index interfaces (next_address index place interfaces)
next_told place index interfaces = next_in place (interface_numbered index interfaces)

-- an address that is told is the first of those that stand, and comes before those behind it
pub told_some : (place index : ℕ) (interfaces : List Interface) (t : AddressTold)
    → Some t ≡ next_address index place interfaces
    → (lines_from place index interfaces ≡ address_line t.address t.facts ++ lines_from t.next index interfaces)
    × (place < t.next) × (t.next ≤ count_at index interfaces)
told_some place index interfaces t is =
    subst (λ (o : Option AddressTold). TellsNext place index interfaces o) (sym is) (next_told place index interfaces)

none_if : (o : Option AddressTold) → ((t : AddressTold) → o ≡ Some t → ⊥) → o ≡ None
none_if None apart = refl
none_if (Some t) apart = absurd (apart t refl)

-- where none is told, none stands
pub told_none : (place index : ℕ) (interfaces : List Interface) (o : Option AddressTold)
    → ((t : AddressTold) → o ≡ Some t → ⊥) → o ≡ next_address index place interfaces
    → lines_from place index interfaces ≡ []
told_none place index interfaces o apart is =
    subst (λ (o : Option AddressTold). TellsNext place index interfaces o) (sym is ∙ none_if o apart)
    (next_told place index interfaces)
