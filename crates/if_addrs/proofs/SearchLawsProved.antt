-- The laws of the searches.
use Rattle.std.proofs.Common.{◌≡◌, ℕ, ◌<◌, ◌≤◌, ◌⊎◌, inl, inr, ◌&&◌, ◌||◌, Bool, true, false, cond, not, nat_eq, nat_lt, filter, List, [], ◌∷◌, ◌++◌, Option, None, Some, option_map, refl, sym, ap, ◌∙◌, subst, arith}
use Rattle.std.specs.List.{AllByRecursion, find}
use Rattle.std.proofs.lemmas.Bool.Decides.{nat_tests}
use Rattle.mask_table.specs.Agreeing.{front}
use Rattle.if_addrs.specs.Interfaces.{Address, addresses_of, reference}
use Rattle.if_addrs.specs.Searches.{answers_to, has_broadcast, has_other_end, leads_to, longer, longest, addresses_on, nearest, network_holds, standing}
use Rattle.if_addrs.specs.SearchLaws.{AnswersTo, Finds, IsFirst, IsFirstLongest, LeadsTo, NetworkHolds, OfInterfaceInWords, Stands, WithAddrInWords, WithFarInWords, WithNetInWords}
use Rattle.if_addrs.specs.declared.kind.Kind.{Kind}
use Rattle.if_addrs.specs.declared.kind.Kind.TheVariants.{Broadcast, Loopback, PointToPoint}
use Rattle.if_addrs.specs.declared.reference.IfaRef.{IfaRef}
use Rattle.std.specs.Option.{option_or}
use Rattle.if_addrs.proofs.Searching.{found_standing, filtered_standing, nearest_is}

-- a test that says whether P holds
pub record Decides (P : Address → Type 0) (q : Address → Bool) : Type 0 where
  pub holds_so : (a : Address) → q a ≡ true → P a
  pub fails : (a : Address) → q a ≡ false → ¬ (P a)

-- THE FIRST

first_of_more : (P : Address → Type 0) (x : Address) (xs : List Address) (a : Address) → ¬ (P x) → IsFirst P xs a → IsFirst P (x ∷ xs) a
first_of_more P x xs a fails h = record {
  before = x ∷ h.before;
  behind = h.behind;
  stands = ap (λ (l : List Address). x ∷ l) h.stands;
  holds = h.holds;
  none_before = (fails, h.none_before);
}

finds_more : (P : Address → Type 0) (x : Address) (xs : List Address) (o : Option IfaRef) → ¬ (P x) → Finds IsFirst P xs o → Finds IsFirst P (x ∷ xs) o
finds_more P x xs None fails h = (fails, h)
finds_more P x xs (Some i) fails h = (h.0, h.1, first_of_more P x xs h.0 fails h.2)

pub finds_first : (P : Address → Type 0) (q : Address → Bool) → Decides P q → (xs : List Address) → Finds IsFirst P xs (option_map reference (find q xs))
finds_first P q d [] = tt
finds_first P q d (x ∷ xs) =
    elim (q x) as (λ b. q x ≡ b → Finds IsFirst P (x ∷ xs) (option_map reference (cond b (Some x) (find q xs)))) [
      | true ↦ λ e. (x, refl, record { before = []; behind = xs; stands = refl; holds = d.holds_so x e; none_before = tt })
      | false ↦ λ e. finds_more P x xs (option_map reference (find q xs)) (d.fails x e) (finds_first P q d xs)
    ] refl

-- THE FIRST OF THE LONGEST

-- the search among those that pass, with the address itself and not a reference to it
abbrev Longest : (P : Address → Type 0) → List Address → Option Address → Type 0
Longest P xs None = AllByRecursion (λ a. ¬ (P a)) xs
Longest P xs (Some a) = IsFirstLongest P xs a

all_bound : (P : Address → Type 0) (n : ℕ) (xs : List Address) → AllByRecursion (λ a. ¬ (P a)) xs → AllByRecursion (λ b. P b → b.prefix ≤ n) xs
all_bound P n [] h = tt
all_bound P n (x ∷ xs) h = ((λ p. absurd (h.0 p)), all_bound P n xs h.1)

all_weaker : (P : Address → Type 0) (m n : ℕ) (xs : List Address) → m ≤ n → AllByRecursion (λ b. P b → b.prefix ≤ m) xs → AllByRecursion (λ b. P b → b.prefix ≤ n) xs
all_weaker P m n [] le h = tt
all_weaker P m n (x ∷ xs) le h = ((λ p. omega (arith, le, h.0 p)), all_weaker P m n xs le h.1)

all_less : (P : Address → Type 0) (m n : ℕ) (xs : List Address) → m ≤ n → AllByRecursion (λ b. P b → b.prefix < m) xs → AllByRecursion (λ b. P b → b.prefix ≤ n) xs
all_less P m n [] le h = tt
all_less P m n (x ∷ xs) le h = ((λ p. omega (arith, le, h.0 p)), all_less P m n xs le h.1)

all_append : (Q : Address → Type 0) (xs ys : List Address) → AllByRecursion Q xs → AllByRecursion Q ys → AllByRecursion Q (xs ++ ys)
all_append Q [] ys h k = k
all_append Q (x ∷ xs) ys h k = (h.0, all_append Q xs ys h.1 k)

-- one more that doesn't pass
longest_passed : (P : Address → Type 0) (x : Address) (xs : List Address) (o : Option Address) → ¬ (P x) → Longest P xs o → Longest P (x ∷ xs) o
longest_passed P x xs None fails h = (fails, h)
longest_passed P x xs (Some a) fails h = record {
  before = x ∷ h.before;
  behind = h.behind;
  stands = ap (λ (l : List Address). x ∷ l) h.stands;
  holds = h.holds;
  none_as_long_before = ((λ p. absurd (fails p)), h.none_as_long_before);
  none_longer_behind = h.none_longer_behind;
}

-- one more that passes
longest_taken : (P : Address → Type 0) (x : Address) (xs : List Address) (o : Option Address) → P x → Longest P xs o → Longest P (x ∷ xs) (longer x o)
longest_taken P x xs None holds_so h = record { before = []; behind = xs; stands = refl; holds = holds_so; none_as_long_before = tt; none_longer_behind = all_bound P x.prefix xs h }
longest_taken P x xs (Some a) holds_so h =
    elim (nat_lt x.prefix a.prefix) as (λ b. nat_lt x.prefix a.prefix ≡ b → Longest P (x ∷ xs) (cond b (Some a) (Some x))) [
      | true ↦ λ e. (
          let less : x.prefix < a.prefix = grind (arith, nat_tests) in
          record {
            before = x ∷ h.before;
            behind = h.behind;
            stands = ap (λ (l : List Address). x ∷ l) h.stands;
            holds = h.holds;
            none_as_long_before = ((λ p. less), h.none_as_long_before);
            none_longer_behind = h.none_longer_behind;
          })
      | false ↦ λ e. (
          let least : a.prefix ≤ x.prefix = grind (arith, nat_tests) in
          record {
            before = [];
            behind = xs;
            stands = refl;
            holds = holds_so;
            none_as_long_before = tt;
            none_longer_behind = subst (λ (l : List Address). AllByRecursion (λ b. P b → b.prefix ≤ x.prefix) l) (sym h.stands)
                (all_append (λ b. P b → b.prefix ≤ x.prefix) h.before (a ∷ h.behind) (all_less P a.prefix x.prefix h.before least h.none_as_long_before)
                ((λ p. least), all_weaker P a.prefix x.prefix h.behind least h.none_longer_behind));
          })
    ] refl

is_longest : (P : Address → Type 0) (q : Address → Bool) → Decides P q → (xs : List Address) → Longest P xs (longest (filter q xs))
is_longest P q d [] = tt
is_longest P q d (x ∷ xs) =
    elim (q x) as (λ b. q x ≡ b → Longest P (x ∷ xs) (longest (cond b (x ∷ filter q xs) (filter q xs)))) [
      | true ↦ λ e. longest_taken P x xs (longest (filter q xs)) (d.holds_so x e) (is_longest P q d xs)
      | false ↦ λ e. longest_passed P x xs (longest (filter q xs)) (d.fails x e) (is_longest P q d xs)
    ] refl

finds_longest : (P : Address → Type 0) (xs : List Address) (o : Option Address) → Longest P xs o → Finds IsFirstLongest P xs (option_map reference o)
finds_longest P xs None h = h
finds_longest P xs (Some a) h = (a, refl, h)

-- THE TESTS IN WORDS

stands_yes : (r s : Bool) → (not r && s) ≡ true → (r ≡ false) × (s ≡ true)
stands_yes true s h = cc
stands_yes false s h = (refl, h)

stands_no : (r s : Bool) → (not r && s) ≡ false → r ≡ false → s ≡ false
stands_no true s h k = cc
stands_no false s h k = h

equal : (m n : ℕ) → nat_eq m n ≡ true → m ≡ n
equal m n h = grind (arith, nat_tests)

unequal : (m n : ℕ) → nat_eq m n ≡ false → ¬ (m ≡ n)
unequal m n h e = absurd (grind (arith, nat_tests))

own_or_far : (k : Kind) (own far : Bool) → (own || (has_broadcast k && far)) ≡ true → (own ≡ true) ⊎ ((k ≡ Broadcast) × (far ≡ true))
own_or_far k true far h = inl refl
own_or_far Broadcast false far h = inr (refl, h)
own_or_far Loopback false far h = cc
own_or_far PointToPoint false far h = cc

neither : (k : Kind) (own far : Bool) → (own || (has_broadcast k && far)) ≡ false → (own ≡ false) × (k ≡ Broadcast → far ≡ false)
neither k true far h = cc
neither Broadcast false far h = (refl, λ e. h)
neither Loopback false far h = (refl, λ e. cc)
neither PointToPoint false far h = (refl, λ e. cc)

at_end : (k : Kind) (far : Bool) → (has_other_end k && far) ≡ true → (k ≡ PointToPoint) × (far ≡ true)
at_end Broadcast far h = cc
at_end Loopback far h = cc
at_end PointToPoint far h = (refl, h)

not_at_end : (k : Kind) (far : Bool) → (has_other_end k && far) ≡ false → k ≡ PointToPoint → far ≡ false
not_at_end Broadcast far h e = cc
not_at_end Loopback far h e = cc
not_at_end PointToPoint far h e = h

answers : (address : ℕ) (a : Address) → answers_to address a ≡ true → (a.address ≡ address) ⊎ ((a.kind ≡ Broadcast) × (a.far ≡ address))
answers address a h = elim (own_or_far a.kind (nat_eq a.address address) (nat_eq a.far address) h)
    [ inl own ↦ inl (equal a.address address own) | inr far ↦ inr (far.0, equal a.far address far.1) ]

answers_not : (address : ℕ) (a : Address) → answers_to address a ≡ false → (a.address ≡ address) ⊎ ((a.kind ≡ Broadcast) × (a.far ≡ address)) → ⊥
answers_not address a h w =
    let tests = neither a.kind (nat_eq a.address address) (nat_eq a.far address) h in
    elim w [ inl own ↦ unequal a.address address tests.0 own | inr far ↦ unequal a.far address (tests.1 far.0) far.1 ]

answers_decides : (address : ℕ) → Decides (AnswersTo address) (λ a. not a.removed && answers_to address a)
answers_decides address = record {
  holds_so = λ a h. (let parts = stands_yes a.removed (answers_to address a) h in (parts.0, answers address a parts.1));
  fails = λ a h w. answers_not address a (stands_no a.removed (answers_to address a) h w.0) w.1;
}

leads_decides : (address : ℕ) → Decides (LeadsTo address) (λ a. not a.removed && leads_to address a)
leads_decides address = record {
  holds_so = λ a h. (
      let parts = stands_yes a.removed (leads_to address a) h in
      let end = at_end a.kind (nat_eq a.far address) parts.1 in
      (parts.0, end.0, equal a.far address end.1));
  fails = λ a h w. unequal a.far address (not_at_end a.kind (nat_eq a.far address) (stands_no a.removed (leads_to address a) h w.0) w.1) w.2;
}

pub holds_decides : (address : ℕ) → Decides (NetworkHolds address) (λ a. not a.removed && network_holds address a)
holds_decides address = record {
  holds_so = λ a h. (let parts = stands_yes a.removed (network_holds address a) h in (parts.0, equal (front a.prefix a.address) (front a.prefix address) parts.1));
  fails = λ a h w. unequal (front a.prefix a.address) (front a.prefix address) (stands_no a.removed (network_holds address a) h w.0) w.1;
}

pub stands_decides : Decides Stands (λ a. not a.removed)
stands_decides = record { holds_so = λ a h. stood a.removed h; fails = λ a h w. not_stood a.removed h w }
  where
    stood : (r : Bool) → not r ≡ true → r ≡ false
    stood true h = cc
    stood false h = refl

    not_stood : (r : Bool) → not r ≡ false → r ≡ false → ⊥
    not_stood true h w = cc
    not_stood false h w = cc

-- THE SEARCHES

pub with_addr_in_words : WithAddrInWords
with_addr_in_words address is =
    subst (λ (o : Option Address). Finds IsFirst (AnswersTo address) (addresses_of is) (option_map reference o)) (found_standing (answers_to address) (addresses_of is))
    (finds_first (AnswersTo address) (λ a. not a.removed && answers_to address a) (answers_decides address) (addresses_of is))

pub with_far_in_words : WithFarInWords
with_far_in_words address is =
    subst (λ (o : Option Address). Finds IsFirst (LeadsTo address) (addresses_of is) (option_map reference o)) (found_standing (leads_to address) (addresses_of is))
    (finds_first (LeadsTo address) (λ a. not a.removed && leads_to address a) (leads_decides address) (addresses_of is))

pub with_net_in_words : WithNetInWords
with_net_in_words address is =
    subst (λ (xs : List Address). Finds IsFirstLongest (NetworkHolds address) (addresses_of is) (option_map reference (longest xs))) (filtered_standing (network_holds address) (addresses_of is))
    (finds_longest (NetworkHolds address) (addresses_of is) (longest (filter (λ a. not a.removed && network_holds address a) (addresses_of is)))
    (is_longest (NetworkHolds address) (λ a. not a.removed && network_holds address a) (holds_decides address) (addresses_of is)))

-- ON ONE INTERFACE

none_found : (P : Address → Type 0) (q : Address → Bool) → Decides P q → (xs : List Address) → AllByRecursion (λ a. ¬ (P a)) xs → find q xs ≡ None
none_found P q d [] h = refl
none_found P q d (x ∷ xs) h = elim (q x) as (λ b. q x ≡ b → cond b (Some x) (find q xs) ≡ None) [ true ↦ λ e. absurd (h.0 (d.holds_so x e)) | false ↦ λ e. none_found P q d xs h.1 ] refl

some_found : (P : Address → Type 0) (q : Address → Bool) (xs : List Address) (o other : Option Address) → ¬ (AllByRecursion (λ a. ¬ (P a)) xs) → Finds IsFirst P xs (option_map reference o) → Finds IsFirst P xs (option_map reference (option_or o other))
some_found P q xs None other some h = absurd (some h)
some_found P q xs (Some a) other some h = h

pub of_interface_in_words : OfInterfaceInWords
of_interface_in_words address index is =
    let on = addresses_on index is in
    let holds = λ (a : Address). not a.removed && network_holds address a in
    let first = find (λ a. not a.removed) on in
    let found : option_or (find holds on) first ≡ nearest address (standing on) = nearest_is address on in (
      λ none. subst (λ (o : Option Address). Finds IsFirst Stands on (option_map reference o)) (ap (λ (o : Option Address). option_or o first) (sym (none_found (NetworkHolds address) holds (holds_decides address) on none)) ∙ found)
          (finds_first Stands (λ a. not a.removed) stands_decides on),
      λ some. subst (λ (o : Option Address). Finds IsFirst (NetworkHolds address) on (option_map reference o)) found
          (some_found (NetworkHolds address) holds on (find holds on) first some (finds_first (NetworkHolds address) holds (holds_decides address) on)),
    )
