-- How many routes a table has at pairs at which an older one has none.
use Rattle.std.proofs.Common.{◌≡◌, ℕ, ◌+◌, ◌≤◌, Bool, true, false, cond, filter, not, List, [], ◌∷◌, ◌++◌, Some, refl, arith}
use Rattle.std.specs.Prelude.{count_by, find, is_none, is_some}
use Rattle.std.specs.List.{AllByRecursion}
use Rattle.std.proofs.lemmas.Bool.Decides.{nat_tests}
use Rattle.std.proofs.lemmas.List.Sums.{sum_by-append, sum_by-cons}
use Rattle.radix_tree.specs.Table.{entry_at, has_pair, precedes, with_entry, without}
use Rattle.radix_tree.specs.declared.entry.Entry.{Entry}
use Rattle.radix_tree.proofs.ListLemmas.{all_weaker}
use Rattle.radix_tree.proofs.OrderLemmas.{own_pair, pair_is, precedes_one_way}
use Rattle.route_entries.specs.declared.route.Route.{Route}
use Rattle.route_ops.specs.Standing.{brought}

abbrev one_if : Bool → ℕ
one_if b = cond b 1 0

-- COUNTS OF WHAT PASSES A TEST, in a list that is filtered

count_cons : {X : Type 0} (P : X → Bool) (x : X) (xs : List X) → count_by P (x ∷ xs) ≡ one_if (P x) + count_by P xs
count_cons P x xs = sum_by-cons (λ y. cond (P y) 1 0) x xs

count_append : {X : Type 0} (P : X → Bool) (xs ys : List X) → count_by P (xs ++ ys) ≡ count_by P xs + count_by P ys
count_append P xs ys = sum_by-append (λ y. cond (P y) 1 0) xs ys

-- an element counts in a filtered list where it passes the filter
count_filter : {X : Type 0} (P p : X → Bool) (x : X) (xs : List X) → count_by P (filter p (x ∷ xs)) ≡ cond (p x) (one_if (P x)) 0 + count_by P (filter p xs)
count_filter P p x xs = elim (p x) as (λ b. count_by P (cond b (x ∷ filter p xs) (filter p xs)) ≡ cond b (one_if (P x)) 0 + count_by P (filter p xs))
    [ true ↦ count_cons P x (filter p xs) | false ↦ omega arith ]

-- and in at most one of two that exclude each other
at_most_once : (p q P : Bool) → (p ≡ true → q ≡ false) → cond p (one_if P) 0 + cond q (one_if P) 0 ≤ one_if P
at_most_once true q P apart = rw (apart refl) (omega arith)
at_most_once false true P apart = omega arith
at_most_once false false P apart = omega arith

pub count_apart : {X : Type 0} (P p q : X → Bool) → ((x : X) → p x ≡ true → q x ≡ false) → (xs : List X) → count_by P (filter p xs) + count_by P (filter q xs) ≤ count_by P xs
count_apart P p q apart [] = omega arith
count_apart P p q apart (x ∷ xs) =
    omega (arith, count_filter P p x xs, count_filter P q x xs, count_cons P x xs, at_most_once (p x) (q x) (P x) (apart x), count_apart P p q apart xs)

pub count_fewer : {X : Type 0} (P p : X → Bool) (xs : List X) → count_by P (filter p xs) ≤ count_by P xs
count_fewer P p [] = omega arith
count_fewer P p (x ∷ xs) = elim (p x) as (λ b. count_by P (cond b (x ∷ filter p xs) (filter p xs)) ≤ count_by P (x ∷ xs)) [
  | true ↦ omega (arith, count_cons P x (filter p xs), count_cons P x xs, count_fewer P p xs)
  | false ↦ omega (arith, count_cons P x xs, count_fewer P p xs)
]

-- what is looked for is in neither of the two, and so has room between them
count_between : {X : Type 0} (P p q h : X → Bool) (b : Bool) → ((x : X) → p x ≡ true → q x ≡ false) → ((x : X) → h x ≡ true → (p x ≡ false) × (q x ≡ false) × (P x ≡ b)) → (xs : List X)
    → is_some (find h xs) ≡ true → count_by P (filter p xs) + (one_if b + count_by P (filter q xs)) ≤ count_by P xs
count_between P p q h b apart there [] is = cc
count_between P p q h b apart there (x ∷ xs) is =
    elim (h x) as (λ t. h x ≡ t → is_some (cond t (Some x) (find h xs)) ≡ true → count_by P (filter p (x ∷ xs)) + (one_if b + count_by P (filter q (x ∷ xs))) ≤ count_by P (x ∷ xs)) [
      | true ↦ λ k i. (
          let no = there x k in
          let first : cond (p x) (one_if (P x)) 0 ≡ 0 = rw no.0 refl in
          let second : cond (q x) (one_if (P x)) 0 ≡ 0 = rw no.1 refl in
          let third : one_if (P x) ≡ one_if b = rw no.2 refl in
          omega (arith, count_filter P p x xs, count_filter P q x xs, count_cons P x xs, first, second, third, count_apart P p q apart xs))
      | false ↦ λ k i. omega (arith, count_filter P p x xs, count_filter P q x xs, count_cons P x xs, at_most_once (p x) (q x) (P x) (apart x), count_between P p q h b apart there xs i)
    ] refl is

-- A TABLE WITH ONE MORE ENTRY

apart : (e x : Entry Route) → precedes x e ≡ true → precedes e x ≡ false
apart e x h = precedes_one_way x e h

one : (b : Bool) → one_if b ≤ 1
one true = omega arith
one false = omega arith

pub one_more : (old t : List (Entry Route)) (e : Entry Route) → brought old (with_entry e t) ≤ brought old t + 1
one_more old t e =
    let P = λ (r : Entry Route). is_none (entry_at r.key r.rank old) in
    let before = filter (λ x. precedes x e) t in
    let behind = filter (λ x. precedes e x) t in
    omega (arith, count_append P before (e ∷ behind), count_cons P e behind, one (P e), count_apart P (λ x. precedes x e) (λ x. precedes e x) (apart e) t)

same_pair : (old : List (Entry Route)) (e x : Entry Route) → has_pair e.key e.rank x ≡ true
    → (precedes x e ≡ false) × (precedes e x ≡ false) × (is_none (entry_at x.key x.rank old) ≡ is_none (entry_at e.key e.rank old))
same_pair old e x h =
    let is = pair_is e.key e.rank x h in
    (grind (arith, nat_tests, is.0, is.1), grind (arith, nat_tests, is.0, is.1), rw (is.0, is.1) refl)

-- an entry whose pair is there brings nothing
pub none_more : (old t : List (Entry Route)) (e : Entry Route) → is_some (entry_at e.key e.rank t) ≡ true → brought old (with_entry e t) ≤ brought old t
none_more old t e there =
    let P = λ (r : Entry Route). is_none (entry_at r.key r.rank old) in
    let before = filter (λ x. precedes x e) t in
    let behind = filter (λ x. precedes e x) t in
    omega (
      arith,
      count_append P before (e ∷ behind),
      count_cons P e behind,
      count_between P (λ x. precedes x e) (λ x. precedes e x) (has_pair e.key e.rank) (P e) (apart e) (same_pair old e) t there,
    )

-- and nor does a table without a pair
pub none_less : (old t : List (Entry Route)) (key rank : ℕ) → brought old (without key rank t) ≤ brought old t
none_less old t key rank = count_fewer (λ r. is_none (entry_at r.key r.rank old)) (λ e. not (has_pair key rank e)) t

-- A TABLE BRINGS NOTHING TO ITSELF

still_there : (x : Entry Route) (es : List (Entry Route)) (r : Entry Route) → is_none (entry_at r.key r.rank es) ≡ false → is_none (entry_at r.key r.rank (x ∷ es)) ≡ false
still_there x es r h = elim (has_pair r.key r.rank x) as (λ b. is_none (cond b (Some x) (entry_at r.key r.rank es)) ≡ false) [ true ↦ refl | false ↦ h ]

own : (x : Entry Route) (es : List (Entry Route)) → is_none (entry_at x.key x.rank (x ∷ es)) ≡ false
own x es = rw (own_pair x) refl

pub all_there : (es : List (Entry Route)) → AllByRecursion (λ r. is_none (entry_at r.key r.rank es) ≡ false) es
all_there [] = tt
all_there (x ∷ es) = (own x es, all_weaker (λ (r : Entry Route). is_none (entry_at r.key r.rank es) ≡ false) (λ (r : Entry Route). is_none (entry_at r.key r.rank (x ∷ es)) ≡ false) (still_there x es) es (all_there es))

count_none : {X : Type 0} (P : X → Bool) (xs : List X) → AllByRecursion (λ x. P x ≡ false) xs → count_by P xs ≡ 0
count_none P [] h = refl
count_none P (x ∷ xs) h = let no : one_if (P x) ≡ 0 = rw h.0 refl in omega (arith, count_cons P x xs, no, count_none P xs h.1)

pub none_own : (t : List (Entry Route)) → brought t t ≡ 0
none_own t = count_none (λ r. is_none (entry_at r.key r.rank t)) t (all_there t)
