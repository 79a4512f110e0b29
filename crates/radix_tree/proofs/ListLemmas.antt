-- What holds of all elements of a list, and what is filtered from it or found in it.
use Rattle.radix_tree.proofs.Words.{arith, ◌≡◌, Bool, true, false, cond, List, [], ◌∷◌, ◌++◌, filter, Option, Some, None, refl, ap, find, AllByRecursion}
use Rattle.radix_tree.proofs.Words.{option_or}

module _ {X : Type 0} (P : X → Type 0) where
  pub all_weaker : (Q : X → Type 0) → ((x : X) → P x → Q x) → (xs : List X) → AllByRecursion P xs → AllByRecursion Q xs
  all_weaker Q f [] h = tt
  all_weaker Q f (x ∷ xs) h = (f x h.0, all_weaker Q f xs h.1)

  pub all_both : (Q R : X → Type 0) → ((x : X) → P x → Q x → R x) → (xs : List X) → AllByRecursion P xs → AllByRecursion Q xs → AllByRecursion R xs
  all_both Q R f [] h k = tt
  all_both Q R f (x ∷ xs) h k = (f x h.0 k.0, all_both Q R f xs h.1 k.1)

  pub all_append : (xs ys : List X) → AllByRecursion P xs → AllByRecursion P ys → AllByRecursion P (xs ++ ys)
  all_append [] ys h k = k
  all_append (x ∷ xs) ys h k = (h.0, all_append xs ys h.1 k)

  -- what a filter leaves has passed its test
  pub all_passed : (p : X → Bool) (xs : List X) → AllByRecursion P xs → AllByRecursion (λ x. P x × (p x ≡ true)) (filter p xs)
  all_passed p [] h = tt
  all_passed p (x ∷ xs) h = grind (arith, all_passed p xs h.1)

  pub all_filter : (p : X → Bool) (xs : List X) → AllByRecursion P xs → AllByRecursion P (filter p xs)
  all_filter p [] h = tt
  all_filter p (x ∷ xs) h = grind (arith, all_filter p xs h.1)

  -- what is found passes the test
  pub all_find : (q : X → Bool) (xs : List X) (x : X) → AllByRecursion P xs → find q xs ≡ Some x → P x × (q x ≡ true)
  all_find q [] x h k = cc
  all_find q (y ∷ ys) x h k = search (arith, all_find q ys x h.1)

module _ {X : Type 0} where
  pub filter_all : (p : X → Bool) (xs : List X) → AllByRecursion (λ x. p x ≡ true) xs → filter p xs ≡ xs
  filter_all p [] h = refl
  filter_all p (x ∷ xs) h = rw h.0 (ap (λ t. x ∷ t) (filter_all p xs h.1))

  pub filter_none : (p : X → Bool) (xs : List X) → AllByRecursion (λ x. p x ≡ false) xs → filter p xs ≡ []
  filter_none p [] h = refl
  filter_none p (x ∷ xs) h = rw h.0 (filter_none p xs h.1)

  pub find_none : (q : X → Bool) (xs : List X) → AllByRecursion (λ x. q x ≡ false) xs → find q xs ≡ None
  find_none q [] h = refl
  find_none q (x ∷ xs) h = rw h.0 (find_none q xs h.1)

  -- what is looked for stays in a filtered list or goes, by the answer of the filter's test to it
  pub find_filter : (q p : X → Bool) (b : Bool) → ((x : X) → q x ≡ true → p x ≡ b) → (xs : List X) → find q (filter p xs) ≡ cond b (find q xs) None
  find_filter q p true same [] = refl
  find_filter q p false same [] = refl
  find_filter q p b same (x ∷ xs) = grind (arith, find_filter q p b same xs)

  -- what a filter takes stays in a filtered list or goes, likewise
  pub filter_filter : (t p : X → Bool) (b : Bool) → ((x : X) → t x ≡ true → p x ≡ b) → (xs : List X) → filter t (filter p xs) ≡ cond b (filter t xs) []
  filter_filter t p true same [] = refl
  filter_filter t p false same [] = refl
  filter_filter t p b same (x ∷ xs) = grind (arith, filter_filter t p b same xs)

  pub or_none : (o : Option X) → option_or o None ≡ o
  or_none o = search arith
