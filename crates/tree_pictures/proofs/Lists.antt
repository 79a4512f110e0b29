-- What holds of all routes of a list, and which are among them.
use Rattle.std.proofs.Common.{◌≡◌, ◌⊎◌, Bool, true, false, cond, List, [], ◌∷◌, ◌++◌, Some, None, refl, inl, inr, subst}
use Rattle.std.specs.Prelude.{find}
use Rattle.std.specs.List.{AllByRecursion}

module _ {X : Type 0} where
  -- the element is one of these
  abbrev pub Among : X → List X → Type 0
  Among x [] = ⊥
  Among x (y ∷ ys) = (y ≡ x) ⊎ Among x ys

  pub among_left : (x : X) (xs ys : List X) → Among x xs → Among x (xs ++ ys)
  among_left x [] ys h = absurd h
  among_left x (y ∷ xs) ys h = elim h [ inl is ↦ inl is | inr later ↦ inr (among_left x xs ys later) ]

  pub among_right : (x : X) (xs ys : List X) → Among x ys → Among x (xs ++ ys)
  among_right x [] ys h = h
  among_right x (y ∷ xs) ys h = inr (among_right x xs ys h)

  -- what is found is one of these and passes the test
  pub found_among : (t : X → Bool) (xs : List X) (x : X) → find t xs ≡ Some x → Among x xs × (t x ≡ true)
  found_among t [] x h = cc
  found_among t (y ∷ ys) x h = elim (t y) as (λ b. t y ≡ b → cond b (Some y) (find t ys) ≡ Some x → Among x (y ∷ ys) × (t x ≡ true)) [
    | true ↦ λ e s. (let is : y ≡ x = cc in (inl is, subst (λ v. t v ≡ true) is e))
    | false ↦ λ e s. (let later = found_among t ys x s in (inr later.0, later.1))
  ] refl h

  -- where nothing is found all fail the test
  pub none_found : (t : X → Bool) (xs : List X) → find t xs ≡ None → AllByRecursion (λ x. t x ≡ false) xs
  none_found t [] h = tt
  none_found t (y ∷ ys) h = elim (t y) as (λ b. t y ≡ b → cond b (Some y) (find t ys) ≡ None → AllByRecursion (λ x. t x ≡ false) (y ∷ ys))
      [ true ↦ λ e s. cc | false ↦ λ e s. (e, none_found t ys s) ] refl h

  pub all_among : (P : X → Type 0) (xs : List X) (x : X) → AllByRecursion P xs → Among x xs → P x
  all_among P [] x all h = absurd h
  all_among P (y ∷ ys) x all h = elim h [ inl is ↦ subst P is all.0 | inr later ↦ all_among P ys x all.1 later ]

  pub all_weaker : (P Q : X → Type 0) → ((x : X) → P x → Q x) → (xs : List X) → AllByRecursion P xs → AllByRecursion Q xs
  all_weaker P Q f [] h = tt
  all_weaker P Q f (x ∷ xs) h = (f x h.0, all_weaker P Q f xs h.1)

  pub all_both : (P Q R : X → Type 0) → ((x : X) → P x → Q x → R x) → (xs : List X) → AllByRecursion P xs → AllByRecursion Q xs → AllByRecursion R xs
  all_both P Q R f [] h k = tt
  all_both P Q R f (x ∷ xs) h k = (f x h.0 k.0, all_both P Q R f xs h.1 k.1)

  pub all_append : (P : X → Type 0) (xs ys : List X) → AllByRecursion P xs → AllByRecursion P ys → AllByRecursion P (xs ++ ys)
  all_append P [] ys h k = k
  all_append P (x ∷ xs) ys h k = (h.0, all_append P xs ys h.1 k)

  pub all_left : (P : X → Type 0) (xs ys : List X) → AllByRecursion P (xs ++ ys) → AllByRecursion P xs
  all_left P [] ys h = tt
  all_left P (x ∷ xs) ys h = (h.0, all_left P xs ys h.1)

  pub all_right : (P : X → Type 0) (xs ys : List X) → AllByRecursion P (xs ++ ys) → AllByRecursion P ys
  all_right P [] ys h = h
  all_right P (x ∷ xs) ys h = all_right P xs ys h.1
