-- What is found among the addresses, an interface after the other, and that no address is found that was removed.
use Rattle.std.proofs.Common.{◌≡◌, ℕ, zero, suc, subst, nat_eq, ◌+◌, ◌-◌, ◌<◌, ◌⊎◌, inl, inr, ◌&&◌, ◌||◌, if◌then◌else◌, IsSome, Bool, true, false, cond, not, nat_lt, List, [], ◌∷◌, ◌++◌, length, drop, filter, slice_index_or, Option, Some, None, is_some, refl, sym, ap, ◌∙◌, arith, drop-cons, add-one}
use Rattle.std.specs.Prelude.{slice_get}
use Rattle.std.specs.List.{find, list_any, range_with_len}
use Rattle.std.specs.Option.{option_or}
use Rattle.std.proofs.lemmas.Bool.Decides.{nat_tests}
use Rattle.std.proofs.lemmas.List.Elements.{filter-append}
use Rattle.std.proofs.lemmas.List.Folds.{find-append}
use Rattle.sock_addrs.proofs.FirstLemmas.{found}
use Rattle.if_addrs.specs.Interfaces.{Address, Interface, addresses_of, has_number, is_at}
use Rattle.if_addrs.specs.Searches.{standing, longer, longest, nearest, network_holds}
use Rattle.if_addrs.specs.Wanted.{better, is_wanted}
use Rattle.if_addrs.specs.declared.address.Wanted.TheVariants.{Near, Standing}

-- THE ADDRESSES THAT STAND

-- to pass both tests is to pass the second among those that pass the first
module _ {X : Type 0} (p q : X → Bool) where
  find_both : (xs : List X) → find (λ x. p x && q x) xs ≡ find q (filter p xs)
  find_both [] = refl
  find_both (x ∷ xs) = elim (p x) as (λ b. cond (b && q x) (Some x) (find (λ x. p x && q x) xs) ≡ find q (cond b (x ∷ filter p xs) (filter p xs)))
      [ true ↦ ap (λ o. cond (q x) (Some x) o) (find_both xs) | false ↦ find_both xs ]

  filter_both : (xs : List X) → filter (λ x. p x && q x) xs ≡ filter q (filter p xs)
  filter_both [] = refl
  filter_both (x ∷ xs) = elim (p x) as (λ b. cond (b && q x) (x ∷ filter (λ x. p x && q x) xs) (filter (λ x. p x && q x) xs) ≡ filter q (cond b (x ∷ filter p xs) (filter p xs)))
      [ true ↦ ap (λ l. cond (q x) (x ∷ l) l) (filter_both xs) | false ↦ filter_both xs ]

pub found_standing : (q : Address → Bool) (xs : List Address) → find (λ a. not a.removed && q a) xs ≡ find q (standing xs)
found_standing q xs = find_both (λ a. not a.removed) q xs

pub filtered_standing : (q : Address → Bool) (xs : List Address) → filter (λ a. not a.removed && q a) xs ≡ filter q (standing xs)
filtered_standing q xs = filter_both (λ a. not a.removed) q xs

pub first_standing : (xs : List Address) → find (λ a. not a.removed) xs ≡ slice_get (standing xs) 0
first_standing [] = refl
first_standing (x ∷ xs) = elim (not x.removed) as (λ b. cond b (Some x) (find (λ a. not a.removed) xs) ≡ slice_get (cond b (x ∷ standing xs) (standing xs)) 0)
    [ true ↦ refl | false ↦ first_standing xs ]

pub nearest_is : (held : ℕ) (xs : List Address) → option_or (find (is_wanted (Near held)) xs) (find (is_wanted Standing) xs) ≡ nearest held (standing xs)
nearest_is held xs =
    ap (λ (o : Option Address). option_or o (find (is_wanted Standing) xs)) (found_standing (network_holds held) xs)
    ∙ ap (λ (o : Option Address). option_or (find (network_holds held) (standing xs)) o) (first_standing xs)

-- THE FIRST OF ALL INTERFACES

pub found_from : (p : Address → Bool) (is : List Interface) (i : ℕ) (d : Interface) → i < length is
    → find p (addresses_of (drop i is)) ≡ option_or (find p (slice_index_or is i d).addresses) (find p (addresses_of (drop (i + 1) is)))
found_from p is i d h =
    let x = slice_index_or is i d in
    ap (λ (xs : List Interface). find p (addresses_of xs)) (drop-cons is i d h)
    ∙ find-append p x.addresses (addresses_of (drop (suc i) is))
    ∙ ap (λ (k : ℕ). option_or (find p x.addresses) (find p (addresses_of (drop k is)))) (sym (add-one i))

pub answered : (o rest : Option Address) → is_some o ≡ true → o ≡ option_or o rest
answered None rest h = cc
answered (Some a) rest h = refl

pub skipped : (o rest : Option Address) → is_some o ≡ false → option_or o rest ≡ rest
skipped None rest h = refl
skipped (Some a) rest h = cc

-- THE LONGEST

pub better_none : (o : Option Address) → better o None ≡ o
better_none None = refl
better_none (Some a) = refl

pub better_assoc : (a b c : Option Address) → better (better a b) c ≡ better a (better b c)
better_assoc None b c = refl
better_assoc (Some x) None c = refl
better_assoc (Some x) (Some y) None = better_none (longer x (Some y))
better_assoc (Some x) (Some y) (Some z) = grind (arith, nat_tests)

-- one more at the front
pub longest_first : (best : Option Address) (a : Address) (xs : List Address) → better (better best (Some a)) (longest xs) ≡ better best (longest (a ∷ xs))
longest_first best a xs = better_assoc best (Some a) (longest xs)

longest-append : (xs ys : List Address) → longest (xs ++ ys) ≡ better (longest xs) (longest ys)
longest-append [] ys = refl
longest-append (x ∷ xs) ys = ap (λ o. longer x o) (longest-append xs ys) ∙ sym (better_assoc (Some x) (longest xs) (longest ys))

pub longest_from : (p : Address → Bool) (is : List Interface) (i : ℕ) (d : Interface) (best : Option Address) → i < length is
    → better (better best (longest (filter p (slice_index_or is i d).addresses))) (longest (filter p (addresses_of (drop (i + 1) is))))
    ≡ better best (longest (filter p (addresses_of (drop i is))))
longest_from p is i d best h =
    let x = slice_index_or is i d in
    let rest = longest (filter p (addresses_of (drop (suc i) is))) in
    let all : longest (filter p (addresses_of (drop i is))) ≡ better (longest (filter p x.addresses)) rest =
    ap (λ (xs : List Interface). longest (filter p (addresses_of xs))) (drop-cons is i d h)
    ∙ ap (λ (xs : List Address). longest xs) (filter-append p x.addresses (addresses_of (drop (suc i) is)))
    ∙ longest-append (filter p x.addresses) (filter p (addresses_of (drop (suc i) is))) in
    ap (λ (k : ℕ). better (better best (longest (filter p x.addresses))) (longest (filter p (addresses_of (drop k is))))) (add-one i)
    ∙ better_assoc best (longest (filter p x.addresses)) rest
    ∙ ap (λ (o : Option Address). better best o) (sym all)

-- WHAT IS FOUND HAS A NUMBER

one_of : (x : Address) (m : Option Address) (a : Address) → longer x m ≡ Some a → (x ≡ a) ⊎ (m ≡ Some a)
one_of x None a h = inl cc
one_of x (Some y) a h = elim (nat_lt x.prefix y.prefix) as (λ b. (if b then Some y else Some x) ≡ Some a → (x ≡ a) ⊎ (Some y ≡ Some a))
    [ true ↦ λ k. inr k | false ↦ λ k. inl cc ] h

pub or_true : (b : Bool) → (b || true) ≡ true
or_true true = refl
or_true false = refl

own_number : (x a : Address) → x ≡ a → has_number a.number x ≡ true
own_number x a same = grind (arith, nat_tests)

-- an address of a filtered list is there by its number in the whole
longest_numbered : (p : Address → Bool) (xs : List Address) (a : Address) → longest (filter p xs) ≡ Some a → list_any (has_number a.number) xs ≡ true
longest_numbered p [] a h = cc
longest_numbered p (x ∷ xs) a h =
    elim (p x) as (λ b. longest (cond b (x ∷ filter p xs) (filter p xs)) ≡ Some a → (has_number a.number x || list_any (has_number a.number) xs) ≡ true) [
      | true ↦ λ k. elim (one_of x (longest (filter p xs)) a k) [
        | inl same ↦ rw (own_number x a same) refl
        | inr later ↦ rw (longest_numbered p xs a later) (or_true (has_number a.number x))
      ]
      | false ↦ λ k. rw (longest_numbered p xs a k) (or_true (has_number a.number x))
    ] h

pub longest_is_there : (p : Address → Bool) (xs : List Address) (a : Address) → longest (filter p xs) ≡ Some a → IsSome (find (has_number a.number) xs)
longest_is_there p xs a h = sym (found (has_number a.number) xs) ∙ longest_numbered p xs a h

first_numbered : (p : Address → Bool) (xs : List Address) (a : Address) → find p xs ≡ Some a → list_any (has_number a.number) xs ≡ true
first_numbered p [] a h = cc
first_numbered p (x ∷ xs) a h =
    elim (p x) as (λ b. cond b (Some x) (find p xs) ≡ Some a → (has_number a.number x || list_any (has_number a.number) xs) ≡ true)
    [ true ↦ λ k. rw (own_number x a cc) refl | false ↦ λ k. rw (first_numbered p xs a k) (or_true (has_number a.number x)) ] h

pub first_is_there : (p : Address → Bool) (xs : List Address) (a : Address) → find p xs ≡ Some a → IsSome (find (has_number a.number) xs)
first_is_there p xs a h = sym (found (has_number a.number) xs) ∙ first_numbered p xs a h

-- what is nearest on an interface is the interface's
either_numbered : (p q : Address → Bool) (xs : List Address) (a : Address) → option_or (find p xs) (find q xs) ≡ Some a → list_any (has_number a.number) xs ≡ true
either_numbered p q xs a h =
    elim (find p xs) as (λ o. find p xs ≡ o → option_or o (find q xs) ≡ Some a → list_any (has_number a.number) xs ≡ true)
    [ None ↦ λ e k. first_numbered q xs a k | Some x ↦ λ e k. first_numbered p xs a (e ∙ k) ] refl h

any_at : {X : Type 0} (r : X → Bool) (xs : List X) (i : ℕ) (d : X) → i < length xs → r (slice_index_or xs i d) ≡ true → list_any r xs ≡ true
any_at r [] i d within h = absurd (omega (arith, within))
any_at r (x ∷ xs) zero d within h = rw h refl
any_at r (x ∷ xs) (suc i) d within h = rw (any_at r xs i d (omega (arith, within)) h) (or_true (r x))

pub nearest_is_there : (held : ℕ) (is : List Interface) (i : ℕ) (d : Interface) (a : Address) → i < length is
    → nearest held (standing (slice_index_or is i d).addresses) ≡ Some a → list_any (λ x. list_any (has_number a.number) x.addresses) is ≡ true
nearest_is_there held is i d a within h =
    any_at (λ x. list_any (has_number a.number) x.addresses) is i d within
    (either_numbered (is_wanted (Near held)) (is_wanted Standing) (slice_index_or is i d).addresses a (nearest_is held (slice_index_or is i d).addresses ∙ h))

-- THE NUMBERS FROM ONE ON

range_first : (i n : ℕ) → i < n → range_with_len (i + 1) (n - i) ≡ (i + 1) ∷ range_with_len (i + 1 + 1) (n - (i + 1))
range_first i n h = let more : n - i ≡ suc (n - (i + 1)) = omega (arith, h) in ap (λ (k : ℕ). range_with_len (i + 1) k) more

pub range_found : (p : ℕ → Bool) (i n : ℕ) → i < n → p (i + 1) ≡ true → find p (range_with_len (i + 1) (n - i)) ≡ Some (i + 1)
range_found p i n h k = ap (λ (ns : List ℕ). find p ns) (range_first i n h) ∙ ap (λ (b : Bool). cond b (Some (i + 1)) (find p (range_with_len (i + 1 + 1) (n - (i + 1))))) k

pub range_passed : (p : ℕ → Bool) (i n : ℕ) → i < n → p (i + 1) ≡ false → find p (range_with_len (i + 1) (n - i)) ≡ find p (range_with_len (i + 1 + 1) (n - (i + 1)))
range_passed p i n h k = ap (λ (ns : List ℕ). find p ns) (range_first i n h) ∙ ap (λ (b : Bool). cond b (Some (i + 1)) (find p (range_with_len (i + 1 + 1) (n - (i + 1))))) k

-- WHAT AN INTERFACE HOLDS STANDS

pub held_stands : (address : ℕ) (xs : List Address) (a : Address) → find (is_at address) xs ≡ Some a → a.removed ≡ false
held_stands address [] a h = cc
held_stands address (x ∷ xs) a h =
    elim (is_at address x) as (λ b. is_at address x ≡ b → cond b (Some x) (find (is_at address) xs) ≡ Some a → a.removed ≡ false)
    [ true ↦ λ e k. (let same : x ≡ a = cc in subst (λ (y : Address). y.removed ≡ false) same (stands x.removed (nat_eq x.address address) e)) | false ↦ λ e k. held_stands address xs a k ] refl h
  where
    stands : (r s : Bool) → (not r && s) ≡ true → r ≡ false
    stands true s h = cc
    stands false s h = refl
