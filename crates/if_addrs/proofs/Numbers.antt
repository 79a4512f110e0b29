-- The numbers of addresses, after one more interface, after one more address, and after a change of an address.
use Rattle.std.proofs.Common.{◌≡◌, ℕ, ◌+◌, ◌<◌, ◌≤◌, ◌||◌, Bool, true, false, cond, if◌then◌else◌, List, [], ◌∷◌, ◌++◌, length, map, Option, Some, None, nat_eq, nat_le, refl, sym, ap, ◌∙◌, arith, length-append, append-nil}
use Rattle.std.specs.Prelude.{count_by}
use Rattle.std.specs.List.{find, list_any}
use Rattle.std.specs.Option.{option_or}
use Rattle.std.proofs.lemmas.Bool.Decides.{nat_tests}
use Rattle.std.proofs.lemmas.Grind.{flat_map-append}
use Rattle.std.proofs.lemmas.List.{length-map}
use Rattle.std.proofs.lemmas.List.Folds.{find-append}
use Rattle.std.proofs.lemmas.List.Sums.{sum_by-append, sum_by-cons}
use Rattle.sock_addrs.proofs.FirstLemmas.{length-change_first}
use Rattle.sock_addrs.specs.First.{change_first}
use Rattle.sock_addrs.specs.Rules.{rule, first_fault}
use Rattle.sock_addrs.specs.declared.errno.Errno.TheVariants.{EEXIST, ENOSPC}
use Rattle.if_addrs.specs.Interfaces.{Address, Interface, addresses_of, added, attach_fault, has_name, has_number, with_one_more}
use Rattle.if_addrs.specs.Numbered.{uses, NumberedOnce, AreNumbered}

-- HOW MANY HAVE A NUMBER

-- where none has it none is found
pub none_used : (q : Address → Bool) (xs : List Address) → count_by q xs ≡ 0 → find q xs ≡ None
none_used q [] h = refl
none_used q (x ∷ xs) h =
    let parts = sum_by-cons (λ a. cond (q a) 1 0) x xs in
    elim (q x) as (λ b. count_by q (x ∷ xs) ≡ cond b 1 0 + count_by q xs → cond b (Some x) (find q xs) ≡ None)
    [ true ↦ λ k. absurd (omega (arith, h, k)) | false ↦ λ k. none_used q xs (omega (arith, h, k)) ] parts

-- an address that is found has its number
pub one_used : (q : Address → Bool) (xs : List Address) (a : Address) → find q xs ≡ Some a → 1 ≤ count_by (has_number a.number) xs
one_used q [] a h = cc
one_used q (x ∷ xs) a h =
    let parts = sum_by-cons (λ b. cond (has_number a.number b) 1 0) x xs in
    elim (q x) as (λ b. cond b (Some x) (find q xs) ≡ Some a → 1 ≤ count_by (has_number a.number) (x ∷ xs)) [
      | true ↦ λ k. (let same : x ≡ a = cc in grind (arith, nat_tests))
      | false ↦ λ k. (let rest = one_used q xs a k in omega (arith, parts, rest))
    ] h

-- and where no other has, it is found by it
pub found_once : (q : Address → Bool) (xs : List Address) (a : Address) → find q xs ≡ Some a → count_by (has_number a.number) xs ≤ 1 → find (has_number a.number) xs ≡ Some a
found_once q [] a h few = cc
found_once q (x ∷ xs) a h few =
    let parts = sum_by-cons (λ b. cond (has_number a.number b) 1 0) x xs in
    elim (q x) as (λ b. cond b (Some x) (find q xs) ≡ Some a → find (has_number a.number) (x ∷ xs) ≡ Some a) [
      | true ↦ λ k. (let same : x ≡ a = cc in let own : has_number a.number x ≡ true = grind (arith, nat_tests) in rw own k)
      | false ↦ λ k. (
          let rest = one_used q xs a k in
          elim (has_number a.number x) as (λ b. count_by (has_number a.number) (x ∷ xs) ≡ cond b 1 0 + count_by (has_number a.number) xs → cond b (Some x) (find (has_number a.number) xs) ≡ Some a) [
            | true ↦ λ e. absurd (omega (arith, e, few, rest))
            | false ↦ λ e. found_once q xs a k (omega (arith, e, few))
          ] parts)
    ] h

-- AFTER A CHANGE OF ONE INTERFACE

-- what adds up over all addresses grows by what the new one has
module _ (m : List Address → ℕ) (adds : (xs ys : List Address) → m (xs ++ ys) ≡ m xs + m ys) where
  measure_added : (p : Interface → Bool) (a : Address) (is : List Interface) → list_any p is ≡ true
      → m (addresses_of (change_first p (with_one_more a) is)) ≡ m (addresses_of is) + m (a ∷ [])
  measure_added p a [] h = cc
  measure_added p a (i ∷ is) h =
      let rest = addresses_of is in
      let more = addresses_of (change_first p (with_one_more a) is) in
      elim (p i) as (λ b. (b || list_any p is) ≡ true → m (addresses_of (if b then with_one_more a i ∷ is else i ∷ change_first p (with_one_more a) is)) ≡ m (i.addresses ++ rest) + m (a ∷ [])) [
        | true ↦ λ k. omega (arith, adds (i.addresses ++ a ∷ []) rest, adds i.addresses (a ∷ []), adds i.addresses rest)
        | false ↦ λ k. omega (arith, adds i.addresses more, adds i.addresses rest, measure_added p a is k)
      ] h

uses_added : (k : ℕ) (p : Interface → Bool) (a : Address) (is : List Interface) → list_any p is ≡ true
    → uses k (change_first p (with_one_more a) is) ≡ uses k is + cond (has_number k a) 1 0
uses_added k p a is h =
    omega (
      arith,
      measure_added (λ xs. count_by (has_number k) xs) (λ xs ys. sum_by-append (λ b. cond (has_number k b) 1 0) xs ys) p a is h,
      sum_by-cons (λ b. cond (has_number k b) 1 0) a [],
    )

pub added_one : (p : Interface → Bool) (a : Address) (is : List Interface) → list_any p is ≡ true → added (change_first p (with_one_more a) is) ≡ added is + 1
added_one p a is h = measure_added (λ xs. length xs) (λ xs ys. length-append xs ys) p a is h

-- what is told of an address but for its marks
abbrev pub told : Address → Address
told a = record a { routed = false; removed = false }

count-map : {X Y : Type 0} (v : X → Y) (q : Y → Bool) (xs : List X) → count_by q (map v xs) ≡ count_by (λ x. q (v x)) xs
count-map v q [] = refl
count-map v q (x ∷ xs) =
    omega (arith, sum_by-cons (λ y. cond (q y) 1 0) (v x) (map v xs), sum_by-cons (λ x. cond (q (v x)) 1 0) x xs, count-map v q xs)

-- EACH NUMBER ONCE, AND THE CODE'S COUNT

-- after one more interface
same_attached : (is : List Interface) (i : Interface) → i.addresses ≡ [] → addresses_of (is ++ i ∷ []) ≡ addresses_of is
same_attached is i none = flat_map-append (λ (i : Interface). i.addresses) is (i ∷ []) ∙ rw none (append-nil (addresses_of is))

pub once_attached : (is : List Interface) (i : Interface) → NumberedOnce is → i.addresses ≡ [] → NumberedOnce (is ++ i ∷ [])
once_attached is i h none =
    let same = same_attached is i none in
    record {
      once = λ k. rw same (h.once k);
      none_past = λ k past. (let less : added is < k = rw (← same) past in rw same (h.none_past k less));
    }

pub none_before_attached : (is : List Interface) (i : Interface) → uses 0 is ≡ 0 → i.addresses ≡ [] → uses 0 (is ++ i ∷ []) ≡ 0
none_before_attached is i h none = ap (λ (xs : List Address). count_by (has_number 0) xs) (same_attached is i none) ∙ h

pub numbered_attached : (n : ℕ) (is : List Interface) (i : Interface) → AreNumbered n is → i.addresses ≡ [] → length is < 64 → AreNumbered n (is ++ i ∷ [])
numbered_attached n is i h none room = record {
  counted = ap (λ (xs : List Address). length xs) (same_attached is i none) ∙ h.counted;
  numbers = once_attached is i h.numbers none;
  few = omega (arith, room, length-append is (i ∷ []));
}

-- after one more address
one_more_once : (k n m : ℕ) (b : Bool) → nat_eq (n + 1) k ≡ b → m ≤ 1 → (n < k → m ≡ 0) → m + cond b 1 0 ≤ 1
one_more_once k n m true same few past = (let last : n < k = grind (arith, nat_tests) in omega (arith, past last))
one_more_once k n m false same few past = omega (arith, few)

one_more_past : (k n m : ℕ) (b : Bool) → nat_eq (n + 1) k ≡ b → n + 1 < k → (n < k → m ≡ 0) → m + cond b 1 0 ≡ 0
one_more_past k n m true same past none = absurd (grind (arith, nat_tests))
one_more_past k n m false same past none = (let last : n < k = omega (arith, past) in omega (arith, none last))

one_more_before : (n m : ℕ) (b : Bool) → nat_eq (n + 1) 0 ≡ b → m ≡ 0 → m + cond b 1 0 ≡ 0
one_more_before n m true same none = absurd (grind (arith, nat_tests))
one_more_before n m false same none = omega (arith, none)

pub once_added : (is : List Interface) (p : Interface → Bool) (a : Address) → NumberedOnce is → list_any p is ≡ true → a.number ≡ added is + 1
    → NumberedOnce (change_first p (with_one_more a) is)
once_added is p a h there next =
    let all = added_one p a is there in
    record {
      once = λ k. rw (uses_added k p a is there) (one_more_once k (added is) (uses k is) (has_number k a) (ap (λ (m : ℕ). nat_eq m k) (sym next)) (h.once k) (h.none_past k));
      none_past = λ k past. (
          let far : added is + 1 < k = rw (← all) past in
          rw (uses_added k p a is there) (one_more_past k (added is) (uses k is) (has_number k a) (ap (λ (m : ℕ). nat_eq m k) (sym next)) far (h.none_past k)));
    }

pub none_before_added : (is : List Interface) (p : Interface → Bool) (a : Address) → uses 0 is ≡ 0 → list_any p is ≡ true → a.number ≡ added is + 1
    → uses 0 (change_first p (with_one_more a) is) ≡ 0
none_before_added is p a h there next =
    uses_added 0 p a is there ∙ one_more_before (added is) (uses 0 is) (has_number 0 a) (ap (λ (m : ℕ). nat_eq m 0) (sym next)) h

pub numbered_added : (n : ℕ) (is : List Interface) (p : Interface → Bool) (a : Address) → AreNumbered n is → list_any p is ≡ true → a.number ≡ added is + 1
    → AreNumbered (n + 1) (change_first p (with_one_more a) is)
numbered_added n is p a h there next = record {
  counted = added_one p a is there ∙ ap (λ (k : ℕ). k + 1) h.counted;
  numbers = once_added is p a h.numbers there next;
  few = omega (arith, length-change_first p (with_one_more a) is, h.few);
}

-- where all that is told of the addresses is the same
all_same : (was is : List Interface) → map told (addresses_of is) ≡ map told (addresses_of was) → added is ≡ added was
all_same was is same = sym (length-map (addresses_of is) told) ∙ ap (λ (xs : List Address). length xs) same ∙ length-map (addresses_of was) told

pub uses_same : (k : ℕ) (was is : List Interface) → map told (addresses_of is) ≡ map told (addresses_of was) → uses k is ≡ uses k was
uses_same k was is same = sym (count-map told (has_number k) (addresses_of is)) ∙ ap (λ (xs : List Address). count_by (has_number k) xs) same ∙ count-map told (has_number k) (addresses_of was)

pub once_same : (was is : List Interface) → map told (addresses_of is) ≡ map told (addresses_of was) → NumberedOnce was → NumberedOnce is
once_same was is same h =
    let each : (k : ℕ) → uses k is ≡ uses k was = λ k. uses_same k was is same in
    record {
      once = λ k. rw (each k) (h.once k);
      none_past = λ k past. (let less : added was < k = rw (← all_same was is same) past in rw (each k) (h.none_past k less));
    }

pub numbered_same : (n : ℕ) (was is : List Interface) → map told (addresses_of is) ≡ map told (addresses_of was) → length is ≡ length was → AreNumbered n was → AreNumbered n is
numbered_same n was is same len h = record {
  counted = all_same was is same ∙ h.counted;
  numbers = once_same was is same h.numbers;
  few = rw len h.few;
}

-- NUMBERS THAT ARE LEFT

-- the next number is no address's yet
pub next_free : (is : List Interface) → NumberedOnce is → find (has_number (added is + 1)) (addresses_of is) ≡ None
next_free is h = none_used (has_number (added is + 1)) (addresses_of is) (h.none_past (added is + 1) (omega arith))

-- where nothing refuses an interface there is room for it
second_passed : {F : Type 0} (a b : Bool) (x y : F) → first_fault (rule a x ∷ rule b y ∷ []) ≡ None → b ≡ false
second_passed true b x y h = cc
second_passed false true x y h = cc
second_passed false false x y h = refl

pub room_left : (name : List ℕ) (is : List Interface) → attach_fault name is ≡ None → length is < 64
room_left name is h =
    let test : nat_le 64 (length is) ≡ false = second_passed (list_any (has_name name) is) (nat_le 64 (length is)) EEXIST ENOSPC h in
    grind (arith, nat_tests)

-- what an interface holds is found by its number among all, since no other has it
pub found_in : (q : Address → Bool) (p : Interface → Bool) (is : List Interface) (i : Interface) (a : Address) → find p is ≡ Some i → find q i.addresses ≡ Some a
    → count_by (has_number a.number) (addresses_of is) ≤ 1 → find (has_number a.number) (addresses_of is) ≡ Some a
found_in q p [] i a h k few = cc
found_in q p (x ∷ is) i a h k few =
    let own = has_number a.number in
    let rest = addresses_of is in
    let parts : count_by own (x.addresses ++ rest) ≡ count_by own x.addresses + count_by own rest = sum_by-append (λ b. cond (own b) 1 0) x.addresses rest in
    elim (p x) as (λ b. cond b (Some x) (find p is) ≡ Some i → find own (x.addresses ++ rest) ≡ Some a) [
      | true ↦ λ e. (
          let same : x ≡ i = cc in
          let here : find q x.addresses ≡ Some a = ap (λ (y : Interface). find q y.addresses) same ∙ k in
          find-append own x.addresses rest ∙ ap (λ (o : Option Address). option_or o (find own rest)) (found_once q x.addresses a here (omega (arith, parts, few))))
      | false ↦ λ e. (
          let later : find own rest ≡ Some a = found_in q p is i a e k (omega (arith, parts, few)) in
          let some : 1 ≤ count_by own rest = one_used own rest a later in
          find-append own x.addresses rest ∙ ap (λ (o : Option Address). option_or o (find own rest)) (none_used own x.addresses (omega (arith, parts, few, some))) ∙ later)
    ] h
