-- A reference to an interface address is good for good: it stays one, of the same address and the same interface.
use Rattle.std.proofs.Common.{◌≡◌, ℕ, zero, suc, ◌+◌, ◌<◌, ◌≤◌, ◌||◌, Bool, true, false, cond, if◌then◌else◌, List, [], ◌∷◌, ◌++◌, length, map, Option, Some, None, is_some, IsSome, option_map, nat_eq, nat_lt, not, unwrap_or, refl, sym, ap, ◌∙◌, subst, arith, rules, length-append, append-nil}
use Rattle.std.specs.Prelude.{slice_get}
use Rattle.std.specs.List.{find, list_any, flat_map, position, position_or_len}
use Rattle.std.specs.Option.{option_or}
use Rattle.std.proofs.lemmas.Bool.Decides.{nat_tests}
use Rattle.std.proofs.lemmas.Grind.{flat_map-append}
use Rattle.std.proofs.lemmas.List.{length-map, map-append}
use Rattle.std.proofs.lemmas.List.Folds.{find-append, list_any-append}
use Rattle.std.proofs.lemmas.Option.{slice_get-map}
use Rattle.sock_addrs.proofs.FirstLemmas.{map-change_first, length-change_first, found, find-map, list_any-map, none-position}
use Rattle.sock_addrs.specs.First.{change_first}
use Rattle.if_addrs.specs.declared.reference.IfaRef.TheVariants as ifa
use Rattle.sock_addrs.specs.declared.gate.Gate.TheVariants as gate
use Rattle.if_addrs.specs.Interfaces.{Address, Interface, addresses_of, address_of, changed, has_number, has_numbered, link_text, link_text_of, with_changed, with_one_more}
use Rattle.if_addrs.specs.Wanted.{marked}
use Rattle.if_addrs.specs.declared.address.Mark.{Mark}
use Rattle.if_addrs.specs.declared.address.Mark.TheVariants.{Routed, Gone}
use Rattle.if_addrs.specs.Keeping.{KeepsIfas, SameIfas}
use Rattle.if_addrs.proofs.Numbers.{told}

-- A TEST THAT AN ELEMENT PASSES HAS A PLACE

placed : {X : Type 0} (o : Option ℕ) (f : Option X) → (o ≡ None → f ≡ None) → is_some f ≡ true → IsSome o
placed None f g h = (let none = g refl in cc)
placed (Some i) f g h = search rules

pub has_place : {X : Type 0} (r : X → Bool) (xs : List X) → list_any r xs ≡ true → IsSome (position r xs)
has_place r xs h = placed (position r xs) (find r xs) (none-position r xs) (sym (found r xs) ∙ h)

-- WHAT DECIDES WHAT A REFERENCE MEANS: the addresses by their numbers, which interface has a number, and the link texts

-- all that is told of the addresses and of their places stays, of those numbers that are given
pub record Stays (old new : List Interface) : Type 0 where
  pub addresses : (k : ℕ) → IsSome (find (has_number k) (addresses_of old)) → option_map told (find (has_number k) (addresses_of new)) ≡ option_map told (find (has_number k) (addresses_of old))
  pub places : (k : ℕ) → IsSome (find (has_number k) (addresses_of old)) → position (has_numbered k) new ≡ position (has_numbered k) old
  pub links : (place : ℕ) → place < length old → (index : ℕ) → option_map (link_text index) (slice_get new place) ≡ option_map (link_text index) (slice_get old place)
  pub longer : length old ≤ length new

is_there : (o p : Option Address) → option_map told o ≡ option_map told p → IsSome p → IsSome o
is_there None None e h = h
is_there None (Some a) e h = cc
is_there (Some a) p e h = search rules

text_told : (o : Option Address) → option_map (λ a. gate.Inet a.address) o ≡ option_map (λ a. gate.Inet a.address) (option_map told o)
text_told None = refl
text_told (Some a) = refl

pub keeps_by : (old new : List Interface) → Stays old new → KeepsIfas old new
keeps_by old new s (ifa.Inet k) h = is_there (address_of (ifa.Inet k) new) (address_of (ifa.Inet k) old) (s.addresses k h) h
keeps_by old new s (ifa.Link index) h = (h.0, omega (arith, h.1, s.longer))

link_same : (old new : List Interface) (index : ℕ) → Stays old new → 1 ≤ index → index ≤ length old → link_text_of index new ≡ link_text_of index old
link_same old new zero s first last = absurd (omega (arith, first))
link_same old new (suc place) s first last = s.links place (omega (arith, last)) (suc place)

pub same_by : (old new : List Interface) → Stays old new → SameIfas old new
same_by old new s (ifa.Inet k) h = (
  text_told (address_of (ifa.Inet k) new) ∙ ap (λ (o : Option Address). option_map (λ a. gate.Inet a.address) o) (s.addresses k h) ∙ sym (text_told (address_of (ifa.Inet k) old)),
  ap (λ (o : Option ℕ). unwrap_or o 0 + 1) (s.places k h),
)
same_by old new s (ifa.Link index) h = (ap (λ (o : Option (List ℕ)). option_map (λ t. gate.Link t) o) (link_same old new index s h.0 h.1), refl)

pub stays_self : (is : List Interface) → Stays is is
stays_self is = record { addresses = λ k h. refl; places = λ k h. refl; links = λ place h index. refl; longer = omega arith }

-- A PLACE BY A TEST

-- where the test says the same of each, the place is the same
place-tests : {X : Type 0} (r : X → Bool) (xs : List X) → position_or_len r xs ≡ position_or_len (λ b. b) (map r xs)
place-tests r [] = refl
place-tests r (x ∷ xs) = ap (λ n. cond (not (r x)) (1 + n) 0) (place-tests r xs)

position-tests : {X : Type 0} (r : X → Bool) (xs : List X) → position r xs ≡ position (λ b. b) (map r xs)
position-tests r xs =
    ap (λ (n : ℕ). cond (nat_lt n (length xs)) (Some n) None) (place-tests r xs)
    ∙ ap (λ (m : ℕ). cond (nat_lt (position_or_len (λ b. b) (map r xs)) m) (Some (position_or_len (λ b. b) (map r xs))) None) (sym (length-map xs r))

pub same_place : {X : Type 0} (r : X → Bool) (p : X → Bool) (f : X → X) → ((x : X) → r (f x) ≡ r x) → (xs : List X) → position r (change_first p f xs) ≡ position r xs
same_place r p f same xs =
    position-tests r (change_first p f xs) ∙ ap (λ (bs : List Bool). position (λ b. b) bs) (map-change_first r p f same xs) ∙ sym (position-tests r xs)

-- the interfaces' link texts stay where each stays
same_links : (p : Interface → Bool) (f : Interface → Interface) (is : List Interface) (place index : ℕ) → ((i : Interface) → link_text index (f i) ≡ link_text index i)
    → option_map (link_text index) (slice_get (change_first p f is) place) ≡ option_map (link_text index) (slice_get is place)
same_links p f is place index same =
    sym (slice_get-map (link_text index) (change_first p f is) place)
    ∙ ap (λ (ts : List (List ℕ)). slice_get ts place) (map-change_first (link_text index) p f same is)
    ∙ slice_get-map (link_text index) is place

-- AFTER A MARK

pub mark_untold : (m : Mark) (a : Address) → told (marked m a) ≡ told a
mark_untold Routed a = refl
mark_untold Gone a = refl

told_on : (is : List Interface) → flat_map (λ (i : Interface). map told i.addresses) is ≡ map told (addresses_of is)
told_on [] = refl
told_on (i ∷ is) = ap (λ (xs : List Address). map told i.addresses ++ xs) (told_on is) ∙ sym (map-append told i.addresses (addresses_of is))

flat_same : {Y : Type 0} (w : Interface → List Y) (p : Interface → Bool) (f : Interface → Interface) → ((i : Interface) → w (f i) ≡ w i) → (is : List Interface) → flat_map w (change_first p f is) ≡ flat_map w is
flat_same w p f same [] = refl
flat_same w p f same (i ∷ is) = elim (p i) as (λ b. flat_map w (if b then f i ∷ is else i ∷ change_first p f is) ≡ w i ++ flat_map w is)
    [ true ↦ ap (λ ys. ys ++ flat_map w is) (same i) | false ↦ ap (λ ys. w i ++ ys) (flat_same w p f same is) ]

module _ (f : Address → Address) (same : (a : Address) → told (f a) ≡ told a) where
  pub told_same : (k : ℕ) (is : List Interface) → map told (addresses_of (changed (ifa.Inet k) f is)) ≡ map told (addresses_of is)
  told_same k is =
      let next = change_first (has_numbered k) (with_changed k f) is in
      sym (told_on next)
      ∙ flat_same (λ (i : Interface). map told i.addresses) (has_numbered k) (with_changed k f) (λ i. map-change_first told (has_number k) f same i.addresses) is
      ∙ told_on is

  numbers_same : (n k : ℕ) (i : Interface) → has_numbered n (with_changed k f i) ≡ has_numbered n i
  numbers_same n k i =
      sym (list_any-map told (has_number n) (change_first (has_number k) f i.addresses))
      ∙ ap (λ (xs : List Address). list_any (has_number n) xs) (map-change_first told (has_number k) f same i.addresses)
      ∙ list_any-map told (has_number n) i.addresses

  pub stays_changed : (k : ℕ) (is : List Interface) → Stays is (changed (ifa.Inet k) f is)
  stays_changed k is = record {
    addresses = λ n h.
        sym (find-map told (has_number n) (addresses_of (changed (ifa.Inet k) f is)))
        ∙ ap (λ (xs : List Address). find (has_number n) xs) (told_same k is)
        ∙ find-map told (has_number n) (addresses_of is);
    places = λ n h. same_place (has_numbered n) (has_numbered k) (with_changed k f) (numbers_same n k) is;
    links = λ place h index. same_links (has_numbered k) (with_changed k f) is place index (λ i. refl);
    longer = omega (arith, length-change_first (has_numbered k) (with_changed k f) is);
  }

-- AFTER ONE MORE INTERFACE

-- a number is an address's where an interface has it
pub anywhere : (k : ℕ) (is : List Interface) → list_any (has_number k) (addresses_of is) ≡ list_any (has_numbered k) is
anywhere k [] = refl
anywhere k (i ∷ is) = list_any-append (has_number k) i.addresses (addresses_of is) ∙ ap (λ b. has_numbered k i || b) (anywhere k is)

pub on_some : (k : ℕ) (is : List Interface) → IsSome (find (has_number k) (addresses_of is)) → list_any (has_numbered k) is ≡ true
on_some k is h = sym (anywhere k is) ∙ (found (has_number k) (addresses_of is) ∙ h)

pub from_some : (k : ℕ) (is : List Interface) → list_any (has_numbered k) is ≡ true → IsSome (find (has_number k) (addresses_of is))
from_some k is h = sym (found (has_number k) (addresses_of is)) ∙ (anywhere k is ∙ h)

pub has_number_place : (k : ℕ) (is : List Interface) → IsSome (find (has_number k) (addresses_of is)) → IsSome (position (has_numbered k) is)
has_number_place k is h = has_place (has_numbered k) is (on_some k is h)

module _ {X : Type 0} (r : X → Bool) (ys : List X) where
  first-append : (xs : List X) → list_any r xs ≡ true → position_or_len r (xs ++ ys) ≡ position_or_len r xs
  first-append [] h = cc
  first-append (x ∷ xs) h =
      elim (r x) as (λ b. (b || list_any r xs) ≡ true → cond (not b) (1 + position_or_len r (xs ++ ys)) 0 ≡ cond (not b) (1 + position_or_len r xs) 0)
      [ true ↦ λ k. refl | false ↦ λ k. ap (λ n. 1 + n) (first-append xs k) ] h

  first-within : (xs : List X) → list_any r xs ≡ true → position_or_len r xs < length xs
  first-within [] h = cc
  first-within (x ∷ xs) h =
      elim (r x) as (λ b. (b || list_any r xs) ≡ true → cond (not b) (1 + position_or_len r xs) 0 < suc (length xs))
      [ true ↦ λ k. omega arith | false ↦ λ k. omega (arith, first-within xs k) ] h

  pub place-append : (xs : List X) → list_any r xs ≡ true → position r (xs ++ ys) ≡ position r xs
  place-append xs h =
      let here = first-within xs h in
      let fits : nat_lt (position_or_len r xs) (length xs) ≡ true = grind (arith, nat_tests) in
      let more : nat_lt (position_or_len r xs) (length (xs ++ ys)) ≡ true = grind (arith, nat_tests, length-append xs ys) in
      rw (first-append xs h, fits, more) refl

pub get-append : {X : Type 0} (xs ys : List X) (k : ℕ) → k < length xs → slice_get (xs ++ ys) k ≡ slice_get xs k
get-append [] ys k h = absurd (omega (arith, h))
get-append (x ∷ xs) ys zero h = refl
get-append (x ∷ xs) ys (suc k) h = get-append xs ys k (omega (arith, h))

pub stays_attached : (is : List Interface) (i : Interface) → i.addresses ≡ [] → Stays is (is ++ i ∷ [])
stays_attached is i none =
    let same : addresses_of (is ++ i ∷ []) ≡ addresses_of is = flat_map-append (λ (i : Interface). i.addresses) is (i ∷ []) ∙ rw none (append-nil (addresses_of is)) in
    record {
      addresses = λ k h. ap (λ (xs : List Address). option_map told (find (has_number k) xs)) same;
      places = λ k h. place-append (has_numbered k) (i ∷ []) is (on_some k is h);
      links = λ place h index. ap (λ (o : Option Interface). option_map (link_text index) o) (get-append is (i ∷ []) place h);
      longer = omega (arith, length-append is (i ∷ []));
    }

-- AFTER ONE MORE ADDRESS

find_flat_same : (q : Address → Bool) (p : Interface → Bool) (f : Interface → Interface) → ((i : Interface) → find q (f i).addresses ≡ find q i.addresses) → (is : List Interface) → find q (addresses_of (change_first p f is)) ≡ find q (addresses_of is)
find_flat_same q p f same [] = refl
find_flat_same q p f same (i ∷ is) =
    elim (p i) as (λ b. find q (addresses_of (if b then f i ∷ is else i ∷ change_first p f is)) ≡ find q (i.addresses ++ addresses_of is)) [
      | true ↦ find-append q (f i).addresses (addresses_of is) ∙ ap (λ (o : Option Address). option_or o (find q (addresses_of is))) (same i) ∙ sym (find-append q i.addresses (addresses_of is))
      | false ↦ find-append q i.addresses (addresses_of (change_first p f is)) ∙ ap (λ (o : Option Address). option_or (find q i.addresses) o) (find_flat_same q p f same is) ∙ sym (find-append q i.addresses (addresses_of is))
    ]

or_none : {X : Type 0} (o : Option X) → option_or o None ≡ o
or_none None = refl
or_none (Some x) = refl

or_false : (b : Bool) → (b || false) ≡ b
or_false true = refl
or_false false = refl

module _ (k : ℕ) (a : Address) (other : has_number k a ≡ false) where
  none_new : (i : Interface) → find (has_number k) (with_one_more a i).addresses ≡ find (has_number k) i.addresses
  none_new i =
      find-append (has_number k) i.addresses (a ∷ [])
      ∙ ap (λ (b : Bool). option_or (find (has_number k) i.addresses) (cond b (Some a) None)) other
      ∙ or_none (find (has_number k) i.addresses)

  not_new : (i : Interface) → has_numbered k (with_one_more a i) ≡ has_numbered k i
  not_new i =
      list_any-append (has_number k) i.addresses (a ∷ [])
      ∙ ap (λ (b : Bool). has_numbered k i || (b || false)) other
      ∙ or_false (has_numbered k i)

-- the new address has a number that no other has
pub stays_added : (p : Interface → Bool) (a : Address) (is : List Interface) → find (has_number a.number) (addresses_of is) ≡ None → Stays is (change_first p (with_one_more a) is)
stays_added p a is new =
    let other : (k : ℕ) → IsSome (find (has_number k) (addresses_of is)) → has_number k a ≡ false = λ k h. another k h in
    record {
      addresses = λ k h. ap (λ (o : Option Address). option_map told o) (find_flat_same (has_number k) p (with_one_more a) (none_new k a (other k h)) is);
      places = λ k h. same_place (has_numbered k) p (with_one_more a) (not_new k a (other k h)) is;
      links = λ place h index. same_links p (with_one_more a) is place index (λ i. refl);
      longer = omega (arith, length-change_first p (with_one_more a) is);
    }
  where
    some_none : (o : Option Address) → IsSome o → o ≡ None → ⊥
    some_none None h e = cc
    some_none (Some a) h e = cc

    another : (k : ℕ) → IsSome (find (has_number k) (addresses_of is)) → has_number k a ≡ false
    another k h = elim (nat_eq a.number k) as (λ b. nat_eq a.number k ≡ b → b ≡ false) [
      | true ↦ λ e. (let same : a.number ≡ k = grind (arith, nat_tests) in absurd (some_none (find (has_number k) (addresses_of is)) h (subst (λ (n : ℕ). find (has_number n) (addresses_of is) ≡ None) same new)))
      | false ↦ λ e. refl
    ] refl
