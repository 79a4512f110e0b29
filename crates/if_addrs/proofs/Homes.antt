-- The home of a number leads to its address, and stays its home.
use Rattle.std.proofs.Common.{◌≡◌, ◌⊎◌, inl, inr, nat_eq, ℕ, zero, suc, ◌+◌, ◌<◌, ◌≤◌, ◌||◌, Bool, true, false, cond, if◌then◌else◌, List, [], ◌∷◌, ◌++◌, length, Option, Some, None, is_some, IsSome, option_map, nat_lt, slice_index_or, slice_set, refl, sym, ap, ◌∙◌, subst, arith, length-append}
use Rattle.std.specs.Prelude.{IfNone, IfSome, slice_get}
use Rattle.std.specs.List.{find, list_any, position, position_from, position_or_len}
use Rattle.std.specs.Borrow.{Bor}
use Rattle.std.specs.Option.{option_copied, option_or, option_map_or}
use Rattle.std.specs.Slice.{IsItemAt}
use Rattle.std.proofs.lemmas.Bool.Decides.{nat_tests}
use Rattle.std.proofs.lemmas.Iterator.Adapters.{position_from-zero}
use Rattle.std.proofs.lemmas.List.Folds.{find_at, find-append, list_any-append}
use Rattle.std.proofs.lemmas.Option.{slice_get-get_or, slice_get-map, slice_get_past, slice_get_read, slice_get_within}
use Rattle.sock_addrs.proofs.FirstLemmas.{IsFirst, change_first-set, first-position, found, length-change_first, map-change_first}
use Rattle.sock_addrs.specs.First.{change_first}
use Rattle.if_addrs.specs.declared.home.Home.{Home}
use Rattle.if_addrs.specs.declared.reference.IfaRef.TheVariants as ifa
use Rattle.if_addrs.specs.Homes.{AreAtHome, IsHome, addresses_at}
use Rattle.if_addrs.specs.Interfaces.{Address, Interface, addresses_of, added, changed, has_number, has_numbered, with_changed, with_one_more}
use Rattle.if_addrs.specs.Wanted.{marked, with_marked}
use Rattle.if_addrs.specs.declared.address.Mark.{Mark}
use Rattle.if_addrs.proofs.Adding.{none-left, none-right, own_number}
use Rattle.if_addrs.proofs.Marking.{marked_first}
use Rattle.if_addrs.proofs.Keeping.{anywhere, from_some, get-append, same_place, stays_added, stays_attached, stays_changed, told_same}
use Rattle.if_addrs.proofs.Numbers.{next_free, none_before_added, none_before_attached, none_used, numbered_added, numbered_attached, numbered_same, told, uses_same}
use Rattle.if_addrs.proofs.Searching.{or_true}

-- A PLACE BY RECURSION

-- one that is placed is there
some_placed : {X : Type 0} (r : X → Bool) (i : ℕ) (xs : List X) (j : ℕ) → position_from r i xs ≡ Some j → list_any r xs ≡ true
some_placed r i [] j h = cc
some_placed r i (x ∷ xs) j h = elim (r x) as (λ b. cond b (Some i) (position_from r (i + 1) xs) ≡ Some j → (b || list_any r xs) ≡ true)
    [ true ↦ λ k. refl | false ↦ λ k. some_placed r (i + 1) xs j k ] h

-- one more at the end that doesn't pass
none_behind : {X : Type 0} (r : X → Bool) (a : X) → r a ≡ false → (i : ℕ) (xs : List X) → position_from r i (xs ++ a ∷ []) ≡ position_from r i xs
none_behind r a h i [] = ap (λ (b : Bool). cond b (Some i) None) h
none_behind r a h i (x ∷ xs) = ap (λ (o : Option ℕ). cond (r x) (Some i) o) (none_behind r a h (i + 1) xs)

-- one more at the end that alone does
last_passes : {X : Type 0} (r : X → Bool) (a : X) → r a ≡ true → (i : ℕ) (xs : List X) → find r xs ≡ None → position_from r i (xs ++ a ∷ []) ≡ Some (i + length xs)
last_passes r a h i [] none = ap (λ (b : Bool). cond b (Some i) None) h ∙ ap (λ (n : ℕ). Some n) (omega arith)
last_passes r a h i (x ∷ xs) none =
    elim (r x) as (λ b. cond b (Some x) (find r xs) ≡ None → cond b (Some i) (position_from r (i + 1) (xs ++ a ∷ [])) ≡ Some (i + suc (length xs)))
    [ true ↦ λ k. cc | false ↦ λ k. last_passes r a h (i + 1) xs k ∙ ap (λ (n : ℕ). Some n) (omega arith) ] none

pub last_placed : {X : Type 0} (r : X → Bool) (a : X) (xs : List X) → r a ≡ true → find r xs ≡ None → position r (xs ++ a ∷ []) ≡ Some (length xs)
last_placed r a xs h none = position_from-zero r (xs ++ a ∷ []) ∙ last_passes r a h 0 xs none ∙ ap (λ (n : ℕ). Some n) (omega arith)

-- what is found stands at its place
given : (b : Bool) (n j : ℕ) → cond b (Some n) None ≡ Some j → n ≡ j
given true n j h = cc
given false n j h = cc

pub at_position : {X : Type 0} (q : X → Bool) (xs : List X) (j : ℕ) → position q xs ≡ Some j → find q xs ≡ slice_get xs j
at_position q xs j h = find_at q xs ∙ ap (λ (n : ℕ). slice_get xs n) (given (nat_lt (position_or_len q xs) (length xs)) (position_or_len q xs) j h)

-- A HOME LEADS TO THE ADDRESS

none_there : {X : Type 0} (o : Option X) → is_some o ≡ false → o ≡ None
none_there None h = refl
none_there (Some x) h = cc

there_first : {X : Type 0} (o p : Option X) → is_some o ≡ true → option_or o p ≡ o
there_first None p h = cc
there_first (Some x) p h = refl

-- the first interface that has the number has its address
found_there : (k : ℕ) (is : List Interface) (n : ℕ) (d : Interface) → IsFirst (has_numbered k) is n d → find (has_number k) (addresses_of is) ≡ find (has_number k) (addresses_at n is)
found_there k [] n d h = absurd (omega (arith, h.within))
found_there k (x ∷ is) zero d h =
    find-append (has_number k) x.addresses (addresses_of is)
    ∙ there_first (find (has_number k) x.addresses) (find (has_number k) (addresses_of is)) (sym (found (has_number k) x.addresses) ∙ h.passes)
found_there k (x ∷ is) (suc n) d h =
    find-append (has_number k) x.addresses (addresses_of is)
    ∙ ap (λ (o : Option Address). option_or o (find (has_number k) (addresses_of is)))
    (none_there (find (has_number k) x.addresses) (sym (found (has_number k) x.addresses) ∙ h.none_before 0 (omega arith)))
    ∙ found_there k is n d
    (record { within = omega (arith, h.within); passes = h.passes; none_before = λ j l. h.none_before (suc j) (omega (arith, l)) })

pub home_within : (k : ℕ) (home : Home) (is : List Interface) (d : Interface) → IsHome k home is → home.interface < length is
home_within k home is d h = (first-position (has_numbered k) is home.interface d h.interface).within

pub at_is : (place : ℕ) (is : List Interface) (d : Interface) → place < length is → addresses_at place is ≡ (slice_index_or is place d).addresses
at_is place is d h = ap (λ (o : Option Interface). option_map_or (λ i. i.addresses) o []) (slice_get-get_or is place d h)

pub home_address : (k : ℕ) (home : Home) (is : List Interface) (d : Interface) → IsHome k home is
    → find (has_number k) (addresses_of is) ≡ slice_get (slice_index_or is home.interface d).addresses home.address
home_address k home is d h =
    found_there k is home.interface d (first-position (has_numbered k) is home.interface d h.interface)
    ∙ at_position (has_number k) (addresses_at home.interface is) home.address h.address
    ∙ ap (λ (xs : List Address). slice_get xs home.address) (at_is home.interface is d (home_within k home is d h))

-- to mark the address at its home is to mark it by its number
pub home_marked : (k : ℕ) (home : Home) (is : List Interface) (mark : Mark) (new d : Interface) → IsHome k home is
    → new ≡ with_marked home.address mark d → d ≡ slice_index_or is home.interface d
    → slice_set is home.interface new ≡ changed (ifa.Inet k) (marked mark) is
home_marked k home is mark new d h one was =
    let first = first-position (has_numbered k) is home.interface d h.interface in
    let x = slice_index_or is home.interface d in
    let place : position (has_number k) x.addresses ≡ Some home.address = ap (λ (xs : List Address). position (has_number k) xs) (sym (at_is home.interface is d first.within)) ∙ h.address in
    change_first-set (has_numbered k) (with_changed k (marked mark)) is home.interface new d first
    (one ∙ ap (λ (i : Interface). with_marked home.address mark i) was ∙ ap (λ (xs : List Address). record x { addresses = xs }) (marked_first k home.address mark x.addresses place))

-- where there is no home there is no address
pub no_home : (homes : List Home) (is : List Interface) (k : ℕ) → AreAtHome homes is → slice_get homes k ≡ None → find (has_number (k + 1)) (addresses_of is) ≡ None
no_home homes is k h none = none_used (has_number (k + 1)) (addresses_of is) (h.numbered.numbers.none_past (k + 1) (omega (arith, h.numbered.counted, past homes k none)))
  where
    past : (hs : List Home) (k : ℕ) → slice_get hs k ≡ None → length hs ≤ k
    past [] k e = omega arith
    past (x ∷ hs) zero e = cc
    past (x ∷ hs) (suc k) e = (let rest = past hs k e in omega (arith, rest))

pub none_before_one : (homes : List Home) (is : List Interface) → AreAtHome homes is → find (has_number 0) (addresses_of is) ≡ None
none_before_one homes is h = none_used (has_number 0) (addresses_of is) h.none_before

-- so with what is kept of it
pub item_got : {X : Type 0} (xs : List X) (i : ℕ) (r : Option (Bor X)) → IsItemAt xs i r → option_copied r ≡ slice_get xs i
item_got xs i None h = sym (slice_get_past xs i h.3)
item_got xs i (Some x) h = sym (slice_get_read xs (length xs) i x.now refl h.3.0 h.1)

pub got_home : (homes : List Home) (is : List Interface) (n k : ℕ) (o : Option Home) → AreAtHome homes is → n ≡ k + 1 → o ≡ slice_get homes k → IfSome o (λ home. IsHome n home is)
got_home homes is n k None h number got = tt
got_home homes is n k (Some home) h number got = rw number (h.at_home k home (sym got))

pub got_none : (homes : List Home) (is : List Interface) (n k : ℕ) (o : Option Home) → AreAtHome homes is → n ≡ k + 1 → o ≡ slice_get homes k → IfNone o (find (has_number n) (addresses_of is) ≡ None)
got_none homes is n k None h number got = rw number (no_home homes is k h (sym got))
got_none homes is n k (Some home) h number got = tt

-- A HOME STAYS

home_there : (k : ℕ) (home : Home) (is : List Interface) → IsHome k home is → IsSome (find (has_number k) (addresses_of is))
home_there k home is h = from_some k is (some_placed (has_numbered k) 0 is home.interface (sym (position_from-zero (has_numbered k) is) ∙ h.interface))

-- at each place a search ends where it ended, if it does so on each interface
at_told : (r : Address → Bool) (o : Option Interface) → position r (option_map_or (λ i. i.addresses) o []) ≡ option_map_or (λ p. p) (option_map (λ (i : Interface). position r i.addresses) o) None
at_told r None = refl
at_told r (Some i) = refl

at_changed : (r : Address → Bool) (p : Interface → Bool) (f : Interface → Interface) → ((i : Interface) → position r (f i).addresses ≡ position r i.addresses)
    → (place : ℕ) (is : List Interface) → position r (addresses_at place (change_first p f is)) ≡ position r (addresses_at place is)
at_changed r p f same place is =
    let v : Interface → Option ℕ = λ i. position r i.addresses in
    at_told r (slice_get (change_first p f is) place)
    ∙ ap (λ (o : Option (Option ℕ)). option_map_or (λ p. p) o None)
    (sym (slice_get-map v (change_first p f is) place) ∙ ap (λ (xs : List (Option ℕ)). slice_get xs place) (map-change_first v p f same is) ∙ slice_get-map v is place)
    ∙ sym (at_told r (slice_get is place))

-- after one more interface
pub home_attached : (k : ℕ) (home : Home) (is : List Interface) (i : Interface) → i.addresses ≡ [] → IsHome k home is → IsHome k home (is ++ i ∷ [])
home_attached k home is i none h = record {
  interface = (stays_attached is i none).places k (home_there k home is h) ∙ h.interface;
  address =
      ap (λ (o : Option Interface). position (has_number k) (option_map_or (λ i. i.addresses) o [])) (get-append is (i ∷ []) home.interface (home_within k home is i h)) ∙ h.address;
}

-- after a change of an address that keeps its number
pub home_changed : (f : Address → Address) → ((a : Address) → told (f a) ≡ told a) → (n k : ℕ) (home : Home) (is : List Interface) → IsHome k home is → IsHome k home (changed (ifa.Inet n) f is)
home_changed f same n k home is h = record {
  interface = (stays_changed f same n is).places k (home_there k home is h) ∙ h.interface;
  address =
      at_changed (has_number k) (has_numbered n) (with_changed n f)
      (λ i. same_place (has_number k) (has_number n) f (λ a. ap (λ (b : Address). has_number k b) (same a)) i.addresses) home.interface is
      ∙ h.address;
}

-- after one more address with another number
first_false : (b c : Bool) → (b || c) ≡ false → b ≡ false
first_false true c h = cc
first_false false c h = refl

then_false : (b c : Bool) → (b || c) ≡ false → c ≡ false
then_false true c h = cc
then_false false c h = h

set_there : (is : List Interface) (place : ℕ) (new : Interface) → place < length is → addresses_at place (slice_set is place new) ≡ new.addresses
set_there [] place new h = absurd (omega (arith, h))
set_there (x ∷ is) zero new h = refl
set_there (x ∷ is) (suc place) new h = set_there is place new (omega (arith, h))

-- what none has none of one interface has
none_at : (q : Address → Bool) (is : List Interface) (place : ℕ) (d : Interface) → place < length is → find q (addresses_of is) ≡ None → find q (slice_index_or is place d).addresses ≡ None
none_at q [] place d h none = absurd (omega (arith, h))
none_at q (x ∷ is) zero d h none = none-left _ _ (sym (find-append q x.addresses (addresses_of is)) ∙ none)
none_at q (x ∷ is) (suc place) d h none = none_at q is place d (omega (arith, h)) (none-right _ _ (sym (find-append q x.addresses (addresses_of is)) ∙ none))

-- an interface has no more addresses than all have
pub few_at : (is : List Interface) (place : ℕ) (d : Interface) → place < length is → length (slice_index_or is place d).addresses ≤ added is
few_at [] place d h = absurd (omega (arith, h))
few_at (x ∷ is) zero d h = omega (arith, length-append x.addresses (addresses_of is))
few_at (x ∷ is) (suc place) d h = omega (arith, length-append x.addresses (addresses_of is), few_at is place d (omega (arith, h)))

module _ (p : Interface → Bool) (a : Address) (is : List Interface) (new : find (has_number a.number) (addresses_of is) ≡ None) where
  pub home_added : (k : ℕ) (home : Home) → has_number k a ≡ false → IsHome k home is → IsHome k home (change_first p (with_one_more a) is)
  home_added k home other h = record {
    interface = (stays_added p a is new).places k (home_there k home is h) ∙ h.interface;
    address =
        at_changed (has_number k) p (with_one_more a)
        (λ i. position_from-zero (has_number k) (i.addresses ++ a ∷ []) ∙ none_behind (has_number k) a other 0 i.addresses ∙ sym (position_from-zero (has_number k) i.addresses))
        home.interface is
        ∙ h.address;
  }

  -- and the new one has a home
  named_first : (i : ℕ) (at : ℕ) (xs : List Interface) → list_any (has_numbered a.number) xs ≡ false → position_from p i xs ≡ Some at
      → position_from (has_numbered a.number) i (change_first p (with_one_more a) xs) ≡ Some at
  named_first i at [] none h = cc
  named_first i at (x ∷ xs) none h =
      let own = has_numbered a.number in
      elim (p x) as (λ b. cond b (Some i) (position_from p (i + 1) xs) ≡ Some at → position_from own i (if b then with_one_more a x ∷ xs else x ∷ change_first p (with_one_more a) xs) ≡ Some at) [
        | true ↦ λ k. ap (λ (b : Bool). cond b (Some i) (position_from own (i + 1) xs)) (has_new x) ∙ k
        | false ↦ λ k.
            ap (λ (b : Bool). cond b (Some i) (position_from own (i + 1) (change_first p (with_one_more a) xs))) (first_false _ _ none)
            ∙ named_first (i + 1) at xs (then_false _ _ none) k
      ] h
    where
      has_new : (x : Interface) → has_numbered a.number (with_one_more a x) ≡ true
      has_new x = list_any-append (has_number a.number) x.addresses (a ∷ []) ∙ ap (λ (b : Bool). has_numbered a.number x || (b || false)) (own_number a) ∙ or_true (has_numbered a.number x)

  pub home_new : (home : Home) (d : Interface) → position p is ≡ Some home.interface → home.address ≡ length (slice_index_or is home.interface d).addresses
      → IsHome a.number home (change_first p (with_one_more a) is)
  home_new home d place last =
      let first = first-position p is home.interface d place in
      let x = slice_index_or is home.interface d in
      let none : list_any (has_numbered a.number) is ≡ false = sym (anywhere a.number is) ∙ found (has_number a.number) (addresses_of is) ∙ ap (λ (o : Option Address). is_some o) new in
      let set : slice_set is home.interface (with_one_more a x) ≡ change_first p (with_one_more a) is = change_first-set p (with_one_more a) is home.interface (with_one_more a x) d first refl in
      record {
        interface =
            position_from-zero (has_numbered a.number) (change_first p (with_one_more a) is)
            ∙ named_first 0 home.interface is none (sym (position_from-zero p is) ∙ place);
        address =
            ap (λ (xs : List Interface). position (has_number a.number) (addresses_at home.interface xs)) (sym set)
            ∙ ap (λ (xs : List Address). position (has_number a.number) xs) (set_there is home.interface (with_one_more a x) first.within)
            ∙ last_placed (has_number a.number) a x.addresses (own_number a) (none_at (has_number a.number) is home.interface d first.within new)
            ∙ ap (λ (n : ℕ). Some n) (sym last);
      }

-- ALL OF THEM

pub attached_at_home : (homes : List Home) (is : List Interface) (i : Interface) → AreAtHome homes is → i.addresses ≡ [] → length is < 64 → AreAtHome homes (is ++ i ∷ [])
attached_at_home homes is i h none room = record {
  numbered = numbered_attached (length homes) is i h.numbered none room;
  none_before = none_before_attached is i h.none_before none;
  at_home = λ k home there. home_attached (k + 1) home is i none (h.at_home k home there);
}

pub changed_at_home : (homes : List Home) (f : Address → Address) → ((a : Address) → told (f a) ≡ told a) → (n : ℕ) (is : List Interface) → AreAtHome homes is → AreAtHome homes (changed (ifa.Inet n) f is)
changed_at_home homes f same n is h = record {
  numbered = numbered_same (length homes) is (changed (ifa.Inet n) f is) (told_same f same n is) (length-change_first (has_numbered n) (with_changed n f) is) h.numbered;
  none_before = uses_same 0 is (changed (ifa.Inet n) f is) (told_same f same n is) ∙ h.none_before;
  at_home = λ k home there. home_changed f same n (k + 1) home is (h.at_home k home there);
}

get_pushed : (hs : List Home) (new : Home) (k : ℕ) (home : Home) → slice_get (hs ++ new ∷ []) k ≡ Some home → (slice_get hs k ≡ Some home) ⊎ ((k ≡ length hs) × (new ≡ home))
get_pushed [] new zero home h = inr (refl, cc)
get_pushed [] new (suc k) home h = cc
get_pushed (x ∷ hs) new zero home h = inl h
get_pushed (x ∷ hs) new (suc k) home h = elim (get_pushed hs new k home h)
    [ inl there ↦ inl there | inr last ↦ inr (ap suc last.0, last.1) ]

pub added_at_home : (homes : List Home) (new : Home) (p : Interface → Bool) (a : Address) (is : List Interface) (d : Interface) → AreAtHome homes is
    → position p is ≡ Some new.interface → a.number ≡ added is + 1 → new.address ≡ length (slice_index_or is new.interface d).addresses
    → AreAtHome (homes ++ new ∷ []) (change_first p (with_one_more a) is)
added_at_home homes new p a is d h place next last =
    let there : list_any p is ≡ true = some_placed p 0 is new.interface (sym (position_from-zero p is) ∙ place) in
    let free : find (has_number a.number) (addresses_of is) ≡ None = ap (λ (n : ℕ). find (has_number n) (addresses_of is)) next ∙ next_free is h.numbered.numbers in
    let many : length (homes ++ new ∷ []) ≡ length homes + 1 = length-append homes (new ∷ []) in
    record {
      numbered = rw many (numbered_added (length homes) is p a h.numbered there next);
      none_before = none_before_added is p a h.none_before there next;
      at_home = λ k home got. elim (get_pushed homes new k home got) [
        | inl old ↦ home_added p a is free (k + 1) home (another homes k home a.number (next ∙ ap (λ (n : ℕ). n + 1) h.numbered.counted) old) (h.at_home k home old)
        | inr one ↦ (
            let number : k + 1 ≡ a.number = ap (λ (n : ℕ). n + 1) (one.0 ∙ sym h.numbered.counted) ∙ sym next in
            subst (λ (x : Home). IsHome (k + 1) x (change_first p (with_one_more a) is)) one.1
            (subst (λ (n : ℕ). IsHome n new (change_first p (with_one_more a) is)) (sym number) (home_new p a is free new d place last)))
      ];
    }
  where
    another : (hs : List Home) (k : ℕ) (home : Home) (n : ℕ) → n ≡ length hs + 1 → slice_get hs k ≡ Some home → nat_eq n (k + 1) ≡ false
    another hs k home n e got = (let less : k < length hs = slice_get_within hs k home got in grind (arith, nat_tests))
