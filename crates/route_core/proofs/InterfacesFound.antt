-- In a world the interface of an interface address is found, and a new address, or one that is found and goes, is shown
-- with its own interface.
use Rattle.std.proofs.Common.{◌≡◌, ℕ, zero, suc, ◌+◌, ◌<◌, ◌≤◌, ◌||◌, Bool, true, false, cond, not, List, [], ◌∷◌, length, Option, Some, None, IsSome, refl, sym, ap, ◌∙◌, subst, arith, nat_eq, nat_lt}
use Rattle.std.specs.Prelude.{IsSomeAnd, Ok, count_by, if◌then◌else◌, ◌&&◌, is_some, ok_or, option_map, slice_get, slice_index_or, unwrap_or}
use Rattle.std.specs.List.{find, list_any, position, position_or_len}
use Rattle.std.proofs.lemmas.Bool.Decides.{nat_tests}
use Rattle.std.proofs.lemmas.List.Sums.{sum_by-append}
use Rattle.std.proofs.lemmas.Option.{slice_get-get_or, slice_get_past}
use Rattle.sock_addrs.specs.First.{change_first}
use Rattle.sock_addrs.specs.declared.errno.Errno.TheVariants.{EADDRNOTAVAIL}
use Rattle.sock_addrs.specs.declared.families.TheConstants.{AF_INET}
use Rattle.sock_addrs.proofs.FirstLemmas.{find-first, first-position, found, length-change_first}
use Rattle.if_addrs.specs.Facts.{facts_of}
use Rattle.if_addrs.specs.Interfaces.{Address, Interface, IsOf, added, address_of, addresses_of, found_on, has_name, has_number, has_numbered, interface_numbered, interface_of, is_at, kind_of, link_text, link_text_of, named, new_address, reference, with_one_more}
use Rattle.if_addrs.specs.declared.reference.Facts.{Facts}
use Rattle.if_addrs.specs.declared.reference.IfaRef.{IfaRef}
use Rattle.if_addrs.specs.declared.reference.IfaRef.TheVariants.{Inet, Link}
use Rattle.if_addrs.proofs.Adding.{is_named}
use Rattle.if_addrs.proofs.Keeping.{from_some, has_number_place, has_place, stays_added}
use Rattle.if_addrs.proofs.Numbers.{found_in, found_once, next_free, none_used, one_used}
use Rattle.radix_tree.specs.declared.entry.Entry.{Entry}
use Rattle.radix_tree.proofs.ListLemmas.{all_weaker}
use Rattle.route_entries.specs.declared.route.Route.{Route}
use Rattle.route_ops.specs.Addressing.{address_entry, withdrawn}
use Rattle.route_ops.specs.Tables.{IsRouteOf}
use Rattle.route_core.specs.Messages.{address_added, address_removed, route_added, route_deleted}
use Rattle.route_core.specs.Step.{Effect, take_route}
use Rattle.route_core.specs.Telling.{Told, told}
use Rattle.route_core.specs.World.{World}
use Rattle.route_core.specs.Worlds.{FoundAddressIsThere, GoneAddressShowsItsInterface, Has, IsOn, IsWorld, NewAddressShowsItsInterface, RoutesHaveInterfaces, Shows, told_going}
use Rattle.route_core.proofs.Effecting.{taking}
use Rattle.route_core.proofs.WorldsKept.{has_new}

-- ---- an element at its place

placed : {X : Type 0} (p : X → Bool) (xs : List X) (at : ℕ) → position p xs ≡ Some at
    → IsSomeAnd (slice_get xs at) (λ x. p x ≡ true)
placed p [] at h = absurd (cc)
placed p (x ∷ xs) at h =
    let f = first-position p (x ∷ xs) at x h in
    subst (λ o. IsSomeAnd o (λ y. p y ≡ true)) (sym (slice_get-get_or (x ∷ xs) at x f.within)) f.passes

numbered_next : (at : ℕ) (is : List Interface) → interface_numbered (at + 1) is ≡ slice_get is at
numbered_next at is = let next : at + 1 ≡ suc at = omega arith in ap (λ n. interface_numbered n is) next

-- ---- the interface of an interface address

on_place : (k : ℕ) (is : List Interface) (o : Option ℕ) → position (has_numbered k) is ≡ o → IsSome o
    → IsSomeAnd (interface_numbered (unwrap_or o 0 + 1) is) (Has (Inet k))
on_place k is None e h = absurd (cc)
on_place k is (Some at) e h = subst (λ o. IsSomeAnd o (Has (Inet k))) (sym (numbered_next at is))
    (placed (has_numbered k) is at e)

within : (place : ℕ) (is : List Interface) → place < length is → IsSomeAnd (slice_get is place) (Has (Link (suc place)))
within place [] h = absurd (omega (arith, h))
within place (i ∷ is) h = subst (λ o. IsSomeAnd o (Has (Link (suc place))))
    (sym (slice_get-get_or (i ∷ is) place i h)) tt

is_on : (is : List Interface) (i : IfaRef) → IsOf i is → IsOn is i
is_on is (Inet k) h = on_place k is (position (has_numbered k) is) refl (has_number_place k is h)
is_on is (Link zero) h = absurd (omega (arith, h.0))
is_on is (Link (suc place)) h = within place is (omega (arith, h.1))

pub routes_have_interfaces : RoutesHaveInterfaces
routes_have_interfaces w h =
    all_weaker (IsRouteOf w.interfaces) (λ r. IsOn w.interfaces r.value.ifa)
    (λ r is. is_on w.interfaces r.value.ifa is.ifa)
    w.table h.table.routes

-- ---- the interface of a new address

or_first : (a b : Bool) → (a || b) ≡ false → (a ≡ false) × (b ≡ false)
or_first true b h = absurd (cc)
or_first false b h = (refl, h)

-- its number is first told where it was added
new_first : (p : Interface → Bool) (a : Address) (is : List Interface) → list_any (has_numbered a.number) is ≡ false
    → position_or_len (has_numbered a.number) (change_first p (with_one_more a) is) ≡ position_or_len p is
new_first p a [] none = refl
new_first p a (i ∷ is) none =
    let other = or_first (has_numbered a.number i) (list_any (has_numbered a.number) is) none in
    elim (p i) as (λ b. position_or_len (has_numbered a.number)
    (if b then with_one_more a i ∷ is else i ∷ change_first p (with_one_more a) is)
    ≡ cond (not b) (1 + position_or_len p is) 0) [
      | true ↦ rw (has_new a i) refl
      | false ↦ rw other.0 (ap (λ n. 1 + n) (new_first p a is other.1))
    ]

new_place : (p : Interface → Bool) (a : Address) (is : List Interface) → list_any (has_numbered a.number) is ≡ false
    → position (has_numbered a.number) (change_first p (with_one_more a) is) ≡ position p is
new_place p a is none =
    let next = change_first p (with_one_more a) is in
    ap (λ (n : ℕ). cond (nat_lt n (length next)) (Some n) None) (new_first p a is none)
    ∙ ap (λ (m : ℕ). cond (nat_lt (position_or_len p is) m) (Some (position_or_len p is)) None)
    (length-change_first p (with_one_more a) is)

none_there : (o : Option Address) → o ≡ None → IsSome o → ⊥
none_there None e h = cc
none_there (Some a) e h = cc

-- a number that no address has is on no interface
none_on : (k : ℕ) (is : List Interface) → find (has_number k) (addresses_of is) ≡ None
    → list_any (has_numbered k) is ≡ false
none_on k is none =
    elim (list_any (has_numbered k) is) as (λ b. list_any (has_numbered k) is ≡ b → b ≡ false) [
      | true ↦ λ e. absurd (none_there (find (has_number k) (addresses_of is)) none (from_some k is e))
      | false ↦ λ e. refl
    ] refl

-- what is told shows the number and the link text that are found
shown : (address : ℕ) (facts : Facts) (r : Entry Route) (is : List Interface) (index : ℕ) (i : Interface)
    → interface_of r.value.ifa is ≡ index → link_text_of index is ≡ Some (link_text index i)
    → Shows address facts r is index i
shown address facts r is index i at link =
    let ts : ℕ → List ℕ → List Told =
    λ n text. told (address_added n text address facts) AF_INET None ∷ told (route_added n r) AF_INET None ∷ [] in
    ap (λ (n : ℕ). ts n (unwrap_or (link_text_of n is) [])) at
    ∙ ap (λ (o : Option (List ℕ)). ts index (unwrap_or o [])) link

-- the interface at a place, which is the first of its name
pub record IsNamedAt (name : List ℕ) (is : List Interface) (at : ℕ) : Type 0 where
  interface : Interface
  within : at < length is
  named : find (has_name name) is ≡ Some interface
  there : slice_get is at ≡ Some interface

named_at : (name : List ℕ) (is : List Interface) (at : ℕ) → position (has_name name) is ≡ Some at → IsNamedAt name is at
named_at name [] at h = absurd (cc)
named_at name (i ∷ is) at h =
    let f = first-position (has_name name) (i ∷ is) at i h in
    record {
      interface = slice_index_or (i ∷ is) at i;
      within = f.within;
      named = find-first (has_name name) (i ∷ is) at i f;
      there = slice_get-get_or (i ∷ is) at i f.within;
    }

module _ (name : List ℕ) (a : Address) (is : List Interface)
    (new : find (has_number a.number) (addresses_of is) ≡ None) where
  abbrev next : List Interface
  next = change_first (has_name name) (with_one_more a) is

  shown_at : (address : ℕ) (facts : Facts) (r : Entry Route) (o : Option ℕ) → r.value.ifa ≡ Inet a.number
      → position (has_name name) is ≡ o → IsSome o
      → (index : ℕ) × (i : Interface) × (named name is ≡ Some i) × (interface_numbered index is ≡ Some i)
      × Shows address facts r next index i
  shown_at address facts r None own e h = absurd (cc)
  shown_at address facts r (Some at) own e h =
      let on = named_at name is at e in
      let place : interface_of r.value.ifa next ≡ at + 1 =
      ap (λ (i : IfaRef). interface_of i next) own
      ∙ ap (λ (o : Option ℕ). unwrap_or o 0 + 1) (new_place (has_name name) a is (none_on a.number is new) ∙ e) in
      let link : link_text_of (at + 1) next ≡ Some (link_text (at + 1) on.interface) =
      ap (λ (o : Option Interface). option_map (link_text (at + 1)) o) (numbered_next at next)
      ∙ (stays_added (has_name name) a is new).links at on.within (at + 1)
      ∙ ap (λ (o : Option Interface). option_map (link_text (at + 1)) o) on.there in (
        at + 1,
        on.interface,
        on.named,
        numbered_next at is ∙ on.there,
        shown address facts r next (at + 1) on.interface place link,
      )

pub new_address_shows_its_interface : NewAddressShowsItsInterface
new_address_shows_its_interface w name address prefix cloning far h free =
    let is = w.interfaces in
    let a = new_address (added is + 1) (kind_of name is) address prefix cloning far in
    shown_at name a is (next_free is h.numbers) address (facts_of a) (address_entry (reference a) address (facts_of a))
    (position (has_name name) is) refl refl (has_place (has_name name) is (is_named name address far is free))

-- ---- an address that is found

found_passes : {X : Type 0} (q : X → Bool) (xs : List X) (x : X) → find q xs ≡ Some x → q x ≡ true
found_passes q [] x h = absurd (cc)
found_passes q (y ∷ ys) x h =
    elim (q y) as (λ b. q y ≡ b → cond b (Some y) (find q ys) ≡ Some x → q x ≡ true) [
      | true ↦ λ e k. (let same : y ≡ x = cc in subst (λ z. q z ≡ true) same e)
      | false ↦ λ e k. found_passes q ys x k
    ] refl h

is_address : (address : ℕ) (a : Address) (removed : Bool) → (not removed && nat_eq a.address address) ≡ true
    → a.address ≡ address
is_address address a true h = absurd (cc)
is_address address a false h = grind (arith, nat_tests)

-- what an interface holds is first numbered there, since no other address has its number
module _ (q : Address → Bool) (p : Interface → Bool) (i : Interface) (a : Address)
    (held : find q i.addresses ≡ Some a) where
  abbrev own : Address → Bool
  own = has_number a.number

  split : (x : Interface) (is : List Interface)
      → count_by own (addresses_of (x ∷ is)) ≡ count_by own x.addresses + count_by own (addresses_of is)
  split x is = sum_by-append (λ b. cond (own b) 1 0) x.addresses (addresses_of is)

  here : count_by own i.addresses ≤ 1 → has_numbered a.number i ≡ true
  here few = found own i.addresses ∙ ap (λ (o : Option Address). is_some o) (found_once q i.addresses a held few)

  first_place : (is : List Interface) → find p is ≡ Some i → count_by own (addresses_of is) ≤ 1
      → slice_get is (position_or_len (has_numbered a.number) is) ≡ Some i
  first_place [] there few = absurd (cc)
  first_place (x ∷ is) there few =
      let at = position_or_len (has_numbered a.number) is in
      elim (p x) as (λ b. cond b (Some x) (find p is) ≡ Some i
      → slice_get (x ∷ is) (cond (not (has_numbered a.number x)) (1 + at) 0) ≡ Some i) [
        | true ↦ λ k. (
            let same : x ≡ i = cc in
            let as_few : count_by own i.addresses ≤ 1 =
            subst (λ (y : Interface). count_by own y.addresses ≤ 1) same (omega (arith, split x is, few)) in
            let numbered : has_numbered a.number x ≡ true = ap (has_numbered a.number) same ∙ here as_few in
            rw numbered k)
        | false ↦ λ k. (
            let later : find own (addresses_of is)
            ≡ Some a = found_in q p is i a k held (omega (arith, split x is, few)) in
            let some : 1 ≤ count_by own (addresses_of is) = one_used own (addresses_of is) a later in
            let none : find own x.addresses ≡ None = none_used own x.addresses (omega (arith, split x is, few, some)) in
            let unnumbered : has_numbered a.number x ≡ false =
            found own x.addresses ∙ ap (λ (o : Option Address). is_some o) none in
            let next : 1 + at ≡ suc at = omega arith in
            rw (unnumbered, next) (first_place is k (omega (arith, split x is, few))))
      ] there

-- so its place is the interface's
placed_at : {X : Type 0} (q : X → Bool) (xs : List X) (x : X) → slice_get xs (position_or_len q xs) ≡ Some x
    → slice_get xs (unwrap_or (position q xs) 0) ≡ Some x
placed_at q xs x h =
    let at = position_or_len q xs in
    elim (nat_lt at (length xs)) as
    (λ b. nat_lt at (length xs) ≡ b → slice_get xs (unwrap_or (cond b (Some at) None) 0) ≡ Some x) [
      | true ↦ λ e. h
      | false ↦ λ e. (let past : length xs ≤ at = grind
          (arith, nat_tests) in let none = slice_get_past xs at past in absurd (cc))
    ] refl

-- what is said of an address that is found
abbrev IsThere : World → List ℕ → ℕ → IfaRef → Type 0
IsThere w name address ifa =
    (a : Address) × (address_of ifa w.interfaces ≡ Some a) × (a.address ≡ address)
    × (i : Interface) × (named name w.interfaces ≡ Some i)
    × (interface_numbered (interface_of ifa w.interfaces) w.interfaces ≡ Some i)

module _ (w : World) (name : List ℕ) (address : ℕ) (ifa : IfaRef) (h : IsWorld w) where
  there_is : (i : Interface) (a : Address) → find (has_name name) w.interfaces ≡ Some i
      → find (is_at address) i.addresses ≡ Some a → reference a ≡ ifa → IsThere w name address ifa
  there_is i a of held is =
      let few = h.numbers.once a.number in
      let own = has_numbered a.number in
      let place = unwrap_or (position own w.interfaces) 0 in
      let there = first_place (is_at address) (has_name name) i a held w.interfaces of few in
      subst (IsThere w name address) is (
        a,
        found_in (is_at address) (has_name name) w.interfaces i a of held few,
        is_address address a a.removed (found_passes (is_at address) i.addresses a held),
        i,
        of,
        numbered_next place w.interfaces ∙ placed_at own w.interfaces i there,
      )

  there_on : (i : Interface) (o : Option Address) → find (has_name name) w.interfaces ≡ Some i
      → find (is_at address) i.addresses ≡ o → ok_or (option_map reference o) EADDRNOTAVAIL ≡ Ok ifa
      → IsThere w name address ifa
  there_on i None of held is = absurd (cc)
  there_on i (Some a) of held is = there_is i a of held cc

  there_by : (o : Option Interface) → find (has_name name) w.interfaces ≡ o → found_on address o ≡ Ok ifa
      → IsThere w name address ifa
  there_by None of is = absurd (cc)
  there_by (Some i) of is = there_on i (find (is_at address) i.addresses) of refl is

pub found_address_is_there : FoundAddressIsThere
found_address_is_there w name address ifa h is = there_by w name address ifa h (named name w.interfaces) refl is

-- ---- an address that goes

takes_route : (w : World) (ifa : IfaRef) (address : ℕ) (facts : Facts) (i : Interface) (r : Option (Entry Route))
    → interface_numbered (interface_of ifa w.interfaces) w.interfaces ≡ Some i
    → (take_route w ifa address facts r).told ≡ told_going (interface_of ifa w.interfaces) i address facts r
takes_route w ifa address facts i None on = refl
takes_route w ifa address facts i (Some r) on =
    let index = interface_of ifa w.interfaces in
    let text = λ (o : Option Interface). unwrap_or (option_map (link_text index) o) [] in
    ap (λ (o : Option Interface).
    told (route_deleted index r) AF_INET None ∷ told (address_removed index (text o) address facts) AF_INET None ∷ [])
    on

-- the interface of its name has the number that is told
numbered_as : (w : World) (name : List ℕ) (address : ℕ) (ifa : IfaRef) (i : Interface) → IsThere w name address ifa
    → named name w.interfaces ≡ Some i → interface_numbered (interface_of ifa w.interfaces) w.interfaces ≡ Some i
numbered_as w name address ifa i (a, at, of, j, first, on) is = on ∙ sym first ∙ is

pub gone_address_shows_its_interface : GoneAddressShowsItsInterface
gone_address_shows_its_interface w name address ifa a i h found at is =
    let route = withdrawn ifa address (facts_of a) w.table in
    let there = found_address_is_there w name address ifa h found in
    ap (λ (e : Effect). e.told)
    (taking w name address ifa (facts_of a) route found (ap (option_map facts_of) at) refl)
    ∙ takes_route w ifa address (facts_of a) i route (numbered_as w name address ifa i there is)
