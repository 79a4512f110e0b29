-- What is found stands, and what was removed doesn't.
use Rattle.std.proofs.Common.{◌≡◌, ℕ, zero, suc, ◌≤◌, Bool, true, false, cond, if◌then◌else◌, List, [], ◌∷◌, ◌++◌, Option, None, Some, is_some, option_map, refl, sym, ap, ◌∙◌, subst, not, ◌&&◌, arith, append_assoc, append-nil}
use Rattle.std.specs.Prelude.{IfSome, IsSomeAnd, count_by, slice_get}
use Rattle.std.specs.List.{find}
use Rattle.std.specs.Option.{option_map_or, option_or}
use Rattle.std.proofs.lemmas.Bool.Decides.{nat_tests}
use Rattle.std.proofs.lemmas.List.Folds.{find-append}
use Rattle.std.proofs.lemmas.List.Sums.{sum_by-append, sum_by-cons}
use Rattle.sock_addrs.proofs.FirstLemmas.{found}
use Rattle.sock_addrs.specs.First.{change_first}
use Rattle.sock_addrs.specs.declared.gate.Gate.TheVariants as gate
use Rattle.if_addrs.specs.Interfaces.{Address, Interface, IsStanding, addresses_of, changed, gone, has_number, has_numbered, reference, with_changed}
use Rattle.if_addrs.specs.Numbered.{NumberedOnce}
use Rattle.if_addrs.specs.SearchLaws.{AnswersTo, Finds, FoundStands, IsFirst, IsFirstLongest, LeadsTo, NetworkHolds, RemovedStandsNot, Stands}
use Rattle.if_addrs.specs.declared.reference.IfaRef.{IfaRef}
use Rattle.if_addrs.specs.declared.reference.IfaRef.TheVariants as ifa
use Rattle.if_addrs.specs.Searches.{nearest, network_holds, of_interface, standing, with_addr, with_far, with_net}
use Rattle.if_addrs.proofs.Numbers.{none_used}
use Rattle.if_addrs.proofs.SearchLawsProved.{finds_first, holds_decides, stands_decides, with_addr_in_words, with_far_in_words, with_net_in_words}
use Rattle.if_addrs.proofs.Searching.{nearest_is}

-- A MEMBER IS FOUND BY ITS NUMBER

own_number : (a : Address) → has_number a.number a ≡ true
own_number a = grind (arith, nat_tests)

member_found : (a : Address) (before behind : List Address) → count_by (has_number a.number) (before ++ a ∷ behind) ≤ 1 → find (has_number a.number) (before ++ a ∷ behind) ≡ Some a
member_found a before behind few =
    let own = has_number a.number in
    let h : Address → ℕ = λ b. cond (own b) 1 0 in
    let here : h a ≡ 1 = ap (λ (b : Bool). cond b 1 0) (own_number a) in
    let none : count_by own before ≡ 0 = omega (arith, few, sum_by-append h before (a ∷ behind), sum_by-cons h a behind, here) in
    find-append own before (a ∷ behind)
    ∙ ap (λ (o : Option Address). option_or o (find own (a ∷ behind))) (none_used own before none)
    ∙ ap (λ (b : Bool). cond b (Some a) (find own behind)) (own_number a)

member_stands : (is : List Interface) (a : Address) (before behind : List Address) → NumberedOnce is → addresses_of is ≡ before ++ a ∷ behind → Stands a → IsStanding (reference a) is
member_stands is a before behind once split stands =
    let few : count_by (has_number a.number) (before ++ a ∷ behind) ≤ 1 = subst (λ (xs : List Address). count_by (has_number a.number) xs ≤ 1) split (once.once a.number) in
    let is_it : find (has_number a.number) (addresses_of is) ≡ Some a = ap (λ (xs : List Address). find (has_number a.number) xs) split ∙ member_found a before behind few in
    rw is_it stands

-- these addresses stand, one beside the other, among all
record Among (all part : List Address) : Type 0 where
  front : List Address
  back : List Address
  split : all ≡ front ++ (part ++ back)

-- what is found among them stands
found_stands_on : (P : Address → Type 0) → ((a : Address) → P a → Stands a) → (is : List Interface) (part : List Address) → NumberedOnce is → Among (addresses_of is) part → (o : Option IfaRef) → Finds IsFirst P part o → IfSome o (λ i. IsStanding i is)
found_stands_on P so is part once m None h = tt
found_stands_on P so is part once m (Some i) h =
    let a = h.0 in
    let f = h.2 in
    let split : addresses_of is ≡ (m.front ++ f.before) ++ a ∷ (f.behind ++ m.back) =
    m.split ∙ ap (λ (l : List Address). m.front ++ (l ++ m.back)) f.stands
    ∙ ap (λ (l : List Address). m.front ++ l) (append_assoc f.before (a ∷ f.behind) m.back)
    ∙ sym (append_assoc m.front f.before (a ∷ (f.behind ++ m.back))) in
    subst (λ (j : IfaRef). IsStanding j is) (sym h.1) (member_stands is a (m.front ++ f.before) (f.behind ++ m.back) once split (so a f.holds))

all_of : (is : List Interface) → Among (addresses_of is) (addresses_of is)
all_of is = record { front = []; back = []; split = sym (append-nil (addresses_of is)) }

longest_stands : (address : ℕ) (is : List Interface) → NumberedOnce is → (o : Option IfaRef) → Finds IsFirstLongest (NetworkHolds address) (addresses_of is) o → IfSome o (λ i. IsStanding i is)
longest_stands address is once None h = tt
longest_stands address is once (Some i) h = subst (λ (j : IfaRef). IsStanding j is) (sym h.1) (member_stands is h.0 h.2.before h.2.behind once h.2.stands h.2.holds.0)

-- ON ONE INTERFACE

among : (is : List Interface) (place : ℕ) (i : Interface) → slice_get is place ≡ Some i → Among (addresses_of is) i.addresses
among [] place i h = cc
among (x ∷ is) zero i h = (let same : x ≡ i = cc in record { front = []; back = addresses_of is; split = ap (λ (y : Interface). y.addresses ++ addresses_of is) same })
among (x ∷ is) (suc place) i h =
    let rest = among is place i h in
    record { front = x.addresses ++ rest.front; back = rest.back; split = ap (λ (l : List Address). x.addresses ++ l) rest.split ∙ sym (append_assoc x.addresses rest.front (i.addresses ++ rest.back)) }

either_stands : (is : List Interface) (o p : Option Address) → IfSome (option_map reference o) (λ i. IsStanding i is) → IfSome (option_map reference p) (λ i. IsStanding i is) → IfSome (option_map reference (option_or o p)) (λ i. IsStanding i is)
either_stands is None p h k = k
either_stands is (Some a) p h k = h

nearest_stands : (address : ℕ) (is : List Interface) (part : List Address) → NumberedOnce is → Among (addresses_of is) part → IfSome (option_map reference (nearest address (standing part))) (λ i. IsStanding i is)
nearest_stands address is part once m =
    subst (λ (o : Option Address). IfSome (option_map reference o) (λ i. IsStanding i is)) (nearest_is address part)
    (either_stands is (find (λ a. not a.removed && network_holds address a) part) (find (λ a. not a.removed) part)
    (found_stands_on (NetworkHolds address) (λ a h. h.0) is part once m _ (finds_first (NetworkHolds address) (λ a. not a.removed && network_holds address a) (holds_decides address) part))
    (found_stands_on Stands (λ a h. h) is part once m _ (finds_first Stands (λ a. not a.removed) stands_decides part)))

on_stands : (address index : ℕ) (is : List Interface) → NumberedOnce is → IfSome (of_interface (gate.Inet address) index is) (λ i. IsStanding i is)
on_stands address zero is once = tt
on_stands address (suc place) is once =
    elim (slice_get is place) as (λ o. slice_get is place ≡ o → IfSome (option_map reference (nearest address (standing (option_map_or (λ i. i.addresses) o [])))) (λ i. IsStanding i is))
    [ None ↦ λ e. tt | Some i ↦ λ e. nearest_stands address is i.addresses once (among is place i e) ] refl

pub found_stands : FoundStands
found_stands address index is once = (
  found_stands_on (AnswersTo address) (λ a h. h.0) is (addresses_of is) once (all_of is) (with_addr (gate.Inet address) is) (with_addr_in_words address is),
  found_stands_on (LeadsTo address) (λ a h. h.0) is (addresses_of is) once (all_of is) (with_far (gate.Inet address) is) (with_far_in_words address is),
  longest_stands address is once (with_net (gate.Inet address) is) (with_net_in_words address is),
  on_stands address index is once,
)

-- AN ADDRESS THAT WAS REMOVED

first_changed : (q : Address → Bool) (f : Address → Address) → ((a : Address) → q (f a) ≡ q a) → (xs : List Address) → find q (change_first q f xs) ≡ option_map f (find q xs)
first_changed q f same [] = refl
first_changed q f same (x ∷ xs) =
    elim (q x) as (λ b. q x ≡ b → find q (if b then f x ∷ xs else x ∷ change_first q f xs) ≡ option_map f (cond b (Some x) (find q xs))) [
      | true ↦ λ e. ap (λ (b : Bool). cond b (Some (f x)) (find q xs)) (same x ∙ e)
      | false ↦ λ e. ap (λ (b : Bool). cond b (Some x) (find q (change_first q f xs))) e ∙ first_changed q f same xs
    ] refl

or_mapped : (f : Address → Address) (o p : Option Address) → is_some o ≡ true → option_or (option_map f o) p ≡ option_map f (option_or o p)
or_mapped f None p h = cc
or_mapped f (Some a) p h = refl

not_found : (o : Option Address) → is_some o ≡ false → o ≡ None
not_found None h = refl
not_found (Some a) h = cc

address_changed : (n : ℕ) (f : Address → Address) → ((a : Address) → has_number n (f a) ≡ has_number n a) → (is : List Interface)
    → find (has_number n) (addresses_of (changed (ifa.Inet n) f is)) ≡ option_map f (find (has_number n) (addresses_of is))
address_changed n f same [] = refl
address_changed n f same (i ∷ is) =
    let own = has_number n in
    let rest = addresses_of is in
    let next = addresses_of (changed (ifa.Inet n) f is) in
    elim (has_numbered n i) as (λ b. has_numbered n i ≡ b → find own (addresses_of (if b then with_changed n f i ∷ is else i ∷ change_first (has_numbered n) (with_changed n f) is)) ≡ option_map f (find own (i.addresses ++ rest))) [
      | true ↦ λ e.
          find-append own (change_first own f i.addresses) rest
          ∙ ap (λ (o : Option Address). option_or o (find own rest)) (first_changed own f same i.addresses)
          ∙ or_mapped f (find own i.addresses) (find own rest) (sym (found own i.addresses) ∙ e)
          ∙ ap (λ (o : Option Address). option_map f o) (sym (find-append own i.addresses rest))
      | false ↦ λ e. (
          let none : find own i.addresses ≡ None = not_found (find own i.addresses) (sym (found own i.addresses) ∙ e) in
          find-append own i.addresses next
          ∙ ap (λ (o : Option Address). option_or o (find own next)) none
          ∙ address_changed n f same is
          ∙ sym (ap (λ (o : Option Address). option_map f o) (find-append own i.addresses rest ∙ ap (λ (o : Option Address). option_or o (find own rest)) none)))
    ] refl

gone_stands_not : (o : Option Address) → ¬ (IsSomeAnd (option_map gone o) (λ a. a.removed ≡ false))
gone_stands_not None h = h
gone_stands_not (Some a) h = (let never : true ≡ false = h in cc)

pub removed_stands_not : RemovedStandsNot
removed_stands_not (ifa.Inet n) is h =
    gone_stands_not (find (has_number n) (addresses_of is)) (subst (λ (o : Option Address). IsSomeAnd o (λ a. a.removed ≡ false)) (address_changed n gone (λ a. refl) is) h)
removed_stands_not (ifa.Link index) is h = h
