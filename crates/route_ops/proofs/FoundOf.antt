-- What the searches for an interface address find is one of the interfaces.
use Rattle.std.proofs.Common.{◌≡◌, ℕ, zero, suc, ◌+◌, ◌<◌, ◌≤◌, ◌&&◌, Bool, true, false, nat_le, List, [], ◌∷◌, length, Option, Some, None, IsSome, refl, arith}
use Rattle.std.specs.Prelude.{IfSome, IsSomeAnd, if◌then◌else◌, option_map, unwrap_or}
use Rattle.std.specs.List.{AllByRecursion, find, position, range_with_len}
use Rattle.std.specs.Option.{option_and_then, option_or}
use Rattle.std.proofs.lemmas.Bool.Decides.{nat_tests}
use Rattle.sock_addrs.proofs.FirstLemmas.{first-position}
use Rattle.sock_addrs.specs.declared.gate.Gate.{Gate}
use Rattle.sock_addrs.specs.declared.gate.Gate.TheVariants as gate
use Rattle.if_addrs.specs.Interfaces.{Address, Interface, IsOf, IsStanding, address_of, has_numbered, interface_of}
use Rattle.if_addrs.specs.Numbered.{NumberedOnce}
use Rattle.if_addrs.specs.Searches.{for_route, has_flag, has_link_text, index_in, of_interface, turned, with_addr, with_far, with_host, with_net, with_way}
use Rattle.if_addrs.specs.declared.reference.IfaRef.{IfaRef}
use Rattle.if_addrs.specs.declared.reference.IfaRef.TheVariants as ifa
use Rattle.if_addrs.proofs.Keeping.{has_number_place}
use Rattle.if_addrs.proofs.StandingLaws.{found_stands}
use Rattle.radix_tree.proofs.ListLemmas.{all_find}
use Rattle.route_ops.proofs.RedirectRefused.{either}

-- WHAT IS FOUND AMONG INTERFACE ADDRESSES OF THE INTERFACES

abbrev pub IfOf : List Interface → Option IfaRef → Type 0
IfOf is o = IfSome o (λ i. IsOf i is)

pub or_of : (is : List Interface) (o p : Option IfaRef) → IfOf is o → IfOf is p → IfOf is (option_or o p)
or_of is None p h k = k
or_of is (Some i) p h k = h

mapped_of : (is : List Interface) (f : IfaRef → IfaRef) (o : Option IfaRef)
    → ((i : IfaRef) → IsOf i is → IsOf (f i) is)
    → IfOf is o → IfOf is (option_map f o)
mapped_of is f None keeps h = tt
mapped_of is f (Some i) keeps h = keeps i h

pub then_of : {X : Type 0} (is : List Interface) (f : X → Option IfaRef) (o : Option X) → ((x : X) → IfOf is (f x))
    → IfOf is (option_and_then f o)
then_of is f None each = tt
then_of is f (Some x) each = each x

pub or_else_of : (is : List Interface) (o : Option IfaRef) (i : IfaRef) → IfOf is o → IsOf i is
    → IsOf (unwrap_or o i) is
or_else_of is None i h k = k
or_else_of is (Some x) i h k = h

-- an address that stands is one of them
there : (o : Option Address) → IsSomeAnd o (λ a. a.removed ≡ false) → IsSome o
there None h = absurd h
there (Some a) h = refl

standing_of : (is : List Interface) (i : IfaRef) → IsStanding i is → IsOf i is
standing_of is (ifa.Inet number) h = there (address_of (ifa.Inet number) is) h
standing_of is (ifa.Link index) h = absurd h

all_standing_of : (is : List Interface) (o : Option IfaRef) → IfSome o (λ i. IsStanding i is) → IfOf is o
all_standing_of is None h = tt
all_standing_of is (Some i) h = standing_of is i h

-- THE LINK-LAYER ADDRESS OF AN INTERFACE BY ITS NUMBER

-- the numbers of a range are in it
in_range : (lo hi a n : ℕ) → lo ≤ a → a + n ≤ hi → AllByRecursion (λ k. (lo ≤ k) × (k < hi)) (range_with_len a n)
in_range lo hi a zero low high = tt
in_range lo hi a (suc n) low high =
    ((low, omega (arith, high)), in_range lo hi (a + 1) n (omega (arith, low)) (omega (arith, high)))

link_found : (is : List Interface) (p : ℕ → Bool) (o : Option ℕ) → find p (range_with_len 1 (length is)) ≡ o
    → IfOf is (option_map (λ index. ifa.Link index) o)
link_found is p None e = tt
link_found is p (Some index) e =
    let n = length is in
    let all = in_range 1 (n + 1) 1 n (omega arith) (omega arith) in
    let bounds = (all_find (λ k. (1 ≤ k) × (k < n + 1)) p (range_with_len 1 n) index all e).0 in
    (bounds.0, omega (arith, bounds.1))

within : (index n : ℕ) → (nat_le 1 index && nat_le index n) ≡ true → (1 ≤ index) × (index ≤ n)
within index n h = (grind (arith, nat_tests), grind (arith, nat_tests))

link_within : (is : List Interface) (index : ℕ) (b : Bool) → (nat_le 1 index && nat_le index (length is)) ≡ b
    → IfOf is (if b then Some (ifa.Link index) else None)
link_within is index true e = within index (length is) e
link_within is index false e = tt

-- THE SEARCHES

module _ (is : List Interface) (once : NumberedOnce is) where
  pub with_addr_of : (g : Gate) → IfOf is (with_addr g is)
  with_addr_of (gate.Inet address) =
      all_standing_of is (with_addr (gate.Inet address) is) (found_stands address 0 is once).0
  with_addr_of (gate.Link text) =
      link_found is (has_link_text text is) (find (has_link_text text is) (range_with_len 1 (length is))) refl

  pub with_far_of : (g : Gate) → IfOf is (with_far g is)
  with_far_of (gate.Inet address) =
      all_standing_of is (with_far (gate.Inet address) is) (found_stands address 0 is once).1
  with_far_of (gate.Link text) = tt

  pub with_net_of : (g : Gate) → IfOf is (with_net g is)
  with_net_of (gate.Inet address) =
      all_standing_of is (with_net (gate.Inet address) is) (found_stands address 0 is once).2
  with_net_of (gate.Link text) =
      let index = index_in text in link_within is index (nat_le 1 index && nat_le index (length is)) refl

  pub of_interface_of : (g : Gate) (index : ℕ) → (1 ≤ index) × (index ≤ length is) → IfOf is (of_interface g index is)
  of_interface_of (gate.Inet address) index bounds =
      all_standing_of is (of_interface (gate.Inet address) index is) (found_stands address index is once).3
  of_interface_of (gate.Link text) index bounds = bounds

  -- FOR A ROUTE

  turned_of : (destination : ℕ) (i : IfaRef) → IsOf i is → IsOf (turned destination is i) is
  turned_of destination (ifa.Inet number) h = h
  turned_of destination (ifa.Link index) h =
      or_else_of is (of_interface (gate.Inet destination) index is) (ifa.Link index)
      (of_interface_of (gate.Inet destination) index h) h

  with_host_of : (flags destination : ℕ) → IfOf is (with_host flags destination is)
  with_host_of flags destination =
      either (IfOf is) (has_flag 0x4 flags) (with_far (gate.Inet destination) is) None
      (with_far_of (gate.Inet destination)) tt

  with_way_of : (flags destination : ℕ) (g : Gate) → IfOf is (with_way flags destination g is)
  with_way_of flags destination g =
      either (IfOf is) (has_flag 0x2 flags) (with_far g is)
      (option_or (with_host flags destination is) (with_addr g is)) (with_far_of g)
      (or_of is (with_host flags destination is) (with_addr g is) (with_host_of flags destination) (with_addr_of g))

  pub for_route_of : (flags destination : ℕ) (g : Gate) (fallback : Option IfaRef) → IfOf is fallback
      → IfOf is (for_route flags destination g fallback is)
  for_route_of flags destination g fallback h =
      let way = with_way flags destination g is in
      let near = with_net g is in
      mapped_of is (turned destination is) (option_or way (option_or near fallback)) (turned_of destination)
      (or_of is way (option_or near fallback) (with_way_of flags destination g)
      (or_of is near fallback (with_net_of g) h))

-- the number of the interface that an interface address is of is one of theirs
place_within : (is : List Interface) (number : ℕ) (o : Option ℕ) → position (has_numbered number) is ≡ o → IsSome o
    → (1 ≤ unwrap_or o 0 + 1) × (unwrap_or o 0 + 1 ≤ length is)
place_within is number None e some = absurd (cc)
place_within [] number (Some at) e some = absurd (cc)
place_within (i ∷ is) number (Some at) e some =
    let first = first-position (has_numbered number) (i ∷ is) at i e in (omega arith, omega (arith, first.within))

pub interface_within : (is : List Interface) (i : IfaRef) → IsOf i is
    → (1 ≤ interface_of i is) × (interface_of i is ≤ length is)
interface_within is (ifa.Inet number) h =
    place_within is number (position (has_numbered number) is) refl (has_number_place number is h)
interface_within is (ifa.Link index) h = h
