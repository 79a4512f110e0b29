-- The interfaces with their addresses.
use Rattle.std.specs.Prelude.{◌≡◌, ℕ, ◌+◌, ◌-◌, ◌*◌, ◌^◌, ◌≤◌, ◌==◌, nat_le, zero, suc, Bool, true, false, not, ◌&&◌, List, [], ◌∷◌, ◌++◌, length, Option, None, Some, IsSome, IsSomeAnd, is_some, is_none, option_map, unwrap_or, ok_or, Result, Err, bytes_eq}
use Rattle.std.specs.List.{find, list_any, flat_map, position, slice_get}
use Rattle.std.specs.Option.{option_map_or}
use Rattle.sock_addrs.specs.Link.{interface_link}
use Rattle.sock_addrs.specs.declared.errno.Errno.{Errno}
use Rattle.sock_addrs.specs.declared.errno.Errno.TheVariants.{ENXIO, EEXIST, EINVAL, ENOSPC, EADDRINUSE, EADDRNOTAVAIL}
use Rattle.sock_addrs.specs.declared.gate.Gate.{Gate}
use Rattle.sock_addrs.specs.declared.gate.Gate.TheVariants as gate
use Rattle.mask_table.specs.Agreeing.{front}
use Rattle.sock_addrs.specs.Rules.{rule, first_fault}
use Rattle.sock_addrs.specs.First.{change_first}
use Rattle.if_addrs.specs.declared.kind.Kind.{Kind}
use Rattle.if_addrs.specs.declared.kind.Kind.TheVariants.{Broadcast, Loopback, PointToPoint}
use Rattle.if_addrs.specs.declared.limits.TheConstants.{MOST_ADDRESSES, MOST_INTERFACES}
use Rattle.if_addrs.specs.declared.reference.IfaRef.{IfaRef}
use Rattle.if_addrs.specs.declared.reference.IfaRef.TheVariants as ifa

-- an address of an interface of this kind. The far address is the broadcast address on a broadcast interface, the
-- address itself on loopback, and the other end's on a point-to-point interface. Its route is cloning or isn't, and was
-- added or wasn't. An address that was removed stays, for the routes that use it
pub record Address : Type 0 where
  pub number : ℕ
  pub kind : Kind
  pub address : ℕ
  pub prefix : ℕ
  pub cloning : Bool
  pub routed : Bool
  pub far : ℕ
  pub removed : Bool

-- an interface: its name, kind, number of its type, link-layer address, and its addresses in the order in which they
-- were added
pub record Interface : Type 0 where
  pub name : List ℕ
  pub kind : Kind
  pub type_number : ℕ
  pub link : List ℕ
  pub addresses : List Address

-- INTERFACES

abbrev pub has_name : List ℕ → Interface → Bool
has_name name i = bytes_eq i.name name

-- why an interface of this name can't be attached
abbrev pub attach_fault : List ℕ → List Interface → Option Errno
attach_fault name interfaces = first_fault
    (rule (list_any (has_name name) interfaces) EEXIST
    ∷ rule (nat_le MOST_INTERFACES (length interfaces)) ENOSPC
    ∷ [])

-- an interface as it is attached
abbrev pub attached : List ℕ → Kind → ℕ → List ℕ → Interface
attached name kind type_number link =
    record { name = name; kind = kind; type_number = type_number; link = link; addresses = [] }

-- the interface of this name
abbrev pub named : List ℕ → List Interface → Option Interface
named name interfaces = find (has_name name) interfaces

-- its kind; where there is none, any
abbrev pub kind_of : List ℕ → List Interface → Kind
kind_of name interfaces = option_map_or (λ i. i.kind) (named name interfaces) Broadcast

-- interfaces are numbered from 1 on
abbrev pub interface_numbered : ℕ → List Interface → Option Interface
interface_numbered zero interfaces = None
interface_numbered (suc place) interfaces = slice_get interfaces place

-- how an interface's link-layer address stands in a message
abbrev pub link_text : ℕ → Interface → List ℕ
link_text index i = interface_link index i.type_number i.name i.link

-- the link text of the interface with this number
abbrev pub link_text_of : ℕ → List Interface → Option (List ℕ)
link_text_of index interfaces = option_map (link_text index) (interface_numbered index interfaces)

-- ADDRESSES

-- all addresses, interface by interface
abbrev pub addresses_of : List Interface → List Address
addresses_of interfaces = flat_map (λ i. i.addresses) interfaces

-- how many were ever added; none is taken out of the list again
abbrev pub added : List Interface → ℕ
added interfaces = length (addresses_of interfaces)

-- the address is this one, and was not removed
abbrev pub is_at : ℕ → Address → Bool
is_at address a = not a.removed && a.address == address

-- the interface holds the address
abbrev pub holds : ℕ → Interface → Bool
holds address i = list_any (is_at address) i.addresses

-- the other end's address is given where an interface has another end, and only there
abbrev pub fits : Kind → Option ℕ → Bool
fits PointToPoint far = is_some far
fits kind far = is_none far

-- why an address, with this one at the other end, can't be added to the interface of this name
abbrev pub addr_fault : List ℕ → ℕ → Option ℕ → List Interface → Option Errno
addr_fault name address far interfaces = first_fault
    (rule (is_none (named name interfaces)) ENXIO
    ∷ rule (not (fits (kind_of name interfaces) far)) EINVAL
    ∷ rule (list_any (holds address) interfaces) EADDRINUSE
    ∷ rule (nat_le MOST_ADDRESSES (added interfaces)) ENOSPC
    ∷ [])

-- the last address of the network, which has all host bits set
abbrev pub last_of_network : ℕ → ℕ → ℕ
last_of_network prefix address = (front prefix address + 1) * 2 ^ (32 - prefix) - 1

-- the far address
abbrev pub far_of : Kind → ℕ → ℕ → Option ℕ → ℕ
far_of Broadcast prefix address far = last_of_network prefix address
far_of Loopback prefix address far = address
far_of PointToPoint prefix address far = unwrap_or far address

-- an address as it is added
abbrev pub new_address : ℕ → Kind → ℕ → ℕ → Bool → Option ℕ → Address
new_address number kind address prefix cloning far = record {
  number = number;
  kind = kind;
  address = address;
  prefix = prefix;
  cloning = cloning;
  routed = false;
  far = far_of kind prefix address far;
  removed = false;
}

abbrev pub with_one_more : Address → Interface → Interface
with_one_more a i = record i { addresses = i.addresses ++ a ∷ [] }

-- the interfaces after an address was added to the one of this name, with the next number
abbrev pub with_address : List ℕ → ℕ → ℕ → Bool → Option ℕ → List Interface → List Interface
with_address name address prefix cloning far interfaces =
    let a = new_address (added interfaces + 1) (kind_of name interfaces) address prefix cloning far in
    change_first (has_name name) (with_one_more a) interfaces

-- REFERENCES: an interface address is an address by its number, or an interface's link-layer address by the interface's
-- number

abbrev pub has_number : ℕ → Address → Bool
has_number number a = a.number == number

abbrev pub has_numbered : ℕ → Interface → Bool
has_numbered number i = list_any (has_number number) i.addresses

-- the address, where it is none of a link layer
abbrev pub address_of : IfaRef → List Interface → Option Address
address_of (ifa.Inet number) interfaces = find (has_number number) (addresses_of interfaces)
address_of (ifa.Link index) interfaces = None

-- the number of the interface that has the address
abbrev pub interface_of : IfaRef → List Interface → ℕ
interface_of (ifa.Inet number) interfaces = unwrap_or (position (has_numbered number) interfaces) 0 + 1
interface_of (ifa.Link index) interfaces = index

-- the interface address is one of these interfaces
abbrev pub IsOf : IfaRef → List Interface → Type 0
IsOf (ifa.Inet number) interfaces = IsSome (address_of (ifa.Inet number) interfaces)
IsOf (ifa.Link index) interfaces = (1 ≤ index) × (index ≤ length interfaces)

-- the interface address is an address of these interfaces that was not removed
abbrev pub IsStanding : IfaRef → List Interface → Type 0
IsStanding i interfaces = IsSomeAnd (address_of i interfaces) (λ a. a.removed ≡ false)

-- what an interface address is: an IPv4 address, or the link-layer address as it stands in a message
abbrev pub text_of : IfaRef → List Interface → Option Gate
text_of (ifa.Inet number) interfaces = option_map (λ a. gate.Inet a.address) (address_of (ifa.Inet number) interfaces)
text_of (ifa.Link index) interfaces = option_map (λ text. gate.Link text) (link_text_of index interfaces)

-- the reference to an address
abbrev pub reference : Address → IfaRef
reference a = ifa.Inet a.number

-- the address that the interface of this name holds; or there is no such interface, or it doesn't hold the address
abbrev pub found_on : ℕ → Option Interface → Result IfaRef Errno
found_on address None = Err ENXIO
found_on address (Some i) = ok_or (option_map reference (find (is_at address) i.addresses)) EADDRNOTAVAIL

abbrev pub find_addr : List ℕ → ℕ → List Interface → Result IfaRef Errno
find_addr name address interfaces = found_on address (named name interfaces)

-- CHANGES OF ONE ADDRESS

-- the interfaces with the address of this number changed
abbrev pub with_changed : ℕ → (Address → Address) → Interface → Interface
with_changed number f i = record i { addresses = change_first (has_number number) f i.addresses }

abbrev pub changed : IfaRef → (Address → Address) → List Interface → List Interface
changed (ifa.Inet number) f interfaces = change_first (has_numbered number) (with_changed number f) interfaces
changed (ifa.Link index) f interfaces = interfaces

-- an address whose route was added
abbrev pub routed : Address → Address
routed a = record a { routed = true }

-- an address that was removed
abbrev pub gone : Address → Address
gone a = record a { removed = true }

-- the interfaces after the address was marked as one whose route was added
abbrev pub marked_routed : IfaRef → List Interface → List Interface
marked_routed i interfaces = changed i routed interfaces

-- the interfaces after the address was removed
abbrev pub without_addr : IfaRef → List Interface → List Interface
without_addr i interfaces = changed i gone interfaces
