-- The searches for an interface address, by an IPv4 or a link-layer address. They go by interface and then by address.
use Rattle.std.specs.Prelude.{ℕ, ◌==◌, nat_lt, nat_le, Bool, true, false, not, ◌&&◌, ◌||◌, List, [], ◌∷◌, length, filter, Option, Some, None, option_map, unwrap_or, slice_get, bytes_eq, bit_and, if◌then◌else◌}
use Rattle.std.specs.List.{find, range_with_len}
use Rattle.std.specs.Option.{option_map_or, option_or}
pub use Rattle.sock_addrs.specs.Link.{index_in}
use Rattle.sock_addrs.specs.declared.flags.TheConstants.{RTF_GATEWAY, RTF_HOST}
use Rattle.sock_addrs.specs.declared.gate.Gate.{Gate}
use Rattle.sock_addrs.specs.declared.gate.Gate.TheVariants as gate
use Rattle.mask_table.specs.Agreeing.{agrees}
use Rattle.if_addrs.specs.Interfaces.{Address, Interface, addresses_of, interface_numbered, link_text_of, reference}
use Rattle.if_addrs.specs.declared.kind.Kind.{Kind}
use Rattle.if_addrs.specs.declared.kind.Kind.TheVariants.{Broadcast, PointToPoint}
use Rattle.if_addrs.specs.declared.reference.IfaRef.{IfaRef}
use Rattle.if_addrs.specs.declared.reference.IfaRef.TheVariants as ifa

-- those of these addresses that were not removed
abbrev pub standing : List Address → List Address
standing addresses = filter (λ a. not a.removed) addresses

-- BY THE ADDRESS

abbrev pub has_broadcast : Kind → Bool
has_broadcast Broadcast = true
has_broadcast kind = false

-- it is this address, or this is its broadcast address
abbrev pub answers_to : ℕ → Address → Bool
answers_to address a = a.address == address || (has_broadcast a.kind && a.far == address)

-- the interface with this number has this link text
abbrev pub has_link_text : List ℕ → List Interface → ℕ → Bool
has_link_text text interfaces index = option_map_or (λ own. bytes_eq own text) (link_text_of index interfaces) false

-- the first address that is this one or has it as its broadcast address; the first interface with the whole link text
abbrev pub with_addr : Gate → List Interface → Option IfaRef
with_addr (gate.Inet address) interfaces =
    option_map reference (find (answers_to address) (standing (addresses_of interfaces)))
with_addr (gate.Link text) interfaces =
    option_map (λ index. ifa.Link index) (find (has_link_text text interfaces) (range_with_len 1 (length interfaces)))

-- BY THE OTHER END

abbrev pub has_other_end : Kind → Bool
has_other_end PointToPoint = true
has_other_end kind = false

-- this is the address of its interface's other end
abbrev pub leads_to : ℕ → Address → Bool
leads_to address a = has_other_end a.kind && a.far == address

-- the first address of a point-to-point interface with this one at the other end
abbrev pub with_far : Gate → List Interface → Option IfaRef
with_far (gate.Inet address) interfaces =
    option_map reference (find (leads_to address) (standing (addresses_of interfaces)))
with_far (gate.Link text) interfaces = None

-- BY THE NETWORK

-- its network holds this address
abbrev pub network_holds : ℕ → Address → Bool
network_holds address a = agrees a.prefix a.address address

-- of two addresses the one of the longer prefix, the first where both are as long
abbrev pub longer : Address → Option Address → Option Address
longer a None = Some a
longer a (Some b) = if nat_lt a.prefix b.prefix then Some b else Some a

-- the first address of the longest prefix
abbrev pub longest : List Address → Option Address
longest [] = None
longest (a ∷ rest) = longer a (longest rest)

-- the address of the longest prefix among those whose network holds this one; the link-layer address of the interface
-- whose number stands in the link text
abbrev pub with_net : Gate → List Interface → Option IfaRef
with_net (gate.Inet address) interfaces =
    option_map reference (longest (filter (network_holds address) (standing (addresses_of interfaces))))
with_net (gate.Link text) interfaces =
    let index = index_in text in
    if nat_le 1 index && nat_le index (length interfaces) then Some (ifa.Link index) else None

-- ON ONE INTERFACE

abbrev pub addresses_on : ℕ → List Interface → List Address
addresses_on index interfaces = option_map_or (λ i. i.addresses) (interface_numbered index interfaces) []

-- the first of these addresses whose network holds this one, or else the first of them
abbrev pub nearest : ℕ → List Address → Option Address
nearest address addresses = option_or (find (network_holds address) addresses) (slice_get addresses 0)

-- the nearest address of the interface with this number; its link-layer address
abbrev pub of_interface : Gate → ℕ → List Interface → Option IfaRef
of_interface (gate.Inet address) index interfaces =
    option_map reference (nearest address (standing (addresses_on index interfaces)))
of_interface (gate.Link text) index interfaces = Some (ifa.Link index)

-- FOR A ROUTE

abbrev pub has_flag : ℕ → ℕ → Bool
has_flag flag flags = not (bit_and flags flag == 0)

-- by the other end, where the route is of a host (HOST)
abbrev pub with_host : ℕ → ℕ → List Interface → Option IfaRef
with_host flags destination interfaces =
    if has_flag RTF_HOST flags then with_far (gate.Inet destination) interfaces else None

-- by what the route leads over: its gateway at an other end, where it has one (GATEWAY); or the destination at an
-- other end, and the interface's address that stands for a gateway
abbrev pub with_way : ℕ → ℕ → Gate → List Interface → Option IfaRef
with_way flags destination gateway interfaces =
    if has_flag RTF_GATEWAY flags then with_far gateway interfaces
    else option_or (with_host flags destination interfaces) (with_addr gateway interfaces)

-- in place of a link-layer address the nearest address of its interface, where it has one
abbrev pub turned : ℕ → List Interface → IfaRef → IfaRef
turned destination interfaces (ifa.Inet number) = ifa.Inet number
turned destination interfaces (ifa.Link index) =
    unwrap_or (of_interface (gate.Inet destination) index interfaces) (ifa.Link index)

-- the interface address of a route with these flags: by its way, or else by its gateway's network, or else the fallback
abbrev pub for_route : ℕ → ℕ → Gate → Option IfaRef → List Interface → Option IfaRef
for_route flags destination gateway fallback interfaces =
    option_map (turned destination interfaces)
    (option_or (with_way flags destination gateway interfaces) (option_or (with_net gateway interfaces) fallback))
