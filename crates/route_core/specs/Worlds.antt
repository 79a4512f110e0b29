-- Worlds that can be reached: what holds of the empty world and stays with every step, and what follows of the
-- definitions that name something to take where nothing is found: it is found.
use Rattle.std.specs.Prelude.{◌≡◌, ◌<◌, ◌≤◌, ◌+◌, ◌^◌, ℕ, Bool, true, List, [], ◌∷◌, map, Option, None, Some, IsSomeAnd, IfSome, bytes_eq, Ok}
use Rattle.std.specs.List.{AllByRecursion, IsDistinct}
use Rattle.sock_addrs.specs.declared.families.TheConstants.{AF_INET}
use Rattle.if_addrs.specs.Facts.{facts_of}
use Rattle.if_addrs.specs.Interfaces.{Address, Interface, added, addr_fault, address_of, find_addr, has_numbered, interface_numbered, interface_of, kind_of, link_text, named, new_address, reference, with_address}
use Rattle.if_addrs.specs.Numbered.{NumberedOnce}
use Rattle.if_addrs.specs.declared.reference.Facts.{Facts}
use Rattle.if_addrs.specs.declared.reference.IfaRef.{IfaRef}
use Rattle.if_addrs.specs.declared.reference.IfaRef.TheVariants as ifa
use Rattle.listeners.specs.Sockets.{AreBounded, Socket}
use Rattle.radix_tree.specs.declared.entry.Entry.{Entry}
use Rattle.route_entries.specs.declared.route.Route.{Route}
use Rattle.route_ops.specs.Addressing.{address_entry, withdrawn}
use Rattle.route_ops.specs.Tables.{IsTableOf}
use Rattle.route_core.specs.Commands.{Command}
use Rattle.route_core.specs.Messages.{address_added, address_removed, route_added, route_deleted}
use Rattle.route_core.specs.Step.{Steps, announced, effect}
use Rattle.route_core.specs.Telling.{Told, told}
use Rattle.route_core.specs.World.{World, empty_world}
use Rattle.route_core.specs.declared.answer.Answer.{Answer}
use Rattle.route_core.specs.declared.command.Command.TheVariants.{AddAddress, Losing, Packet, Redirect, RemoveAddress, Write}

-- ---- worlds

-- no two of these sockets have one id
abbrev pub AreOpenOnce : List Socket → Type 0
AreOpenOnce sockets = IsDistinct bytes_eq (map (λ s. s.id) sockets)

-- its table is one of routes that lead out of its interfaces; no number of an address, and no socket's id, is told
-- twice; and what waits for a socket fits its queue
pub record IsWorld (w : World) : Type 0 where
  pub table : IsTableOf w.interfaces w.table
  pub numbers : NumberedOnce w.interfaces
  pub sockets : AreOpenOnce w.sockets
  pub queues : AreBounded w.sockets

abbrev pub EmptyIsWorld : Type 0
EmptyIsWorld = IsWorld empty_world

-- the numbers and bytes of a command are in the ranges of their types
abbrev pub IsInRange : Command → Type 0
IsInRange (AddAddress name address prefix cloning far) =
    (address < 2 ^ 32) × (prefix ≤ 32) × IfSome far (λ other. other < 2 ^ 32)
IsInRange (Write id m) = AllByRecursion (λ b. b < 256) m
IsInRange (Packet destination) = destination < 2 ^ 32
IsInRange (Losing destination) = destination < 2 ^ 32
IsInRange (Redirect asked) = (asked.destination < 2 ^ 32) × (asked.gateway < 2 ^ 32) × (asked.author < 2 ^ 32)
IsInRange c = Unit {0}

-- a step from a world leads to one
abbrev pub StepsKeepWorlds : Type 0
StepsKeepWorlds = (old : World) (c : Command) (answer : Answer) (new : World) → IsWorld old → IsInRange c
    → Steps old c answer new → IsWorld new

-- ---- what is found in a world

-- the interface has this interface address
abbrev pub Has : IfaRef → Interface → Type 0
Has (ifa.Inet number) i = has_numbered number i ≡ true
Has (ifa.Link index) i = Unit {0}

-- the interface of the number that is told for this interface address is there, and has it
abbrev pub IsOn : List Interface → IfaRef → Type 0
IsOn interfaces i = IsSomeAnd (interface_numbered (interface_of i interfaces) interfaces) (Has i)

-- in a world that is so for each route
abbrev pub RoutesHaveInterfaces : Type 0
RoutesHaveInterfaces = (w : World) → IsWorld w → AllByRecursion (λ r. IsOn w.interfaces r.value.ifa) w.table

-- the messages of an address's facts and route show this interface's number and link-layer address
abbrev pub Shows : ℕ → Facts → Entry Route → List Interface → ℕ → Interface → Type 0
Shows address facts r interfaces index i =
    announced interfaces address facts r
    ≡ told (address_added index (link_text index i) address facts) AF_INET None
    ∷ told (route_added index r) AF_INET None
    ∷ []

-- an address that nothing refuses is shown with the interface of its name, and that interface's number
abbrev pub NewAddressShowsItsInterface : Type 0
NewAddressShowsItsInterface = (w : World) (name : List ℕ) (address prefix : ℕ) (cloning : Bool) (far : Option ℕ)
    → IsWorld w → addr_fault name address far w.interfaces ≡ None
    → let a = new_address (added w.interfaces + 1) (kind_of name w.interfaces) address prefix cloning far in
    let interfaces = with_address name address prefix cloning far w.interfaces in
    (index : ℕ) × (i : Interface) × (named name w.interfaces ≡ Some i)
    × (interface_numbered index w.interfaces ≡ Some i)
    × Shows address (facts_of a) (address_entry (reference a) address (facts_of a)) interfaces index i

-- an address that is found on an interface stands there, and its number is told of that interface
abbrev pub FoundAddressIsThere : Type 0
FoundAddressIsThere = (w : World) (name : List ℕ) (address : ℕ) (ifa : IfaRef) → IsWorld w
    → find_addr name address w.interfaces ≡ Ok ifa
    → (a : Address) × (address_of ifa w.interfaces ≡ Some a) × (a.address ≡ address)
    × (i : Interface) × (named name w.interfaces ≡ Some i)
    × (interface_numbered (interface_of ifa w.interfaces) w.interfaces ≡ Some i)

-- of an address that goes nothing is told where it takes no route away; and else that the route is deleted, and then
-- that the address goes, with this interface's number and link-layer address
abbrev pub told_going : ℕ → Interface → ℕ → Facts → Option (Entry Route) → List Told
told_going index i address facts None = []
told_going index i address facts (Some r) =
    told (route_deleted index r) AF_INET None
    ∷ told (address_removed index (link_text index i) address facts) AF_INET None
    ∷ []

-- an address that goes is shown with the interface that it was found on, and that interface's number
abbrev pub GoneAddressShowsItsInterface : Type 0
GoneAddressShowsItsInterface = (w : World) (name : List ℕ) (address : ℕ) (ifa : IfaRef) (a : Address) (i : Interface)
    → IsWorld w → find_addr name address w.interfaces ≡ Ok ifa → address_of ifa w.interfaces ≡ Some a
    → named name w.interfaces ≡ Some i
    → (effect w (RemoveAddress name address)).told
    ≡ told_going (interface_of ifa w.interfaces) i address (facts_of a) (withdrawn ifa address (facts_of a) w.table)
