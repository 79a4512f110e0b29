-- What is told of interfaces, and of their addresses one after another.
use Rattle.std.specs.Prelude.{ℕ, ◌+◌, Bool, not, List, drop, Option, Some, None, option_map, slice_get}
use Rattle.std.specs.List.{position}
use Rattle.if_addrs.specs.Facts.{facts_of}
use Rattle.if_addrs.specs.Interfaces.{Address, Interface, interface_numbered}
use Rattle.if_addrs.specs.declared.told.AddressTold.{AddressTold}
use Rattle.if_addrs.specs.declared.told.InterfaceTold.{InterfaceTold}

abbrev pub told_of : Interface → InterfaceTold
told_of i = record { name = i.name; kind = i.kind; type_number = i.type_number; link = i.link }

-- the interface with this number
abbrev pub interface_told : ℕ → List Interface → Option InterfaceTold
interface_told index interfaces = option_map told_of (interface_numbered index interfaces)

-- the address was not removed
abbrev pub is_standing : Address → Bool
is_standing a = not a.removed

-- an address, and the place behind it
abbrev pub told_before : ℕ → Address → AddressTold
told_before next a = record { address = a.address; facts = facts_of a; next = next }

-- the first place, from this one on, of an address that was not removed
abbrev pub standing_place : ℕ → List Address → Option ℕ
standing_place place addresses = option_map (λ n. place + n) (position is_standing (drop place addresses))

-- the address at a place, where one is given
abbrev pub told_where : Option ℕ → Interface → Option AddressTold
told_where None i = None
told_where (Some place) i = option_map (told_before (place + 1)) (slice_get i.addresses place)

-- its first address, from this place on, that was not removed
abbrev pub next_of : ℕ → Interface → Option AddressTold
next_of place i = told_where (standing_place place i.addresses) i

abbrev pub next_of_it : ℕ → Option Interface → Option AddressTold
next_of_it place None = None
next_of_it place (Some i) = next_of place i

-- that of the interface with this number
abbrev pub next_address : ℕ → ℕ → List Interface → Option AddressTold
next_address index place interfaces = next_of_it place (interface_numbered index interfaces)
