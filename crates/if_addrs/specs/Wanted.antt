-- How the code tells a search what to look for, and an address what it is marked as.
use Rattle.std.specs.Prelude.{ℕ, zero, suc, Bool, not, ◌&&◌, List, [], ◌∷◌, Option, Some, None}
use Rattle.if_addrs.specs.Interfaces.{Address, Interface, is_at, routed, gone}
use Rattle.if_addrs.specs.Searches.{answers_to, leads_to, network_holds, longer}
use Rattle.if_addrs.specs.declared.address.Mark.{Mark}
use Rattle.if_addrs.specs.declared.address.Mark.TheVariants.{Routed, Gone}
use Rattle.if_addrs.specs.declared.address.Wanted.{Wanted}
use Rattle.if_addrs.specs.declared.address.Wanted.TheVariants.{Same, Own, Far, Near, Standing}

-- an address is as a search wants it
abbrev pub is_wanted : Wanted → Address → Bool
is_wanted (Same address) a = is_at address a
is_wanted (Own address) a = not a.removed && answers_to address a
is_wanted (Far address) a = not a.removed && leads_to address a
is_wanted (Near address) a = not a.removed && network_holds address a
is_wanted Standing a = not a.removed

-- an address after it was marked
abbrev pub marked : Mark → Address → Address
marked Routed a = routed a
marked Gone a = gone a

-- the addresses after the one at a place was marked
abbrev pub marked_at : ℕ → Mark → List Address → List Address
marked_at place mark [] = []
marked_at zero mark (a ∷ rest) = marked mark a ∷ rest
marked_at (suc place) mark (a ∷ rest) = a ∷ marked_at place mark rest

abbrev pub with_marked : ℕ → Mark → Interface → Interface
with_marked place mark i = record i { addresses = marked_at place mark i.addresses }

-- of two addresses that were found the one of the longer prefix, the first where both are as long
abbrev pub better : Option Address → Option Address → Option Address
better None b = b
better (Some a) b = longer a b
