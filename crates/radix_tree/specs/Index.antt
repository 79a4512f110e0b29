-- Where the room of each route is, by the route's key and rank.
use Rattle.std.specs.Prelude.{◌≡◌, ℕ, ◌==◌, if◌then◌else◌, true, Option, None, Some}
use denote.RawPtr.{Ptr}
use Rattle.radix_nodes.specs.declared.id.Id.{Id}
use Rattle.radix_nodes.specs.Naming.{number_of}
use Rattle.radix_tree.specs.Rooms.{LeafPart, leaves_in, Lodged}
use Rattle.radix_tree.specs.declared.entry.Entry.{Entry}
pub use Rattle.room_index.specs.Homes.{pair}
use Rattle.room_index.specs.Names.{Held, Names}

-- what number n has, once a route of this pair stands in a room
abbrev pub with_place : Id → ℕ → ℕ → Option (Ptr × ℕ) → Option (Ptr × ℕ)
with_place room k n had = if n == number_of room then Some (room.block, k) else had

module _ {V : Type 0} where
  -- what a room has as a leaf: its block, and the pair of its route
  abbrev pub place_of : Option (LeafPart V) → Option (Ptr × ℕ)
  place_of None = None
  place_of (Some p) = Some (p.block, pair p.leaf.key p.leaf.rank)

  abbrev pub places_in : Lodged V → ℕ → Option (Ptr × ℕ)
  places_in m n = place_of (leaves_in m n)

  -- the room has a route of this entry's pair, and each other one what it had
  abbrev pub HasPlaceMore : Lodged V → Lodged V → Id → Entry V → Type 0
  HasPlaceMore old new room e = (n : ℕ) → places_in new n ≡ with_place room (pair e.key e.rank) n (places_in old n)

  -- the room has no route any more
  abbrev pub HasPlaceLess : Lodged V → Lodged V → Id → Type 0
  HasPlaceLess old new room = (n : ℕ) → places_in new n ≡ (if n == number_of room then None else places_in old n)

  -- each room that it has for a pair has a route of that pair; and where it is whole, it has the room of each route
  pub record Indexes (h : Held) (m : Lodged V) : Type 0 where
    pub found : (k : ℕ) (room : Id) → Names h k room → places_in m (number_of room) ≡ Some (room.block, k)
    pub all : h.whole ≡ true → (n : ℕ) (place : Ptr × ℕ) → places_in m n ≡ Some place
        → (room : Id) × Names h place.1 room × (number_of room ≡ n)
