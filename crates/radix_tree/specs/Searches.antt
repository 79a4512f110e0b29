-- What searches of a tree answer.
use Rattle.std.specs.Prelude.{◌≡◌, ℕ, ◌+◌, ◌<◌, ◌≤◌, ◌⊎◌, List, [], ◌∷◌, Option, None, Some}
use Rattle.radix_nodes.specs.declared.id.Id.{Id}
use Rattle.radix_tree.specs.Tree.{Placed, Tree, leaf, fork, bit_at, Covers, IsIn}
use Rattle.radix_nodes.specs.declared.links.Node.{Node}
use Rattle.radix_tree.specs.Rooms.{Part, Lodged, name_of}

module _ {V : Type 0} where
  -- a room is told, or none, by what holds of its route
  abbrev pub Tells : (Option (Placed V) → Type 0) → Option Id → Type 0
  Tells Holds None = Holds None
  Tells Holds (Some room) = (x : Placed V) × (x.room ≡ room) × Holds (Some x)

  -- one of the routes M has the property, or none has
  abbrev pub Finds : (Placed V → Type 0) → (Placed V → Type 0) → Option (Placed V) → Type 0
  Finds Has M None = (x : Placed V) → M x → Has x → ⊥
  Finds Has M (Some x) = M x × Has x

  abbrev pub HasPair : ℕ → ℕ → Placed V → Type 0
  HasPair key rank x = (x.entry.key ≡ key) × (x.entry.rank ≡ rank)

  -- the route of greatest rank among those of M that have a rank below top and cover the address; or none, where all
  -- of these have a rank below low
  abbrev pub Best : ℕ → ℕ → ℕ → (Placed V → Type 0) → Option (Placed V) → Type 0
  Best address low top M None = (y : Placed V) → M y → Covers address y.entry → y.entry.rank < top → y.entry.rank < low
  Best address low top M (Some x) = M x × Covers address x.entry
      × ((y : Placed V) → M y → Covers address y.entry → y.entry.rank < top → y.entry.rank ≤ x.entry.rank)

  module _ {m : Lodged V} where
    abbrev pub In : Part m → Placed V → Type 0
    In p x = IsIn x p.tree

    -- the part is a bit node with what is beneath it, or a leaf
    pub record ForkAt (p : Part m) (room : Id) : Type 0 where
      pub bit : ℕ
      pub zero : Tree V
      pub one : Tree V
      pub is : p.tree ≡ fork room bit zero one

    pub record LeafAt (p : Part m) (room : Id) : Type 0 where
      pub first : Placed V
      pub rest : List (Placed V)
      pub is : p.tree ≡ leaf first rest
      pub room_is : first.room ≡ room

    -- the part beneath is what the address's bit leads to from the bit node of the other
    pub record Beneath (address : ℕ) (under over : Part m) : Type 0 where
      pub room : Id
      pub at : ForkAt over room
      pub above : under.above ≡ Some room
      pub low : under.low ≡ at.bit + 1
      pub side : ((under.tree ≡ at.zero) × (bit_at at.bit address ≡ 0))
          ⊎ ((under.tree ≡ at.one) × (bit_at at.bit address ≡ 1))

    -- the parts between one and the whole, on the way of an address, the lowest first
    abbrev pub Way : ℕ → Part m → Part m → List (Part m) → Type 0
    Way address whole at [] = at ≡ whole
    Way address whole at (p ∷ ps) = Beneath address at p × Way address whole p ps

    -- the leaf to which an address's bits lead
    pub record LedTo (address : ℕ) (whole : Part m) (room : Id) : Type 0 where
      pub part : Part m
      pub leaf : LeafAt part room
      pub ups : List (Part m)
      pub way : Way address whole part ups

    -- a node on the way of an address
    pub record IsOnWay (address : ℕ) (whole : Part m) (at : Node) : Type 0 where
      pub part : Part m
      pub named : name_of part.tree ≡ at
      pub ups : List (Part m)
      pub way : Way address whole part ups
