-- What a walk has still to give, told by the links of its place alone.
use Rattle.std.specs.Prelude.{◌≡◌, ℕ, zero, suc, ◌+◌, ◌⊎◌, ◌==◌, if◌then◌else◌, List, [], ◌∷◌, ◌++◌, Option, None, Some}
use Rattle.radix_nodes.specs.declared.id.Id.{Id}
use Rattle.radix_nodes.specs.declared.links.Node.{Node}
use Rattle.radix_tree.specs.Bounds.{levels, ranks}
use Rattle.radix_tree.specs.Tree.{bit_at, routes_of}
use Rattle.radix_tree.specs.Rooms.{LeafPart, BitPart, Leaves, Bits, Part, Run, first_room, Lodged}
use Rattle.radix_tree.specs.Searches.{ForkAt, LeafAt}
use Rattle.radix_tree.specs.Whole.{chain_shown, beneath_shown}
use Rattle.radix_tree.specs.declared.entry.Entry.{Entry}
use Rattle.radix_tree.specs.declared.walk.Place.{Place}
use Rattle.radix_nodes.specs.Naming.{number_of}

module _ {V : Type 0} where
  -- ---- what stands behind a place
  -- beneath the side of ones, where the key is on the side of zeros, and then what is behind the bit node
  abbrev pub side_behind : ℕ → (Node → List (Entry V)) → (Option Id → List (Entry V)) → Option BitPart → List (Entry V)
  side_behind key beneath behind None = []
  side_behind key beneath behind (Some p) = (if bit_at p.bit key == 1 then [] else beneath p.one) ++ behind p.above

  -- what stands behind all beneath a bit node's side on which a key is, so many levels up at most
  unfoldable pub up_behind : ℕ → Leaves V → Bits → ℕ → Option Id → List (Entry V)
  up_behind zero L B key above = []
  up_behind (suc n) L B key None = []
  up_behind (suc n) L B key (Some up) =
      side_behind key (beneath_shown levels L B) (up_behind n L B key) (B (number_of up))

  -- what stands behind the chain of a first room
  abbrev pub chain_behind : Leaves V → Bits → Option (LeafPart V) → List (Entry V)
  chain_behind L B None = []
  chain_behind L B (Some p) = up_behind levels L B p.leaf.key p.leaf.above

  -- what stands from a place on
  abbrev pub ahead : Leaves V → Bits → Option Place → List (Entry V)
  ahead L B None = []
  ahead L B (Some place) = chain_shown ranks L (Some place.room) ++ chain_behind L B (L (number_of place.first))

  -- ---- where a walk can be
  -- one part is a side of the bit node that another one is; right is what stands behind it beneath that
  pub record Under {m : Lodged V} (right : List (Entry V)) (under over : Part m) : Type 0 where
    pub room : Id
    pub at : ForkAt over room
    pub above : under.above ≡ Some room
    pub low : under.low ≡ at.bit + 1
    pub side : ((under.tree ≡ at.zero) × (right ≡ routes_of at.one)) ⊎ ((under.tree ≡ at.one) × (right ≡ []))

  -- behind a part of a tree these routes stand; with the parts above it, the lowest first
  abbrev pub IsBefore : {m : Lodged V} → Part m → Part m → List (Entry V) → List (Part m) → Type 0
  IsBefore whole at behind [] = (at ≡ whole) × (behind ≡ [])
  IsBefore whole at behind (over ∷ ups) = (right : List (Entry V)) × (later : List (Entry V)) × Under right at over
      × IsBefore whole over later ups × (behind ≡ right ++ later)

  -- the first room of a leaf of this key, in a tree
  pub record IsFirst (m : Lodged V) (key : ℕ) (first : Id) : Type 0 where
    pub whole : Part m
    pub top : whole.above ≡ None
    pub part : Part m
    pub leaf : LeafAt part first
    pub own : leaf.first.entry.key ≡ key
    pub behind : List (Entry V)
    pub ups : List (Part m)
    pub before : IsBefore whole part behind ups

  -- at a room of its chain
  pub record IsAt (m : Lodged V) (place : Place) : Type 0 where
    pub key : ℕ
    pub first : IsFirst m key place.first
    pub run : Run m
    pub begins : first_room run.members ≡ Some place.room
    pub of_key : run.key ≡ key

  abbrev pub IsOn : Lodged V → Option Place → Type 0
  IsOn m None = Unit {0}
  IsOn m (Some place) = IsAt m place
