-- A route comes into the chain of a leaf, or goes from it.
use Rattle.std.specs.Prelude.{◌≡◌, ℕ, ◌+◌, ◌<◌, ◌≤◌, ◌==◌, if◌then◌else◌, List, [], ◌∷◌, ◌++◌, length, Option, None, Some}
use Rattle.radix_nodes.specs.declared.id.Id.{Id}
use Rattle.radix_nodes.specs.declared.links.Leaf.{Leaf}
use Rattle.radix_nodes.specs.declared.links.Node.{Node}
use Rattle.radix_tree.specs.Tree.{Placed, IsAmong}
use Rattle.radix_tree.specs.Rooms.{LeafPart, Run, first_room, Lodged}
use Rattle.radix_tree.specs.Growth.{root_after}
use Rattle.radix_tree.specs.Writes.{lodge_leaf}
use Rattle.radix_nodes.specs.Naming.{number_of}

-- the root, once a chain has another first member
abbrev pub root_past : Option Id → Option Id → Node → Node → Node
root_past None above to root = root_after above to root
root_past (Some before) above to root = root

module _ {V : Type 0} where
  abbrev pub leaf_next : Option Id → Option (LeafPart V) → Option (LeafPart V)
  leaf_next next None = None
  leaf_next next (Some p) = Some (record p { leaf = record p.leaf { next = next } })

  abbrev pub leaf_back : Option Id → Option Id → Option (LeafPart V) → Option (LeafPart V)
  leaf_back above previous None = None
  leaf_back above previous (Some p) = Some (record p { leaf = record p.leaf { above = above; previous = previous } })

  -- what number n says once a member of a chain, where there is one, names another next one
  abbrev pub name_next : Option Id → Option Id → ℕ → Option (LeafPart V) → Option (LeafPart V)
  name_next None next n said = said
  name_next (Some room) next n said = if n == (number_of room) then leaf_next next said else said

  -- and once it names another bit node above and another previous one
  abbrev pub name_back : Option Id → Option Id → Option Id → ℕ → Option (LeafPart V) → Option (LeafPart V)
  name_back None above previous n said = said
  name_back (Some room) above previous n said = if n == (number_of room) then leaf_back above previous said else said

  -- what number n says once a value is lodged in a room, which is this leaf, and its neighbours name it
  abbrev pub link_in : Id → V → Leaf → ℕ → Option (LeafPart V) → Option (LeafPart V)
  link_in room value l n said =
      name_back l.next None (Some room) n (name_next l.previous (Some room) n (lodge_leaf room value l n said))

  -- what number n says once the neighbours of a leaf name each other in its place
  abbrev pub link_out : Leaf → ℕ → Option (LeafPart V) → Option (LeafPart V)
  link_out l n said = name_next l.previous l.next n (name_back l.next l.above l.previous n said)

  -- ---- places in a chain
  -- the bit node above what is behind these members, and the member before that
  abbrev pub above_behind : Option Id → List (Placed V) → Option Id
  above_behind above [] = above
  above_behind above (x ∷ xs) = None

  abbrev pub last_room : Option Id → List (Placed V) → Option Id
  last_room previous [] = previous
  last_room previous (x ∷ xs) = last_room (Some x.room) xs

  -- all ranks are past this one
  abbrev pub ArePast : ℕ → List (Placed V) → Type 0
  ArePast rank [] = Unit {0}
  ArePast rank (x ∷ xs) = (rank < x.entry.rank) × ArePast rank xs

  -- the first rank is below this one
  abbrev pub IsBelow : ℕ → List (Placed V) → Type 0
  IsBelow rank [] = Unit {0}
  IsBelow rank (x ∷ xs) = x.entry.rank < rank

  module _ {m : Lodged V} where
    -- a walk along a chain that has passed members of greater ranks
    pub record Passed (rank : ℕ) (c : Run m) (above previous next : Option Id) (steps : ℕ) : Type 0 where
      pub front : List (Placed V)
      pub back : List (Placed V)
      pub is : c.members ≡ front ++ back
      pub past : ArePast rank front
      pub above_is : above ≡ above_behind c.above front
      pub previous_is : previous ≡ last_room c.previous front
      pub next_is : next ≡ first_room back
      pub few : steps + length back ≤ 35

    -- the leaf that a route of this rank is to be in the chain: between members of greater ranks and of smaller ones
    pub record IsGap (rank : ℕ) (c : Run m) (key : ℕ) (l : Leaf) : Type 0 where
      pub front : List (Placed V)
      pub back : List (Placed V)
      pub is : c.members ≡ front ++ back
      pub past : ArePast rank front
      pub below : IsBelow rank back
      pub leaf : l ≡ record {
        key = key;
        rank = rank;
        above = above_behind c.above front;
        next = first_room back;
        previous = last_room c.previous front;
      }

    -- a chain has a gap for a rank, or a member of it
    abbrev pub FindsGap : ℕ → ℕ → Run m → Option Leaf → Type 0
    FindsGap key rank c None = (x : Placed V) × IsAmong x c.members × (x.entry.rank ≡ rank)
    FindsGap key rank c (Some l) = IsGap rank c key l
