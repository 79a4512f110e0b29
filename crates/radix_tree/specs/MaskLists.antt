-- One list of masks, longer ones first: its members, and what comes of it.
use Rattle.std.specs.Prelude.{◌≡◌, ℕ, ◌+◌, ◌≤◌, ◌==◌, nat_lt, if◌then◌else◌, List, [], ◌∷◌, ◌++◌, Option, None, Some, is_some}
use Rattle.radix_nodes.specs.declared.id.Id.{Id}
use Rattle.radix_tree.specs.Bounds.{ranks}
use Rattle.radix_tree.specs.Tree.{Placed, IsAmong}
use Rattle.radix_tree.specs.Rooms.{LeafPart, BitPart, MaskPart, Leaves, Part, leaves_in, bits_in, heads_in, masks_in, first_room, MasksStand, Falls, Lodged}
use Rattle.radix_tree.specs.Searches.{Way, ForkAt}
use Rattle.radix_tree.specs.Whole.{HasHome}
use Rattle.radix_nodes.specs.Naming.{number_of}

-- the head of a list that number n says, once a list of masks has this member behind one of them, or as its first
abbrev pub head_linked : Id → Option Id → Option Id → ℕ → Option Id → Option Id
head_linked fork None next n said = if n == (number_of fork) then next else said
head_linked fork (Some before) next n said = said

-- and the mask node
abbrev pub mask_linked : Option Id → Option Id → ℕ → Option MaskPart → Option MaskPart
mask_linked None next n said = said
mask_linked (Some before) next n said = if n == (number_of before)
    then Some (record { block = before.block; next = next }) else said

module _ {V : Type 0} where
  -- ---- members of a list
  -- those before the first one whose rank is below low
  abbrev pub not_below : ℕ → List (Placed V) → List (Placed V)
  not_below low [] = []
  not_below low (x ∷ xs) = if nat_lt x.entry.rank low then [] else x ∷ not_below low xs

  -- and from that one on
  abbrev pub below : ℕ → List (Placed V) → List (Placed V)
  below low [] = []
  below low (x ∷ xs) = if nat_lt x.entry.rank low then x ∷ xs else below low xs

  -- a mask more, before the first one that is shorter
  abbrev pub sorted_in : Placed V → List (Placed V) → List (Placed V)
  sorted_in x ms = not_below x.entry.rank ms ++ x ∷ below x.entry.rank ms

  -- without that of a rank
  abbrev pub taken_out : ℕ → List (Placed V) → List (Placed V)
  taken_out rank ms = not_below (rank + 1) ms ++ below rank ms

  -- those of ranks past a bit
  abbrev pub past_bit : ℕ → List (Placed V) → List (Placed V)
  past_bit bit ms = not_below (bit + 1) ms

  -- the others
  abbrev pub up_to_bit : ℕ → List (Placed V) → List (Placed V)
  up_to_bit bit ms = below (bit + 1) ms

  -- the room of the last one, or this one where there is none
  abbrev pub last_from : Option Id → List (Placed V) → Option Id
  last_from before [] = before
  last_from before (x ∷ xs) = last_from (Some x.room) xs

  abbrev pub last_mask : List (Placed V) → Option Id
  last_mask ms = last_from None ms

  -- no member's room has this number
  abbrev pub IsAside : ℕ → List (Placed V) → Type 0
  IsAside n ms = (y : Placed V) → IsAmong y ms → number_of y.room ≡ n → ⊥

  -- no member has this rank
  abbrev pub IsNoRank : ℕ → List (Placed V) → Type 0
  IsNoRank rank ms = (y : Placed V) → IsAmong y ms → y.entry.rank ≡ rank → ⊥

  -- ---- in the rooms of a map
  -- the route's room is a leaf of its rank
  pub record IsRanked (L : Leaves V) (x : Placed V) : Type 0 where
    pub part : LeafPart V
    pub said : L (number_of x.room) ≡ Some part
    pub block : part.block ≡ x.room.block
    pub rank : part.leaf.rank ≡ x.entry.rank

  abbrev pub AreRanked : Leaves V → List (Placed V) → Type 0
  AreRanked L [] = Unit {0}
  AreRanked L (x ∷ xs) = IsRanked L x × AreRanked L xs

  -- a list of masks that begins with this room, or of none
  pub record IsMasks (m : Lodged V) (first : Option Id) (ms : List (Placed V)) : Type 0 where
    pub begins : first_room ms ≡ first
    pub stands : MasksStand (masks_in m) ms
    pub falls : Falls 0 ranks ms
    pub ranked : AreRanked (leaves_in m) ms

  -- the masks that a bit node lists
  abbrev pub MasksAt : Lodged V → Id → List (Placed V) → Type 0
  MasksAt m fork ms = IsMasks m (heads_in m (number_of fork)) ms

  -- the rooms that are not on the list of a bit node say as mask nodes what they said, and so they do but for one room
  abbrev pub KeepsAside : Lodged V → Lodged V → Id → Type 0
  KeepsAside old new fork = (ms : List (Placed V)) → MasksAt old fork ms
      → (n : ℕ) → IsAside n ms → masks_in new n ≡ masks_in old n

  abbrev pub KeepsAsideBut : Lodged V → Lodged V → Id → Id → Type 0
  KeepsAsideBut old new fork room = (ms : List (Placed V)) → MasksAt old fork ms
      → (n : ℕ) → (n ≡ number_of room → ⊥) → IsAside n ms → masks_in new n ≡ masks_in old n

  -- the rooms whose masks are listed stay, but for one room
  abbrev pub KeepsMarksBut : Lodged V → Lodged V → Id → Type 0
  KeepsMarksBut old new room = (n : ℕ) → (n ≡ number_of room → ⊥)
      → is_some (masks_in new n) ≡ is_some (masks_in old n)

  -- the room is a bit node in use
  pub record IsBitNode (m : Lodged V) (room : Id) : Type 0 where
    pub part : BitPart
    pub said : bits_in m (number_of room) ≡ Some part
    pub block : part.block ≡ room.block

  -- a room that is no mask node yet
  pub record IsFree (m : Lodged V) (room : Id) : Type 0 where
    pub is : Placed V
    pub room_is : is.room ≡ room
    pub ranked : IsRanked (leaves_in m) is
    pub unmarked : masks_in m (number_of room) ≡ None

  -- ---- the bit node at which a mask is listed: the topmost one on a key's way whose bit is at or past the rank
  pub record HomeAt (m : Lodged V) (key rank : ℕ) (whole : Part m) (room : Id) : Type 0 where
    pub part : Part m
    pub at : ForkAt part room
    pub ups : List (Part m)
    pub way : Way key whole part ups
    pub past : part.low ≤ rank
    pub within : rank ≤ at.bit

  abbrev pub IsHome : (m : Lodged V) (key rank : ℕ) (whole : Part m) → Option Id → Type 0
  IsHome m key rank whole None = HasHome key rank whole.tree → ⊥
  IsHome m key rank whole (Some room) = HomeAt m key rank whole room
