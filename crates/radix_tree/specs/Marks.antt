-- A table's rooms while it changes: the masks of some routes may not be listed yet, and a room may be on its way out.
use Rattle.std.specs.Prelude.{◌≡◌, ℕ, ◌==◌, ◌&&◌, ◌||◌, not, Bool, false, Option, None, Some, is_some}
use Rattle.radix_nodes.specs.declared.id.Id.{Id}
use Rattle.radix_nodes.specs.declared.links.Node.{Node}
use Rattle.radix_tree.specs.Rooms.{LeafPart, leaves_in, Lodged}
use Rattle.radix_tree.specs.Whole.{one_if, nobody_out, IsWholeBut}
use Rattle.radix_nodes.specs.Naming.{number_of}

module _ {V : Type 0} where
  -- where masks of some routes were late, that of the route in this room is not any more
  abbrev pub ListsMaskOf : Lodged V → Lodged V → Id → Type 0
  ListsMaskOf old new room = (root : Node) (late : ℕ → Bool) → IsWholeBut old root late nobody_out
      → IsWholeBut new root (λ n. late n && not (n == number_of room)) nobody_out

  -- the room has a route of this key
  abbrev pub is_of_key : ℕ → Option (LeafPart V) → Bool
  is_of_key key None = false
  is_of_key key (Some p) = p.leaf.key == key

  abbrev pub has_key : Lodged V → ℕ → ℕ → Bool
  has_key m key n = is_of_key key (leaves_in m n)

  -- a room more is in use, and each other one as before
  abbrev pub HasRoomMore : Lodged V → Lodged V → ℕ → Type 0
  HasRoomMore old new room = (n : ℕ) → is_some (leaves_in new n) ≡ (n == room) || is_some (leaves_in old n)

-- the route in this room
abbrev pub late_at : ℕ → ℕ → Bool
late_at room n = n == room

-- this room is on its way out
abbrev pub out_at : ℕ → ℕ → ℕ
out_at room n = one_if (n == room)
