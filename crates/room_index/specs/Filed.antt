-- What an entry is, and when its room tells its pair.
use Rattle.std.specs.Prelude.{◌≡◌, ℕ, Some}
use Rattle.std.specs.Ordering.{nat_cmp}
use Rattle.std.specs.FinMap.{FinMap, get}
use Rattle.radix_nodes.specs.Links.{leaf_of}
use Rattle.radix_nodes.specs.Naming.{number_of}
use Rattle.radix_nodes.specs.Rooms.{Seen}
use Rattle.radix_nodes.specs.declared.id.Id.{Id}
use Rattle.room_index.specs.Homes.{pair as pair_of}

-- a pair of a key and a rank, by its number, and its room
pub record Filed : Type 0 where
  pub pair : ℕ
  pub room : Id

-- the room is among these, and as a leaf it is of this pair
pub record IsLeafOf {V : Type 0} (lodged : FinMap nat_cmp (Seen V)) (e : Filed) : Type 0 where
  pub seen : Seen V
  pub at : get lodged (number_of e.room) ≡ Some seen
  pub block : seen.block ≡ e.room.block
  pub pair : pair_of (leaf_of seen.links).key (leaf_of seen.links).rank ≡ e.pair
