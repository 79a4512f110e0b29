-- A table: the routes that its rooms show, how many there are of each rank, and the numbers of its rooms.
use Rattle.std.specs.Prelude.{◌≡◌, ℕ, ◌+◌, ◌≤◌, ◌==◌, List, count_by, Option}
use Rattle.mask_table.specs.Counts.{count_of}
use Rattle.radix_nodes.specs.Rooms.{Rooms}
use Rattle.radix_nodes.specs.declared.links.Node.{Node}
use Rattle.radix_tree.specs.Bounds.{host_rank}
use Rattle.radix_tree.specs.Given.{AreGiven, numbers_in}
use Rattle.radix_tree.specs.Index.{Indexes}
use Rattle.radix_tree.specs.Table.{Contents}
use Rattle.radix_tree.specs.Whole.{shown, Holds}
use Rattle.radix_tree.specs.declared.entry.Entry.{Entry}
use Rattle.room_index.specs.Names.{Held}

module _ {V : Type 0} where
  -- what a contract sees of the rooms beneath a root, of their numbers, and of the number that was given last
  abbrev pub contents : Rooms V → Option Node → List (ℕ × ℕ) → ℕ → Contents V
  contents nodes root given last = record {
    entries = shown nodes.lodged root;
    numbers = numbers_in given;
    next = last + 1;
    turn = nodes.turn;
  }

  -- how many entries have this rank
  abbrev pub of_rank : ℕ → List (Entry V) → ℕ
  of_rank rank entries = count_by (λ e. e.rank == rank) entries

  abbrev pub AreCounted : List ℕ → List (Entry V) → Type 0
  AreCounted counts entries = (rank : ℕ) → rank ≤ host_rank → count_of rank counts ≡ of_rank rank entries

  -- the rooms are a tree beneath the root, its routes are counted and found by the index, and each room has a number
  -- that was given
  pub record IsKept (nodes : Rooms V) (root : Option Node) (counts : List ℕ) (index : Held) (given : List (ℕ × ℕ))
      (last : ℕ) : Type 0 where
    pub holds : Holds nodes.lodged root
    pub counted : AreCounted counts (shown nodes.lodged root)
    pub indexed : Indexes index nodes.lodged
    pub numbered : AreGiven nodes.lodged given last
