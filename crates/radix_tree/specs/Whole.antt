-- A table's rooms as a whole: the tree that they stand for, and the routes that they show.
use Rattle.std.specs.Prelude.{◌≡◌, ℕ, zero, suc, ◌+◌, ◌≤◌, ◌==◌, ◌⊎◌, Bool, true, false, List, [], ◌∷◌, ◌++◌, Option, None, Some, is_some}
use Rattle.radix_nodes.specs.declared.id.Id.{Id}
use Rattle.radix_nodes.specs.declared.links.Node.{Node}
use Rattle.radix_nodes.specs.declared.links.Node.TheVariants.{Leaf as LeafOf, Bit as BitOf}
use Rattle.radix_tree.specs.Bounds.{levels, ranks}
use Rattle.radix_tree.specs.Tree.{Placed, Tree, leaf, fork, bit_at, IsIn}
use Rattle.radix_tree.specs.Rooms.{LeafPart, BitPart, MaskPart, Leaves, Bits, Part, IsMarked, MarkedLists, leaves_in, bits_in, heads_in}
use Rattle.radix_tree.specs.Rooms.{masks_in, name_of, Lodged}
use Rattle.radix_tree.specs.declared.entry.Entry.{Entry}
use Rattle.radix_nodes.specs.Naming.{number_of}

abbrev pub one_if : Bool → ℕ
one_if true = 1
one_if false = 0

-- no route is late, and no room is on its way out
abbrev pub nobody_late : ℕ → Bool
nobody_late n = false

abbrev pub nobody_out : ℕ → ℕ
nobody_out n = 0

module _ {V : Type 0} where
  -- ---- the routes that rooms show, with no word of a tree
  abbrev pub shown_entry : LeafPart V → Entry V
  shown_entry p = record { key = p.leaf.key; rank = p.leaf.rank; value = p.value }

  abbrev pub chain_from : Option (LeafPart V) → (Option Id → List (Entry V)) → List (Entry V)
  chain_from None behind = []
  chain_from (Some p) behind = shown_entry p ∷ behind p.leaf.next

  -- a chain from a room on, so many members at most
  unfoldable pub chain_shown : ℕ → Leaves V → Option Id → List (Entry V)
  chain_shown zero L at = []
  chain_shown (suc n) L None = []
  chain_shown (suc n) L (Some room) = chain_from (L (number_of room)) (chain_shown n L)

  abbrev pub sides_from : Option BitPart → (Node → List (Entry V)) → List (Entry V)
  sides_from None beneath = []
  sides_from (Some p) beneath = beneath p.zero ++ beneath p.one

  -- what is beneath a node, so many levels at most
  unfoldable pub beneath_shown : ℕ → Leaves V → Bits → Node → List (Entry V)
  beneath_shown zero L B at = []
  beneath_shown (suc n) L B (LeafOf room) = chain_shown ranks L (Some room)
  beneath_shown (suc n) L B (BitOf room) = sides_from (B (number_of room)) (beneath_shown n L B)

  abbrev pub shown : Lodged V → Option Node → List (Entry V)
  shown m None = []
  shown m (Some root) = beneath_shown levels (leaves_in m) (bits_in m) root

  -- ---- the tree
  -- how many leaves and how many bit nodes of a tree are in the room of a number
  abbrev pub members_at : ℕ → List (Placed V) → ℕ
  members_at n [] = 0
  members_at n (x ∷ xs) = one_if (number_of x.room == n) + members_at n xs

  abbrev pub leaves_at : ℕ → Tree V → ℕ
  leaves_at n (leaf x xs) = members_at n (x ∷ xs)
  leaves_at n (fork room b left right) = leaves_at n left + leaves_at n right

  abbrev pub forks_at : ℕ → Tree V → ℕ
  forks_at n (leaf x xs) = 0
  forks_at n (fork room b left right) = one_if (number_of room == n) + (forks_at n left + forks_at n right)

  -- on the way of a key there is a bit node whose bit is at or past a rank
  abbrev pub HasHome : ℕ → ℕ → Tree V → Type 0
  HasHome key rank (leaf x xs) = ⊥
  HasHome key rank (fork room b left right) = (rank ≤ b)
      ⊎ (((bit_at b key ≡ 0) × HasHome key rank left) ⊎ ((bit_at b key ≡ 1) × HasHome key rank right))

  -- of a chain at most one member's room has a bit node in use
  abbrev pub AreIdle : Bits → List (Placed V) → Type 0
  AreIdle B [] = Unit {0}
  AreIdle B (x ∷ xs) = (B (number_of x.room) ≡ None) × AreIdle B xs

  abbrev pub HasOneFork : Bits → List (Placed V) → Type 0
  HasOneFork B [] = Unit {0}
  HasOneFork B (x ∷ xs) = AreIdle B xs ⊎ ((B (number_of x.room) ≡ None) × HasOneFork B xs)

  abbrev pub HaveOneFork : Bits → Tree V → Type 0
  HaveOneFork B (leaf x xs) = HasOneFork B (x ∷ xs)
  HaveOneFork B (fork room b left right) = HaveOneFork B left × HaveOneFork B right

  -- the rooms of a map stand for a tree: each is a leaf of it once, and each bit node in use is one of it once; no mask
  -- is listed but the tree's. On the way of a change the masks of the routes in some rooms may not be listed, and some
  -- rooms are not of the tree
  pub record IsWholeBut (m : Lodged V) (root : Node) (late : ℕ → Bool) (out : ℕ → ℕ) : Type 0 where
    pub part : Part m
    pub low : part.low ≡ 0
    pub top : part.above ≡ None
    pub named : name_of part.tree ≡ root
    pub leaves : (n : ℕ) → leaves_at n part.tree + out n ≡ one_if (is_some (leaves_in m n))
    pub forks : (n : ℕ) → forks_at n part.tree ≡ one_if (is_some (bits_in m n))
    pub spare : HaveOneFork (bits_in m) part.tree
    pub lists : MarkedLists (heads_in m) (masks_in m) part.low part.tree
    pub listed : (n : ℕ) (p : MaskPart) → masks_in m n ≡ Some p
        → (x : Placed V) × IsIn x part.tree × (number_of x.room ≡ n) × HasHome x.entry.key x.entry.rank part.tree
    pub all : (x : Placed V) → IsIn x part.tree → HasHome x.entry.key x.entry.rank part.tree
        → IsMarked (masks_in m) x ⊎ (late (number_of x.room) ≡ true)

  abbrev pub IsWhole : Lodged V → Node → Type 0
  IsWhole m root = IsWholeBut m root nobody_late nobody_out

  -- where there is a root there is a tree, and else no room
  abbrev pub Holds : Lodged V → Option Node → Type 0
  Holds m None = (n : ℕ) → leaves_in m n ≡ None
  Holds m (Some root) = IsWhole m root
