-- The tree of a table's routes. A bit node tests one bit of a key; a leaf holds the routes of one key, which are a
-- chain.
use Rattle.std.specs.Prelude.{◌≡◌, ℕ, ◌+◌, ◌<◌, ◌≤◌, ◌⊎◌, true, List, [], ◌∷◌, ◌++◌, map}
use Rattle.mask_table.specs.Agreeing.{agrees, bit}
use Rattle.radix_nodes.specs.declared.id.Id.{Id}
use Rattle.radix_tree.specs.Bounds.{width, last_bit, ranks}
use Rattle.radix_tree.specs.Table.{IsRoute}
use Rattle.radix_tree.specs.declared.entry.Entry.{Entry}

-- a bit of an address, of which 0 is the highest
unfoldable pub bit_at : ℕ → ℕ → ℕ
bit_at b address = bit b address

-- a route, and the room in which it stands
pub record Placed (V : Type 0) : Type 0 where
  pub room : Id
  pub entry : Entry V

-- a leaf is its chain, which has at least one route; a bit node is its room, its bit, and what is beneath it: first
-- what has a 0 at this bit, then what has a 1
pub data Tree (V : Type 0) : Type 0 where
  leaf : Placed V → List (Placed V) → Tree V
  fork : Id → ℕ → Tree V → Tree V → Tree V

module _ {V : Type 0} where
  -- the route's first bits, as many as its rank says, are the address's
  unfoldable pub Covers : ℕ → Entry V → Type 0
  Covers address e = agrees e.rank e.key address ≡ true

  -- ---- what a tree holds
  abbrev pub IsAmong : Placed V → List (Placed V) → Type 0
  IsAmong p [] = ⊥
  IsAmong p (x ∷ xs) = (x ≡ p) ⊎ IsAmong p xs

  abbrev pub IsIn : Placed V → Tree V → Type 0
  IsIn p (leaf x xs) = IsAmong p (x ∷ xs)
  IsIn p (fork room b zero one) = IsIn p zero ⊎ IsIn p one

  -- its routes, from left to right
  abbrev pub routes_of : Tree V → List (Entry V)
  routes_of (leaf x xs) = map (λ p. p.entry) (x ∷ xs)
  routes_of (fork room b zero one) = routes_of zero ++ routes_of one

  -- ---- what is a tree
  -- a chain of routes of this key, their ranks falling from below a top
  abbrev pub IsChain : ℕ → ℕ → List (Placed V) → Type 0
  IsChain key top [] = Unit {0}
  IsChain key top (x ∷ xs) = IsRoute x.entry × (x.entry.key ≡ key) × (x.entry.rank < top) × IsChain key x.entry.rank xs

  -- all keys of a tree have this value at a bit
  abbrev pub HaveBit : ℕ → ℕ → Tree V → Type 0
  HaveBit b value (leaf x xs) = bit_at b x.entry.key ≡ value
  HaveBit b value (fork room c zero one) = HaveBit b value zero × HaveBit b value one

  -- a bit node, whose bit is past those of the nodes above it: all keys beneath agree on the bits before its own, and
  -- its own is 0 on the one side and 1 on the other
  pub record IsFork (low b : ℕ) (zero one : Tree V) : Type 0 where
    pub rises : low ≤ b
    pub within : b ≤ last_bit
    pub agree : (c : ℕ) → c < b → (value : ℕ) × HaveBit c value zero × HaveBit c value one
    pub zeros : HaveBit b 0 zero
    pub ones : HaveBit b 1 one

  -- a tree whose bits are all at or past this one
  abbrev pub IsTree : ℕ → Tree V → Type 0
  IsTree low (leaf x xs) = (low ≤ width) × IsChain x.entry.key ranks (x ∷ xs)
  IsTree low (fork room b zero one) = IsFork low b zero one × IsTree (b + 1) zero × IsTree (b + 1) one
