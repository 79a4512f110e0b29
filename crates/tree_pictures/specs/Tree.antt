-- The radix tree of a list of routes, of their keys and masks alone: a bit node tests one bit of a key, and a leaf
-- holds the routes of one key, which are a chain.
use Rattle.std.specs.Prelude.{◌≡◌, ℕ, zero, suc, ◌+◌, ◌-◌, ◌<◌, ◌≤◌, ◌↔◌, ◌==◌, Bool, cond, List, [], ◌∷◌, ◌++◌, find, Option, Contains}
use Rattle.std.specs.List.{AllByRecursion, cons_option}
use Rattle.std.specs.Option.{option_or}
use Rattle.mask_table.specs.Agreeing.{agrees, bit, front, masked}
use Rattle.tree_pictures.specs.declared.pair.Pair.{Pair}

-- a leaf is its chain; a bit node is its bit and what is beneath it: first what has a 0 at this bit, then what has a 1
pub data Tree : Type 0 where
  leaf : List Pair → Tree
  fork : ℕ → Tree → Tree → Tree

-- its routes, from left to right
abbrev pub routes_of : Tree → List Pair
routes_of (leaf chain) = chain
routes_of (fork b zeros ones) = routes_of zeros ++ routes_of ones

-- ---- the tree of a list in table order
abbrev pub has_one : ℕ → Pair → Bool
has_one b p = bit b p.key == 1

-- the routes before the first whose key has a 1 at this bit, and the routes from it on
abbrev pub zeros_of : ℕ → List Pair → List Pair
zeros_of b [] = []
zeros_of b (p ∷ ps) = cond (has_one b p) [] (p ∷ zeros_of b ps)

abbrev pub ones_of : ℕ → List Pair → List Pair
ones_of b [] = []
ones_of b (p ∷ ps) = cond (has_one b p) (p ∷ ps) (ones_of b ps)

-- a bit node where some have a 0 and some a 1; else the tree by the next bits
abbrev pub forked : ℕ → (List Pair → Tree) → List Pair → List Pair → Tree
forked b next [] ones = next ones
forked b next (z ∷ zs) [] = next (z ∷ zs)
forked b next (z ∷ zs) (o ∷ os) = fork b (next (z ∷ zs)) (next (o ∷ os))

-- the tree of routes whose keys are the same up to their last bits, so many of them
unfoldable pub tree_from : ℕ → List Pair → Tree
tree_from zero ps = leaf ps
tree_from (suc n) ps = forked (31 - n) (tree_from n) (zeros_of (31 - n) ps) (ones_of (31 - n) ps)

-- the tree of a table's routes
abbrev pub tree_of : List Pair → Tree
tree_of ps = tree_from 32 ps

-- ---- the masks that a bit node lists
abbrev pub has_rank : ℕ → Pair → Bool
has_rank n p = p.rank == n

-- of these routes one of each rank from `low` on, so many ranks, the greatest first
abbrev pub listed : ℕ → ℕ → List Pair → List Pair
listed low zero ps = []
listed low (suc n) ps = cons_option (find (has_rank (low + n)) ps) (listed low n ps)

-- a bit node lists the masks of the routes beneath it that end at or before its bit, and past that of the bit node
-- above, which is before `low`
abbrev pub masks_of : ℕ → ℕ → List Pair → List Pair
masks_of low b beneath = listed low (b + 1 - low) beneath

-- the key has no bit past the rank
abbrev pub IsMasked : Pair → Type 0
IsMasked p = masked p.rank p.key ≡ p.key

-- each bit node lists all the routes beneath it whose masks end so, and no others
abbrev pub ListItsMasks : ℕ → Tree → Type 0
ListItsMasks low (leaf chain) = Unit {0}
ListItsMasks low (fork b zeros ones) =
    ((p : Pair) → Contains (masks_of low b (routes_of zeros ++ routes_of ones)) p
    ↔ (Contains (routes_of zeros ++ routes_of ones) p × (low ≤ p.rank) × (p.rank ≤ b)))
    × ListItsMasks (b + 1) zeros × ListItsMasks (b + 1) ones

-- ---- the search for an address
-- the address agrees with the route
abbrev pub covers : ℕ → Pair → Bool
covers address p = agrees p.rank p.key address

-- down by the address's bits to a leaf, and along its chain; then up, and at each bit node along the masks listed there
abbrev pub found : ℕ → ℕ → Tree → Option Pair
found low address (leaf chain) = find (covers address) chain
found low address (fork b zeros ones) =
    option_or (cond (bit b address == 1) (found (b + 1) address ones) (found (b + 1) address zeros))
    (find (covers address) (masks_of low b (routes_of zeros ++ routes_of ones)))

-- ---- what is a tree
abbrev pub HaveBit : ℕ → ℕ → Tree → Type 0
HaveBit b value t = AllByRecursion (λ p. bit b p.key ≡ value) (routes_of t)

-- a chain of routes of one key, their ranks falling from below a top
abbrev pub IsChain : ℕ → ℕ → List Pair → Type 0
IsChain key top [] = Unit {0}
IsChain key top (p ∷ ps) = (p.key ≡ key) × (p.rank < top) × IsChain key p.rank ps

-- one route at least
abbrev pub IsLeaf : List Pair → Type 0
IsLeaf [] = ⊥
IsLeaf (p ∷ ps) = IsChain p.key 34 (p ∷ ps)

-- a bit node, whose bit is past those of the nodes above it: the keys beneath have the same bits before its own, and
-- its own is 0 on the one side and 1 on the other
pub record IsFork (low b : ℕ) (left right : Tree) : Type 0 where
  pub rises : low ≤ b
  pub within : b ≤ 31
  pub before : ℕ
  pub agree : AllByRecursion (λ p. front b p.key ≡ before) (routes_of left ++ routes_of right)
  pub zeros : HaveBit b 0 left
  pub ones : HaveBit b 1 right

-- a tree whose bits are all at or past this one
abbrev pub IsTree : ℕ → Tree → Type 0
IsTree low (leaf chain) = IsLeaf chain
IsTree low (fork b zeros ones) = IsFork low b zeros ones × IsTree (b + 1) zeros × IsTree (b + 1) ones
