-- What follows from the definitions of a list's tree and of the search in it.
use Rattle.std.specs.Prelude.{◌≡◌, ℕ, true, List, ◌∷◌, ◌++◌, map, option_map, Some}
use Rattle.radix_tree.specs.Table.{IsTable, best_of}
use Rattle.radix_tree.specs.Tree.{Tree as RoomTree, leaf as room_leaf, fork as room_fork, IsTree as IsRoomTree, routes_of as entries_of}
use Rattle.radix_tree.specs.declared.entry.Entry.{Entry}
use Rattle.tree_pictures.specs.Steps.{try_line, way_text}
use Rattle.tree_pictures.specs.Tree.{Tree, leaf, fork, routes_of, tree_of, covers, found, IsTree, ListItsMasks}
use Rattle.tree_pictures.specs.declared.pair.Pair.{Pair}

module _ {V : Type 0} where
  -- a table's routes by their keys and ranks
  abbrev pub pair_of : Entry V → Pair
  pair_of e = record { key = e.key; rank = e.rank }

  abbrev pub pairs_of : List (Entry V) → List Pair
  pairs_of entries = map pair_of entries

  -- a tree that a table keeps, without its rooms and values
  abbrev pub shape_of : RoomTree V → Tree
  shape_of (room_leaf x xs) = leaf (map (λ p. pair_of p.entry) (x ∷ xs))
  shape_of (room_fork room b left right) = fork b (shape_of left) (shape_of right)

-- the routes of a list's tree, from left to right, are the list
abbrev pub LeavesAreTheList : Type 0
LeavesAreTheList = (pairs : List Pair) → routes_of (tree_of pairs) ≡ pairs

-- the tree of a table with a route is a tree
abbrev pub TablesHaveTrees : (V : Type 0) → Type 0
TablesHaveTrees V = (e : Entry V) (es : List (Entry V)) → IsTable (e ∷ es) → IsTree 0 (tree_of (pairs_of (e ∷ es)))

-- and there is no other tree with these routes from left to right
abbrev pub TreesAreUnique : Type 0
TreesAreUnique = (t : Tree) → IsTree 0 t → t ≡ tree_of (routes_of t)

-- so each tree that a table may keep has the shape of the tree of its routes
abbrev pub TablesKeepThisTree : (V : Type 0) → Type 0
TablesKeepThisTree V = (t : RoomTree V) → IsRoomTree 0 t → shape_of t ≡ tree_of (pairs_of (entries_of t))

-- in the tree of a table each bit node lists all the masks that belong there
abbrev pub TablesListTheirMasks : (V : Type 0) → Type 0
TablesListTheirMasks V = (entries : List (Entry V)) → IsTable entries → ListItsMasks 0 (tree_of (pairs_of entries))

-- the search for an address ends at the best route of a table, or without one where there is none
abbrev pub SearchFindsTheBest : (V : Type 0) → Type 0
SearchFindsTheBest V = (address : ℕ) (entries : List (Entry V)) → IsTable entries
    → found 0 address (tree_of (pairs_of entries)) ≡ option_map pair_of (best_of address entries)

-- something, and then this
abbrev pub EndsBy : List ℕ → List ℕ → Type 0
EndsBy last text = (front : List ℕ) × (text ≡ front ++ last)

-- what is found agrees with the address, and the text of the way to it ends with the step at it
abbrev pub EndsAt : ℕ → Pair → List ℕ → Type 0
EndsAt address p text = (covers address p ≡ true) × EndsBy (try_line address p) text

-- so do the steps in each tree in which a route is found
abbrev pub WaysEndAtTheFound : Type 0
WaysEndAtTheFound = (address : ℕ) (t : Tree) (p : Pair) → found 0 address t ≡ Some p → EndsAt address p (way_text 0 address t)
