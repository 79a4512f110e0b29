-- The steps of the search for an address, a line each.
use Rattle.std.specs.Prelude.{ℕ, ◌+◌, ◌==◌, Bool, cond, List, [], ◌∷◌, ◌++◌, Option, Some, None, codes, decimal}
use Rattle.mask_table.specs.Agreeing.{bit}
use Rattle.event_file.specs.Printed.{inet_word}
use Rattle.lab_text.specs.Words.{destination_word}
use Rattle.tree_pictures.specs.Drawing.{leaf_line, node_line, empty_line}
use Rattle.tree_pictures.specs.Tree.{Tree, leaf, fork, routes_of, tree_of, masks_of, covers, found}
use Rattle.tree_pictures.specs.declared.pair.Pair.{Pair}

abbrev pub verdict : Bool → List ℕ
verdict agrees = cond agrees (codes " agrees\n") (codes " does not agree\n")

-- `  10.0.0.5 does not agree`
abbrev pub try_line : ℕ → Pair → List ℕ
try_line address p = codes "  " ++ destination_word p.key p.rank ++ verdict (covers address p)

-- along routes, until one agrees
abbrev pub tries : ℕ → List Pair → List ℕ
tries address [] = []
tries address (p ∷ ps) = try_line address p ++ cond (covers address p) [] (tries address ps)

abbrev pub side_words : Bool → List ℕ
side_words one = cond one (codes " is 1: down on the 1 side\n") (codes " is 0: down on the 0 side\n")

-- `bit 29 of 10.0.0.7 is 1: down on the 1 side`
abbrev pub down_line : ℕ → ℕ → List ℕ
down_line b address = codes "bit " ++ decimal b ++ codes " of " ++ inet_word address ++ side_words (bit b address == 1)

-- where nothing was found beneath: up to the bit node, and along the masks that it lists
abbrev pub up_lines : ℕ → ℕ → List Pair → Option Pair → List ℕ
up_lines address b masks (Some p) = []
up_lines address b masks None = codes "up to " ++ node_line b masks ++ tries address masks

-- down to a leaf, along its chain, and up
unfoldable pub way_text : ℕ → ℕ → Tree → List ℕ
way_text low address (leaf chain) = leaf_line chain ++ tries address chain
way_text low address (fork b zeros ones) = down_line b address
    ++ cond (bit b address == 1) (way_text (b + 1) address ones) (way_text (b + 1) address zeros)
    ++ up_lines address b (masks_of low b (routes_of zeros ++ routes_of ones))
    (cond (bit b address == 1) (found (b + 1) address ones) (found (b + 1) address zeros))

-- `the best route of 10.0.0.7 is 10.0.0.0/16`
abbrev pub best_line : ℕ → Pair → List ℕ
best_line address p =
    codes "the best route of " ++ inet_word address ++ codes " is " ++ destination_word p.key p.rank ++ codes "\n"

abbrev pub answer_line : ℕ → Option Pair → List ℕ
answer_line address None = inet_word address ++ codes " has no route\n"
answer_line address (Some p) = best_line address p

-- the search in the tree of a table's routes
abbrev pub find_text : ℕ → List Pair → List ℕ
find_text address [] = empty_line ++ answer_line address None
find_text address (p ∷ ps) =
    way_text 0 address (tree_of (p ∷ ps)) ++ answer_line address (found 0 address (tree_of (p ∷ ps)))
