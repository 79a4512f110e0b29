-- The drawing of a tree: a line for each bit node and each leaf.
use Rattle.std.specs.Prelude.{ℕ, ◌+◌, List, [], ◌∷◌, ◌++◌, codes, decimal}
use Rattle.lab_text.specs.Words.{destination_word}
use Rattle.tree_pictures.specs.Tree.{Tree, leaf, fork, routes_of, tree_of, masks_of}
use Rattle.tree_pictures.specs.declared.pair.Pair.{Pair}

-- ` 10.0.0.0/16 10.0.0.0/8`: each with a space before it
abbrev pub routes_words : List Pair → List ℕ
routes_words [] = []
routes_words (p ∷ ps) = codes " " ++ destination_word p.key p.rank ++ routes_words ps

-- `, masks 10.0.0.0/16 10.0.0.0/8`, where there are any
abbrev pub masks_words : List Pair → List ℕ
masks_words [] = []
masks_words (p ∷ ps) = codes ", masks" ++ routes_words (p ∷ ps)

-- `leaf 10.0.0.0/16 10.0.0.0/8`
abbrev pub leaf_line : List Pair → List ℕ
leaf_line chain = codes "leaf" ++ routes_words chain ++ codes "\n"

-- `bit 29, masks 10.0.0.0/16 10.0.0.0/8`
abbrev pub node_line : ℕ → List Pair → List ℕ
node_line b masks = codes "bit " ++ decimal b ++ masks_words masks ++ codes "\n"

-- what stands before the line of each side of a bit node, and before those beneath it
abbrev pub zero_mark : List ℕ
zero_mark = codes "|-0- "

abbrev pub one_mark : List ℕ
one_mark = codes "|-1- "

abbrev pub zero_indent : List ℕ
zero_indent = codes "|    "

abbrev pub one_indent : List ℕ
one_indent = codes "     "

-- a tree beneath a bit node whose bit is the one before `low`; its first line goes on behind the mark of its side
unfoldable pub drawing : List ℕ → ℕ → Tree → List ℕ
drawing indent low (leaf chain) = leaf_line chain
drawing indent low (fork b zeros ones) = node_line b (masks_of low b (routes_of zeros ++ routes_of ones))
    ++ indent ++ zero_mark ++ drawing (indent ++ zero_indent) (b + 1) zeros
    ++ indent ++ one_mark ++ drawing (indent ++ one_indent) (b + 1) ones

abbrev pub empty_line : List ℕ
empty_line = codes "the table is empty\n"

-- the tree of a table's routes
abbrev pub tree_text : List Pair → List ℕ
tree_text [] = empty_line
tree_text (p ∷ ps) = drawing [] 0 (tree_of (p ∷ ps))
