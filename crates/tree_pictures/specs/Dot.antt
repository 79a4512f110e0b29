-- The tree as a graph in the language of Graphviz.
use Rattle.std.specs.Prelude.{ℕ, ◌+◌, List, [], ◌∷◌, ◌++◌, codes}
use Rattle.tree_pictures.specs.Drawing.{leaf_line, node_line}
use Rattle.tree_pictures.specs.Tree.{Tree, leaf, fork, routes_of, tree_of, masks_of}
use Rattle.tree_pictures.specs.declared.pair.Pair.{Pair}

-- a node, by its name, with its line
abbrev pub node_dot : List ℕ → List ℕ → List ℕ
node_dot name line = name ++ codes " [label=\"" ++ line ++ codes "\"]\n"

-- the edge to a side's node, whose name is its own and that of the side
abbrev pub edge_dot : List ℕ → List ℕ → List ℕ
edge_dot name side = name ++ codes " -> " ++ name ++ side ++ codes " [label=" ++ side ++ codes "]\n"

-- a tree whose node has this name, beneath a bit node whose bit is the one before `low`
unfoldable pub graph : List ℕ → ℕ → Tree → List ℕ
graph name low (leaf chain) = node_dot name (leaf_line chain)
graph name low (fork b zeros ones) = node_dot name (node_line b (masks_of low b (routes_of zeros ++ routes_of ones)))
    ++ edge_dot name (codes "0") ++ graph (name ++ codes "0") (b + 1) zeros
    ++ edge_dot name (codes "1") ++ graph (name ++ codes "1") (b + 1) ones

-- the graph of a table's routes
abbrev pub graph_text : List Pair → List ℕ
graph_text [] = codes "digraph tree {\n}\n"
graph_text (p ∷ ps) =
    codes "digraph tree {\nnode [shape=box]\n" ++ graph (codes "n") 0 (tree_of (p ∷ ps)) ++ codes "}\n"
