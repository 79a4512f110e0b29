-- The tree as a picture in SVG, the root on top: what has a 0 at the bit of a bit node stands left of it, what has a 1
-- right of it. No two boxes share a column, and an edge leads to the next row; so nothing overlaps.
use Rattle.std.specs.Prelude.{ℕ, ◌+◌, max, List, [], ◌∷◌, ◌++◌, length, codes, decimal}
use Rattle.lab_text.specs.Words.{destination_word}
use Rattle.tree_pictures.specs.Tree.{Tree, leaf, fork, routes_of, tree_of, masks_of}
use Rattle.tree_pictures.specs.declared.pair.Pair.{Pair}

-- ---- where boxes stand
-- how many boxes, and so columns: that of a bit node is between those of its two sides
abbrev pub columns : Tree → ℕ
columns (leaf chain) = 1
columns (fork b zeros ones) = columns zeros + 1 + columns ones

-- how many columns come before that of the topmost box
abbrev pub columns_before : Tree → ℕ
columns_before (leaf chain) = 0
columns_before (fork b zeros ones) = columns zeros

-- how many rows: each box is in the row below that of the bit node above it
abbrev pub rows : Tree → ℕ
rows (leaf chain) = 1
rows (fork b zeros ones) = max (rows zeros) (rows ones) + 1

-- columns are a hundred wide, rows a hundred high
abbrev pub hundreds : ℕ → List ℕ
hundreds n = decimal n ++ codes "00"

-- `200,100`: where this column and this row meet
abbrev pub point : ℕ → ℕ → List ℕ
point column row = hundreds column ++ codes "," ++ hundreds row

-- ---- what is drawn there
-- the edge from a bit node to the topmost box of a side, which is in the row below, in this column
abbrev pub edge_svg : ℕ → ℕ → ℕ → List ℕ
edge_svg column row to = codes "<path d=\"M" ++ point column row ++ codes " " ++ point to (row + 1) ++ codes "\"/>\n"

-- what is written at the end of the edge to the side of 0, and to that of 1
abbrev pub zero_label : List ℕ
zero_label = codes "<text x=\"-8\" y=\"-3\">0</text>"

abbrev pub one_label : List ℕ
one_label = codes "<text x=\"8\" y=\"-3\">1</text>"

-- a line in a box, below the one before
abbrev pub line_svg : List ℕ → List ℕ
line_svg word = codes "<tspan x=\"0\" dy=\"10\">" ++ word ++ codes "</tspan>"

-- the line of a route
abbrev pub route_svg : Pair → List ℕ
route_svg p = line_svg (destination_word p.key p.rank)

-- a line for each route
abbrev pub lines_svg : List Pair → List ℕ
lines_svg [] = []
lines_svg (p ∷ ps) = route_svg p ++ lines_svg ps

-- how a box begins: with its place and the label of its side
abbrev pub box_start : List ℕ → ℕ → ℕ → List ℕ
box_start label column row = codes "<g transform=\"translate(" ++ point column row ++ codes ")\">" ++ label

-- its frame, ten high for each line and four more, with corners as the last word says; then come the lines
abbrev pub frame : ℕ → List ℕ → List ℕ
frame count corners =
    codes "<rect x=\"-47\" width=\"94\" height=\"" ++ decimal count ++ codes "4\"" ++ corners ++ codes "/><text>"

abbrev pub box_end : List ℕ
box_end = codes "</text></g>\n"

-- the box of a leaf: its chain
abbrev pub leaf_svg : List ℕ → ℕ → ℕ → List Pair → List ℕ
leaf_svg label column row chain = box_start label column row ++ frame (length chain) [] ++ lines_svg chain ++ box_end

-- the first line of the box of a bit node
abbrev pub bit_svg : ℕ → List ℕ
bit_svg b = line_svg (codes "bit " ++ decimal b)

-- the box of a bit node, with round corners: its bit, and the masks that it lists
abbrev pub node_svg : List ℕ → ℕ → ℕ → ℕ → List Pair → List ℕ
node_svg label column row b masks = box_start label column row ++ frame (length masks + 1) (codes " rx=\"7\"") ++ bit_svg b ++ lines_svg masks ++ box_end

-- a tree whose columns begin at this one, whose topmost box is in this row and has this label, and which is beneath a
-- bit node whose bit is the one before `low`; the box of a bit node comes last, so that it covers where its edges begin
unfoldable pub picture : List ℕ → ℕ → ℕ → ℕ → Tree → List ℕ
picture label start row low (leaf chain) = leaf_svg label start row chain
picture label start row low (fork b zeros ones) =
    edge_svg (start + columns zeros) row (start + columns_before zeros)
    ++ picture zero_label start (row + 1) (b + 1) zeros
    ++ edge_svg (start + columns zeros) row (start + columns zeros + 1 + columns_before ones)
    ++ picture one_label (start + columns zeros + 1) (row + 1) (b + 1) ones
    ++ node_svg label (start + columns zeros) row b (masks_of low b (routes_of zeros ++ routes_of ones))

-- how the picture begins: it has half a column more at each side, half a row above, and below what the longest chain
-- takes
abbrev pub svg_start : ℕ → ℕ → List ℕ
svg_start width height = codes "<svg xmlns=\"http://www.w3.org/2000/svg\" viewBox=\"-100 -50 " ++ hundreds width ++ codes " " ++ hundreds height
    ++ codes "\" font-family=\"monospace\" font-size=\"8\" text-anchor=\"middle\">\n<style>rect,path{fill:white;stroke:black}</style>\n"

abbrev pub empty_svg : List ℕ
empty_svg = codes "<svg xmlns=\"http://www.w3.org/2000/svg\" viewBox=\"0 0 200 50\"><text x=\"20\" y=\"30\">the table is empty</text></svg>\n"

-- the picture of the tree of a table's routes
abbrev pub svg_text : List Pair → List ℕ
svg_text [] = empty_svg
svg_text (p ∷ ps) = svg_start (columns (tree_of (p ∷ ps)) + 1) (rows (tree_of (p ∷ ps)) + 3) ++ picture [] 0 0 0 (tree_of (p ∷ ps)) ++ codes "</svg>\n"
