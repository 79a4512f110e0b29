-- The texts of drawings and searches, step by step.
use Rattle.std.proofs.Common.{◌≡◌, ℕ, ◌+◌, ◌-◌, ◌<◌, ◌≤◌, ◌⊎◌, ◌==◌, Bool, true, false, cond, List, ◌++◌, length, take, drop}
use Rattle.std.proofs.Common.{get_or, refl, ap, sym, ◌∙◌}
use Rattle.std.proofs.lemmas.List.{at_drop_more}
use Rattle.std.specs.Prelude.{find, codes}
use Rattle.std.specs.Option.{option_or}
use Rattle.mask_table.specs.Agreeing.{bit}
use Rattle.tree_pictures.specs.Dot.{node_dot, edge_dot, graph}
use Rattle.tree_pictures.specs.Drawing.{leaf_line, node_line, zero_mark, one_mark, zero_indent, one_indent, drawing}
use Rattle.tree_pictures.specs.Steps.{tries, down_line, up_lines, way_text}
use Rattle.tree_pictures.specs.Svg.{columns, columns_before, edge_svg, zero_label, one_label, route_svg, lines_svg, leaf_svg, node_svg, picture}
use Rattle.tree_pictures.specs.Tree.{Tree, fork, routes_of, masks_of, covers, found, tree_from}
use Rattle.tree_pictures.proofs.Trees.{IsCut, cut_fork, same_tree, routes_cut, leaf_from}
use Rattle.tree_pictures.specs.declared.pair.Pair.{Pair}

-- ---- drawings
pub draws_leaf : (indent : List ℕ) (low : ℕ) (ps : List Pair) → drawing indent low (tree_from 0 ps) ≡ leaf_line ps
unfolding drawing
draws_leaf indent low ps = rw (leaf_from ps) refl

pub draws_same : (indent : List ℕ) (low left k : ℕ) (ps : List Pair) → IsCut left k ps → (k ≡ 0) ⊎ (length ps ≤ k)
    → drawing indent low (tree_from left ps) ≡ drawing indent low (tree_from (left - 1) ps)
draws_same indent low left k ps cut none = ap (drawing indent low) (same_tree left k ps cut none)

pub draws_fork : (indent : List ℕ) (low left k : ℕ) (ps : List Pair) → IsCut left k ps → 0 < k → k < length ps
    → drawing indent low (tree_from left ps) ≡ node_line (32 - left) (masks_of low (32 - left) ps)
    ++ indent ++ zero_mark ++ drawing (indent ++ zero_indent) (32 - left + 1) (tree_from (left - 1) (take k ps))
    ++ indent ++ one_mark ++ drawing (indent ++ one_indent) (32 - left + 1) (tree_from (left - 1) (drop k ps))
unfolding drawing
draws_fork indent low left k ps cut some less =
    ap (drawing indent low) (cut_fork left k ps cut some less)
    ∙ ap (λ beneath. node_line (32 - left) (masks_of low (32 - left) beneath)
    ++ indent ++ zero_mark ++ drawing (indent ++ zero_indent) (32 - left + 1) (tree_from (left - 1) (take k ps))
    ++ indent ++ one_mark ++ drawing (indent ++ one_indent) (32 - left + 1) (tree_from (left - 1) (drop k ps))) (routes_cut (left - 1) k ps)

-- ---- graphs
pub graph_leaf : (name : List ℕ) (low : ℕ) (ps : List Pair) → graph name low (tree_from 0 ps) ≡ node_dot name (leaf_line ps)
unfolding graph
graph_leaf name low ps = rw (leaf_from ps) refl

pub graph_same : (name : List ℕ) (low left k : ℕ) (ps : List Pair) → IsCut left k ps → (k ≡ 0) ⊎ (length ps ≤ k)
    → graph name low (tree_from left ps) ≡ graph name low (tree_from (left - 1) ps)
graph_same name low left k ps cut none = ap (graph name low) (same_tree left k ps cut none)

pub graph_fork : (name : List ℕ) (low left k : ℕ) (ps : List Pair) → IsCut left k ps → 0 < k → k < length ps
    → graph name low (tree_from left ps) ≡ node_dot name (node_line (32 - left) (masks_of low (32 - left) ps))
    ++ edge_dot name (codes "0") ++ graph (name ++ codes "0") (32 - left + 1) (tree_from (left - 1) (take k ps))
    ++ edge_dot name (codes "1") ++ graph (name ++ codes "1") (32 - left + 1) (tree_from (left - 1) (drop k ps))
unfolding graph
graph_fork name low left k ps cut some less =
    ap (graph name low) (cut_fork left k ps cut some less)
    ∙ ap (λ beneath. node_dot name (node_line (32 - left) (masks_of low (32 - left) beneath))
    ++ edge_dot name (codes "0") ++ graph (name ++ codes "0") (32 - left + 1) (tree_from (left - 1) (take k ps))
    ++ edge_dot name (codes "1") ++ graph (name ++ codes "1") (32 - left + 1) (tree_from (left - 1) (drop k ps))) (routes_cut (left - 1) k ps)

-- ---- pictures in SVG
pub picture_leaf : (label : List ℕ) (start row low : ℕ) (ps : List Pair) → picture label start row low (tree_from 0 ps) ≡ leaf_svg label start row ps
unfolding picture
picture_leaf label start row low ps = rw (leaf_from ps) refl

pub picture_same : (label : List ℕ) (start row low left k : ℕ) (ps : List Pair) → IsCut left k ps → (k ≡ 0) ⊎ (length ps ≤ k)
    → picture label start row low (tree_from left ps) ≡ picture label start row low (tree_from (left - 1) ps)
picture_same label start row low left k ps cut none = ap (picture label start row low) (same_tree left k ps cut none)

pub lines_more : (ps : List Pair) (i : ℕ) (p : Pair) → i < length ps → p ≡ get_or ps i p
    → lines_svg (drop i ps) ≡ route_svg p ++ lines_svg (drop (i + 1) ps)
lines_more ps i p h is = at_drop_more lines_svg ps i p h ∙ ap (λ q. route_svg q ++ lines_svg (drop (i + 1) ps)) (sym is)

-- a bit node's box behind its two sides and the edges to them
abbrev pub fork_svg : List ℕ → ℕ → ℕ → ℕ → Tree → Tree → List Pair → List ℕ
fork_svg label start row b zeros ones masks = edge_svg (start + columns zeros) row (start + columns_before zeros)
    ++ picture zero_label start (row + 1) (b + 1) zeros
    ++ edge_svg (start + columns zeros) row (start + columns zeros + 1 + columns_before ones)
    ++ picture one_label (start + columns zeros + 1) (row + 1) (b + 1) ones
    ++ node_svg label (start + columns zeros) row b masks

pub picture_fork : (label : List ℕ) (start row low left k : ℕ) (ps : List Pair) → IsCut left k ps → 0 < k → k < length ps
    → picture label start row low (tree_from left ps)
    ≡ fork_svg label start row (32 - left) (tree_from (left - 1) (take k ps)) (tree_from (left - 1) (drop k ps)) (masks_of low (32 - left) ps)
unfolding picture
picture_fork label start row low left k ps cut some less =
    ap (picture label start row low) (cut_fork left k ps cut some less)
    ∙ ap (λ beneath. fork_svg label start row (32 - left) (tree_from (left - 1) (take k ps)) (tree_from (left - 1) (drop k ps)) (masks_of low (32 - left) beneath))
    (routes_cut (left - 1) k ps)

-- ---- searches
pub way_leaf : (a low : ℕ) (ps : List Pair) → way_text low a (tree_from 0 ps) ≡ leaf_line ps ++ tries a ps
unfolding way_text
way_leaf a low ps = rw (leaf_from ps) refl

pub found_leaf : (a low : ℕ) (ps : List Pair) → found low a (tree_from 0 ps) ≡ find (covers a) ps
found_leaf a low ps = ap (found low a) (leaf_from ps)

pub way_same : (a low left k : ℕ) (ps : List Pair) → IsCut left k ps → (k ≡ 0) ⊎ (length ps ≤ k)
    → way_text low a (tree_from left ps) ≡ way_text low a (tree_from (left - 1) ps)
way_same a low left k ps cut none = ap (way_text low a) (same_tree left k ps cut none)

pub found_same : (a low left k : ℕ) (ps : List Pair) → IsCut left k ps → (k ≡ 0) ⊎ (length ps ≤ k)
    → found low a (tree_from left ps) ≡ found low a (tree_from (left - 1) ps)
found_same a low left k ps cut none = ap (found low a) (same_tree left k ps cut none)

-- on the side of the address's bit
side_way : (a low b n : ℕ) (zs os ps : List Pair) (one : Bool) → one ≡ (bit b a == 1) → routes_of (tree_from n zs) ++ routes_of (tree_from n os) ≡ ps
    → way_text low a (fork b (tree_from n zs) (tree_from n os)) ≡ down_line b a ++ way_text (b + 1) a (tree_from n (cond one os zs))
    ++ up_lines a b (masks_of low b ps) (found (b + 1) a (tree_from n (cond one os zs)))
unfolding way_text
side_way a low b n zs os ps true is all = rw (← is, all) refl
side_way a low b n zs os ps false is all = rw (← is, all) refl

side_found : (a low b n : ℕ) (zs os ps : List Pair) (one : Bool) → one ≡ (bit b a == 1) → routes_of (tree_from n zs) ++ routes_of (tree_from n os) ≡ ps
    → found low a (fork b (tree_from n zs) (tree_from n os)) ≡ option_or (found (b + 1) a (tree_from n (cond one os zs))) (find (covers a) (masks_of low b ps))
side_found a low b n zs os ps true is all = rw (← is, all) refl
side_found a low b n zs os ps false is all = rw (← is, all) refl

module _ (a low left k : ℕ) (ps : List Pair) (one : Bool) (cut : IsCut left k ps) (some : 0 < k) (less : k < length ps) (is : one ≡ (bit (32 - left) a == 1)) where
  pub way_fork : way_text low a (tree_from left ps) ≡ down_line (32 - left) a ++ way_text (32 - left + 1) a (tree_from (left - 1) (cond one (drop k ps) (take k ps)))
      ++ up_lines a (32 - left) (masks_of low (32 - left) ps) (found (32 - left + 1) a (tree_from (left - 1) (cond one (drop k ps) (take k ps))))
  way_fork = ap (way_text low a) (cut_fork left k ps cut some less)
      ∙ side_way a low (32 - left) (left - 1) (take k ps) (drop k ps) ps one is (routes_cut (left - 1) k ps)

  pub found_fork : found low a (tree_from left ps)
      ≡ option_or (found (32 - left + 1) a (tree_from (left - 1) (cond one (drop k ps) (take k ps)))) (find (covers a) (masks_of low (32 - left) ps))
  found_fork = ap (found low a) (cut_fork left k ps cut some less)
      ∙ side_found a low (32 - left) (left - 1) (take k ps) (drop k ps) ps one is (routes_cut (left - 1) k ps)
