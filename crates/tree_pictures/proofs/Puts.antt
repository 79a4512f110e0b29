-- What several puts come to, one behind the other.
use Rattle.std.proofs.Common.{◌≡◌, ℕ, ◌+◌, ◌-◌, ◌<◌, ◌==◌, Bool, cond, List, [], ◌∷◌, ◌++◌, Option, Some, None, Result, length}
use Rattle.std.proofs.Common.{take, drop, refl, ap, sym, ◌∙◌, subst, arith, OnOk, IfOk}
use Rattle.std.proofs.lemmas.List.{append-nil, append_assoc}
use Rattle.std.specs.Prelude.{find, codes, decimal}
use Rattle.std.specs.Option.{option_or}
use Rattle.mask_table.specs.Agreeing.{bit}
use Rattle.event_file.specs.Printed.{inet_word}
use Rattle.lab_text.specs.Words.{destination_word}
use Rattle.tree_pictures.specs.Dot.{node_dot, edge_dot, graph, graph_text}
use Rattle.tree_pictures.specs.Drawing.{empty_line, leaf_line, node_line, zero_mark, one_mark, zero_indent, one_indent, drawing}
use Rattle.tree_pictures.specs.Steps.{verdict, try_line, tries, side_words, down_line, up_lines, way_text, best_line, answer_line, find_text}
use Rattle.tree_pictures.specs.Svg.{columns, columns_before, rows, edge_svg, zero_label, one_label, leaf_svg, node_svg, svg_start, picture, svg_text}
use Rattle.tree_pictures.specs.Tree.{masks_of, covers, found, tree_from}
use Rattle.tree_pictures.proofs.Pictures.{draws_leaf, draws_fork, graph_leaf, graph_fork, picture_leaf, picture_fork, way_leaf, way_fork, found_fork}
use Rattle.tree_pictures.proofs.Trees.{IsCut}
use Rattle.tree_pictures.specs.declared.pair.Pair.{Pair}

-- one behind another
pub then_put : (t x y : List ℕ) {u v : List ℕ} → u ≡ t ++ x → v ≡ u ++ y → v ≡ t ++ (x ++ y)
then_put t x y e f = f ∙ ap (λ s. s ++ y) e ∙ append_assoc t x y

module _ {T E : Type 0} (r : Result T E) where
  -- the last of them, where it is done
  pub put_last : (t x y v : List ℕ) {u : List ℕ} → u ≡ t ++ x → OnOk r (v ≡ u ++ y) → OnOk r (v ≡ t ++ (x ++ y))
  put_last t x y v {u = u} e h = subst (λ w. OnOk r (v ≡ w)) (ap (λ s. s ++ y) e ∙ append_assoc t x y) h

  pub put_as : (t v : List ℕ) {x y : List ℕ} → x ≡ y → OnOk r (v ≡ t ++ x) → OnOk r (v ≡ t ++ y)
  put_as t v e h = subst (λ w. OnOk r (v ≡ t ++ w)) e h

  -- three of them, and five
  pub three_put : (t a b c v : List ℕ) {u1 u2 : List ℕ} → u1 ≡ t ++ a → u2 ≡ u1 ++ b → OnOk r (v ≡ u2 ++ c) → OnOk r (v ≡ t ++ (a ++ b ++ c))
  three_put t a b c v e1 e2 h = put_last t (a ++ b) c v (then_put t a b e1 e2) h

  pub five_put : (t a b c d e v : List ℕ) {u1 u2 u3 u4 : List ℕ} → u1 ≡ t ++ a → u2 ≡ u1 ++ b → u3 ≡ u2 ++ c → u4 ≡ u3 ++ d → OnOk r (v ≡ u4 ++ e)
      → OnOk r (v ≡ t ++ (a ++ b ++ c ++ d ++ e))
  five_put t a b c d e v e1 e2 e3 e4 h =
      put_last t (a ++ b ++ c ++ d) e v (then_put t (a ++ b ++ c) d (then_put t (a ++ b) c (then_put t a b e1 e2) e3) e4) h

  -- ---- lines
  pub down_put : (t u5 : List ℕ) (b a : ℕ) (one : Bool) {u1 u2 u3 u4 : List ℕ} → one ≡ (bit b a == 1) → u1 ≡ t ++ codes "bit " → u2 ≡ u1 ++ decimal b
      → u3 ≡ u2 ++ codes " of " → u4 ≡ u3 ++ inet_word a → OnOk r (u5 ≡ u4 ++ side_words one) → OnOk r (u5 ≡ t ++ down_line b a)
  down_put t u5 b a one is e1 e2 e3 e4 h =
      put_as t u5 (ap (λ o. codes "bit " ++ decimal b ++ codes " of " ++ inet_word a ++ side_words o) is) (
      put_last t (codes "bit " ++ decimal b ++ codes " of " ++ inet_word a) (side_words one) u5 (
      then_put t (codes "bit " ++ decimal b ++ codes " of ") (inet_word a)
      (then_put t (codes "bit " ++ decimal b) (codes " of ") (then_put t (codes "bit ") (decimal b) e1 e2) e3) e4
      ) h
      )

  pub try_put : (t u3 : List ℕ) (a : ℕ) (p : Pair) (agreed : Bool) {u1 u2 : List ℕ} → agreed ≡ covers a p → u1 ≡ t ++ codes "  "
      → u2 ≡ u1 ++ destination_word p.key p.rank → OnOk r (u3 ≡ u2 ++ verdict agreed) → OnOk r (u3 ≡ t ++ try_line a p)
  try_put t u3 a p agreed is e1 e2 h =
      put_as t u3 (ap (λ o. codes "  " ++ destination_word p.key p.rank ++ verdict o) is) (
      put_last t (codes "  " ++ destination_word p.key p.rank) (verdict agreed) u3 (then_put t (codes "  ") (destination_word p.key p.rank) e1 e2) h
      )

  pub best_put : (t u5 : List ℕ) (a : ℕ) (p : Pair) {u1 u2 u3 u4 : List ℕ} → u1 ≡ t ++ codes "the best route of " → u2 ≡ u1 ++ inet_word a
      → u3 ≡ u2 ++ codes " is " → u4 ≡ u3 ++ destination_word p.key p.rank → OnOk r (u5 ≡ u4 ++ codes "\n") → OnOk r (u5 ≡ t ++ best_line a p)
  best_put t u5 a p e1 e2 e3 e4 h =
      put_last t (codes "the best route of " ++ inet_word a ++ codes " is " ++ destination_word p.key p.rank) (codes "\n") u5 (
      then_put t (codes "the best route of " ++ inet_word a ++ codes " is ") (destination_word p.key p.rank)
      (then_put t (codes "the best route of " ++ inet_word a) (codes " is ") (then_put t (codes "the best route of ") (inet_word a) e1 e2) e3) e4
      ) h

  pub empty_told : (t v : List ℕ) (a : ℕ) (ps : List Pair) {u : List ℕ} → length ps ≡ 0 → u ≡ t ++ empty_line → OnOk r (v ≡ u ++ answer_line a None)
      → OnOk r (v ≡ t ++ find_text a ps)
  empty_told t v a [] none e h = put_last t empty_line (answer_line a None) v e h
  empty_told t v a (p ∷ ps) none e h = absurd (omega (arith, none))

  -- ---- a drawing
  pub leaf_drawn : (t u indent : List ℕ) (low left : ℕ) (ps : List Pair) → left ≡ 0 → OnOk r (u ≡ t ++ leaf_line ps)
      → OnOk r (u ≡ t ++ drawing indent low (tree_from left ps))
  leaf_drawn t u indent low left ps is h = put_as t u (sym (ap (λ n. drawing indent low (tree_from n ps)) is ∙ draws_leaf indent low ps)) h

  pub fork_drawn : (t u5 indent : List ℕ) (low left k : ℕ) (ps : List Pair) {masks zs os : List Pair} {i0 i1 u1 u2 u3 u4 : List ℕ}
      → IsCut left k ps → 0 < k → k < length ps → masks ≡ masks_of low (32 - left) ps → i0 ≡ indent ++ zero_indent → i1 ≡ indent ++ one_indent
      → zs ≡ take k ps → os ≡ drop k ps → u1 ≡ t ++ node_line (32 - left) masks → u2 ≡ u1 ++ indent ++ zero_mark
      → u3 ≡ u2 ++ drawing i0 (32 - left + 1) (tree_from (left - 1) zs) → u4 ≡ u3 ++ indent ++ one_mark
      → OnOk r (u5 ≡ u4 ++ drawing i1 (32 - left + 1) (tree_from (left - 1) os)) → OnOk r (u5 ≡ t ++ drawing indent low (tree_from left ps))
  fork_drawn t u5 indent low left k ps {masks = masks} {zs = zs} {os = os} {i0 = i0} {i1 = i1} cut some less masks_is i0_is i1_is zs_is os_is e1 e2 e3 e4 h =
      let N = node_line (32 - left) masks in
      let Zs = drawing i0 (32 - left + 1) (tree_from (left - 1) zs) in
      let Os = drawing i1 (32 - left + 1) (tree_from (left - 1) os) in
      let two = then_put t (N ++ indent) zero_mark (then_put t N indent e1 refl) e2 in
      let four = then_put t (N ++ indent ++ zero_mark ++ Zs ++ indent) one_mark
      (then_put t (N ++ indent ++ zero_mark ++ Zs) indent (then_put t (N ++ indent ++ zero_mark) Zs two e3) refl) e4 in
      let whole : N ++ indent ++ zero_mark ++ Zs ++ indent ++ one_mark ++ Os ≡ drawing indent low (tree_from left ps) =
      rw (masks_is, i0_is, i1_is, zs_is, os_is) (sym (draws_fork indent low left k ps cut some less)) in
      put_as t u5 whole (put_last t (N ++ indent ++ zero_mark ++ Zs ++ indent ++ one_mark) Os u5 four h)

  -- ---- a graph
  pub leaf_graphed : (t u name : List ℕ) (low left : ℕ) (ps : List Pair) → left ≡ 0 → OnOk r (u ≡ t ++ node_dot name (leaf_line ps))
      → OnOk r (u ≡ t ++ graph name low (tree_from left ps))
  leaf_graphed t u name low left ps is h = put_as t u (sym (ap (λ n. graph name low (tree_from n ps)) is ∙ graph_leaf name low ps)) h

  pub fork_graphed : (t u5 name : List ℕ) (low left k : ℕ) (ps : List Pair) {masks zs os : List Pair} {i0 i1 u1 u2 u3 u4 : List ℕ}
      → IsCut left k ps → 0 < k → k < length ps → masks ≡ masks_of low (32 - left) ps → i0 ≡ name ++ codes "0" → i1 ≡ name ++ codes "1"
      → zs ≡ take k ps → os ≡ drop k ps → u1 ≡ t ++ node_dot name (node_line (32 - left) masks) → u2 ≡ u1 ++ edge_dot name (codes "0")
      → u3 ≡ u2 ++ graph i0 (32 - left + 1) (tree_from (left - 1) zs) → u4 ≡ u3 ++ edge_dot name (codes "1")
      → OnOk r (u5 ≡ u4 ++ graph i1 (32 - left + 1) (tree_from (left - 1) os)) → OnOk r (u5 ≡ t ++ graph name low (tree_from left ps))
  fork_graphed t u5 name low left k ps {masks = masks} {zs = zs} {os = os} {i0 = i0} {i1 = i1} cut some less masks_is i0_is i1_is zs_is os_is e1 e2 e3 e4 h =
      let N = node_dot name (node_line (32 - left) masks) in
      let Zs = graph i0 (32 - left + 1) (tree_from (left - 1) zs) in
      let Os = graph i1 (32 - left + 1) (tree_from (left - 1) os) in
      let zero = edge_dot name (codes "0") in
      let one = edge_dot name (codes "1") in
      let four = then_put t (N ++ zero ++ Zs) one (then_put t (N ++ zero) Zs (then_put t N zero e1 e2) e3) e4 in
      let whole : N ++ zero ++ Zs ++ one ++ Os ≡ graph name low (tree_from left ps) =
      rw (masks_is, i0_is, i1_is, zs_is, os_is) (sym (graph_fork name low left k ps cut some less)) in
      put_as t u5 whole (put_last t (N ++ zero ++ Zs ++ one) Os u5 four h)

  pub whole_graphed : (t v : List ℕ) (ps : List Pair) {u1 u2 : List ℕ} → 0 < length ps → u1 ≡ t ++ codes "digraph tree {\nnode [shape=box]\n"
      → u2 ≡ u1 ++ graph (codes "n") 0 (tree_from 32 ps) → OnOk r (v ≡ u2 ++ codes "}\n") → OnOk r (v ≡ t ++ graph_text ps)
  whole_graphed t v [] some e1 e2 h = absurd (omega (arith, some))
  whole_graphed t v (p ∷ ps) some e1 e2 h =
      let first = codes "digraph tree {\nnode [shape=box]\n" in
      let all = graph (codes "n") 0 (tree_from 32 (p ∷ ps)) in
      put_last t (first ++ all) (codes "}\n") v (then_put t first all e1 e2) h

  -- ---- a picture in SVG
  pub leaf_pictured : (t u label : List ℕ) (start row low left : ℕ) (ps : List Pair) → left ≡ 0 → OnOk r (u ≡ t ++ leaf_svg label start row ps)
      → OnOk r (u ≡ t ++ picture label start row low (tree_from left ps))
  leaf_pictured t u label start row low left ps is h =
      put_as t u (sym (ap (λ n. picture label start row low (tree_from n ps)) is ∙ picture_leaf label start row low ps)) h

  pub fork_pictured : (t u5 label : List ℕ) (start row low left k : ℕ) (ps : List Pair) {masks zs os : List Pair} {width zeros_before ones_before : ℕ}
      {u1 u2 u3 u4 : List ℕ} → IsCut left k ps → 0 < k → k < length ps → masks ≡ masks_of low (32 - left) ps → zs ≡ take k ps → os ≡ drop k ps
      → width ≡ columns (tree_from (left - 1) zs) → zeros_before ≡ columns_before (tree_from (left - 1) zs) → ones_before ≡ columns_before (tree_from (left - 1) os)
      → u1 ≡ t ++ edge_svg (start + width) row (start + zeros_before)
      → u2 ≡ u1 ++ picture zero_label start (row + 1) (32 - left + 1) (tree_from (left - 1) zs)
      → u3 ≡ u2 ++ edge_svg (start + width) row (start + width + 1 + ones_before)
      → u4 ≡ u3 ++ picture one_label (start + width + 1) (row + 1) (32 - left + 1) (tree_from (left - 1) os)
      → OnOk r (u5 ≡ u4 ++ node_svg label (start + width) row (32 - left) masks) → OnOk r (u5 ≡ t ++ picture label start row low (tree_from left ps))
  fork_pictured t u5 label start row low left k ps {masks = masks} {zs = zs} {os = os} {width = w} {zeros_before = z} {ones_before = o}
      cut some less masks_is zs_is os_is w_is z_is o_is e1 e2 e3 e4 h =
      let zero = edge_svg (start + w) row (start + z) in
      let Zs = picture zero_label start (row + 1) (32 - left + 1) (tree_from (left - 1) zs) in
      let one = edge_svg (start + w) row (start + w + 1 + o) in
      let Os = picture one_label (start + w + 1) (row + 1) (32 - left + 1) (tree_from (left - 1) os) in
      let N = node_svg label (start + w) row (32 - left) masks in
      let four = then_put t (zero ++ Zs ++ one) Os (then_put t (zero ++ Zs) one (then_put t zero Zs e1 e2) e3) e4 in
      let whole : zero ++ Zs ++ one ++ Os ++ N ≡ picture label start row low (tree_from left ps) =
      rw (w_is, z_is, o_is, masks_is, zs_is, os_is) (sym (picture_fork label start row low left k ps cut some less)) in
      put_as t u5 whole (put_last t (zero ++ Zs ++ one ++ Os) N u5 four h)

  pub whole_pictured : (t v : List ℕ) (ps : List Pair) {width height : ℕ} {u1 u2 : List ℕ} → 0 < length ps → width ≡ columns (tree_from 32 ps)
      → height ≡ rows (tree_from 32 ps) → u1 ≡ t ++ svg_start (width + 1) (height + 3) → u2 ≡ u1 ++ picture [] 0 0 0 (tree_from 32 ps)
      → OnOk r (v ≡ u2 ++ codes "</svg>\n") → OnOk r (v ≡ t ++ svg_text ps)
  whole_pictured t v [] some w_is h_is e1 e2 h = absurd (omega (arith, some))
  whole_pictured t v (p ∷ ps) {width = w} {height = n} some w_is n_is e1 e2 h =
      let first = svg_start (w + 1) (n + 3) in
      let all = picture [] 0 0 0 (tree_from 32 (p ∷ ps)) in
      let whole : first ++ all ++ codes "</svg>\n" ≡ svg_text (p ∷ ps) = rw (w_is, n_is) refl in
      put_as t v whole (put_last t (first ++ all) (codes "</svg>\n") v (then_put t first all e1 e2) h)

  -- ---- a search
  pub leaf_told : (t v : List ℕ) (a low left : ℕ) (ps : List Pair) {u : List ℕ} → left ≡ 0 → u ≡ t ++ leaf_line ps → OnOk r (v ≡ u ++ tries a ps)
      → OnOk r (v ≡ t ++ way_text low a (tree_from left ps))
  leaf_told t v a low left ps is e h =
      put_as t v (sym (ap (λ n. way_text low a (tree_from n ps)) is ∙ way_leaf a low ps)) (put_last t (leaf_line ps) (tries a ps) v e h)

  pub none_told : (t u3 : List ℕ) (a low left k : ℕ) (ps : List Pair) (one : Bool) {masks side : List Pair} {u1 u2 : List ℕ}
      → IsCut left k ps → 0 < k → k < length ps → one ≡ (bit (32 - left) a == 1) → masks ≡ masks_of low (32 - left) ps
      → side ≡ cond one (drop k ps) (take k ps) → None ≡ found (32 - left + 1) a (tree_from (left - 1) side)
      → u1 ≡ t ++ down_line (32 - left) a → u2 ≡ u1 ++ way_text (32 - left + 1) a (tree_from (left - 1) side)
      → OnOk r (u3 ≡ u2 ++ up_lines a (32 - left) masks None) → OnOk r (u3 ≡ t ++ way_text low a (tree_from left ps))
  none_told t u3 a low left k ps one {masks = masks} {side = side} cut some less is masks_is side_is none e1 e2 h =
      let down = down_line (32 - left) a in
      let way = way_text (32 - left + 1) a (tree_from (left - 1) side) in
      let whole : down ++ way ++ up_lines a (32 - left) masks None ≡ way_text low a (tree_from left ps) =
      ap (λ o. down ++ way ++ up_lines a (32 - left) masks o) none ∙ rw (masks_is, side_is) (sym (way_fork a low left k ps one cut some less is)) in
      put_as t u3 whole (put_last t (down ++ way) (up_lines a (32 - left) masks None) u3 (then_put t down way e1 e2) h)

pub some_told : (t : List ℕ) (a low left k : ℕ) (ps : List Pair) (one : Bool) {best : Pair} {side : List Pair} {u1 u2 : List ℕ}
    → IsCut left k ps → 0 < k → k < length ps → one ≡ (bit (32 - left) a == 1) → side ≡ cond one (drop k ps) (take k ps)
    → Some best ≡ found (32 - left + 1) a (tree_from (left - 1) side)
    → u1 ≡ t ++ down_line (32 - left) a → u2 ≡ u1 ++ way_text (32 - left + 1) a (tree_from (left - 1) side) → u2 ≡ t ++ way_text low a (tree_from left ps)
some_told t a low left k ps one {best = best} {side = side} cut some less is side_is has e1 e2 =
    let down = down_line (32 - left) a in
    let way = way_text (32 - left + 1) a (tree_from (left - 1) side) in
    let masks = masks_of low (32 - left) ps in
    let whole : down ++ way ++ up_lines a (32 - left) masks (Some best) ≡ way_text low a (tree_from left ps) =
    ap (λ o. down ++ way ++ up_lines a (32 - left) masks o) has ∙ rw side_is (sym (way_fork a low left k ps one cut some less is)) in
    then_put t down way e1 e2 ∙ ap (λ s. t ++ s) (sym (append-nil (down ++ way)) ∙ whole)

pub some_found : (a low left k : ℕ) (ps : List Pair) (one : Bool) {best : Pair} {side : List Pair}
    → IsCut left k ps → 0 < k → k < length ps → one ≡ (bit (32 - left) a == 1) → side ≡ cond one (drop k ps) (take k ps)
    → Some best ≡ found (32 - left + 1) a (tree_from (left - 1) side) → Some best ≡ found low a (tree_from left ps)
some_found a low left k ps one {side = side} cut some less is side_is has =
    ap (λ o. option_or o (find (covers a) (masks_of low (32 - left) ps))) has ∙ rw side_is (sym (found_fork a low left k ps one cut some less is))

pub none_found : {E : Type 0} (r : Result (Option Pair) E) (a low left k : ℕ) (ps : List Pair) (one : Bool) {masks side : List Pair}
    → IsCut left k ps → 0 < k → k < length ps → one ≡ (bit (32 - left) a == 1) → masks ≡ masks_of low (32 - left) ps
    → side ≡ cond one (drop k ps) (take k ps) → None ≡ found (32 - left + 1) a (tree_from (left - 1) side)
    → IfOk r (λ best. best ≡ find (covers a) masks) → IfOk r (λ best. best ≡ found low a (tree_from left ps))
none_found r a low left k ps one {masks = masks} {side = side} cut some less is masks_is side_is none h =
    let whole : find (covers a) masks ≡ found low a (tree_from left ps) =
    rw masks_is (ap (λ o. option_or o (find (covers a) (masks_of low (32 - left) ps))) none ∙ rw side_is (sym (found_fork a low left k ps one cut some less is))) in
    subst (λ f. IfOk r (λ best. best ≡ f)) whole h
