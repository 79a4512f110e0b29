-- The text of the way to a route that is found ends with the step at it.
use Rattle.std.proofs.Common.{◌≡◌, ℕ, Bool, ◌+◌, ◌==◌, true, false, cond, List, [], ◌∷◌, ◌++◌, Option, Some, None, codes, refl, sym, ap, subst, ◌∙◌}
use Rattle.std.proofs.lemmas.List.{append-nil, append_assoc}
use Rattle.std.proofs.lemmas.Option.{none-some, same_Some}
use Rattle.std.specs.Prelude.{find}
use Rattle.std.specs.Option.{option_or}
use Rattle.mask_table.specs.Agreeing.{bit}
use Rattle.tree_pictures.specs.Laws.{EndsAt, EndsBy}
use Rattle.tree_pictures.specs.Steps.{down_line, tries, try_line, up_lines, way_text}
use Rattle.tree_pictures.specs.Drawing.{leaf_line, node_line}
use Rattle.tree_pictures.specs.Tree.{Tree, leaf, fork, routes_of, masks_of, covers, found}
use Rattle.tree_pictures.specs.declared.pair.Pair.{Pair}

behind : (more last text : List ℕ) → EndsBy last text → EndsBy last (more ++ text)
behind more last text ends = (more ++ ends.0, ap (λ t. more ++ t) ends.1 ∙ sym (append_assoc more ends.0 last))

-- ---- the text ends at a route, whatever stands before it
ends_behind : (a : ℕ) (p : Pair) (more text : List ℕ) → EndsAt a p text → EndsAt a p (more ++ text)
ends_behind a p more text ends = (ends.0, behind more (try_line a p) text ends.1)

tries_end : (a : ℕ) (ps : List Pair) (p : Pair) → find (covers a) ps ≡ Some p → EndsAt a p (tries a ps)
tries_end a [] p is = absurd (none-some p is)
tries_end a (q ∷ ps) p is =
    elim (covers a q) as (λ t. covers a q ≡ t → cond t (Some q) (find (covers a) ps) ≡ Some p → EndsAt a p (try_line a q ++ cond t [] (tries a ps))) [
      | true ↦ λ agrees own.
          let same : q ≡ p = same_Some q p own in
          (subst (λ x. covers a x ≡ true) same agrees, ([], append-nil (try_line a q) ∙ ap (try_line a) same))
      | false ↦ λ differs later. ends_behind a p (try_line a q) (tries a ps) (tries_end a ps p later)
    ] refl is

-- behind a way that ends so where something was found on it, and else along the masks of the bit node above it
up_ends : (a b : ℕ) (masks : List Pair) (way : List ℕ) (beneath : Option Pair) (p : Pair) → ((q : Pair) → beneath ≡ Some q → EndsAt a q way)
    → option_or beneath (find (covers a) masks) ≡ Some p → EndsAt a p (way ++ up_lines a b masks beneath)
up_ends a b masks way (Some q) p ends is = subst (EndsAt a p) (sym (append-nil way)) (ends p is)
up_ends a b masks way None p ends is =
    ends_behind a p way (up_lines a b masks None) (ends_behind a p (codes "up to " ++ node_line b masks) (tries a masks) (tries_end a masks p is))

-- behind the step down, on the side of the address
side_ends : (a : ℕ) (down ones zeros : List ℕ) (one : Bool) (o z : Option Pair) → ((q : Pair) → o ≡ Some q → EndsAt a q ones)
    → ((q : Pair) → z ≡ Some q → EndsAt a q zeros) → (q : Pair) → cond one o z ≡ Some q → EndsAt a q (down ++ cond one ones zeros)
side_ends a down ones zeros true o z at_ones at_zeros q is = ends_behind a q down ones (at_ones q is)
side_ends a down ones zeros false o z at_ones at_zeros q is = ends_behind a q down zeros (at_zeros q is)

pub way_ends : (a low : ℕ) (t : Tree) (p : Pair) → found low a t ≡ Some p → EndsAt a p (way_text low a t)
unfolding way_text
way_ends a low (leaf chain) p is = ends_behind a p (leaf_line chain) (tries a chain) (tries_end a chain p is)
way_ends a low (fork b zeros ones) p is =
    let o = found (b + 1) a ones in
    let z = found (b + 1) a zeros in
    let one = bit b a == 1 in
    let on_ones = way_text (b + 1) a ones in
    let on_zeros = way_text (b + 1) a zeros in
    up_ends a b (masks_of low b (routes_of zeros ++ routes_of ones)) (down_line b a ++ cond one on_ones on_zeros) (cond one o z) p
    (side_ends a (down_line b a) on_ones on_zeros one o z (way_ends a (b + 1) ones) (way_ends a (b + 1) zeros)) is
