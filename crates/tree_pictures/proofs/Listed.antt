-- A bit node lists the masks of the routes beneath it that belong there, and no others.
use Rattle.std.proofs.Common.{◌≡◌, ℕ, ◌+◌, ◌-◌, ◌*◌, ◌^◌, ◌<◌, ◌≤◌, zero, suc, false, List, [], ◌∷◌, ◌++◌, Some, None, refl}
use Rattle.std.proofs.Common.{inl, inr, sym, ◌∙◌, ap, subst, arith}
use Rattle.std.proofs.lemmas.Bool.{cases_eq, eq-eqb, eqb-true, eqb-false}
use Rattle.std.specs.Prelude.{find, Contains}
use Rattle.std.specs.List.{AllByRecursion, cons_option}
use Rattle.mask_table.specs.Agreeing.{front, masked}
use Rattle.mask_table.proofs.Agreeing.{agrees_at_smaller_ranks}
use Rattle.tree_pictures.specs.Tree.{Tree, leaf, fork, routes_of, has_rank, listed, masks_of, IsMasked, ListItsMasks, IsTree}
use Rattle.tree_pictures.proofs.Lists.{Among, found_among, none_found, all_among, all_left, all_right}
use Rattle.tree_pictures.specs.declared.pair.Pair.{Pair}

-- ---- members
among_contains : (p : Pair) (ps : List Pair) → Among p ps → Contains ps p
among_contains p [] h = absurd h
among_contains p (q ∷ ps) h = elim h [
  | inl is ↦ (0, omega arith, is)
  | inr later ↦ (let there = among_contains p ps later in (suc there.0, omega (arith, there.1), there.2))
]

contains_among : (p : Pair) (ps : List Pair) → Contains ps p → Among p ps
contains_among p [] (k, lt, is) = absurd (omega (arith, lt))
contains_among p (q ∷ ps) (zero, lt, is) = inl is
contains_among p (q ∷ ps) (suc k, lt, is) = inr (contains_among p ps (k, omega (arith, lt), is))

-- ---- which masks are listed
abbrev Belongs : ℕ → ℕ → List Pair → Pair → Type 0
Belongs low top ps p = Among p ps × (low ≤ p.rank) × (p.rank < top)

listed_belongs : (low n : ℕ) (ps : List Pair) (p : Pair) → Among p (listed low n ps) → Belongs low (low + n) ps p
listed_belongs low zero ps p h = absurd h
listed_belongs low (suc n) ps p h =
    elim (find (has_rank (low + n)) ps) as (λ o. find (has_rank (low + n)) ps ≡ o → Among p (cons_option o (listed low n ps)) → Belongs low (low + suc n) ps p) [
      | None ↦ λ e k. (let rest = listed_belongs low n ps p k in (rest.0, rest.1, omega (arith, rest.2)))
      | Some x ↦ λ e k. elim k [
        | inl is ↦ (
            let there = found_among (has_rank (low + n)) ps x e in
            let rank : p.rank ≡ low + n = subst (λ q. q.rank ≡ low + n) is (eqb-true x.rank (low + n) there.1) in
            (subst (λ q. Among q ps) is there.0, omega (arith, rank), omega (arith, rank))
            )
        | inr later ↦ (let rest = listed_belongs low n ps p later in (rest.0, rest.1, omega (arith, rest.2)))
      ]
    ] refl h

same_pair : (x p : Pair) → x.key ≡ p.key → x.rank ≡ p.rank → x ≡ p
same_pair x p keys ranks =
    let middle : Pair = record { key = p.key; rank = x.rank } in
    let first : x ≡ middle = ap (λ (k : ℕ). (let q : Pair = record { key = k; rank = x.rank } in q)) keys in
    let second : middle ≡ p = ap (λ (r : ℕ). (let q : Pair = record { key = p.key; rank = r } in q)) ranks in
    first ∙ second

-- routes of one rank whose keys are the same up to a bit at or past it are one
one_route : (b f : ℕ) (x p : Pair) → front b x.key ≡ f → front b p.key ≡ f → x.rank ≡ p.rank → p.rank ≤ b → IsMasked x → IsMasked p → x ≡ p
one_route b f x p fx fp ranks past mx mp =
    let fronts : front p.rank x.key ≡ front p.rank p.key =
    eqb-true _ _ (agrees_at_smaller_ranks p.rank b x.key p.key past (eq-eqb _ _ (fx ∙ sym fp))) in
    let there : masked p.rank x.key ≡ x.key = subst (λ r. masked r x.key ≡ x.key) ranks mx in
    let keys : x.key ≡ p.key = sym there ∙ ap (λ n. n * 2 ^ (32 - p.rank)) fronts ∙ mp in
    same_pair x p keys ranks

belongs_listed : (b f low n : ℕ) (ps : List Pair) → AllByRecursion (λ p. front b p.key ≡ f) ps → AllByRecursion IsMasked ps → low + n ≤ b + 1
    → (p : Pair) → Belongs low (low + n) ps p → Among p (listed low n ps)
belongs_listed b f low zero ps same are most p h = absurd (omega (arith, h.1, h.2))
belongs_listed b f low (suc n) ps same are most p h =
    elim (find (has_rank (low + n)) ps) as (λ o. find (has_rank (low + n)) ps ≡ o → Among p (cons_option o (listed low n ps))) [
      | None ↦ λ e. (
          let no : has_rank (low + n) p ≡ false = all_among (λ q. has_rank (low + n) q ≡ false) ps p (none_found (has_rank (low + n)) ps e) h.0 in
          belongs_listed b f low n ps same are (omega (arith, most)) p (h.0, h.1, omega (arith, h.2, eqb-false p.rank (low + n) no))
          )
      | Some x ↦ λ e. elim (cases_eq p.rank (low + n)) [
        | inl is ↦ (
            let there = found_among (has_rank (low + n)) ps x e in
            inl (one_route b f x p (all_among (λ q. front b q.key ≡ f) ps x same there.0) (all_among (λ q. front b q.key ≡ f) ps p same h.0)
            (eqb-true x.rank (low + n) there.1 ∙ sym is) (omega (arith, is, most)) (all_among IsMasked ps x are there.0) (all_among IsMasked ps p are h.0))
            )
        | inr ne ↦ inr (belongs_listed b f low n ps same are (omega (arith, most)) p (h.0, h.1, omega (arith, h.2, ne)))
      ]
    ] refl

pub lists_its_masks : (low : ℕ) (t : Tree) → IsTree low t → AllByRecursion IsMasked (routes_of t) → ListItsMasks low t
lists_its_masks low (leaf ps) h are = tt
lists_its_masks low (fork b left right) h are =
    let top : low + (b + 1 - low) ≡ b + 1 = omega (arith, h.0.rises) in
    let beneath : List Pair = routes_of left ++ routes_of right in (
      λ p. (
        λ k. (let is = listed_belongs low (b + 1 - low) beneath p (contains_among p (masks_of low b beneath) k) in
            (among_contains p beneath is.0, is.1, omega (arith, is.2, top))),
        λ k. among_contains p (masks_of low b beneath) (
            belongs_listed b h.0.before low (b + 1 - low) beneath h.0.agree are (omega (arith, top)) p
            (contains_among p beneath k.0, k.1, omega (arith, k.2, top))
            ),
      ),
      lists_its_masks (b + 1) left h.1 (all_left IsMasked (routes_of left) (routes_of right) are),
      lists_its_masks (b + 1) right h.2 (all_right IsMasked (routes_of left) (routes_of right) are),
    )
