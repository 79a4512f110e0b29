-- What a search of a table's tree finds is its best route.
use Rattle.std.proofs.Common.{◌≡◌, ℕ, ◌+◌, suc, true, List, [], ◌∷◌, Option, Some, None, refl, inl, inr}
use Rattle.std.proofs.Common.{sym, ap, subst, arith, lit≤}
use Rattle.std.proofs.lemmas.List.Elements.{All-contains, All-from_recursion}
use Rattle.std.specs.Prelude.{Contains, option_map}
use Rattle.std.specs.List.{AllByRecursion}
use Rattle.radix_tree.specs.Table.{IsTable, IsRoute, precedes, best_of}
use Rattle.radix_tree.specs.TableLaws.{MembersStand, BestIsMember, BestIsUnique, PrecedesInWords, IsBest}
use Rattle.radix_tree.specs.declared.entry.Entry.{Entry}
use Rattle.tree_pictures.specs.Laws.{pair_of, pairs_of, SearchFindsTheBest, TablesHaveTrees, TablesListTheirMasks}
use Rattle.tree_pictures.specs.Tree.{routes_of, covers, found, tree_of, IsMasked}
use Rattle.tree_pictures.proofs.Lists.{Among, all_weaker}
use Rattle.tree_pictures.proofs.Made.{AreGood, AreInOrder, IsBefore, IsRanked, HasFront, tree_from_is}
use Rattle.tree_pictures.proofs.Listed.{lists_its_masks}
use Rattle.tree_pictures.proofs.Searches.{IsBelow, IsFound, search_finds}
use Rattle.tree_pictures.proofs.Trees.{routes_from, empty_from}
use Rattle.tree_pictures.specs.declared.pair.Pair.{Pair}

module _ {V : Type 0} where
  -- ---- a table's routes
  all_pairs : (P : Pair → Type 0) (es : List (Entry V)) → AllByRecursion (λ e. P (pair_of e)) es → AllByRecursion P (pairs_of es)
  all_pairs P [] h = tt
  all_pairs P (e ∷ es) h = (h.0, all_pairs P es h.1)

  all_entries : (P : Pair → Type 0) (es : List (Entry V)) → AllByRecursion P (pairs_of es) → AllByRecursion (λ e. P (pair_of e)) es
  all_entries P [] h = tt
  all_entries P (e ∷ es) h = (h.0, all_entries P es h.1)

  routes : (es : List (Entry V)) → IsTable es → AllByRecursion IsRoute es
  routes [] h = tt
  routes (e ∷ es) h = (h.0, routes es h.2)

  of_routes : (P : Pair → Type 0) → ((e : Entry V) → IsRoute e → P (pair_of e)) → (es : List (Entry V)) → IsTable es → AllByRecursion P (pairs_of es)
  of_routes P f es h = all_pairs P es (all_weaker IsRoute (λ e. P (pair_of e)) f es (routes es h))

  in_order : PrecedesInWords V → (es : List (Entry V)) → IsTable es → AreInOrder (pairs_of es)
  in_order words [] h = tt
  in_order words (e ∷ es) h = (
    all_pairs (IsBefore (pair_of e)) es (
        all_weaker (λ f. precedes e f ≡ true) (λ f. IsBefore (pair_of e) (pair_of f)) (λ f p. (words e f).0 p) es h.1
        ),
    in_order words es h.2,
  )

  no_front : (e : Entry V) → IsRoute e → HasFront 0 0 (pair_of e)
  no_front e route = omega (arith, route.address)

  are_good : PrecedesInWords V → (es : List (Entry V)) → IsTable es → AreGood 0 0 (pairs_of es)
  are_good words es h = record {
    order = in_order words es h;
    ranked = of_routes IsRanked (λ e route. omega (arith, route.rank)) es h;
    same = of_routes (HasFront 0 0) no_front es h;
  }

  pub tables_have_trees : PrecedesInWords V → TablesHaveTrees V
  tables_have_trees words e es h = tree_from_is 32 (lit≤ tt) 0 (pair_of e) (pairs_of es) (are_good words (e ∷ es) h)

  are_masked : (es : List (Entry V)) → IsTable es → AllByRecursion IsMasked (routes_of (tree_of (pairs_of es)))
  are_masked es table = subst (AllByRecursion IsMasked) (sym (routes_from 32 (pairs_of es))) (of_routes IsMasked (λ f route. route.key) es table)

  pub tables_list_their_masks : PrecedesInWords V → TablesListTheirMasks V
  tables_list_their_masks words [] table = rw (empty_from 32) tt
  tables_list_their_masks words (e ∷ es) table =
      lists_its_masks 0 (tree_of (pairs_of (e ∷ es))) (tables_have_trees words e es table) (are_masked (e ∷ es) table)

  -- ---- the search
  entry_among : (p : Pair) (es : List (Entry V)) → Among p (pairs_of es) → (e : Entry V) × Contains es e × (pair_of e ≡ p)
  entry_among p [] h = absurd h
  entry_among p (e ∷ es) h = elim h [
    | inl is ↦ (e, (0, omega arith, refl), is)
    | inr later ↦ (let there = entry_among p es later in (there.0, (suc there.1.0, omega (arith, there.1.1), there.1.2), there.2))
  ]

  at_member : (P : Pair → Type 0) (es : List (Entry V)) (e : Entry V) → AllByRecursion P (pairs_of es) → Contains es e → P (pair_of e)
  at_member P es e all member =
      All-contains (λ (x : Entry V). P (pair_of x)) es e (All-from_recursion (λ (x : Entry V). P (pair_of x)) es (all_entries P es all)) member

  best_found : MembersStand V → BestIsMember V → BestIsUnique V → (a : ℕ) (es : List (Entry V)) → IsTable es → (o : Option Pair) → IsFound a 0 (pairs_of es) o
      → o ≡ option_map pair_of (best_of a es)
  best_found stand member unique a es table None h = elim (best_of a es) as (λ b. best_of a es ≡ b → None ≡ option_map pair_of b) [
    | None ↦ λ e. refl
    | Some f ↦ λ e. (let is = member a es f e in absurd (omega (arith, at_member (IsBelow a 0) es f h is.0 is.1)))
  ] refl
  best_found stand member unique a es table (Some p) h =
      let there = entry_among p es h.0 in
      let best : IsBest a es there.0 = record {
        stands = (stand es there.0 table).1 there.1;
        agrees = subst (λ q. covers a q ≡ true) (sym there.2) h.1;
        greatest = λ o s c. omega (arith, at_member (IsBelow a (p.rank + 1)) es o h.2 ((stand es o table).0 s) c, ap (λ q. q.rank) there.2);
      } in
      rw (unique a es there.0 table best) (ap (λ q. Some q) (sym there.2))

  pub search_finds_the_best : PrecedesInWords V → MembersStand V → BestIsMember V → BestIsUnique V → SearchFindsTheBest V
  search_finds_the_best words stand member unique a [] table = rw (empty_from 32) refl
  search_finds_the_best words stand member unique a (e ∷ es) table =
      let found_it = search_finds a 0 (tree_of (pairs_of (e ∷ es))) (tables_have_trees words e es table) (are_masked (e ∷ es) table) in
      best_found stand member unique a (e ∷ es) table (found 0 a (tree_of (pairs_of (e ∷ es))))
      (subst (λ ps. IsFound a 0 ps (found 0 a (tree_of (pairs_of (e ∷ es))))) (routes_from 32 (pairs_of (e ∷ es))) found_it)
