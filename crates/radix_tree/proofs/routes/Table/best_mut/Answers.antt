-- The best route is lent, as the route of a pair is, and stands in the table.
use Rattle.radix_tree.proofs.{WholeRoutes.shown_is, LawLemmas.best_is_greatest, Indexed.same_index, Kept.shown_table, Kept.whole_at, Kept.entries_at}
use Rattle.radix_tree.proofs.Valued.{put_valued, valued_whole, lent_shown, lent_counted, lent_places, lent_given}
use Rattle.radix_tree.proofs.BestOfTree.{Answer, answer, Has-best, best_answer, best_none, best_pair}
use Rattle.radix_tree.proofs.Words.{◌≡◌, sym, ap, subst, ◌∙◌, inl, inr, arith, put_value, IsTable, contents, IsKept, AreCounted, best_of, with_entry, shown}
use Rattle.radix_tree.proofs.Words.{IsWhole, Leaf}
use Rattle.radix_tree.proofs.routes.Table.best_mut.Goals.{In-Some-find_best}
use Rattle.radix_tree.specs.Lending.{with_value_at}
use Rattle.radix_tree.proofs.routes.Table.best_mut.Goals as goal

pub returns-in_default-find_best : goal.returns-in_default-find_best
returns-in_default-find_best g c =
    let w = whole_at _ c.self.invariant.holds c.in-Some.is in
    let bound = c.find_best.ensures.visits.bound in (
      ap inr c.self.view_is,
      record {
        writes = tt;
        best = best_none w.part c.args.address c.in_default-find_best.is (c.find_best.ensures.best w)
            ∙ ap (best_of c.args.address) (sym (shown_is w) ∙ entries_at _ _ _ c.self.view_is c.in-Some.is);
        stands = tt;
        counter = c.find_best.ensures.visits.turn;
        bound = omega arith;
      },
    )

whole : (g : _) (c : In-Some-find_best g) → IsWhole c.self.inside.nodes.lodged c.in-Some.root
whole g c = grind arith

found : (g : _) (c : In-Some-find_best g) → Answer (whole g c).part c.args.address c.in-Some-find_best.room
found g c = search (answer, c.find_best.ensures.best, c.in-Some-find_best.is)

pub leaf-leaf-requires-clause-there : goal.leaf-leaf-requires-clause-there
leaf-leaf-requires-clause-there g c = Has-best (found g (goal.at.leaf-leaf-requires-clause-there g c).In-Some-find_best)

pub value_mut-requires : goal.value_mut-requires
value_mut-requires g c = record { there = Has-best (found g (goal.at.value_mut-requires g c).In-Some-find_best) }

pub invariant_of-self-lent : goal.invariant_of-self-lent
invariant_of-self-lent g c = λ v.
    let at = (goal.at.invariant_of-self-lent g c).In-Some-find_best in
    let m = c.self.inside.nodes.lodged in
    let room = c.in-Some-find_best.room in
    let w = whole g at in
    let a = found g at in
    let pair = best_pair a (c.leaf-leaf.ensures.said a.part a.said) c.in-Some-find_best.is in
    let counted = subst (λ o. AreCounted c.self.inside.counts (shown m o)) c.in-Some.is c.self.invariant.counted in
    subst (λ o. IsKept (record { lodged = put_value m room v; turn = c.self.inside.nodes.turn }) o c.self.inside.counts c.self.inside.index
    c.self.inside.given c.self.inside.numbers) (sym c.in-Some.is) (record {
      holds = valued_whole (put_valued m room v (Has-best a)) w;
      counted = lent_counted m w c.leaf-leaf.result.key c.leaf-leaf.result.rank c.in-Some-find_best.is pair (Has-best a) v _ counted;
      indexed = same_index c.self.inside.index m _ (lent_places m room v (Has-best a)) c.self.invariant.indexed;
      numbered = lent_given m room v (Has-best a) c.self.invariant.numbered;
    })

-- the table once the value is given back
lent : (g : _) (c : In-Some-find_best g) (l : Leaf) → l ≡ (found g c).part.leaf → (v : g.row.V.Denot) → contents (record
    { lodged = put_value c.self.inside.nodes.lodged c.in-Some-find_best.room v; turn = c.self.inside.nodes.turn })
    c.self.inside.root c.self.inside.given c.self.inside.numbers ≡ with_value_at l.key l.rank c.args.self.now v
lent g c l is v =
    let m = c.self.inside.nodes.lodged in
    let a = found g c in
    let entries = ap (shown (put_value m c.in-Some-find_best.room v)) c.in-Some.is
    ∙ lent_shown m (whole g c) l.key l.rank c.in-Some-find_best.is (best_pair a is c.in-Some-find_best.is) (Has-best a) v
    ∙ ap (with_entry (record { key = l.key; rank = l.rank; value = v })) (entries_at _ _ _ c.self.view_is c.in-Some.is) in
    let numbers = ap (λ t. t.numbers) c.self.view_is in
    let next = ap (λ t. t.next) c.self.view_is in
    let turn = ap (λ t. t.turn) c.self.view_is in
    λ i. record { entries = entries i; numbers = numbers i; next = next i; turn = turn i }

pub returns : goal.returns
returns g c =
    let at = (goal.at.returns g c).In-Some-find_best in
    let a = found g at in
    let read = c.leaf-leaf.ensures.said a.part a.said in
    let best = best_answer a c.value_mut.result.now read c.value_mut.ensures.value
    ∙ ap (best_of c.args.address) (sym (shown_is (whole g at)) ∙ entries_at _ _ _ c.self.view_is c.in-Some.is) in
    let table = subst (λ t. IsTable t.entries) c.self.view_is (shown_table _ c.self.inside.root c.self.invariant.holds) in
    let bound = c.find_best.ensures.visits.bound in (
      λ t. inl (c.value_mut.result.ghost_name, λ v. lent g at c.leaf-leaf.result read v t),
      record {
        writes = tt;
        best = best;
        stands = (best_is_greatest c.args.address c.args.self.now.entries _ table (sym best)).stands;
        counter = c.leaf-leaf.ensures.visit.turn ∙ c.find_best.ensures.visits.turn;
        bound = omega arith;
      },
    )
