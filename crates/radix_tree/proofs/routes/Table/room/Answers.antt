use Rattle.radix_tree.proofs.{Counted.given_next, Indexed.kept_reserved, Words.sym, Words.ap, Words.subst, Words.◌∙◌, Words.arith, Words.uses, Words.AreGiven}
use Rattle.radix_tree.proofs.routes.Table.room.Goals as goal

pub invariant_of-self-in-Ok : goal.invariant_of-self-in-Ok
invariant_of-self-in-Ok g c =
    let k = kept_reserved c.self.inside.index c.reserve.new.self c.self.inside.nodes c.make.new.self c.self.invariant c.reserve.ensures.same
    c.make.ensures.stays in
    let next = c.in-Ok.ensures.ok in
    record {
      holds = k.holds;
      counted = k.counted;
      indexed = k.indexed;
      numbered = subst (AreGiven c.make.new.self.lodged c.self.inside.given) (sym (next.1 ∙ next.0)) (given_next c.make.new.self.lodged k.numbered);
    }

pub invariant_of-self-in-Err : goal.invariant_of-self-in-Err
invariant_of-self-in-Err g c = kept_reserved c.self.inside.index c.reserve.new.self c.self.inside.nodes c.scrap.new.self c.self.invariant
    c.reserve.ensures.same (c.scrap.ensures ∙ c.make.ensures.stays)

pub returns-in-Ok-clause-number : goal.returns-in-Ok-clause-number
returns-in-Ok-clause-number g c =
    let next = c.in-Ok.ensures.ok.0 in (
      c.of.ensures ∙ next ∙ ap (λ t. t.next) c.self.view_is,
      ap (λ t. uses c.of.result.value t.numbers) (sym c.self.view_is) ∙ c.self.invariant.numbered.made c.of.result.value (omega arith),
    )
