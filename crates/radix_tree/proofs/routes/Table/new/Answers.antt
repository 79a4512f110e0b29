use Rattle.radix_tree.proofs.Words.{arith, ◌≡◌, ℕ, None, sym, ap, ◌∙◌, nat_cmp, leaf_in, leaves_in, none_some, place_of}
use Rattle.std.specs.FinMap.{get-empty}
use Rattle.radix_tree.proofs.routes.Table.new.Goals as goal

pub invariant_of-result : goal.invariant_of-result
invariant_of-result g c =
    let none : (n : ℕ) → leaves_in c.new.result.lodged n ≡ None = λ n. ap (λ r. leaves_in r.lodged n) c.new.ensures
    ∙ ap leaf_in (get-empty nat_cmp n) in
    record {
      holds = none;
      counted = c.new-2.ensures;
      indexed = record {
        found = λ k room names. absurd (c.new-3.ensures.none k room names);
        all = λ whole n place at. absurd (none_some (sym (ap place_of (none n)) ∙ at));
      };
      numbered = grind arith;
    }
