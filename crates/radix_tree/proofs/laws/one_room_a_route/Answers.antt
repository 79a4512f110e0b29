use Rattle.radix_tree.proofs.{Counted.rooms_as_routes, Words.arith, Words.◌≤◌, Words.subst, Words.uses}
use Rattle.radix_tree.proofs.laws.one_room_a_route.Goals as goal

pub returns : goal.returns
returns g c = record {
  as_many = grind (arith, rooms_as_routes);
  once = λ n. subst (λ t. uses n t.numbers ≤ 1) c.table.view_is (c.table.invariant.numbered.once n);
}
