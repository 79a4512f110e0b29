-- What was told of routes, and what is told of those to come, is what is told of all; and none agreed.
use Rattle.std.proofs.Common.{◌≡◌, ◌++◌, drop}
use Rattle.std.specs.Prelude.{find}
use Rattle.tree_pictures.specs.Steps.{tries}
use Rattle.tree_pictures.specs.Tree.{covers}
use Rattle.tree_pictures.proofs.steps.put_tries.Given as goal

abbrev pub invariant-routes : goal.invariant-routes
invariant-routes l = record {
  memory : l.memory ≡ l.initial.memory;
  text : l.text ++ tries l.address (drop l.i l.pairs) ≡ l.initial.text ++ tries l.address l.pairs;
  found : find (covers l.address) (drop l.i l.pairs) ≡ find (covers l.address) l.pairs;
}
