-- What was put of routes, and what is put of those to come, is what is put of all.
use Rattle.std.proofs.Common.{◌≡◌, ◌++◌, drop}
use Rattle.tree_pictures.specs.Drawing.{routes_words}
use Rattle.tree_pictures.proofs.lines.put_routes.Given as goal

abbrev pub invariant-routes : goal.invariant-routes
invariant-routes l = record {
  memory : l.memory ≡ l.initial.memory;
  text : l.text ++ routes_words (drop l.i l.pairs) ≡ l.initial.text ++ routes_words l.pairs;
}
