-- What was put of routes, and what is put of those to come, is what is put of all.
use Rattle.std.proofs.Common.{◌≡◌, ◌++◌, drop}
use Rattle.tree_pictures.specs.Svg.{lines_svg}
use Rattle.tree_pictures.proofs.svg.put_lines.Given as goal

abbrev pub invariant-routes : goal.invariant-routes
invariant-routes l = record {
  memory : l.memory ≡ l.initial.memory;
  text : l.text ++ lines_svg (drop l.i l.pairs) ≡ l.initial.text ++ lines_svg l.pairs;
}
