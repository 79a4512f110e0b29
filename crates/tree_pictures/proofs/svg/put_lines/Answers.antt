use Rattle.std.proofs.Common.{◌+◌, ◌++◌, List, ℕ, drop, ap, sym, ◌∙◌, append_assoc, arith}
use Rattle.tree_pictures.specs.Svg.{lines_svg, route_svg}
use Rattle.tree_pictures.proofs.Pictures.{lines_more}
use Rattle.tree_pictures.proofs.svg.put_lines.Goals as goal

pub routes-preserved : goal.routes-preserved
routes-preserved c =
    let text = c.routes.text in
    let line = route_svg c.index-pairs-i.result in
    let later = lines_svg (drop (c.routes.i + 1) c.args.pairs.now) in
    let more = lines_more c.args.pairs.now c.routes.i c.index-pairs-i.result (omega arith) c.index-pairs-i.is in
    record {
      memory = c.in_ok-put_line.ensures.counted ∙ c.routes.invariant.memory;
      text = ap (λ (s : List ℕ). s ++ later) c.in_ok-put_line.ensures.put ∙ append_assoc text line later
          ∙ ap (λ (s : List ℕ). text ++ s) (sym more) ∙ c.routes.invariant.text;
    }
