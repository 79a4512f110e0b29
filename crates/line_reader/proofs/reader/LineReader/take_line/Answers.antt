use Rattle.std.proofs.Common.{◌∙◌, ◌-◌, sym, rules, take, drop}
use Rattle.line_reader.proofs.Parting.{line_cut, line_uncut, nothing_ahead}
use Rattle.line_reader.proofs.reader.LineReader.take_line.Goals as goal

pub returns-in_ok-extend-in-Some-clause-took : goal.returns-in_ok-extend-in-Some-clause-took
returns-in_ok-extend-in-Some-clause-took c =
    let r = c.self.inside in
    let bytes = take (r.end - r.at) (drop r.at r.chunk.items) in
    let cut = line_cut r.chunk.items bytes r.at r.end c.in-Some.place (search rules) (search rules) in
    (take c.in-Some.place bytes, sym c.self.view_is ∙ cut.1, cut.0, search rules)

pub returns-in_ok-extend-in-None-clause-took : goal.returns-in_ok-extend-in-None-clause-took
returns-in_ok-extend-in-None-clause-took c =
    let r = c.self.inside in
    (search rules, search (rules, line_uncut), nothing_ahead r.chunk.items r.end)
