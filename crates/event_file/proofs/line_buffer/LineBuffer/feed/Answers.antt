use Rattle.std.proofs.Common.{◌≡◌, length, arith, refl, sym, ap, ◌∙◌, Some, None}
use Rattle.std.proofs.lemmas.List.{length-take-le}
use Rattle.event_file.specs.Lines.{Line, extended, first_line}
use Rattle.event_file.proofs.LineLemmas.{newline_at, same_line}
use Rattle.event_file.proofs.line_buffer.LineBuffer.feed.Goals as goal

pub returns-in-Some-clause-taken : goal.returns-in-Some-clause-taken
returns-in-Some-clause-taken c =
    let found = newline_at c.args.bytes.now (Some c.in-Some.at) c.in-Some.ensures in
    let long : length (first_line c.args.bytes.now) ≡ c.in-Some.at = ap length found.2 ∙ length-take-le c.in-Some.at c.args.bytes.now (omega (arith, found.0)) in
    rw (long, found.1) refl

pub returns-in-Some-clause-newline : goal.returns-in-Some-clause-newline
returns-in-Some-clause-newline c = sym (newline_at c.args.bytes.now (Some c.in-Some.at) c.in-Some.ensures).1

pub returns-in-Some-clause-line : goal.returns-in-Some-clause-line
returns-in-Some-clause-line c =
    let found = newline_at c.args.bytes.now (Some c.in-Some.at) c.in-Some.ensures in
    same_line _ _ _ _ (ap (λ (l : Line). l.text) c.self.view_is ∙ c.keep.ensures.text ∙ ap (extended c.args.self.now.text) (sym found.2)) (sym found.1)

pub returns-in-None-clause-taken : goal.returns-in-None-clause-taken
returns-in-None-clause-taken c =
    let found = newline_at c.args.bytes.now None c.in-None.ensures in
    rw (found.1, found.0) (omega arith)

pub returns-in-None-clause-newline : goal.returns-in-None-clause-newline
returns-in-None-clause-newline c = sym (newline_at c.args.bytes.now None c.in-None.ensures).0

pub returns-in-None-clause-line : goal.returns-in-None-clause-line
returns-in-None-clause-line c =
    let found = newline_at c.args.bytes.now None c.in-None.ensures in
    same_line _ _ _ _ (c.keep-in-None.ensures.text ∙ ap (extended c.args.self.now.text) (sym found.1)) (c.keep-in-None.ensures.ended ∙ c.requires ∙ sym found.0)
