use Rattle.std.proofs.Common.{[], Err, ap, append-nil, sym}
use Rattle.show_main.specs.Shown.{shown_line}
use Rattle.program_ends.proofs.ReadLemmas.{Appends-kept}
use Rattle.show_main.proofs.ShownLemmas.{Finishes-stopped}
use Rattle.show_main.proofs.run.finish.Goals as goal

pub returns-in_default-flush-clause-ends : goal.returns-in_default-flush-clause-ends
returns-in_default-flush-clause-ends g c =
    let text = shown_line c.args.line.now [] in
    record {
      written = text;
      unwritten = [];
      appends = Appends-kept (g.W.Write.contents c.args.writer.now.inner) (g.W.Write.contents c.show_line.new.writer.inner) (g.W.Write.contents c.flush.new.self.inner) text
          c.in_default.ensures.shown.appends c.flush.ensures.bytes;
      whole = sym (append-nil text);
    }

pub returns-in-Err-clause-ends : goal.returns-in-Err-clause-ends
returns-in-Err-clause-ends g c = Finishes-stopped c.stop.result (g.W.Write.contents c.stop.new.writer.inner) c.args.line.now c.stop.ensures.ends
    c.in-Err.ensures.fault (λ none. c.in-Err.ensures.unwritten (ap Err (c.stop.ensures.cause none))) c.stop.ensures.keeps
