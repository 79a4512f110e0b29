use Rattle.std.proofs.Common.{◌≡◌, ◌≤◌, false, length}
use Rattle.line_reader.specs.declared.reader.TheConstants.{READ_ROOM}
use Rattle.lab_main.specs.Progress.{Reached}
use Rattle.lab_main.proofs.run.tell_lines.Given as goal

-- the lines so far were told
abbrev pub invariant-loop-turn : goal.invariant-loop-turn
invariant-loop-turn g l = record {
  reached : Reached l._turn l.shows (g.R.Read.remaining l.initial.reader.inner) (g.R.Read.remaining l.reader.inner)
      (g.W.Write.contents l.initial.writer.inner) (g.W.Write.contents l.writer.inner) l.lab l.lines;
  ahead : length l.lines ≤ READ_ROOM;
  goes_on : l.lab.over ≡ false;
  reads : l.reader.failures ≡ 0;
  writes : l.writer.failures ≡ 0;
  prompt : l.reader.early_reads ≡ l.initial.reader.early_reads;
  memory : l.memory ≡ l.initial.memory;
}
