use Rattle.std.proofs.Common.{◌≡◌, ◌≤◌, false}
use Rattle.event_file.specs.Lines.{has_newline}
use Rattle.show_main.specs.declared.run.TheConstants.{READ_ROOM}
use Rattle.program_ends.specs.Reads.{HasRead}
use Rattle.show_main.specs.Progress.{Reached}
use Rattle.show_main.proofs.run.show_all.Given as goal

abbrev pub invariant-loop-turn : goal.invariant-loop-turn
invariant-loop-turn g l = record {
  reads : l.reader.reads ≡ l._turn;
  no_read_failure : l.reader.failures ≡ 0;
  no_write_failure : l.writer.failures ≡ 0;
  memory : l.memory ≡ l.initial.memory;
  room : READ_ROOM ≤ l.initial.reader.least_room → READ_ROOM ≤ l.reader.least_room;
  prompt : l.initial.writer.unflushed ≡ false → l.reader.early_reads ≡ l.initial.reader.early_reads;
  flushed : l.initial.writer.unflushed ≡ false → l.writer.unflushed ≡ false;
  begun : has_newline l.line.items ≡ false;
  reached : Reached (g.R.Read.remaining l.initial.reader.inner) (g.R.Read.remaining l.reader.inner)
      (g.W.Write.contents l.initial.writer.inner) (g.W.Write.contents l.writer.inner) l.line.items;
  many : HasRead l._turn (g.R.Read.remaining l.initial.reader.inner) (g.R.Read.remaining l.reader.inner);
}
