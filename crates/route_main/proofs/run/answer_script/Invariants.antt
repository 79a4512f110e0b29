use Rattle.std.proofs.Common.{◌≡◌, ◌≤◌, false}
use Rattle.route_main.specs.declared.run.TheConstants.{READ_ROOM}
use Rattle.route_main.specs.Progress.{HasRead, Reached, standing}
use Rattle.route_main.proofs.run.answer_script.Given as goal

abbrev pub invariant-loop-turn : goal.invariant-loop-turn
invariant-loop-turn g l = record {
  reads : l.reader.reads ≡ l._turn;
  no_read_failure : l.reader.failures ≡ 0;
  no_write_failure : l.writer.failures ≡ 0;
  room : READ_ROOM ≤ l.initial.reader.least_room → READ_ROOM ≤ l.reader.least_room;
  prompt : l.initial.writer.unflushed ≡ false → l.reader.early_reads ≡ l.initial.reader.early_reads;
  flushed : l.initial.writer.unflushed ≡ false → l.writer.unflushed ≡ false;
  unended : l.line.ended ≡ false;
  reached : Reached l.initial.memory (standing l.answerer l.memory) (g.R.Read.remaining l.initial.reader.inner) (g.R.Read.remaining l.reader.inner)
      (g.W.Write.contents l.initial.writer.inner) (g.W.Write.contents l.writer.inner) l.line;
  many : HasRead l._turn (g.R.Read.remaining l.initial.reader.inner) (g.R.Read.remaining l.reader.inner);
}
