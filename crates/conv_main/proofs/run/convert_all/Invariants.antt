use Rattle.std.proofs.Common.{◌≡◌, ◌≤◌, ◌+◌, ◌*◌, [], false, length}
use Rattle.conv_main.specs.declared.run.TheConstants.{READ_ROOM}
use Rattle.program_ends.specs.Reads.{HasRead}
use Rattle.conv_main.specs.Progress.{Reached}
use Rattle.conv_main.proofs.run.convert_all.Given as goal

abbrev pub invariant-loop-turn : goal.invariant-loop-turn
invariant-loop-turn g l = record {
  reads : l.reader.reads ≡ l._turn;
  no_read_failure : l.reader.failures ≡ 0;
  no_write_failure : l.writer.failures ≡ 0;
  no_failure_to_tell : l.teller.failures ≡ 0;
  memory : l.memory ≡ l.initial.memory;
  room : READ_ROOM ≤ l.initial.reader.least_room → READ_ROOM ≤ l.reader.least_room;
  prompt : l.initial.writer.unflushed ≡ false → l.reader.early_reads ≡ l.initial.reader.early_reads;
  flushed : l.initial.writer.unflushed ≡ false → l.writer.unflushed ≡ false;
  flushed_lines : l.initial.teller.unflushed ≡ false → l.teller.unflushed ≡ false;
  number : l.progress.place.messages ≤ l.progress.place.offset;
  count : l.progress.place.offset + length l.progress.piece.items ≤ READ_ROOM * l._turn;
  no_out : l.progress.made.out.items ≡ [];
  no_line : l.progress.made.told.items ≡ [];
  reached : Reached l.way l.refused (g.R.Read.remaining l.initial.reader.inner) (g.R.Read.remaining l.reader.inner)
      (g.W.Write.contents l.initial.writer.inner) (g.W.Write.contents l.writer.inner)
      (g.E.Write.contents l.initial.teller.inner) (g.E.Write.contents l.teller.inner) l.progress.piece.items l.progress.place;
  many : HasRead l._turn (g.R.Read.remaining l.initial.reader.inner) (g.R.Read.remaining l.reader.inner);
}
