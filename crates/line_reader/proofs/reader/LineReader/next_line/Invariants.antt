use Rattle.std.proofs.Common.{◌≡◌, ◌⊎◌, false}
use Rattle.std.specs.Io.KnownBytes.{Keeps}
use Rattle.program_ends.specs.Reads.{HasRead}
use Rattle.line_reader.specs.Given.{Needed, Parted}
use Rattle.line_reader.proofs.reader.LineReader.next_line.Given as goal

-- what has come of the line, and what was read behind it
abbrev pub invariant-loop-turn : goal.invariant-loop-turn
invariant-loop-turn g l = record {
  parted : Parted (g.R.Read.remaining l.initial.reader.inner) (g.R.Read.remaining l.reader.inner) l.initial.self l.line.items l.self;
  many : HasRead l._turn (g.R.Read.remaining l.initial.reader.inner) (g.R.Read.remaining l.reader.inner);
  needed : (l.reader ≡ l.initial.reader) ⊎ Needed (g.R.Read.remaining l.initial.reader.inner) (g.R.Read.remaining l.reader.inner) l.initial.self;
  keeps : Keeps (g.W.Write.contents l.initial.writer.inner) (g.W.Write.contents l.writer.inner);
  flushed : ((l._turn ≡ 0) × (l.reader ≡ l.initial.reader)) ⊎ (l.writer.unflushed ≡ false);
  prompt : l.reader.early_reads ≡ l.initial.reader.early_reads;
  reads : l.reader.failures ≡ 0;
  writes : l.writer.failures ≡ 0;
  memory : l.memory ≡ l.initial.memory;
}
