use Rattle.std.proofs.Common.{◌≡◌, ◌≤◌, ◌++◌, false, length}
use Rattle.event_file.specs.Lines.{begun_line, has_newline}
use Rattle.memory.specs.declared.memory.TheConstants.{MOST_ASKED}
use Rattle.show_main.specs.Faults.{ShowedLines}
use Rattle.show_main.specs.Shown.{whole_lines}
use Rattle.show_main.proofs.lines.show_bytes.Given as goal

abbrev pub invariant-loop-front : goal.invariant-loop-front
invariant-loop-front g l = record {
  begun : has_newline l.line.items ≡ false;
  no_failure : l.writer.failures ≡ 0;
  memory : l.memory ≡ l.initial.memory;
  modest : length l.rest ≤ MOST_ASKED;
  shown : ShowedLines g.W.Write.contents l.initial.writer l.writer (l.initial.line.items ++ l.bytes) (whole_lines (l.line.items ++ l.rest));
  leaves : begun_line (l.initial.line.items ++ l.bytes) ≡ begun_line (l.line.items ++ l.rest);
}

abbrev pub decreases-loop-front : goal.decreases-loop-front
decreases-loop-front g l = length l.rest
