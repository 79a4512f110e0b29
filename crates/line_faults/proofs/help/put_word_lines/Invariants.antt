use Rattle.std.proofs.Common.{◌≡◌, ◌++◌, ◌+◌, ◌≤◌, length}
use Rattle.line_faults.specs.Help.{word_lines}
use Rattle.line_faults.proofs.help.put_word_lines.Given as goal

abbrev pub invariant-kinds : goal.invariant-kinds
invariant-kinds l = record {
  put : l.initial.text ++ word_lines 2 l.kinds ≡ l.text ++ word_lines l.place l.left;
  place : l.place + length l.left ≤ 2 + length l.kinds;
  memory : l.memory ≡ l.initial.memory;
}

abbrev pub decreases-kinds : goal.decreases-kinds
decreases-kinds l = length l.left
