use Rattle.std.proofs.Common.{◌≡◌, ◌++◌, length}
use Rattle.line_faults.specs.Help.{option_lines}
use Rattle.line_faults.proofs.help.put_option_lines.Given as goal

abbrev pub invariant-options : goal.invariant-options
invariant-options l = record {
  put : l.initial.text ++ option_lines l.options ≡ l.text ++ option_lines l.left;
  memory : l.memory ≡ l.initial.memory;
}

abbrev pub decreases-options : goal.decreases-options
decreases-options l = length l.left
