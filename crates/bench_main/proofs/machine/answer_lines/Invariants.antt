use Rattle.std.proofs.Common.{◌≤◌, length}
use Rattle.bench_main.proofs.machine.answer_lines.Given as goal

abbrev pub invariant-loop-line : goal.invariant-loop-line
invariant-loop-line l = l.at ≤ length l.lines
