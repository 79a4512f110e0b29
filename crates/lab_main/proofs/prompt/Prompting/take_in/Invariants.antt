use Rattle.std.proofs.Common.{◌≡◌}
use Rattle.lab_main.proofs.prompt.Prompting.take_in.Given as goal

abbrev pub invariant-loop-byte : goal.invariant-loop-byte
invariant-loop-byte g l = l.self.reader ≡ l.initial.self.reader
