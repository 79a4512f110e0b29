use Rattle.std.proofs.Common.{◌≡◌, ◌++◌, length}
use Rattle.lab_main.specs.Texts.{indented}
use Rattle.lab_main.proofs.texts.put_indented.Given as goal

-- what was put so far, and what the rest comes to, is all
abbrev pub invariant-loop-rest : goal.invariant-loop-rest
invariant-loop-rest l = record {
  text : l.text ++ indented l.rest ≡ l.initial.text ++ indented l.fn.body;
  memory : l.memory ≡ l.initial.memory;
}

abbrev pub decreases-loop-rest : goal.decreases-loop-rest
decreases-loop-rest l = length l.rest
