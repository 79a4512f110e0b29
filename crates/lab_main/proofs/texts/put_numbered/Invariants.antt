use Rattle.std.proofs.Common.{◌≡◌, ◌++◌, take}
use Rattle.lab_main.specs.Texts.{numbered}
use Rattle.lab_main.proofs.texts.put_numbered.Given as goal

abbrev pub invariant-loop-number : goal.invariant-loop-number
invariant-loop-number l = record {
  text : l.text ≡ l.initial.text ++ numbered (take l.number-index l.numbers);
  memory : l.memory ≡ l.initial.memory;
}
