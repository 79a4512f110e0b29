use Rattle.std.proofs.Common.{◌≡◌, ◌++◌, replicate}
use Rattle.lab_text.proofs.text.Text.pad.Given as goal

abbrev pub invariant-spaces : goal.invariant-spaces
invariant-spaces l = record {
  text : l.self-inside.bytes.items ≡ l.initial.self-inside.bytes.items ++ replicate l._i 32;
  memory : l.memory ≡ l.initial.memory;
}
