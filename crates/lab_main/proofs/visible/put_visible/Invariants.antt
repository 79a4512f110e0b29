use Rattle.std.proofs.Common.{◌≡◌, ◌++◌, take}
use Rattle.lab_main.specs.Texts.{visible}
use Rattle.lab_main.proofs.visible.put_visible.Given as goal

abbrev pub invariant-loop-byte : goal.invariant-loop-byte
invariant-loop-byte l = record {
  text : l.text ≡ l.initial.text ++ visible (take l.byte-index l.bytes);
  memory : l.memory ≡ l.initial.memory;
}
