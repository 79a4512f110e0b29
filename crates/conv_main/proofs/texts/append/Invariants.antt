use Rattle.std.proofs.Common.{◌≡◌, ◌++◌, take}
use Rattle.conv_main.proofs.texts.append.Given as goal

abbrev pub invariant-bytes : goal.invariant-bytes
invariant-bytes l = record {
  text : l.text.items ≡ l.initial.text.items ++ take l.i l.bytes;
  memory : l.memory ≡ l.initial.memory;
}
