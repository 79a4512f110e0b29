use Rattle.std.proofs.Common.{◌≡◌, ◌++◌, take}
use Rattle.lab_text.proofs.text.Text.put.Given as goal

abbrev pub invariant-loop-byte : goal.invariant-loop-byte
invariant-loop-byte l = record {
  text : l.self-inside.bytes.items ≡ l.initial.self-inside.bytes.items ++ take l.byte-index l.bytes;
  memory : l.memory ≡ l.initial.memory;
}
