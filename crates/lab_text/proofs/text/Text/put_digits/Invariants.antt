use Rattle.std.proofs.Common.{◌≡◌, ◌++◌, take}
use Rattle.hex.specs.Hex.{encode_lower}
use Rattle.lab_text.proofs.text.Text.put_digits.Given as goal

abbrev pub invariant-loop-byte : goal.invariant-loop-byte
invariant-loop-byte l = record {
  text : l.self-inside.bytes.items ≡ l.initial.self-inside.bytes.items ++ encode_lower (take l.byte-index l.bytes);
  memory : l.memory ≡ l.initial.memory;
}
