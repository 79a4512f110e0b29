use Rattle.std.proofs.Common.{arith}
use Rattle.message_text.proofs.HexDigits.{first_is, second_is}
use Rattle.message_text.proofs.hexadecimal.digits_of.Goals as goal

pub returns-clause-high : goal.returns-clause-high
returns-clause-high c = rw (c.to_le_bytes.ensures, c.from-byte.ensures) (first_is c.args.byte (omega arith))

pub returns-clause-low : goal.returns-clause-low
returns-clause-low c = rw (c.to_le_bytes.ensures, c.from-byte.ensures) (second_is c.args.byte (omega arith))
