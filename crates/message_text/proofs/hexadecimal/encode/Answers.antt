use Rattle.std.proofs.Common.{arith}
use Rattle.hex.specs.Hex.{lower_digits}
use Rattle.hex.proofs.Pairs.{encode_done}
use Rattle.message_text.proofs.HexText.{encode_put}
use Rattle.message_text.proofs.hexadecimal.encode.Goals as goal

pub bytes-preserved : goal.bytes-preserved
bytes-preserved c = let d = c.digits_of.ensures in rw c.copy_from_slice.ensures.after
    (encode_put c.args.bytes.now c.bytes.out c.digits_of.result c.bytes.i _ (omega arith) (omega arith) (omega arith) d.high d.low c.bytes.invariant)

pub returns : goal.returns
returns c = encode_done lower_digits c.args.bytes.now c.bytes.out c.bytes.i (omega arith) (omega arith) c.bytes.invariant
