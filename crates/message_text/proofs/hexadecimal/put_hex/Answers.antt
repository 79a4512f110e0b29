use Rattle.std.proofs.Common.{◌+◌, ◌*◌, ap, length, arith}
use Rattle.hex.specs.Hex.{encode_lower}
use Rattle.message_text.proofs.Rooms.{written_put}
use Rattle.message_text.proofs.hexadecimal.put_hex.Goals as goal

pub returns-clause-text : goal.returns-clause-text
returns-clause-text c =
    let digits = encode_lower c.args.bytes.now in
    let size = ap length c.encode.ensures in
    rw c.encode.ensures
    (written_put c.args.at _ (c.args.at + 2 * length c.args.bytes.now) c.args.room.now digits (omega (arith, size, c.encode.auto.out)) (omega arith))
