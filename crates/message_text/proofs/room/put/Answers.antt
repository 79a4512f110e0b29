use Rattle.std.proofs.Common.{◌+◌, length, refl, arith}
use Rattle.message_text.proofs.Rooms.{written_put}
use Rattle.message_text.proofs.room.put.Goals as goal

pub returns-clause-text : goal.returns-clause-text
returns-clause-text c =
    let bytes = c.args.bytes.now in
    rw c.copy_from_slice.ensures.after
    (written_put c.args.at _ (c.args.at + length bytes) c.args.room.now bytes refl (omega arith))
