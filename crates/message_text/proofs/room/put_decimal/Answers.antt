use Rattle.std.proofs.Common.{◌+◌, ap}
use Rattle.std.specs.Prelude.{decimal}
use Rattle.message_text.proofs.Rooms.{written_digits}
use Rattle.message_text.proofs.room.put_decimal.Goals as goal

pub returns-clause-text : goal.returns-clause-text
returns-clause-text c =
    let digits = rw c.from.ensures at c.write_digits.ensures in
    written_digits c.args.at c.write_digits.result (c.args.at + c.digits_of.result) c.args.room.now c.write_digits.new.buf (decimal c.args.number)
    (ap (λ n. c.args.at + n) c.digits_of.ensures.count) digits.start digits.written digits.before
