use Rattle.std.proofs.Common.{arith}
use Rattle.event_file.proofs.HexTables.{value_is}
use Rattle.event_file.proofs.hexadecimal.value_of.Goals as goal

pub returns : goal.returns
returns c = rw c.from.ensures (value_is c.args.digit (omega arith))
