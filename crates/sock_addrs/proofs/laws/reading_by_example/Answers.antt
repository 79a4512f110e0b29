use Rattle.std.proofs.Common.{lit≤, lit<}
use Rattle.sock_addrs.proofs.WrittenRead.{scattered_is_no_mask}
use Rattle.sock_addrs.proofs.laws.reading_by_example.Goals as goal

pub returns-clause-scattered : goal.returns-clause-scattered
returns-clause-scattered c = (record { some = lit< tt; all = lit≤ tt }, lit≤ tt, scattered_is_no_mask)
