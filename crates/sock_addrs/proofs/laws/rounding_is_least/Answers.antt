use Rattle.sock_addrs.proofs.RoundingLaws.{rounding_is_least}
use Rattle.sock_addrs.proofs.laws.rounding_is_least.Goals as goal

pub returns : goal.returns
returns c = rounding_is_least
