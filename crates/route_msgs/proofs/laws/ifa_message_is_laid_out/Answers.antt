use Rattle.route_msgs.proofs.HeadersRead.{ifa_laid_out}
use Rattle.route_msgs.proofs.laws.ifa_message_is_laid_out.Goals as goal

pub returns : goal.returns
returns c = ifa_laid_out
