use Rattle.sock_addrs.proofs.WrittenRead.{inet_sockaddr_is_read}
use Rattle.sock_addrs.proofs.laws.inet_sockaddr_is_read.Goals as goal

pub returns : goal.returns
returns c = inet_sockaddr_is_read
