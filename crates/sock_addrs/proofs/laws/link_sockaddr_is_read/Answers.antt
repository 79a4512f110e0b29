use Rattle.sock_addrs.proofs.WrittenRead.{link_sockaddr_is_read}
use Rattle.sock_addrs.proofs.laws.link_sockaddr_is_read.Goals as goal

pub returns : goal.returns
returns c = link_sockaddr_is_read
