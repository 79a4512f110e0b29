use Rattle.sock_addrs.proofs.WrittenRead.{read_link_is_link_sockaddr}
use Rattle.sock_addrs.proofs.laws.read_link_is_link_sockaddr.Goals as goal

pub returns : goal.returns
returns c = read_link_is_link_sockaddr
