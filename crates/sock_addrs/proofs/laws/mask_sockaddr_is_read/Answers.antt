use Rattle.sock_addrs.proofs.WrittenRead.{mask_sockaddr_is_read}
use Rattle.sock_addrs.proofs.laws.mask_sockaddr_is_read.Goals as goal

pub returns : goal.returns
returns c = mask_sockaddr_is_read
