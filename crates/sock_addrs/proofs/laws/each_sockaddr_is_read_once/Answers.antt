use Rattle.sock_addrs.proofs.ReadOnce.{inet_read_once, gate_read_once, mask_read_once}
use Rattle.sock_addrs.proofs.laws.each_sockaddr_is_read_once.Goals as goal

pub returns : goal.returns
returns c = record { inet = inet_read_once; gate = gate_read_once; mask = mask_read_once }
