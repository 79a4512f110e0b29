use Rattle.sock_addrs.proofs.WrittenRead.{mask_sockaddrs_differ}
use Rattle.sock_addrs.proofs.laws.mask_sockaddrs_differ.Goals as goal

pub returns : goal.returns
returns c = mask_sockaddrs_differ
