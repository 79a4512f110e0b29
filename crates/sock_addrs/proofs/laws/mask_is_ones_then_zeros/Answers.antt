use Rattle.sock_addrs.proofs.WrittenRead.{mask_is_ones_then_zeros}
use Rattle.sock_addrs.proofs.laws.mask_is_ones_then_zeros.Goals as goal

pub returns : goal.returns
returns c = mask_is_ones_then_zeros
