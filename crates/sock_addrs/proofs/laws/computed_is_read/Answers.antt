use Rattle.sock_addrs.proofs.MaskRead.{mask_computed}
use Rattle.sock_addrs.proofs.laws.computed_is_read.Goals as goal

pub returns-clause-mask : goal.returns-clause-mask
returns-clause-mask c = mask_computed
