-- The header has as many bytes as the front that it takes.
use Rattle.std.proofs.Common.{arith, length-take-le}
use Rattle.route_msgs.proofs.writing.put_route_header.Goals as goal

pub copy_from_slice-requires : goal.copy_from_slice-requires
copy_from_slice-requires c = omega (arith, length-take-le 76 c.args.out.now c.requires, c.route_header-head.type_inv)
