use Rattle.sock_addrs.proofs.LinkCells.{cells_of_link}
use Rattle.sock_addrs.proofs.link.Link.of.Goals as goal

pub invariant_of-result : goal.invariant_of-result
invariant_of-result c = rw c.copy_from_slice.ensures.after (cells_of_link c.args.sockaddr.now c.requires)
