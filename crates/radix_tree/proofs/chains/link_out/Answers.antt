use Rattle.radix_tree.proofs.MovedReads.{Has-back}
use Rattle.radix_tree.proofs.chains.link_out.Goals as goal

pub name_next-requires-clause-there : goal.name_next-requires-clause-there
name_next-requires-clause-there g c at is =
    Has-back (c.requires.before at is) c.name_back.new.nodes.lodged c.args.leaf.next c.args.leaf.above c.args.leaf.previous c.name_back.ensures.leaves
