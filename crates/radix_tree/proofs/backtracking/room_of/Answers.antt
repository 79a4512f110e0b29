use Rattle.radix_tree.proofs.{Parts.chain_led, Descents.pair_led}
use Rattle.radix_tree.proofs.backtracking.room_of.Goals as goal

pub of_pair-requires-clause-chain : goal.of_pair-requires-clause-chain
of_pair-requires-clause-chain g c = let t = c.requires.tree in chain_led (c.leaf_for-leaf.ensures.leaf t.0 t.1)

pub returns-clause-found : goal.returns-clause-found
returns-clause-found g c p named =
    let l = c.leaf_for-leaf.ensures.leaf p named in
    let r = chain_led l in pair_led c.args.rank l c.of_pair.result (c.of_pair.ensures.found r.0 r.1)
