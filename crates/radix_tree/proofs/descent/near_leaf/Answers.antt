use Rattle.radix_tree.proofs.{Kept.Has-led, Descents.has_place, Words.refl, Words.Has}
use Rattle.radix_tree.proofs.HomeLists.{placed_in, chain_of, in_chain, led_first, chain_at}
use Rattle.radix_tree.proofs.descent.near_leaf.Goals.{In-Some}
use Rattle.radix_tree.proofs.descent.near_leaf.Goals as goal

-- the index names rooms of the map
there : (g : _) (c : In-Some g) → Has c.args.nodes.now.lodged c.in-Some.room
there g c = let near = c.in-Some.ensures.near in has_place c.args.nodes.now.lodged c.in-Some.room near.0 (c.requires.indexed.found near.0 c.in-Some.room near.1)

pub first_of_chain-requires-clause-chain : goal.first_of_chain-requires-clause-chain
first_of_chain-requires-clause-chain g c = chain_at c.requires.whole (there g (goal.at.first_of_chain-requires-clause-chain g c).In-Some)

pub returns-in-Some-clause-there : goal.returns-in-Some-clause-there
returns-in-Some-clause-there g c =
    let w = c.requires.whole in
    let y = placed_in w (there g (goal.at.returns-in-Some-clause-there g c).In-Some) in
    Has-led (led_first w.part y.0 y.1 (c.first_of_chain.ensures.first (chain_of w.part y.0 y.1) y.0 refl (in_chain w.part y.0 y.1) y.2))
