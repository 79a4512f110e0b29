use Rattle.radix_tree.proofs.{Kept.Has-led, Words.◌∙◌, Words.ap, Words.refl, Words.Node, Words.IsIn, Words.IsWhole, Words.LedTo, Words.Placed, Words.bit_at}
use Rattle.radix_tree.proofs.HomeLists.{placed_in, chain_of, in_chain, led_first, chain_at}
use Rattle.radix_tree.proofs.Descents.{led_key, leaf_on_way}
use Rattle.radix_tree.proofs.descent.node_near.Goals.{After-first_of_chain-first}
use Rattle.radix_tree.proofs.descent.node_near.Goals as goal

pub first_of_chain-first-requires-clause-chain : goal.first_of_chain-first-requires-clause-chain
first_of_chain-first-requires-clause-chain g c = chain_at c.requires.whole.1 c.requires.there

-- the room's route, whose key leads to its leaf
route : (g : _) (c : After-first_of_chain-first g) (root : Node) (w : IsWhole c.args.nodes.now.lodged root)
    → (y : Placed _) × IsIn y w.part.tree × LedTo y.entry.key w.part c.first_of_chain-first.result
route g c root w =
    let y = placed_in w c.requires.there in
    (y.0, y.1, led_first w.part y.0 y.1 (c.first_of_chain-first.ensures.first (chain_of w.part y.0 y.1) y.0 refl (in_chain w.part y.0 y.1) y.2))

pub leaf-key-requires-clause-there : goal.leaf-key-requires-clause-there
leaf-key-requires-clause-there g c = Has-led (route g (goal.at.leaf-key-requires-clause-there g c).After-first_of_chain-first c.requires.whole.0 c.requires.whole.1).2

pub shared_above-requires-clause-led : goal.shared_above-requires-clause-led
shared_above-requires-clause-led g c =
    let w = c.requires.whole.1 in
    let r = route g (goal.at.shared_above-requires-clause-led g c).After-first_of_chain-first c.requires.whole.0 w in (r.0.entry.key, w.part, w.top, w.low, r.2)

pub returns-in-Some-clause-on_way : goal.returns-in-Some-clause-on_way
returns-in-Some-clause-on_way g c root w =
    let r = route g (goal.at.returns-in-Some-clause-on_way g c).After-first_of_chain-first root w in
    let key = led_key r.0 r.1 r.2 c.leaf-key.ensures.said in
    c.shared_above.ensures.on_way c.args.address r.0.entry.key w.part w.top w.low r.2 (λ b before. c.in-Some.ensures.before b before ∙ ap (bit_at b) key)

pub returns-in-None-clause-on_way : goal.returns-in-None-clause-on_way
returns-in-None-clause-on_way g c root w =
    let r = route g (goal.at.returns-in-None-clause-on_way g c).After-first_of_chain-first root w in
    leaf_on_way r.2 (c.in-None.ensures ∙ led_key r.0 r.1 r.2 c.leaf-key.ensures.said)
