use Rattle.radix_tree.proofs.HomeLists.{placed_in, chain_of, in_chain, led_first, chain_at, rank_read, home_is}
use Rattle.radix_tree.proofs.Words.{refl}
use Rattle.radix_tree.proofs.listing.home_of.Goals as goal

pub first_of_chain-first-requires-clause-chain : goal.first_of_chain-first-requires-clause-chain
first_of_chain-first-requires-clause-chain g c = let w = c.requires.whole in chain_at w.2 c.requires.there

pub home-requires-clause-led : goal.home-requires-clause-led
home-requires-clause-led g c =
    let w = c.requires.whole in
    let y = placed_in w.2 c.requires.there in (
      y.0.entry.key,
      w.2.part,
      w.2.top,
      w.2.low,
      led_first w.2.part y.0 y.1 (c.first_of_chain-first.ensures.first (chain_of w.2.part y.0 y.1) y.0 refl (in_chain w.2.part y.0 y.1) y.2),
    )

pub returns-clause-home : goal.returns-clause-home
returns-clause-home g c root late w y is room_is = home_is y.entry.key w.part c.home.result
    (rank_read w.part y c.args.room c.links.result.now is room_is c.links.ensures.links c.leaf-rank.ensures) (c.home.ensures.home y.entry.key w.part w.top w.low
    (led_first w.part y is (c.first_of_chain-first.ensures.first (chain_of w.part y is) y refl (in_chain w.part y is) room_is)))
