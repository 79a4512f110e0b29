use Rattle.radix_tree.proofs.{Kept.Has-led, Kept.leaf_key, Kept.whole_at, Words.arith}
use Rattle.radix_tree.proofs.growing.insert.Goals as goal

pub leaf_from-leaf-requires-clause-whole : goal.leaf_from-leaf-requires-clause-whole
leaf_from-leaf-requires-clause-whole g c = whole_at _ c.requires.holds c.in-Some.is

pub links-requires-clause-there : goal.links-requires-clause-there
links-requires-clause-there g c = Has-led (c.leaf_from-leaf.ensures.leaf (whole_at _ c.requires.holds c.in-Some.is))

pub insert_new-requires-clause-new : goal.insert_new-requires-clause-new
insert_new-requires-clause-new g c =
    let w = whole_at _ c.requires.holds c.in-Some.is in
    let d = c.leaf_from-leaf.ensures.leaf w in (w, d, search (arith, leaf_key))

pub insert_among-requires-clause-led : goal.insert_among-requires-clause-led
insert_among-requires-clause-led g c =
    let w = whole_at _ c.requires.holds c.in-Some.is in
    let d = c.leaf_from-leaf.ensures.leaf w in
    (w, d, search (arith, leaf_key))
