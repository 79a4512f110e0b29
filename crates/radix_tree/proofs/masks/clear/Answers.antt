use Rattle.radix_tree.proofs.{MaskWalks.listed_at, MaskWalks.cleared_one, MaskWalks.all_cleared, MaskWalks.Has-listed, Words.◌∙◌, Words.sym}
use Rattle.radix_tree.proofs.masks.clear.Goals as goal

pub mask_node-requires-clause-listed : goal.mask_node-requires-clause-listed
mask_node-requires-clause-listed g c = let l = c.requires.list in listed_at (c.loop-at.invariant.clearing l.0 l.1) c.in-Some.is

pub put_mask_node-requires-clause-there : goal.put_mask_node-requires-clause-there
put_mask_node-requires-clause-there g c = search (Has-listed)

pub loop-at-preserved : goal.loop-at-preserved
loop-at-preserved g c =
    let i = c.loop-at.invariant in
    let e = c.put_mask_node.ensures in
    let s = e.stays in record {
      of_turn = s.counter ∙ c.mask_node.ensures.visit.turn ∙ i.of_turn ∙ sym s.turn;
      clearing = λ ms is. (cleared_one _ c.mask_node.result.1 (i.clearing ms is) c.in-Some.is c.mask_node.ensures.said e.tree.leaves e.masks).0;
      heads = λ n. e.heads n ∙ i.heads n;
      tree = record { leaves = λ n. e.tree.leaves n ∙ i.tree.leaves n; bits = λ n. e.tree.bits n ∙ i.tree.bits n };
      stays = record { turn = s.turn ∙ i.stays.turn; counter = s.counter ∙ c.mask_node.ensures.visit.turn ∙ i.stays.counter };
    }

pub returns-clause-cleared : goal.returns-clause-cleared
returns-clause-cleared g c ms y is among = all_cleared (c.loop-at.invariant.clearing ms is) c.in_default.is y among

pub returns-clause-masks : goal.returns-clause-masks
returns-clause-masks g c ms is n aside = (c.loop-at.invariant.clearing ms is).aside n aside
