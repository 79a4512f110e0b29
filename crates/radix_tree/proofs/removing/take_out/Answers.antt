use Rattle.radix_tree.proofs.{MovedReads.Has_kept, Facts.none_if, ChainRemovals.leaf_is, Words.◌∙◌, Words.sym, Words.ap, Words.number_of, Words.arith}
use Rattle.radix_tree.proofs.RemovedRooms.{can_take, leaf_at, alone_is, member_is, only, only_room, only_shown}
use Rattle.radix_tree.proofs.removing.take_out.Goals as goal

pub vacate-requires-clause-from : goal.vacate-requires-clause-from
vacate-requires-clause-from g c =
    Has_kept c.remove_from_chain-rest.new.nodes.lodged (search arith)
    c.requires.route.there

pub vacate-requires-clause-to : goal.vacate-requires-clause-to
vacate-requires-clause-to g c =
    let p = leaf_at c.requires.route.there in
    let beside = member_is c.links.result.now c.requires.route.there c.links.ensures.links c.leaf-leaf.ensures c.other_member.ensures c.in-Some.is in
    (c.remove_from_chain-rest.ensures.neighbours p.0 c.in-Some.to p.1 (beside p.0 p.1)).0

pub vacate-requires-clause-takes : goal.vacate-requires-clause-takes
vacate-requires-clause-takes g c b used =
    let p = leaf_at c.requires.route.there in
    let beside = member_is c.links.result.now c.requires.route.there c.links.ensures.links c.leaf-leaf.ensures c.other_member.ensures c.in-Some.is in
    let n = c.remove_from_chain-rest.ensures.neighbours p.0 c.in-Some.to p.1 (beside p.0 p.1) in
    can_take c.remove_from_chain-rest.new.nodes.lodged c.args.at c.in-Some.to p.0.leaf.key n.1 n.2 (c.remove_from_chain-rest.ensures.idle p.0 b p.1 used)

pub vacate-requires-in-Some-above-clause-from : goal.vacate-requires-in-Some-above-clause-from
vacate-requires-in-Some-above-clause-from g c =
    Has_kept c.remove_lone-rest.new.nodes.lodged (c.remove_lone-rest.ensures.out.rooms (number_of c.args.at)) c.requires.route.there

pub returns-in-None-clause-out : goal.returns-in-None-clause-out
returns-in-None-clause-out g c n other =
    let p = leaf_at c.requires.route.there in
    let a = alone_is c.links.result.now c.requires.route.there c.links.ensures.links c.leaf-leaf.ensures c.other_member.ensures
    (none_if c.other_member.result c.in_default.not-Some) p.0 p.1 in
    let above = ap (λ z. z.above) (sym (leaf_is c.links.result.now c.requires.route.there p.1 c.links.ensures.links c.leaf-leaf.ensures)) ∙ c.in-None.is in
    let o = only (number_of c.args.at) c.requires.route.whole p.0 p.1 a.0 a.1 above in only_room _ c.requires.route.whole p.0 o n other

pub returns-in-None-clause-routes : goal.returns-in-None-clause-routes
returns-in-None-clause-routes g c p said =
    let a = alone_is c.links.result.now c.requires.route.there c.links.ensures.links c.leaf-leaf.ensures c.other_member.ensures
    (none_if c.other_member.result c.in_default.not-Some) p said in
    let above = ap (λ z. z.above) (sym (leaf_is c.links.result.now c.requires.route.there said c.links.ensures.links c.leaf-leaf.ensures)) ∙ c.in-None.is in
    let o = only (number_of c.args.at) c.requires.route.whole p said a.0 a.1 above in only_shown _ c.requires.route.whole p o
