use Rattle.std.proofs.Common.{◌∙◌, ap}
use Rattle.radix_nodes.proofs.RoomLemmas.{Has_at, lodged_is, view}
use Rattle.radix_nodes.proofs.Turning.{there, still_at, tells, turned_back}
use Rattle.radix_nodes.proofs.nodes.Nodes.same.Goals as goal

pub get-requires : goal.get-requires
get-requires g c = Has_at _ c.args.b (lodged_is _ _ _ c.self.view_is) c.requires.b

pub get_mut-requires : goal.get_mut-requires
get_mut-requires g c = Has_at _ c.args.a (lodged_is _ _ _ c.self.view_is) c.requires.a

pub get-requires-2 : goal.get-requires-2
get-requires-2 g c = still_at _ _ _ _ _ c.get_mut.ensures.value _ _ (Has_at _ c.args.b (lodged_is _ _ _ c.self.view_is) c.requires.b)

pub get_mut-requires-2 : goal.get_mut-requires-2
get_mut-requires-2 g c = there _ _ _ _ _ c.get_mut.ensures.value

pub invariant_of-self : goal.invariant_of-self
invariant_of-self g c = rw (turned_back _ _ _ _ _ c.get_mut.ensures.value _ _ c.turn_flag.ensures c.get_mut-2.ensures.value c.turn_flag-2.ensures) c.self.invariant

pub returns-clause-answer : goal.returns-clause-answer
returns-clause-answer g c = tells _ _ _ _ _ c.get_mut.ensures.value _ _ _ _ _ _ c.turn_flag.ensures c.get.ensures c.get-2.ensures c.flag-before.ensures c.flag-after.ensures

pub returns-clause-stays : goal.returns-clause-stays
returns-clause-stays g c =
    ap (λ m. view m c.self.inside.turn) (turned_back _ _ _ _ _ c.get_mut.ensures.value _ _ c.turn_flag.ensures c.get_mut-2.ensures.value c.turn_flag-2.ensures) ∙ c.self.view_is
