use Rattle.std.proofs.Common.{refl, sym, ap}
use Rattle.radix_nodes.proofs.RoomLemmas.{Has_at, lodged_is, seen_is, view_valued, starts_there}
use Rattle.radix_nodes.proofs.RoomRows.{row_put}
use Rattle.radix_nodes.proofs.nodes.Nodes.value_mut.Goals as goal

pub get_mut-requires : goal.get_mut-requires
get_mut-requires g c = Has_at _ c.args.id (lodged_is _ _ _ c.self.view_is) c.requires.there

pub invariant_of-self-lent : goal.invariant_of-self-lent
invariant_of-self-lent g c = λ w. (row_put _ _ _ _ c.get_mut.result.now _ c.get_mut.ensures.value refl refl c.self.invariant.0, starts_there _ _ _ _ _ c.get_mut.ensures.value c.self.invariant.1)

pub returns : goal.returns
returns g c = (
  (refl, λ w. view_valued _ _ _ c.args.id c.get_mut.result.now w c.self.view_is c.get_mut.ensures.value),
  record { writes = tt; value = λ room at. ap (λ s. s.value) (sym (seen_is _ _ _ _ room (lodged_is _ _ _ c.self.view_is) c.get_mut.ensures.value at)) },
)
