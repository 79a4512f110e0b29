use Rattle.std.proofs.Common.{refl}
use Rattle.radix_nodes.proofs.RoomLemmas.{Has_at, lodged_is, view_put, starts_there}
use Rattle.radix_nodes.proofs.RoomRows.{row_put}
use Rattle.radix_nodes.proofs.nodes.Nodes.set_links.Goals as goal

pub get_mut-requires : goal.get_mut-requires
get_mut-requires g c = Has_at _ c.args.id (lodged_is _ _ _ c.self.view_is) c.requires.there

pub invariant_of-self : goal.invariant_of-self
invariant_of-self g c = (
  row_put _ _ _ _ c.get_mut.result.now _ c.get_mut.ensures.value refl refl c.self.invariant.0,
  starts_there _ _ _ _ _ c.get_mut.ensures.value c.self.invariant.1,
)

pub returns : goal.returns
returns g c = view_put _ _ _ c.args.id c.get_mut.result.now c.args.links c.self.view_is c.get_mut.ensures.value
