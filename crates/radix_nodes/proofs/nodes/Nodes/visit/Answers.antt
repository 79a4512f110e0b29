use Rattle.std.proofs.Common.{sym, ap}
use Rattle.radix_nodes.proofs.RoomLemmas.{Has_at, seen_is, lodged_is}
use Rattle.radix_nodes.proofs.nodes.Nodes.visit.Goals as goal

pub get-requires : goal.get-requires
get-requires g c = Has_at _ c.args.id (lodged_is _ _ _ c.self.view_is) c.requires.there

pub returns-clause-links : goal.returns-clause-links
returns-clause-links g c = λ room at. ap (λ s. s.links) (sym (seen_is _ _ _ _ room (lodged_is _ _ _ c.self.view_is) c.get.ensures at))

pub returns-clause-value : goal.returns-clause-value
returns-clause-value g c = λ room at. ap (λ s. s.value) (sym (seen_is _ _ _ _ room (lodged_is _ _ _ c.self.view_is) c.get.ensures at))
