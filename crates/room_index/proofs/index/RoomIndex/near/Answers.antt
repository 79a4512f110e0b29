use Rattle.std.proofs.Common.{ℕ, not, subst}
use Rattle.std.specs.Prelude.{IfSome}
use Rattle.room_index.proofs.Naming.{near_named}
use Rattle.room_index.specs.Names.{Names}
use Rattle.room_index.proofs.index.RoomIndex.near.Goals as goal

pub returns-clause-near : goal.returns-clause-near
returns-clause-near g c = subst (λ h. IfSome c.near.result (λ room. (k : ℕ) × Names h k room)) c.self.view_is
    (near_named c.self.inside.places c.self.inside.ranges (not c.self.inside.given_up) c.self.invariant.within c.near.result c.near.ensures.near)
