use Rattle.std.proofs.Common.{◌≡◌, not, subst}
use Rattle.radix_nodes.specs.declared.id.Id.{Id}
use Rattle.room_index.proofs.Naming.{once_named}
use Rattle.room_index.specs.Homes.{pair}
use Rattle.room_index.specs.Names.{Names}
use Rattle.room_index.proofs.index.RoomIndex.strike.Goals as goal

pub returns-clause-once : goal.returns-clause-once
returns-clause-once g c = subst (λ h. (one other : Id) → Names h (pair c.args.key c.args.rank) one → Names h (pair c.args.key c.args.rank) other → one ≡ other)
    c.self.view_is (once_named c.self.inside.places (not c.self.inside.given_up) c.self.invariant.table (pair c.args.key c.args.rank))
