use Rattle.std.proofs.Common.{sym, subst}
use Rattle.room_index.specs.Filed.{IsLeafOf}
use Rattle.room_index.proofs.rooms.NodesRoomsSnapshotU64.pair.Goals as goal

pub links-requires-clause-there : goal.links-requires-clause-there
links-requires-clause-there g c =
    let known = subst (IsLeafOf c.args.self.now.lodged) (sym c.entry.view_is) c.requires.known in
    record { room = known.seen; at = known.at; block = known.block }
