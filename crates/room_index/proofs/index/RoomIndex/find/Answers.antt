use Rattle.std.proofs.Common.{not}
use Rattle.room_index.proofs.Naming.{known_in}
use Rattle.room_index.proofs.index.RoomIndex.find.Goals as goal

pub find-requires-clause-known : goal.find-requires-clause-known
find-requires-clause-known g c = known_in c.self.inside.places (not c.self.inside.given_up) (g.R.Rooms.Knows c.args.rooms.now) c.self.view_is c.requires.known
