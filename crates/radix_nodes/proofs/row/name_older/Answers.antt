use Rattle.radix_nodes.proofs.RoomRows.{named_older}
use Rattle.radix_nodes.proofs.row.name_older.Goals as goal

pub get_mut-requires : goal.get_mut-requires
get_mut-requires g c = c.requires.there c.in-Some.room c.in-Some.is

pub returns-in-Some : goal.returns-in-Some
returns-in-Some g c = rw c.of.ensures (named_older _ c.args.at _ c.in-Some.room c.get_mut.result.now c.in-Some.is c.get_mut.ensures.value)
