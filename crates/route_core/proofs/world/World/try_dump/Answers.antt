use Rattle.route_core.specs.World.{World}
use Rattle.route_core.proofs.Dumping.{dumped, dumped_are_messages}
use Rattle.route_core.proofs.world.World.try_dump.Goals as goal

pub new-requires : goal.new-requires
new-requires c = dumped_are_messages _ _ c.in_ok-bytes.ensures.bytes c.in_ok-bytes.ensures.whole

pub returns-clause-step : goal.returns-clause-step
returns-clause-step c =
    let w : World = record {
      table = c.self.inside.table.entries;
      interfaces = c.self.inside.interfaces;
      sockets = c.self.inside.listeners;
    } in
    let turned = c.begin-visits.ensures.turn in
    rw (← c.self.view_is, turned, c.«new».ensures)
    (dumped w c.args.filter c.args.room _ _
    (rw turned at c.in_ok-bytes.ensures.bytes)
    (rw turned at c.in_ok-bytes.ensures.whole)
    (rw turned at c.in_ok-bytes.ensures.errno))
