use Rattle.std.proofs.Common.{ap, refl, sym}
use Rattle.std.specs.Prelude.{is_some}
use Rattle.route_core.specs.World.{World}
use Rattle.route_core.proofs.Effecting.{address_routed, address_taken, facts_known}
use Rattle.route_core.proofs.world.World.try_add_address.Goals as goal

pub returns-in-Err-add-clause-step : goal.returns-in-Err-add-clause-step
returns-in-Err-add-clause-step c =
    let w : World = record {
      table = c.self.inside.table.entries;
      interfaces = c.self.inside.interfaces;
      sockets = c.self.inside.listeners;
    } in
    let facts = facts_known _ c.facts-facts.result _ c.facts-facts.ensures c.in-Ok.ensures.there in
    let table_is = c.give_back-in-Err-add.ensures in
    rw (← c.self.view_is, table_is, c.in-Err-add.ensures.err, c.in_ok-room.ensures.ok)
    (address_taken w c.args.name c.args.address c.args.prefix c.args.cloning c.args.far _ _ _ _
    (sym c.in_ok-check_addr.ensures)
    c.in-Ok.ensures.number facts c.route_of_address-route.ensures.route
    (rw c.in_ok-room.ensures.ok at (c.in-Err-add.ensures.there.0 refl))
    c.in-Ok.ensures.added)

pub returns-clause-step : goal.returns-clause-step
returns-clause-step c =
    let w : World = record {
      table = c.self.inside.table.entries;
      interfaces = c.self.inside.interfaces;
      sockets = c.self.inside.listeners;
    } in
    let facts = facts_known _ c.facts-facts.result _ c.facts-facts.ensures c.in-Ok.ensures.there in
    rw (← c.self.view_is)
    (address_routed w c.args.name c.args.address c.args.prefix c.args.cloning c.args.far _ _ _ _ _ _ _
    (sym c.in_ok-check_addr.ensures)
    c.in-Ok.ensures.number facts c.route_of_address-route.ensures.route
    (rw c.in_ok-room.ensures.ok at (ap is_some c.in_default-add.ensures.absent))
    (rw (c.in_ok-room.ensures.ok, c.in-Some.ensures.route) at c.in_default-add.ensures.ok)
    c.in-Ok.ensures.added
    c.mark_routed.ensures.marked
    c.announce.ensures)
