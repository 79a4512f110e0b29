use Rattle.std.proofs.Common.{inl}
use Rattle.route_core.proofs.Counting.{removed_stands, stands}
use Rattle.route_core.proofs.FewBrought.{routes_are_few}
use Rattle.route_core.proofs.world.World.answer_counted.Goals as goal

pub returns-in-Close-clause-counted : goal.returns-in-Close-clause-counted
returns-in-Close-clause-counted c = stands _ _ _ _ _ c.shut.ensures

pub returns-in-Loopback-clause-counted : goal.returns-in-Loopback-clause-counted
returns-in-Loopback-clause-counted c = stands _ _ _ _ _ c.set_loopback.ensures

pub returns-in-Lost-clause-counted : goal.returns-in-Lost-clause-counted
returns-in-Lost-clause-counted c = stands _ _ _ _ _ c.lost.ensures

pub returns-in-Losing-clause-counted : goal.returns-in-Losing-clause-counted
returns-in-Losing-clause-counted c = stands _ _ _ _ _ c.losing.ensures

pub returns-in-DumpSize-clause-counted : goal.returns-in-DumpSize-clause-counted
returns-in-DumpSize-clause-counted c = stands _ _ _ _ _ c.dump_size.ensures

pub returns-in-RemoveAddress-clause-counted : goal.returns-in-RemoveAddress-clause-counted
returns-in-RemoveAddress-clause-counted c = removed_stands _ _ _ _ _ _ c.remove_address.ensures

pub returns-in-Attach-clause-few_routes : goal.returns-in-Attach-clause-few_routes
returns-in-Attach-clause-few_routes c = routes_are_few _ _ _ _ c.attach_counted.ensures.step

pub returns-in-AddAddress-clause-few_routes : goal.returns-in-AddAddress-clause-few_routes
returns-in-AddAddress-clause-few_routes c = routes_are_few _ _ _ _ c.add_address_counted.ensures.step

pub returns-in-RemoveAddress-clause-few_routes : goal.returns-in-RemoveAddress-clause-few_routes
returns-in-RemoveAddress-clause-few_routes c = routes_are_few _ _ _ _ c.remove_address.ensures

pub returns-in-Open-clause-few_routes : goal.returns-in-Open-clause-few_routes
returns-in-Open-clause-few_routes c = routes_are_few _ _ _ _ c.listen_counted.ensures.step

pub returns-in-Close-clause-few_routes : goal.returns-in-Close-clause-few_routes
returns-in-Close-clause-few_routes c = routes_are_few _ _ _ _ (inl c.shut.ensures)

pub returns-in-Loopback-clause-few_routes : goal.returns-in-Loopback-clause-few_routes
returns-in-Loopback-clause-few_routes c = routes_are_few _ _ _ _ (inl c.set_loopback.ensures)

pub returns-in-Write-clause-few_routes : goal.returns-in-Write-clause-few_routes
returns-in-Write-clause-few_routes c = routes_are_few _ _ _ _ c.write_counted.ensures.step

pub returns-in-Lost-clause-few_routes : goal.returns-in-Lost-clause-few_routes
returns-in-Lost-clause-few_routes c = routes_are_few _ _ _ _ (inl c.lost.ensures)

pub returns-in-Packet-clause-few_routes : goal.returns-in-Packet-clause-few_routes
returns-in-Packet-clause-few_routes c = routes_are_few _ _ _ _ c.packet_counted.ensures.step

pub returns-in-Redirect-clause-few_routes : goal.returns-in-Redirect-clause-few_routes
returns-in-Redirect-clause-few_routes c = routes_are_few _ _ _ _ c.redirect_counted.ensures.step

pub returns-in-Losing-clause-few_routes : goal.returns-in-Losing-clause-few_routes
returns-in-Losing-clause-few_routes c = routes_are_few _ _ _ _ (inl c.losing.ensures)

pub returns-in-DumpSize-clause-few_routes : goal.returns-in-DumpSize-clause-few_routes
returns-in-DumpSize-clause-few_routes c = routes_are_few _ _ _ _ (inl c.dump_size.ensures)

pub returns-in-Dump-clause-few_routes : goal.returns-in-Dump-clause-few_routes
returns-in-Dump-clause-few_routes c = routes_are_few _ _ _ _ c.dump_counted.ensures.step
