use Rattle.route_ops.proofs.Cases.{clone_is_added, clone_is_there, link_has_no_route, none_agrees, route_is_known}
use Rattle.route_ops.proofs.laws.look_up_by_cases.Goals as goal

pub returns : goal.returns
returns c = record { link = link_has_no_route; none = none_agrees; known = route_is_known; there = clone_is_there; cloned = clone_is_added }
