use Rattle.std.proofs.Common.{◌≡◌, map, drop}
use Rattle.route_core.specs.Messages.{notice_told}
use Rattle.route_core.specs.Telling.{delivered_all}
use Rattle.route_core.proofs.telling.tell.Given as goal

-- those that are still to be told lead to the same sockets
abbrev pub invariant-loop-notice : goal.invariant-loop-notice
invariant-loop-notice l =
    delivered_all (map notice_told (drop l.notice-index l.notices)) l.listeners
    ≡ delivered_all (map notice_told l.notices) l.fn.listeners
