use Rattle.std.proofs.Common.{refl, sym}
use Rattle.route_ops.proofs.Keeping.{are_kept}
use Rattle.route_ops.specs.Standing.{AreOf}
use Rattle.route_core.specs.World.{World}
use Rattle.route_core.proofs.Effecting.{address_gone, address_gone_with}
use Rattle.route_core.proofs.world.World.try_remove_address.Goals as goal
use Rattle.route_core.proofs.world.World.try_remove_address.Goals.{in-Some, in_default}

pub invariant_of-self : goal.invariant_of-self
invariant_of-self c =
    let interfaces = c.self.inside.interfaces in
    let are : AreOf interfaces c.withdraw_route.new.table.entries =
    c.withdraw_route.ensures.of interfaces c.self.invariant in
    elim c.match-withdraw_route.branch [
      | in-Some b ↦ rw b.self-inside-is
          (are_kept _ _ _ (rw b.self-inside-is at c.remove_addr.ensures.keeps) are)
      | in_default b ↦ rw b.self-inside-is
          (are_kept _ _ _ (rw b.self-inside-is at c.remove_addr.ensures.keeps) are)
    ]

pub returns : goal.returns
returns c =
    let w : World = record {
      table = c.self.inside.table.entries;
      interfaces = c.self.inside.interfaces;
      sockets = c.self.inside.listeners;
    } in
    rw (← c.self.view_is)
    (elim c.match-withdraw_route.branch [
      | in-Some b ↦ rw b.self-inside-is
          (address_gone_with w c.args.name c.args.address c.in_ok-ifa.ifa c.facts-facts.result b.in-Some.route _ _ _
          (sym c.in_ok-ifa.ensures.found) c.facts-facts.ensures (sym b.in-Some.ensures.withdrawn) b.in-Some.ensures.without
          (rw b.self-inside-is at c.remove_addr.ensures.removed)
          b.renounce.ensures)
      | in_default b ↦ rw b.self-inside-is
          (address_gone w c.args.name c.args.address c.in_ok-ifa.ifa c.facts-facts.result _ _ _
          (sym c.in_ok-ifa.ensures.found) c.facts-facts.ensures (sym b.in_default.ensures.withdrawn)
          b.in_default.ensures.kept
          (rw b.self-inside-is at c.remove_addr.ensures.removed)
          refl)
    ])
