use Rattle.std.proofs.Common.{◌≡◌, ◌++◌, ◌∷◌, [], None, rules, refl}
use Rattle.if_addrs.specs.Interfaces.{Interface, attach_fault, attached}
use Rattle.if_addrs.proofs.Homes.{attached_at_home}
use Rattle.if_addrs.proofs.Numbers.{room_left}
use Rattle.if_addrs.proofs.Keeping.{keeps_by, same_by, stays_attached}
use Rattle.if_addrs.proofs.interfaces.Interfaces.attach.Goals as goal
use Rattle.if_addrs.proofs.interfaces.Interfaces.attach.Goals.{In_ok-push}

-- the interface as it is attached
abbrev new : In_ok-push → Interface
new c = attached c.args.name c.args.kind c.args.type_number c.args.link.now

pushed : (c : In_ok-push) → c.push.new.items.items ≡ c.args.self.now ++ new c ∷ []
pushed c = search rules

pub invariant_of-self-2 : goal.invariant_of-self-2
invariant_of-self-2 c =
    let free : attach_fault c.args.name c.args.self.now ≡ None = search rules in
    rw (pushed c) (attached_at_home c.self.inside.homes.items c.args.self.now (new c) (rw (← c.self.view_is) c.self.invariant) refl (room_left c.args.name c.args.self.now free))

pub returns-clause-keeps : goal.returns-clause-keeps
returns-clause-keeps c = rw (pushed c) (keeps_by c.args.self.now _ (stays_attached c.args.self.now (new c) refl))

pub returns-clause-same : goal.returns-clause-same
returns-clause-same c = rw (pushed c) (same_by c.args.self.now _ (stays_attached c.args.self.now (new c) refl))
