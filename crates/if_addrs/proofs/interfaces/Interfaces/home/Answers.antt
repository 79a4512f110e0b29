use Rattle.std.proofs.Common.{◌≡◌, ◌+◌, ◌∙◌, ap, List, arith}
use Rattle.std.specs.Prelude.{slice_get}
use Rattle.if_addrs.specs.declared.home.Home.{Home}
use Rattle.if_addrs.proofs.Homes.{item_got, got_home, got_none, none_before_one}
use Rattle.if_addrs.proofs.interfaces.Interfaces.home.Goals as goal
use Rattle.if_addrs.proofs.interfaces.Interfaces.home.Goals.{After-copied}

pub returns-in_err-checked_sub-clause-none : goal.returns-in_err-checked_sub-clause-none
returns-in_err-checked_sub-clause-none c =
    let zero : c.args.number ≡ 0 = omega (arith, c.in_err-checked_sub.ensures, c.from.ensures) in
    rw (c.from_residual.ensures, zero, ← c.self.view_is) (none_before_one c.self.inside.homes.items c.self.inside.interfaces.items c.self.invariant)

number : (c : After-copied) → c.args.number ≡ c.in_ok-checked_sub.field-0 + 1
number c = omega (arith, c.in_ok-checked_sub.ensures, c.from.ensures)

-- what is kept of it
got : (c : After-copied) → c.copied.result ≡ slice_get c.self.inside.homes.items c.in_ok-checked_sub.field-0
got c = c.copied.ensures ∙ item_got c.deref.result.now c.in_ok-checked_sub.field-0 c.get.result c.get.ensures.lookup ∙ ap (λ (hs : List Home). slice_get hs c.in_ok-checked_sub.field-0) c.deref.ensures.value

pub returns-clause-some : goal.returns-clause-some
returns-clause-some c =
    let at = (goal.at.returns-clause-some c).After-copied in
    rw (← c.self.view_is) (got_home c.self.inside.homes.items c.self.inside.interfaces.items c.args.number c.in_ok-checked_sub.field-0 c.copied.result c.self.invariant (number at) (got at))

pub returns-clause-none : goal.returns-clause-none
returns-clause-none c =
    let at = (goal.at.returns-clause-none c).After-copied in
    rw (← c.self.view_is) (got_none c.self.inside.homes.items c.self.inside.interfaces.items c.args.number c.in_ok-checked_sub.field-0 c.copied.result c.self.invariant (number at) (got at))
