use Rattle.std.proofs.Common.{◌≡◌, ◌∙◌, ap, ℕ, List, slice_index_or, slice_set}
use Rattle.if_addrs.specs.declared.reference.IfaRef.TheVariants as ifa
use Rattle.if_addrs.specs.Homes.{IsHome}
use Rattle.if_addrs.specs.Interfaces.{Interface, changed}
use Rattle.if_addrs.specs.Wanted.{marked, with_marked}
use Rattle.if_addrs.proofs.Homes.{changed_at_home, home_marked}
use Rattle.if_addrs.proofs.Keeping.{keeps_by, mark_untold, same_by, stays_changed}
use Rattle.if_addrs.proofs.interfaces.Interfaces.mark.Goals as goal
use Rattle.if_addrs.proofs.interfaces.Interfaces.mark.Goals.{After-mark}

is_home : (c : After-mark) → IsHome c.in-Inet.number c.unwrap-home.result c.self.inside.interfaces.items
is_home c = rw c.self.view_is (rw c.unwrap-home.ensures at c.home.ensures.some)

-- the interface at its place is changed as the definition says
is_changed : (c : After-mark) → slice_set c.self.inside.interfaces.items c.from.result c.mark.new.self ≡ changed (ifa.Inet c.in-Inet.number) (marked c.args.mark) c.self.inside.interfaces.items
is_changed c =
    let home = c.unwrap-home.result in
    let items = c.self.inside.interfaces.items in
    let d = c.index_mut-interface.result.now in
    ap (λ (n : ℕ). slice_set items n c.mark.new.self) c.from.ensures
    ∙ home_marked c.in-Inet.number home items c.args.mark c.mark.new.self d (is_home c)
    (c.mark.ensures ∙ ap (λ (n : ℕ). with_marked n c.args.mark d) c.from-in-Inet.ensures)
    (c.index_mut-interface.ensures.value ∙ ap (λ (n : ℕ). slice_index_or items n d) c.from.ensures)

pub invariant_of-self : goal.invariant_of-self
invariant_of-self c =
    let at = (goal.at.invariant_of-self c).After-mark in
    rw (is_changed at) (changed_at_home c.self.inside.homes.items (marked c.args.mark) (mark_untold c.args.mark) c.in-Inet.number c.self.inside.interfaces.items c.self.invariant)

pub returns-in-Inet-clause-marked : goal.returns-in-Inet-clause-marked
returns-in-Inet-clause-marked c =
    let at = (goal.at.returns-in-Inet-clause-marked c).After-mark in
    rw c.in-Inet.is (is_changed at ∙ ap (λ (is : List Interface). changed (ifa.Inet c.in-Inet.number) (marked c.args.mark) is) c.self.view_is)

pub returns-in-Inet-clause-keeps : goal.returns-in-Inet-clause-keeps
returns-in-Inet-clause-keeps c =
    let at = (goal.at.returns-in-Inet-clause-keeps c).After-mark in
    rw (is_changed at, ← c.self.view_is) (keeps_by c.self.inside.interfaces.items _ (stays_changed (marked c.args.mark) (mark_untold c.args.mark) c.in-Inet.number c.self.inside.interfaces.items))

pub returns-in-Inet-clause-same : goal.returns-in-Inet-clause-same
returns-in-Inet-clause-same c =
    let at = (goal.at.returns-in-Inet-clause-same c).After-mark in
    rw (is_changed at, ← c.self.view_is) (same_by c.self.inside.interfaces.items _ (stays_changed (marked c.args.mark) (mark_untold c.args.mark) c.in-Inet.number c.self.inside.interfaces.items))
