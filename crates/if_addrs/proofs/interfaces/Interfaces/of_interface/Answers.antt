use Rattle.std.proofs.Common.{◌≡◌, ◌∙◌, ◌-◌, ◌<◌, sym, ap, arith, length, List, Some, slice_index_or}
use Rattle.if_addrs.specs.Interfaces.{Interface}
use Rattle.if_addrs.specs.Searches.{nearest, standing}
use Rattle.if_addrs.proofs.Keeping.{from_some}
use Rattle.if_addrs.proofs.Searching.{nearest_is_there}
use Rattle.if_addrs.proofs.interfaces.Interfaces.of_interface.Goals as goal

pub returns-in_ok-nearest-in-Inet-clause-of : goal.returns-in_ok-nearest-in-Inet-clause-of
returns-in_ok-nearest-in-Inet-clause-of c =
    let items = c.self.inside.interfaces.items in
    let a = c.in_ok-nearest-in-Inet.field-0 in
    let i = c.from.result - 1 in
    let d = c.index-interface.result.now in
    let within : i < length items = omega (arith, c.from.ensures, c.requires.first, c.requires.last, ap (λ (is : List Interface). length is) c.self.view_is) in
    let found : nearest c.in-Inet.address (standing (slice_index_or items i d).addresses) ≡ Some a =
    ap (λ (x : Interface). nearest c.in-Inet.address (standing x.addresses)) (sym c.index-interface.ensures) ∙ sym c.nearest.ensures ∙ c.in_ok-nearest-in-Inet.was in
    rw (c.reference.ensures, ← c.self.view_is) (from_some a.number items (nearest_is_there c.in-Inet.address items i d a within found))
