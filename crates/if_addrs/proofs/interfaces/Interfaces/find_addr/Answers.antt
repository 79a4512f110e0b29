use Rattle.std.proofs.Common.{◌≡◌, ◌∙◌, sym, ap, refl, List, Some}
use Rattle.std.specs.List.{find}
use Rattle.if_addrs.specs.Interfaces.{Interface, addresses_of, has_name, has_number, is_at, named}
use Rattle.if_addrs.proofs.Numbers.{found_in}
use Rattle.if_addrs.proofs.Searching.{held_stands}
use Rattle.if_addrs.proofs.interfaces.Interfaces.find_addr.Goals as goal
use Rattle.if_addrs.proofs.interfaces.Interfaces.find_addr.Goals.{After-reference}

-- the address is found by its number
is_found : (c : After-reference) → find (has_number c.in-Some-first.address.number) (addresses_of c.args.self.now) ≡ Some c.in-Some-first.address
is_found c =
    let items = c.self.inside.interfaces.items in
    let interface : named c.args.name items ≡ Some c.in-Some.interface.now = ap (λ (is : List Interface). named c.args.name is) (sym c.deref.ensures.value) ∙ sym c.in-Some.ensures in
    ap (λ (is : List Interface). find (has_number c.in-Some-first.address.number) (addresses_of is)) (sym c.self.view_is)
    ∙ found_in (is_at c.args.address) (has_name c.args.name) items c.in-Some.interface.now c.in-Some-first.address interface (sym c.in-Some-first.ensures) (c.self.invariant.numbered.numbers.once c.in-Some-first.address.number)

pub returns-in-Some-first-clause-standing : goal.returns-in-Some-first-clause-standing
returns-in-Some-first-clause-standing c = rw (c.reference.ensures, is_found c) (held_stands c.args.address c.in-Some.interface.now.addresses c.in-Some-first.address (sym c.in-Some-first.ensures))

pub returns-in-Some-first-clause-of : goal.returns-in-Some-first-clause-of
returns-in-Some-first-clause-of c = rw (c.reference.ensures, is_found c) refl
