use Rattle.std.proofs.Common.{◌≡◌, ◌∙◌, sym, ap, List, Some}
use Rattle.std.specs.List.{find}
use Rattle.if_addrs.specs.Interfaces.{Interface, addresses_of}
use Rattle.if_addrs.specs.Wanted.{is_wanted}
use Rattle.if_addrs.proofs.Searching.{first_is_there}
use Rattle.if_addrs.proofs.interfaces.Interfaces.first.Goals as goal

pub returns-clause-of : goal.returns-clause-of
returns-clause-of c =
    let p = is_wanted c.args.wanted.now in
    let there : find p (addresses_of c.args.self.now) ≡ Some c.in_ok-first.field-0 =
    ap (λ (is : List Interface). find p (addresses_of is)) (sym c.self.view_is ∙ sym c.deref.ensures.value) ∙ sym c.first.ensures ∙ c.in_ok-first.was in
    rw c.reference.ensures (first_is_there p (addresses_of c.args.self.now) c.in_ok-first.field-0 there)
