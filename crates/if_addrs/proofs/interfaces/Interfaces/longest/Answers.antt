use Rattle.std.proofs.Common.{◌≡◌, ◌∙◌, sym, ap, filter, List, Some}
use Rattle.std.specs.Prelude.{option_map}
use Rattle.if_addrs.specs.Interfaces.{Interface, addresses_of}
use Rattle.if_addrs.specs.Searches.{longest}
use Rattle.if_addrs.specs.Wanted.{is_wanted}
use Rattle.if_addrs.proofs.Searching.{longest_is_there}
use Rattle.if_addrs.proofs.interfaces.Interfaces.longest.Goals as goal

pub returns-clause-of : goal.returns-clause-of
returns-clause-of c =
    let p = is_wanted c.args.wanted.now in
    let there : longest (filter p (addresses_of c.args.self.now)) ≡ Some c.in_ok-longest.field-0.now =
    ap (λ (is : List Interface). longest (filter p (addresses_of is))) (sym c.self.view_is ∙ sym c.deref.ensures.value) ∙ sym c.longest.ensures ∙ ap (λ o. option_map (λ a. a.now) o) c.in_ok-longest.was in
    rw c.reference.ensures (longest_is_there p (addresses_of c.args.self.now) c.in_ok-longest.field-0.now there)
