use Rattle.std.proofs.Common.{◌∙◌, ap, length, List, Option, ℕ}
use Rattle.std.specs.Prelude.{unwrap_or}
use Rattle.std.specs.List.{position}
use Rattle.if_addrs.specs.Interfaces.{Address}
use Rattle.if_addrs.specs.Told.{is_standing}
use Rattle.if_addrs.proofs.Gone.{behind, gone_to}
use Rattle.if_addrs.proofs.interface.Interface.pass.Goals as goal

pub invariant_of-self : goal.invariant_of-self
invariant_of-self c =
    let n = c.self.inside.gone in
    let more = gone_to n c.unwrap_or-more.result c.self.inside.addresses.items c.self.invariant.gone
    (c.unwrap_or-more.ensures ∙ ap (λ (o : Option ℕ). unwrap_or o (length (behind n c.deref.result.now))) c.place_of_standing.ensures
    ∙ ap (λ (xs : List Address). unwrap_or (position is_standing (behind n xs)) (length (behind n xs))) c.deref.ensures.value) in
    record { gone = rw (c.in-Ok.ensures.1) more; of = c.self.invariant.of }
