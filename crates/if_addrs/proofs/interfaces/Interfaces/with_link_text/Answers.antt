use Rattle.std.proofs.Common.{◌≡◌, ◌∙◌, ◌+◌, ◌<◌, sym, ap, arith, false, length, ℕ, List, Option}
use Rattle.std.specs.Prelude.{bytes_eq, option_map}
use Rattle.std.specs.Option.{option_map_or}
use Rattle.if_addrs.specs.declared.reference.IfaRef.TheVariants as ifa
use Rattle.if_addrs.specs.Interfaces.{Interface}
use Rattle.if_addrs.specs.Searches.{has_link_text}
use Rattle.if_addrs.proofs.Searching.{range_found, range_passed}
use Rattle.if_addrs.proofs.interfaces.Interfaces.with_link_text.Goals as goal
use Rattle.if_addrs.proofs.interfaces.Interfaces.with_link_text.Goals.{After-eq}

-- the code's test is whether this interface has the text
test : (c : After-eq) → has_link_text c.args.text c.args.self.now (c.loop-place.place + 1) ≡ c.eq.result
test c =
    ap (λ (o : Option (List ℕ)). option_map_or (λ own. bytes_eq own c.args.text) o false) c.link_text.ensures
    ∙ ap (λ (t : List ℕ). bytes_eq t c.args.text) (sym c.as_bytes.ensures.bytes)
    ∙ ap (λ (t : List ℕ). bytes_eq c.as_bytes.result.now t) (sym c.as_bytes-in-loop-place.ensures.bytes)
    ∙ sym c.eq.ensures

within : (c : After-eq) → c.loop-place.place < length c.args.self.now
within c = omega (arith, c.loop-place-test.true, c.len-place-end.ensures, ap (λ (is : List Interface). length is) c.self.view_is)

pub returns-then-eq-clause-found : goal.returns-then-eq-clause-found
returns-then-eq-clause-found c =
    let at = (goal.at.returns-then-eq-clause-found c).After-eq in
    ap (λ (o : Option ℕ). option_map (λ index. ifa.Link index) o)
    (sym (range_found (has_link_text c.args.text c.args.self.now) c.loop-place.place (length c.args.self.now) (within at) (test at ∙ c.if-eq.true)) ∙ c.loop-place.invariant)

pub loop-place-preserved : goal.loop-place-preserved
loop-place-preserved c =
    let at = (goal.at.loop-place-preserved c).After-eq in
    sym (range_passed (has_link_text c.args.text c.args.self.now) c.loop-place.place (length c.args.self.now) (within at) (test at ∙ c.if-eq.false)) ∙ c.loop-place.invariant
