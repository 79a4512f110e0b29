use Rattle.std.proofs.Common.{◌∙◌, ◌+◌, sym, ap, arith, rules}
use Rattle.std.specs.Prelude.{option_map}
use Rattle.event_file.proofs.Places.{found, found_far}
use Rattle.event_file.proofs.search.near_then_far.Goals as goal

pub returns-then-text-at : goal.returns-then-text-at
returns-then-text-at c = found c.args.byte c.loop-at.at c.args.text.now c.loop-at.invariant.1 (omega arith) (search rules)

pub returns-in_err-far : goal.returns-in_err-far
returns-in_err-far c =
    c.from_residual.ensures ∙ ap (option_map (λ far. 16 + far)) (sym c.in_err-far.was)
    ∙ found_far c.args.byte 16 c.args.text.now c.place_behind.result (λ k below. c.loop-at.invariant.1 k (omega (arith, below))) (omega arith) c.place_behind.ensures

pub returns : goal.returns
returns c =
    ap (option_map (λ far. 16 + far)) (sym c.in_ok-far.was)
    ∙ found_far c.args.byte 16 c.args.text.now c.place_behind.result (λ k below. c.loop-at.invariant.1 k (omega (arith, below))) (omega arith) c.place_behind.ensures
