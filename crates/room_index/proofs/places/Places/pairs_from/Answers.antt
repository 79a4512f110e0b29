use Rattle.std.proofs.Common.{◌+◌, Some, length, slice_get, slice_set, sym, ap, ◌∙◌, inl, inr, arith}
use Rattle.std.proofs.lemmas.Bool.{cases_eq}
use Rattle.std.proofs.lemmas.Option.{none-some, same_Some}
use Rattle.std.proofs.Math.ListN.{length-set}
use Rattle.room_index.proofs.Ranging.{set_here, set_there}
use Rattle.room_index.specs.Places.{stands}
use Rattle.room_index.proofs.places.Places.pairs_from.Goals.{in-Some, in_default}
use Rattle.room_index.proofs.places.Places.pairs_from.Goals as goal

pub loop-number-preserved : goal.loop-number-preserved
loop-number-preserved g c =
    let was = c.loop-number.invariant in
    let number = c.loop-number.number in
    record {
      long = elim c.match-at.branch [
        | in-Some w ↦ ap length w.pairs-is ∙ length-set c.loop-number.pairs number w.pair.result ∙ was.long
        | in_default w ↦ ap length w.pairs-is ∙ was.long
      ];
      pairs = λ n e before at. elim c.match-at.branch [
        | in-Some w ↦ elim (cases_eq n number) [
          | inl same ↦
              let own = same_Some w.in-Some.entry.now e (sym w.in-Some.ensures.some ∙ ap (λ m. stands c.args.self.now (c.args.first + m)) (sym same) ∙ at) in
              ap (λ ps. slice_get ps n) w.pairs-is ∙ ap (slice_get (slice_set c.loop-number.pairs number w.pair.result)) same
              ∙ set_here c.loop-number.pairs number w.pair.result (omega (arith, was.long)) ∙ ap Some (w.pair.ensures.pair ∙ ap (λ x. x.pair) own)
          | inr other ↦ ap (λ ps. slice_get ps n) w.pairs-is ∙ set_there c.loop-number.pairs number w.pair.result n other ∙ was.pairs n e (omega arith) at
        ]
        | in_default w ↦ elim (cases_eq n number) [
          | inl same ↦ absurd (none-some e (sym w.in_default.ensures.none ∙ ap (λ m. stands c.args.self.now (c.args.first + m)) (sym same) ∙ at))
          | inr other ↦ ap (λ ps. slice_get ps n) w.pairs-is ∙ was.pairs n e (omega arith) at
        ]
      ];
      turn = elim c.match-at.branch [
        | in-Some w ↦ ap (λ v. v.turn) w.visits-is ∙ ap (λ v. v.turn) w.pair.ensures.looks ∙ ap (λ v. v.turn) c.at.ensures.look ∙ was.turn
        | in_default w ↦ ap (λ v. v.turn) w.visits-is ∙ ap (λ v. v.turn) c.at.ensures.look ∙ was.turn
      ];
    }
