use Rattle.std.proofs.Common.{ap, arith, length, ◌==◌}
use Rattle.std.proofs.lemmas.List.Splits.{length-slice_split}
use Rattle.event_file.proofs.words.one_or_two.Goals as goal

pub returns-in-Some-cut-clause-more : goal.returns-in-Some-cut-clause-more
returns-in-Some-cut-clause-more c =
    let some = length-slice_split (λ b. b == c.args.byte) c.in-Some-cut.field-0.1.now in
    omega (arith, some, ap length c.in-Some.ensures.first, ap length c.in-Some-cut.ensures.first)
