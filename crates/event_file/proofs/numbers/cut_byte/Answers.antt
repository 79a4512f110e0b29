use Rattle.std.proofs.Common.{arith, ◌≡◌, get_or, subst, sym}
use Rattle.std.proofs.lemmas.Int.Digits.{digits_more, digits_value_more}
use Rattle.std.specs.Char.{digit_value}
use Rattle.event_file.proofs.Decimals.{digit_is, one_more_digit}
use Rattle.std.specs.Str.Parse.{AllDigits}
use Rattle.std.proofs.lemmas.List.{take_all}
use Rattle.event_file.proofs.DottedBytes.{dotted_part, no_digit, no_first, no_more, too_long}
use Rattle.event_file.proofs.numbers.cut_byte.Goals as goal

pub returns-in_err-part-clause-none : goal.returns-in_err-part-clause-none
returns-in_err-part-clause-none c =
    let none = sym c.in_err-part.ensures in
    let parts = dotted_part c.args.text.now c.loop-at.at c.loop-at-test.true c.loop-at.invariant.digits c.if-text-at-eq46.true in
    rw c.from_residual.ensures (no_first c.args.text.now _ _ parts none)

pub returns-then-text-at-eq46-clause-some : goal.returns-then-text-at-eq46-clause-some
returns-then-text-at-eq46-clause-some c =
    (_, dotted_part c.args.text.now c.loop-at.at c.loop-at-test.true c.loop-at.invariant.digits c.if-text-at-eq46.true, sym c.in_ok-part.ensures)

pub returns-then-digit-gt9-clause-none : goal.returns-then-digit-gt9-clause-none
returns-then-digit-gt9-clause-none c =
    no_digit c.args.text.now c.loop-at.at c.loop-at-test.true c.loop-at.invariant.digits c.if-text-at-eq46.false
    (λ range. omega (arith, range, c.if-digit-gt9.true))

pub returns-then-at-eq3-clause-none : goal.returns-then-at-eq3-clause-none
returns-then-at-eq3-clause-none c =
    too_long c.args.text.now c.loop-at.at c.if-at-eq3.true c.loop-at-test.true c.loop-at.invariant.digits c.if-text-at-eq46.false

pub loop-at-preserved : goal.loop-at-preserved
loop-at-preserved c =
    let there = c.loop-at-test.true in let few = c.if-digit-gt9.false in
    let value : digit_value (get_or c.args.text.now c.loop-at.at 0) ≡ c.from.result
    = omega (arith, c.from.ensures, digit_is (get_or c.args.text.now c.loop-at.at 0) (omega (arith, c.type_inv.text c.loop-at.at)) few) in
    record {
      at = omega (arith, there);
      few = omega (arith, c.if-at-eq3.false);
      digits = digits_more 10 c.args.text.now c.loop-at.at there c.loop-at.invariant.digits (omega (arith, value, few, c.from.ensures));
      number = omega (arith, digits_value_more 10 c.args.text.now c.loop-at.at there, value, c.loop-at.invariant.number);
      small = one_more_digit c.loop-at.number c.from.result c.loop-at.at c.loop-at.invariant.small (omega (arith, few, c.from.ensures));
    }

pub returns-clause-none : goal.returns-clause-none
returns-clause-none c =
    let text = c.args.text.now in
    no_more text (subst (AllDigits 10) (take_all c.loop-at.at text c.loop-at-test.false) c.loop-at.invariant.digits)
