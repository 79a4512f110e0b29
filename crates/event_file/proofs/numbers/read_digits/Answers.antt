use Rattle.std.proofs.Common.{arith, ◌≡◌, get_or}
use Rattle.std.proofs.lemmas.Int.Digits.{digits_more, digits_value_more}
use Rattle.std.proofs.lemmas.Str.Parse.{digit_at}
use Rattle.std.specs.Char.{digit_value}
use Rattle.event_file.proofs.Decimals.{digit_is, one_more_digit}
use Rattle.event_file.proofs.numbers.read_digits.Goals as goal

pub returns-then-digit-gt9 : goal.returns-then-digit-gt9
returns-then-digit-gt9 c all = omega (arith, digit_at c.args.word.now c.loop-at.at all c.loop-at-test.true, c.if-digit-gt9.true)

pub loop-at-preserved : goal.loop-at-preserved
loop-at-preserved c =
    let there = c.loop-at-test.true in let few = c.if-digit-gt9.false in
    let value : digit_value (get_or c.args.word.now c.loop-at.at 0) ≡ c.from.result
    = omega (arith, c.from.ensures, digit_is (get_or c.args.word.now c.loop-at.at 0) (omega (arith, c.type_inv.word c.loop-at.at)) few) in
    record {
      at = omega (arith, there);
      digits = digits_more 10 c.args.word.now c.loop-at.at there c.loop-at.invariant.digits (omega (arith, value, few, c.from.ensures));
      number = omega (arith, digits_value_more 10 c.args.word.now c.loop-at.at there, value, c.loop-at.invariant.number);
      small = one_more_digit c.loop-at.number c.from.result c.loop-at.at c.loop-at.invariant.small (omega (arith, few, c.from.ensures));
    }
