use Rattle.std.proofs.Common.{ap, arith, length, sym}
use Rattle.std.proofs.lemmas.Fmt.{decimal_digit}
use Rattle.message_text.proofs.Digits.{digits_counted}
use Rattle.message_text.proofs.room.digits_of.Goals as goal

pub returns-in-0-to-9-clause-count : goal.returns-in-0-to-9-clause-count
returns-in-0-to-9-clause-count c = sym (ap length (decimal_digit c.args.number (omega arith)))

pub returns-in-10-to-99-clause-count : goal.returns-in-10-to-99-clause-count
returns-in-10-to-99-clause-count c = sym (digits_counted 1 c.args.number (omega arith) (omega arith) (omega arith))

pub returns-in-100-to-999-clause-count : goal.returns-in-100-to-999-clause-count
returns-in-100-to-999-clause-count c = sym (digits_counted 2 c.args.number (omega arith) (omega arith) (omega arith))

pub returns-in-1000-to-9999-clause-count : goal.returns-in-1000-to-9999-clause-count
returns-in-1000-to-9999-clause-count c = sym (digits_counted 3 c.args.number (omega arith) (omega arith) (omega arith))

pub returns-in-10000-to-99999-clause-count : goal.returns-in-10000-to-99999-clause-count
returns-in-10000-to-99999-clause-count c = sym (digits_counted 4 c.args.number (omega arith) (omega arith) (omega arith))

pub returns-in-100000-to-999999-clause-count : goal.returns-in-100000-to-999999-clause-count
returns-in-100000-to-999999-clause-count c = sym (digits_counted 5 c.args.number (omega arith) (omega arith) (omega arith))

pub returns-in-1000000-to-9999999-clause-count : goal.returns-in-1000000-to-9999999-clause-count
returns-in-1000000-to-9999999-clause-count c = sym (digits_counted 6 c.args.number (omega arith) (omega arith) (omega arith))

pub returns-in-10000000-to-99999999-clause-count : goal.returns-in-10000000-to-99999999-clause-count
returns-in-10000000-to-99999999-clause-count c = sym (digits_counted 7 c.args.number (omega arith) (omega arith) (omega arith))

pub returns-in-100000000-to-999999999-clause-count : goal.returns-in-100000000-to-999999999-clause-count
returns-in-100000000-to-999999999-clause-count c = sym (digits_counted 8 c.args.number (omega arith) (omega arith) (omega arith))

pub returns-in_default-clause-count : goal.returns-in_default-clause-count
returns-in_default-clause-count c = sym (digits_counted 9 c.args.number (omega arith) (omega arith) (omega arith))
