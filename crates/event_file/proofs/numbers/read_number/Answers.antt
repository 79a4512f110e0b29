use Rattle.std.proofs.Common.{rules, sym}
use Rattle.event_file.proofs.Decimals.{printed_read, larger_refused}
use Rattle.event_file.proofs.numbers.read_number.Goals as goal

pub returns-then-number-most-clause-value : goal.returns-then-number-most-clause-value
returns-then-number-most-clause-value c = sym (larger_refused c.args.most c.in_ok-number.number c.args.word.now (search rules) c.if-number-most.true c.in_ok-number.ensures)

pub returns-clause-value : goal.returns-clause-value
returns-clause-value c = sym (printed_read c.args.most c.in_ok-number.number c.args.word.now (search rules) c.if-number-most.false c.in_ok-number.ensures)
