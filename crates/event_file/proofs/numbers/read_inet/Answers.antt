use Rattle.event_file.proofs.DottedBytes.{address_read, none_behind_one, none_behind_three, none_behind_two}
use Rattle.event_file.proofs.numbers.read_inet.Goals as goal

pub returns-in_err-b : goal.returns-in_err-b
returns-in_err-b c =
    rw c.from_residual-in_err-b.ensures (none_behind_one c.args.word.now c.in_ok-a.rest.now c.in_ok-a.a c.in_ok-a.ensures.some c.in_err-b.ensures.none)

pub returns-in_err-c : goal.returns-in_err-c
returns-in_err-c c =
    rw c.from_residual-in_err-c.ensures (none_behind_two c.args.word.now c.in_ok-a.rest.now c.in_ok-b.rest.now c.in_ok-a.a c.in_ok-b.b
    c.in_ok-a.ensures.some c.in_ok-b.ensures.some c.in_err-c.ensures.none)

pub returns-in_err-d : goal.returns-in_err-d
returns-in_err-d c =
    rw c.from_residual-in_err-d.ensures (none_behind_three c.args.word.now c.in_ok-a.rest.now c.in_ok-b.rest.now c.in_ok-c.rest.now
    c.in_ok-a.a c.in_ok-b.b c.in_ok-c.c
    c.in_ok-a.ensures.some c.in_ok-b.ensures.some c.in_ok-c.ensures.some c.in_err-d.ensures)

pub returns : goal.returns
returns c =
    address_read c.args.word.now c.in_ok-a.rest.now c.in_ok-b.rest.now c.in_ok-c.rest.now c.in_ok-a.a c.in_ok-b.b c.in_ok-c.c c.in_ok-d.d
    c.in_ok-a.ensures.some c.in_ok-b.ensures.some c.in_ok-c.ensures.some c.in_ok-d.ensures
