use Rattle.std.proofs.Common.{arith, ◌≡◌, ◌<◌, sym, get_or, length}
use Rattle.event_file.proofs.Decimals.{digits_are, no_number, printed_lead, printed_some, printed_value}
use Rattle.event_file.proofs.numbers.dotted.Goals as goal
use Rattle.event_file.proofs.numbers.dotted.Goals.{else-digits-eq48-via-then-digits-eq48+else-digits-gt1, else-digits-eq48-via-else-digits-eq48}

pub returns-then-is_empty : goal.returns-then-is_empty
returns-then-is_empty c =
    sym (no_number 255 c.args.digits.now (λ n small e.
    let some = printed_some n c.args.digits.now (omega (arith, small)) e in grind (arith, some, c.if-is_empty.ensures)))

pub returns-then-digits-gt1 : goal.returns-then-digits-gt1
returns-then-digits-gt1 c =
    sym (no_number 255 c.args.digits.now (λ n small e.
    omega (arith, printed_lead n c.args.digits.now (omega (arith, small)) e c.if-digits-eq48.true, c.if-digits-gt1.true)))

pub returns-then-number-gt255 : goal.returns-then-number-gt255
returns-then-number-gt255 c =
    sym (no_number 255 c.args.digits.now (λ n small e.
    omega (arith, printed_value n c.args.digits.now (omega (arith, small)) e, c.requires.number, c.if-number-gt255.true, small)))

pub returns : goal.returns
returns c =
    let digits = c.args.digits.now in
    let some : 0 < length digits = grind (arith, c.if-is_empty.ensures) in
    let lead : get_or digits 0 0 ≡ 48 → length digits ≡ 1 = λ e. elim c.else-digits-eq48.branch [
      | else-digits-eq48-via-then-digits-eq48+else-digits-gt1 w ↦ omega (arith, some, w.if-digits-gt1.false)
      | else-digits-eq48-via-else-digits-eq48 w ↦ absurd (w.if-digits-eq48.false e)
    ] in
    rw c.requires.number (sym (digits_are 255 digits (omega arith) c.requires.digits some lead (omega (arith, c.requires.number, c.if-number-gt255.false))))
