use Rattle.std.proofs.Common.{rules, arith, ◌≡◌, ◌<◌, ◌∙◌, ap, sym, decimal, get_or, length}
use Rattle.event_file.proofs.Decimals.{digits_printed, printed_digits, printed_lead, printed_short, printed_some, printed_value}
use Rattle.event_file.proofs.numbers.printed_as.Goals as goal
use Rattle.event_file.proofs.numbers.printed_as.Goals.{then-is_empty-via-then-is_empty, then-is_empty-via-else-is_empty+then-word-gt10, else-word-eq48-via-then-word-eq48+else-word-gt1, else-word-eq48-via-else-word-eq48}

pub returns-then-is_empty : goal.returns-then-is_empty
returns-then-is_empty c n small e = elim c.then-is_empty.branch [
  | then-is_empty-via-then-is_empty w ↦ let some = printed_some n c.args.word.now small e in grind (arith, some, w.if-is_empty.ensures)
  | then-is_empty-via-else-is_empty+then-word-gt10 w ↦ omega (arith, printed_short n c.args.word.now small e, w.if-word-gt10.true)
]

pub returns-then-word-gt1 : goal.returns-then-word-gt1
returns-then-word-gt1 c n small e = omega (arith, printed_lead n c.args.word.now small e c.if-word-eq48.true, c.if-word-gt1.true)

pub returns-in_err-number : goal.returns-in_err-number
returns-in_err-number c = rw c.from_residual.ensures (λ n small e. let digits = printed_digits n c.args.word.now small e in search (rules, digits))

pub returns-then-number-from : goal.returns-then-number-from
returns-then-number-from c n small e = omega (arith, printed_value n c.args.word.now small e, c.in_ok-number.ensures.1, c.from.ensures, c.if-number-from.true)

pub returns : goal.returns
returns c =
    let read = c.in_ok-number.ensures in let word = c.args.word.now in
    let some : 0 < length word = grind (arith, c.if-is_empty.ensures) in
    let lead : get_or word 0 0 ≡ 48 → length word ≡ 1 = λ e. elim c.else-word-eq48.branch [
      | else-word-eq48-via-then-word-eq48+else-word-gt1 w ↦ omega (arith, some, w.if-word-gt1.false)
      | else-word-eq48-via-else-word-eq48 w ↦ absurd (w.if-word-eq48.false e)
    ] in
    digits_printed word read.0 some lead (omega (arith, read.1, c.from.ensures, c.if-number-from.false)) ∙ ap decimal (sym read.1)
