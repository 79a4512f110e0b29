use Rattle.std.proofs.Common.{◌≡◌, ◌∙◌, ◌++◌, ◌∷◌, ◌+◌, ◌/◌, ◌%◌, [], ℕ, List, ap, append_assoc, arith}
use Rattle.std.proofs.lemmas.Fmt.{decimal_digit}
use Rattle.event_file.proofs.Decimals.{three_digits, two_digits}
use Rattle.event_file.proofs.choices.put_byte.Goals as goal

-- a byte more behind what stands behind the old text
more : (old front mid new : List ℕ) (byte : ℕ) → mid ≡ old ++ front → new ≡ mid ++ byte ∷ [] → new ≡ old ++ (front ++ byte ∷ [])
more old front mid new byte before put = put ∙ ap (λ (l : List ℕ). l ++ byte ∷ []) before ∙ append_assoc old front (byte ∷ [])

pub returns-then-number-lt10-clause-text : goal.returns-then-number-lt10-clause-text
returns-then-number-lt10-clause-text c =
    rw (decimal_digit c.args.number c.if-number-lt10.true)
    (more c.args.line.now.items (c.args.before ∷ []) _ _ _ c.push.ensures.items c.push-then-number-lt10.ensures.items)

pub returns-then-number-lt100-clause-text : goal.returns-then-number-lt100-clause-text
returns-then-number-lt100-clause-text c =
    let old = c.args.line.now.items in
    let ten = c.args.before ∷ (48 + c.args.number / 10) ∷ [] in
    rw (two_digits c.args.number (omega (arith, c.if-number-lt10.false)) c.if-number-lt100.true)
    (more old ten _ _ _ (more old (c.args.before ∷ []) _ _ _ c.push.ensures.items c.push-then-number-lt100.ensures.items)
    c.push-then-number-lt100-2.ensures.items)

pub returns-clause-text : goal.returns-clause-text
returns-clause-text c =
    let old = c.args.line.now.items in
    let n = c.args.number in
    let hundred = c.args.before ∷ (48 + n / 100) ∷ [] in
    let ten = c.args.before ∷ (48 + n / 100) ∷ (48 + n / 10 % 10) ∷ [] in
    rw (three_digits n (omega (arith, c.if-number-lt100.false)) (omega (arith, c.ranges.number.fits)))
    (more old ten _ _ _ (more old hundred _ _ _
    (more old (c.args.before ∷ []) _ _ _ c.push.ensures.items c.push-2.ensures.items) c.push-3.ensures.items) c.push-4.ensures.items)
