use Rattle.std.proofs.Common.{◌≡◌, ◌<◌, ◌≤◌, ◌∙◌, ◌*◌, ◌+◌, ◌%◌, inl, inr, refl, arith, slice_index}
use Rattle.std.proofs.lemmas.Bool.{cases_lt}
use Rattle.std.proofs.lemmas.Nat.{le_or_l, le_or_r, or_of_8}
use Rattle.hex.proofs.Pairs.{decode_done, decode_err, decode_sized-pairs, decode_step}
use Rattle.event_file.proofs.HexTables.{pair_read, pair_refused}
use Rattle.event_file.proofs.hexadecimal.decode.Goals as goal

pub bytes-preserved : goal.bytes-preserved
bytes-preserved c =
    let digits = c.args.digits.now in let i = c.bytes.i in let all = c.bytes.all in
    let h = c.value_of.ensures in let l = c.value_of-in-bytes.ensures in
    let byte = c.value_of.result * 16 + c.value_of-in-bytes.result in
    let high = slice_index digits (2 * i) in let low = slice_index digits (2 * i + 1) in
    record {
      read = λ small.
          let fits : byte ≤ 255 = omega (arith, le_or_r all byte, small) in
          let same : byte % 256 ≡ byte = omega (arith, fits) in
          let before = c.bytes.invariant.read (omega (arith, le_or_l all byte, small)) in
          rw (same, h, l) (decode_step _ c.bytes.out i _ (omega arith) (omega arith) (pair_read high low (2 * i) (rw (h, l) at fits)) before);
      refused = λ large. elim (cases_lt all 256) [
        | inr refused ↦ c.bytes.invariant.refused refused
        | inl read ↦ elim (cases_lt byte 256) [
          | inl fits ↦ absurd (omega (arith, or_of_8 all byte read fits, large))
          | inr past ↦
              let over : 255 < byte = omega (arith, past) in
              let refused = pair_refused high low (2 * i) (rw (h, l) at over) in
              (refused.0, decode_err _ c.bytes.out i refused.0 (omega arith) refused.1 (c.bytes.invariant.read read))
        ]
      ];
    }

pub returns : goal.returns
returns c =
    let pairs = decode_sized-pairs _ _ c.if-digits-ne0.false c.if-digits-out.false in
    elim (cases_lt c.bytes.all 256) [
      | inl read ↦ rw (pairs ∙ decode_done _ c.bytes.out c.bytes.i (omega arith) (omega arith) (c.bytes.invariant.read read)) (grind arith, refl)
      | inr refused ↦ rw (pairs ∙ (c.bytes.invariant.refused refused).1) (grind arith)
    ]
