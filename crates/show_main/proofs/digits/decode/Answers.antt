use Rattle.std.proofs.Common.{◌≡◌, ◌*◌, ◌+◌, ◌<◌, ◌∙◌, ℕ, inl, inr, arith, ap, sym, slice_index, length, List}
use Rattle.std.specs.Prelude.{max}
use Rattle.std.specs.List.{list_all}
use Rattle.std.proofs.lemmas.Bool.{cases_lt, le-ltb, lt-ltb, ltb-true}
use Rattle.std.proofs.lemmas.List.{take_all}
use Rattle.std.proofs.lemmas.List.Folds.{list_all_at}
use Rattle.hex.proofs.Pairs.{decode_done, decode_step}
use Rattle.show_main.specs.Digits.{value_of}
use Rattle.show_main.specs.Shown.{is_lower_digit}
use Rattle.show_main.proofs.DigitLemmas.{all_more, decode_even, digit_read, digit_refused, pair_read}
use Rattle.show_main.proofs.digits.decode.Goals as goal

pub bytes-preserved : goal.bytes-preserved
bytes-preserved c =
    let digits = c.args.digits.now in let i = c.bytes.i in
    let high = slice_index digits (2 * i) in let low = slice_index digits (2 * i + 1) in
    let within : 2 * i + 1 < length digits = omega arith in
    let first : c.max.result ≡ max c.bytes.most c.value_of-high.result = c.max.ensures in
    let h : c.value_of-high.result ≡ value_of high = c.value_of-high.ensures in
    let l : c.value_of-low.result ≡ value_of low = c.value_of-low.ensures in
    record {
      digits = λ small.
          all_more digits i within (digit_read high (omega (arith, small, first, h))) (digit_read low (omega (arith, small, l)))
          (c.bytes.invariant.digits (omega (arith, small, first)));
      read = λ small. rw (h, l) (decode_step digits c.bytes.out i _ within (omega arith)
          (pair_read high low (2 * i) (omega (arith, small, first, h)) (omega (arith, small, l)))
          (c.bytes.invariant.read (omega (arith, small, first))));
      refused = λ large. elim (cases_lt c.bytes.most 16) [
        | inr before ↦ c.bytes.invariant.refused before
        | inl small ↦ elim (cases_lt (value_of high) 16) [
          | inr bad ↦ list_all_at is_lower_digit digits (2 * i) 0 (omega (arith, within)) (digit_refused high bad)
          | inl fine ↦ list_all_at is_lower_digit digits (2 * i + 1) 0 within (digit_refused low (omega (arith, large, first, h, l, fine)))
        ]
      ];
    }

pub returns-clause-digits : goal.returns-clause-digits
returns-clause-digits c = elim (cases_lt c.bytes.most 16) [
  | inr bad ↦ le-ltb _ _ bad ∙ sym (c.bytes.invariant.refused bad)
  | inl fine ↦ lt-ltb _ _ fine ∙ sym (ap (λ (l : List ℕ). list_all is_lower_digit l) (sym (take_all (2 * c.bytes.i) c.args.digits.now (omega arith)))
      ∙ c.bytes.invariant.digits fine)
]

pub returns-clause-bytes : goal.returns-clause-bytes
returns-clause-bytes c = λ is.
    decode_even c.args.digits.now (length c.args.out.now) c.requires
    ∙ decode_done c.args.digits.now c.bytes.out c.bytes.i (omega arith) (omega arith) (c.bytes.invariant.read (ltb-true _ _ is))
