use Rattle.std.proofs.Common.{◌≡◌, ◌∙◌, ◌++◌, ◌∷◌, [], ap, sym, append-nil, append_assoc, refl, rules, take, drop, slice_index}
use Rattle.std.proofs.Math.Seq.{drop-cons}
use Rattle.event_file.proofs.HexPieces.{encode-more, encode-nil}
use Rattle.hex.specs.Hex.{encode_lower}
use Rattle.lab_text.proofs.text.Text.put_digits.Goals as goal

pub loop-byte-init : goal.loop-byte-init
loop-byte-init c = record {
  text = sym (ap (λ l. c.self.inside.bytes.items ++ l) encode-nil ∙ append-nil c.self.inside.bytes.items);
  memory = refl;
}

pub loop-byte-preserved : goal.loop-byte-preserved
loop-byte-preserved c =
    let i = c.loop-byte.byte-index in
    let bytes = c.args.bytes.now in
    let old = c.self.inside.bytes.items in
    let pair : c.encode_to_slice.new.output ≡ encode_lower (slice_index bytes i ∷ []) = search rules in
    let one : take 1 (drop i bytes) ≡ slice_index bytes i ∷ [] = ap (take 1) (drop-cons bytes i 0 c.loop-byte-test.true) in
    record {
      text = c.in_ok-extend.ensures.ok ∙ ap (λ l. l ++ c.encode_to_slice.new.output) c.loop-byte.invariant.text
          ∙ append_assoc old (encode_lower (take i bytes)) c.encode_to_slice.new.output
          ∙ ap (λ l. old ++ (encode_lower (take i bytes) ++ l)) (pair ∙ ap (λ l. encode_lower l) (sym one))
          ∙ ap (λ l. old ++ l) (sym (encode-more i 1 bytes));
      memory = search rules;
    }
