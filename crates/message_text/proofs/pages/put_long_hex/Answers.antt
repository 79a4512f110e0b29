use Rattle.std.proofs.Common.{◌∙◌, ◌++◌, ℕ, List, sym, ap, arith, rules, drop}
use Rattle.hex.specs.Hex.{encode_lower}
use Rattle.message_text.specs.Room.{so_far, written}
use Rattle.message_text.proofs.HexText.{encode_all, encode_parted}
use Rattle.message_text.proofs.Onto.{piece_then}
use Rattle.message_text.proofs.pages.put_long_hex.Goals as goal

pub loop-rest-preserved : goal.loop-rest-preserved
loop-rest-preserved c =
    let rest = c.loop-rest.rest.now in
    let piece = encode_lower c.split_at.result.0.now in
    let left = encode_lower c.split_at.result.1.now in
    let parted = encode_parted c.min.result rest
    ∙ ap (λ (l : List ℕ). encode_lower l ++ encode_lower (drop c.min.result rest)) (sym c.split_at.ensures.front)
    ∙ ap (λ (l : List ℕ). piece ++ encode_lower l) (sym c.split_at.ensures.back) in
    record {
      text = piece_then c.make_room.new.out.items (written c.loop-rest.room c.in_ok-begin.begin) piece _
          (so_far c.loop-rest.out.items c.loop-rest.room c.loop-rest.end) (encode_lower rest) left _
          c.put_hex-end.ensures.text c.in_ok-begin.ensures.text parted c.loop-rest.invariant.text;
      place = omega (arith, c.in_ok-begin.ensures.left, c.put_hex-end.ensures.end, c.split_at.ensures.front_len, c.min.ensures);
      memory = search rules;
    }

pub returns-clause-text : goal.returns-clause-text
returns-clause-text c =
    encode_all (so_far c.loop-rest.out.items c.loop-rest.room c.loop-rest.end) _ c.loop-rest.rest.now
    (sym c.is_empty.ensures ∙ c.loop-rest-test.false) c.loop-rest.invariant.text
