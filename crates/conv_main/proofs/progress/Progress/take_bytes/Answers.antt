use Rattle.std.proofs.Common.{◌≡◌, ◌+◌, ◌++◌, ◌∷◌, [], ◌∙◌, ap, subst, drop, length, length-append, slice_index, arith, rules}
use Rattle.conv_main.specs.Pieces.{begun_piece, whole_pieces}
use Rattle.conv_main.specs.Progress.{Took}
use Rattle.conv_main.proofs.Grown.{dropped_one}
use Rattle.conv_main.proofs.Taken.{Took-ended, Took-going, Took-same, begun-ended, begun-going, took_error}
use Rattle.conv_main.proofs.progress.Progress.take_bytes.Goals.{then-is_whole+in_ok-put_piece, else-is_whole}
use Rattle.conv_main.proofs.progress.Progress.take_bytes.Goals as goal

pub returns-in_err-push-clause-err : goal.returns-in_err-push-clause-err
returns-in_err-push-clause-err c = took_error c.from_residual.result c.bytes.invariant.took

pub returns-in_err-put_piece-clause-err : goal.returns-in_err-put_piece-clause-err
returns-in_err-put_piece-clause-err c =
    let same = c.in_err-put_piece.ensures.err in
    took_error c.from_residual-in_err-put_piece.result (Took-same c.bytes.invariant.took same.0 same.1 same.2)

pub bytes-preserved : goal.bytes-preserved
bytes-preserved c =
    let w = c.args.way.now in let bytes = c.args.bytes.now in let i = c.bytes.i in
    let begun = c.bytes.self.piece.items in let byte = slice_index bytes i in let behind = drop (i + 1) bytes in
    let here : drop i bytes ≡ byte ∷ behind = dropped_one bytes i c.bytes-test.true in
    let pushed : c.push.new.items.items ≡ begun ++ byte ∷ [] = c.in_ok-push.ensures.ok in
    let took = subst (λ l. Took w c.args.self.now.place c.bytes.self.place (whole_pieces w c.args.self.now.piece.items bytes) (whole_pieces w begun l)
    c.args.self.now.made.out.items c.bytes.self.made.out.items c.args.self.now.made.told.items c.bytes.self.made.told.items) here c.bytes.invariant.took in
    let size = ap length pushed ∙ length-append begun (byte ∷ []) in
    record {
      number = elim c.if-is_whole.branch [
        | then-is_whole+in_ok-put_piece b ↦ rw b.self-is b.in_ok-put_piece.ensures.number
        | else-is_whole b ↦ rw b.self-is c.bytes.invariant.number
      ];
      count = elim c.if-is_whole.branch [
        | then-is_whole+in_ok-put_piece b ↦ rw b.self-is (omega (arith, b.in_ok-put_piece.ensures.count, ap length b.in_ok-put_piece.ensures.piece, size, c.bytes.invariant.count))
        | else-is_whole b ↦ rw b.self-is (omega (arith, size, c.bytes.invariant.count))
      ];
      memory = elim c.if-is_whole.branch [
        | then-is_whole+in_ok-put_piece b ↦ search rules
        | else-is_whole b ↦ search rules
      ];
      begun = c.bytes.invariant.begun ∙ ap (begun_piece w begun) here ∙ (elim c.if-is_whole.branch [
        | then-is_whole+in_ok-put_piece b ↦ rw b.self-is (begun-ended w begun c.push.new.items.items _ behind byte pushed (search rules) b.in_ok-put_piece.ensures.piece)
        | else-is_whole b ↦ rw b.self-is (begun-going w begun c.push.new.items.items behind byte pushed (search rules))
      ]);
      took = elim c.if-is_whole.branch [
        | then-is_whole+in_ok-put_piece b ↦ rw b.self-is (Took-ended begun c.push.new.items.items _ behind byte took pushed (search rules) b.in_ok-put_piece.ensures.piece
            b.in_ok-put_piece.ensures.place b.in_ok-put_piece.ensures.out b.in_ok-put_piece.ensures.told)
        | else-is_whole b ↦ rw b.self-is (Took-going begun c.push.new.items.items behind byte took pushed (search rules))
      ];
    }
