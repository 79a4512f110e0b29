use Rattle.std.proofs.Common.{◌+◌, drop, arith}
use Rattle.hex.specs.Hex.{encode_lower}
use Rattle.event_file.proofs.Fronts.{Wrote-nil, Wrote-then, WroteFront-then, WroteFront-more, on_err}
use Rattle.event_file.proofs.HexPieces.{encode-nil, encode-more, encode-whole, piece_is}
use Rattle.event_file.proofs.answers.write_hex.Goals as goal

pub loop-at-init : goal.loop-at-init
loop-at-init g c = (omega arith, rw encode-nil (Wrote-nil c.args.writer.now))

pub loop-at-preserved : goal.loop-at-preserved
loop-at-preserved g c =
    let put = rw piece_is at c.in_ok-write_piece.ensures.ok in
    (omega arith, rw encode-more (Wrote-then c.loop-at.invariant.1 put))

pub returns-in_err-write_piece-clause-err : goal.returns-in_err-write_piece-clause-err
returns-in_err-write_piece-clause-err g c =
    let at = c.loop-at.at in
    let n = c.min-taken.result in
    let bytes = c.args.bytes.now in
    let put = rw piece_is at c.in_err-write_piece.ensures.err in
    let so_far = rw (← encode-more at n bytes) at (WroteFront-then c.loop-at.invariant.1 put) in
    on_err c.from_residual.result (rw (← encode-whole (at + n) bytes) (WroteFront-more (encode_lower (drop (at + n) bytes)) so_far))
