use Rattle.std.proofs.Common.{◌≡◌, ◌≤◌, ◌+◌, drop, length}
use Rattle.conv_main.specs.Pieces.{begun_piece, whole_pieces}
use Rattle.conv_main.specs.Progress.{Took}
use Rattle.conv_main.proofs.progress.Progress.take_bytes.Given as goal

abbrev pub invariant-bytes : goal.invariant-bytes
invariant-bytes l = record {
  number : l.self.place.messages ≤ l.self.place.offset;
  count : l.self.place.offset + length l.self.piece.items ≡ l.initial.self.place.offset + length l.initial.self.piece.items + l.i;
  memory : l.memory ≡ l.initial.memory;
  begun : begun_piece l.way l.initial.self.piece.items l.bytes ≡ begun_piece l.way l.self.piece.items (drop l.i l.bytes);
  took : Took l.way l.initial.self.place l.self.place (whole_pieces l.way l.initial.self.piece.items l.bytes)
      (whole_pieces l.way l.self.piece.items (drop l.i l.bytes))
      l.initial.self.made.out.items l.self.made.out.items l.initial.self.made.told.items l.self.made.told.items;
}
