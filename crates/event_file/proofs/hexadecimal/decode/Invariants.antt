use Rattle.std.proofs.Common.{◌≡◌, ◌*◌, ◌<◌, ◌≤◌, take, drop, Err}
use Rattle.hex.specs.Hex.{decode_pairs}
use Rattle.hex.specs.declared.error.FromHexError.{FromHexError}
use Rattle.hex.proofs.Pairs.{prepend}
use Rattle.event_file.proofs.hexadecimal.decode.Given as goal

-- while each byte fits, what is spelled is what was put so far, and what the digits behind spell; else nothing is
abbrev pub invariant-bytes : goal.invariant-bytes
invariant-bytes l = record {
  read : l.all < 256 → decode_pairs 0 l.digits ≡ prepend (take l.i l.out) (decode_pairs (2 * l.i) (drop (2 * l.i) l.digits));
  refused : 256 ≤ l.all → (e : FromHexError) × (decode_pairs 0 l.digits ≡ Err e);
}
