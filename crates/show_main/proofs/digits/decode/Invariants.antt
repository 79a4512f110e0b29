use Rattle.std.proofs.Common.{◌≡◌, ◌*◌, ◌<◌, ◌≤◌, true, false, take, drop}
use Rattle.std.specs.List.{list_all}
use Rattle.hex.specs.Hex.{decode_pairs}
use Rattle.hex.proofs.Pairs.{prepend}
use Rattle.show_main.specs.Shown.{is_lower_digit}
use Rattle.show_main.proofs.digits.decode.Given as goal

-- while all are digits, what is spelled is what was put so far, and what the digits behind spell
abbrev pub invariant-bytes : goal.invariant-bytes
invariant-bytes l = record {
  digits : l.most < 16 → list_all is_lower_digit (take (2 * l.i) l.digits) ≡ true;
  read : l.most < 16 → decode_pairs 0 l.digits ≡ prepend (take l.i l.out) (decode_pairs (2 * l.i) (drop (2 * l.i) l.digits));
  refused : 16 ≤ l.most → list_all is_lower_digit l.digits ≡ false;
}
