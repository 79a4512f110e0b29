use Rattle.std.proofs.Common.{◌≡◌, ◌≤◌, ◌+◌, length, drop}
use Rattle.line_faults.specs.Faults.{fault_among}
use Rattle.line_faults.proofs.faults.fault_among.Given as goal
use Rattle.route_core.specs.declared.written.TheConstants.{MOST_WRITTEN}

abbrev pub invariant-kinds : goal.invariant-kinds
invariant-kinds l = record {
  fault : fault_among l.place l.kinds l.initial.words ≡ fault_among l.at l.left l.words;
  rest : drop (length l.kinds) l.initial.words ≡ drop (length l.left) l.words;
  place : l.at + length l.left ≤ 100;
  room : length l.room ≡ MOST_WRITTEN;
}

abbrev pub decreases-kinds : goal.decreases-kinds
decreases-kinds l = length l.left
