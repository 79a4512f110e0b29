use Rattle.std.proofs.Common.{◌≡◌, ◌≤◌, ◌+◌, ◌*◌, length}
use Rattle.std.specs.Prelude.{option_map}
use Rattle.line_faults.specs.Faults.{fault_of_options}
use Rattle.line_faults.specs.Words.{words_from}
use Rattle.line_faults.proofs.faults.fault_of_options.Given as goal
use Rattle.route_core.specs.declared.written.TheConstants.{MOST_WRITTEN}

abbrev pub invariant-options : goal.invariant-options
invariant-options l = record {
  fault : fault_of_options l.fn.wanted l.place l.options l.fn.words
      ≡ fault_of_options l.may l.at l.left (words_from (option_map (λ w. w.now) l.next) l.words);
  place : l.at + 2 * length l.left ≤ 100;
  room : length l.room ≡ MOST_WRITTEN;
}

abbrev pub decreases-options : goal.decreases-options
decreases-options l = length l.left
