use Rattle.std.proofs.Common.{length, take, ◌-◌, ◌≡◌, ◌≤◌, ◌<◌, ◌^◌}
use Rattle.std.specs.Str.Parse.{AllDigits, digits_value}
use Rattle.event_file.proofs.numbers.cut_byte.Given as goal

abbrev pub invariant-loop-at : goal.invariant-loop-at
invariant-loop-at l = record {
  at : l.at ≤ length l.text;
  few : l.at ≤ 3;
  digits : AllDigits 10 (take l.at l.text);
  number : l.number ≡ digits_value 10 (take l.at l.text);
  small : l.number < 10 ^ l.at;
}

abbrev pub decreases-loop-at : goal.decreases-loop-at
decreases-loop-at l = length l.text - l.at
