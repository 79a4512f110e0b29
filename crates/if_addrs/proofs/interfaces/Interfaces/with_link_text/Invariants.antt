use Rattle.std.proofs.Common.{◌≡◌, ◌+◌, ◌-◌, length}
use Rattle.std.specs.List.{find, range_with_len}
use Rattle.if_addrs.specs.Searches.{has_link_text}
use Rattle.if_addrs.proofs.interfaces.Interfaces.with_link_text.Given as goal

abbrev pub invariant-loop-place : goal.invariant-loop-place
invariant-loop-place l = find (has_link_text l.text l.self) (range_with_len (l.place + 1) (length l.self - l.place)) ≡ find (has_link_text l.text l.self) (range_with_len 1 (length l.self))
