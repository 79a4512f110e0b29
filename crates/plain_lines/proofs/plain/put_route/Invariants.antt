use Rattle.std.proofs.Common.{◌≡◌, ◌++◌, ◌-◌, drop, take}
use Rattle.plain_lines.specs.Behind.{spaced, words_after}
use Rattle.plain_lines.specs.PlainLines.{plain_options, plain_route}
use Rattle.plain_lines.proofs.plain.put_route.Given as goal

abbrev pub invariant-kept : goal.invariant-kept
invariant-kept l =
    (l.text ++ spaced (take (4 - l._i) (words_after l.rest) ++ plain_options (drop (4 - l._i) (words_after l.rest)))
    ≡ l.initial.text ++ spaced (plain_route (words_after l.words)))
    × (l.memory ≡ l.initial.memory)
