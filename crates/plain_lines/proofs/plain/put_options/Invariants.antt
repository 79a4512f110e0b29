use Rattle.std.proofs.Common.{◌≡◌, ◌++◌, length}
use Rattle.plain_lines.specs.Behind.{spaced, words_after}
use Rattle.plain_lines.specs.PlainLines.{plain_options}
use Rattle.plain_lines.proofs.plain.put_options.Given as goal

abbrev pub invariant-options : goal.invariant-options
invariant-options l =
    (l.text ++ spaced (plain_options (words_after l.rest)) ≡ l.initial.text ++ spaced (plain_options (words_after l.words)))
    × (l.memory ≡ l.initial.memory)

abbrev pub decreases-options : goal.decreases-options
decreases-options l = length l.rest
