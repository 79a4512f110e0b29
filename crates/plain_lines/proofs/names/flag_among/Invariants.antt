use Rattle.std.proofs.Common.{◌≡◌, drop, map}
use Rattle.message_text.specs.Names.{named}
use Rattle.plain_lines.specs.Flags.{number_among}
use Rattle.plain_lines.proofs.names.flag_among.Given as goal

abbrev pub invariant-loop-flag : goal.invariant-loop-flag
invariant-loop-flag l =
    number_among (map (λ f. named f.0 f.1.now) (drop l.flag-index l.names)) l.word ≡ number_among (map (λ f. named f.0 f.1.now) l.names) l.word
