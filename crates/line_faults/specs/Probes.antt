-- Lines in which the grammar judges a word.
use Rattle.std.specs.Prelude.{◌≡◌, ℕ, false, is_some, List, ◌++◌}
use Rattle.event_file.specs.Grammar.{command_of}
use Rattle.line_faults.specs.Kinds.{is_of}
use Rattle.line_faults.specs.Words.{has_space}
use Rattle.line_faults.specs.declared.kinds.WordKind.{WordKind}

-- a word between these is a line of the grammar just where it is of the kind
abbrev pub Probes : WordKind → List ℕ → List ℕ → Type 0
Probes kind before behind = (word : List ℕ) → has_space word ≡ false
    → is_some (command_of (before ++ word ++ behind)) ≡ is_of kind word
