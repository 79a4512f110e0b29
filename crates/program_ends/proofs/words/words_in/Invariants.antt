use Rattle.std.proofs.Common.{◌≡◌, ◌++◌}
use Rattle.std.specs.Vec.Iter.{into_iter_items}
use Rattle.program_ends.proofs.words.words_in.Given as goal

-- the words so far, and behind them those to come, are all
abbrev pub invariant-loop-word : goal.invariant-loop-word
invariant-loop-word l = record {
  words : l.words.items ++ into_iter_items l.word-iterator ≡ into_iter_items l.initial.word-iterator;
  memory : l.memory ≡ l.initial.memory;
}
