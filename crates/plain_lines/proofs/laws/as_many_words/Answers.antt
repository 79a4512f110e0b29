use Rattle.plain_lines.proofs.PlainTwice as twice
use Rattle.plain_lines.proofs.laws.as_many_words.Goals as goal

pub returns : goal.returns
returns c = twice.as_many_words
