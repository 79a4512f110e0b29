use Rattle.plain_lines.proofs.Cutting.{IsBehind-there, first_there, parted_nowhere}
use Rattle.plain_lines.proofs.words.first_word.Goals as goal

pub returns-in-Some-clause-words : goal.returns-in-Some-clause-words
returns-in-Some-clause-words c = first_there c.in-Some.at c.args.text.now c.in-Some.ensures

pub returns-in-Some-clause-behind : goal.returns-in-Some-clause-behind
returns-in-Some-clause-behind c = IsBehind-there c.in-Some.at c.args.text.now c.in-Some.ensures

pub returns-in-None-clause-words : goal.returns-in-None-clause-words
returns-in-None-clause-words c = parted_nowhere 32 c.args.text.now c.in-None.ensures
