use Rattle.line_faults.proofs.Fronts.{words_before}
use Rattle.line_faults.proofs.Places.{at_a_word, word_is_wrong}
use Rattle.line_faults.proofs.laws.faulty_word_is_wrong.Goals as goal

pub returns-clause-place : goal.returns-clause-place
returns-clause-place c = at_a_word

pub returns-clause-wrong : goal.returns-clause-wrong
returns-clause-wrong c = word_is_wrong

pub returns-clause-before : goal.returns-clause-before
returns-clause-before c = words_before
