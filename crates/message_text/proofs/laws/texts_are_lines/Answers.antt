use Rattle.message_text.proofs.TextLines.{texts_are_lines}
use Rattle.message_text.proofs.laws.texts_are_lines.Goals as goal

pub returns : goal.returns
returns c = texts_are_lines
