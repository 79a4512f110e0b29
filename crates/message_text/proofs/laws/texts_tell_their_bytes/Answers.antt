use Rattle.message_text.proofs.BytesTold.{texts_tell_their_bytes}
use Rattle.message_text.proofs.laws.texts_tell_their_bytes.Goals as goal

pub returns : goal.returns
returns c = texts_tell_their_bytes
