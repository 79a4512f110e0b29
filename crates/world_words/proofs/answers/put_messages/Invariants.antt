use Rattle.std.proofs.Common.{◌≡◌, ◌++◌, flat_map, length}
use Rattle.listeners.specs.Queue.{cut, AreMessages}
use Rattle.message_text.specs.Texts.{text_of}
use Rattle.world_words.proofs.answers.put_messages.Given as goal

abbrev pub invariant-messages : goal.invariant-messages
invariant-messages l =
    (l.text ++ flat_map text_of (cut l.rest) ≡ l.initial.text ++ flat_map text_of (cut l.initial.rest))
    × AreMessages l.rest × (l.memory ≡ l.initial.memory)

abbrev pub decreases-messages : goal.decreases-messages
decreases-messages l = length l.rest
