use Rattle.std.proofs.Common.{◌≡◌, ◌<◌, ◌+◌, ◌*◌, ℕ, List, length, arith, slice_index, ◌∙◌}
use Rattle.std.proofs.lemmas.List.{length-take-le}
use Rattle.listeners.specs.Queue.{AreMessages, length_field}
use Rattle.listeners.proofs.QueueLemmas.{whole-begins, BeginsWith}
use Rattle.listeners.proofs.cutting.first_message.Goals as goal

-- the bytes begin with a message as long as the code's sum of the first two bytes says
begins : (bytes : List ℕ) (n : ℕ) → AreMessages bytes → 0 < length bytes → n ≡ slice_index bytes 0 * 256 + (slice_index bytes 1 * 1 + 0) → BeginsWith n bytes
begins bytes n whole some e =
    let same : n ≡ length_field bytes = omega arith in
    rw same (whole-begins bytes whole some)

pub returns-clause-messages : goal.returns-clause-messages
returns-clause-messages c =
    let b = begins c.args.bytes.now c.from-length.result c.requires.whole c.requires.some (c.from-length.ensures ∙ c.read_u16.ensures) in
    rw (length-take-le c.from-length.result c.args.bytes.now b.fits) b.messages

pub returns-clause-rest : goal.returns-clause-rest
returns-clause-rest c =
    let b = begins c.args.bytes.now c.from-length.result c.requires.whole c.requires.some (c.from-length.ensures ∙ c.read_u16.ensures) in
    rw (length-take-le c.from-length.result c.args.bytes.now b.fits) b.rest
