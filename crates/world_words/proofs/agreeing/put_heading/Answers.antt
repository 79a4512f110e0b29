use Rattle.std.proofs.Common.{◌∙◌, sym}
use Rattle.world_words.proofs.agreeing.put_heading.Goals as goal

pub returns-then-some-clause-put : goal.returns-then-some-clause-put
returns-then-some-clause-put c = rw (sym c.is_for_one-some.ensures ∙ c.if-some.true) c.put_around.ensures.put

pub returns-clause-put : goal.returns-clause-put
returns-clause-put c = rw (sym c.is_for_one-some.ensures ∙ c.if-some.false) c.put_around-2.ensures.put
