use Rattle.std.proofs.Common.{append_assoc}
use Rattle.std.proofs.lemmas.List.{append-nil}
use Rattle.message_text.specs.Names.{first_after, high_flag_names, names_from}
use Rattle.world_words.proofs.flags.put_high_names.Goals as goal

pub returns-clause-put : goal.returns-clause-put
unfolding names_from high_flag_names
returns-clause-put c =
    rw (c.in_ok-first-7.ensures.put, c.in_ok-first-6.ensures.put, c.in_ok-first-5.ensures.put, c.in_ok-first-4.ensures.put, c.in_ok-first-3.ensures.put, c.in_ok-first-2.ensures.put, c.in_ok-first.ensures.put)
    (rw (c.in_ok-first-6.ensures.first, c.in_ok-first-5.ensures.first, c.in_ok-first-4.ensures.first, c.in_ok-first-3.ensures.first, c.in_ok-first-2.ensures.first, c.in_ok-first.ensures.first)
    (simp (append_assoc, append-nil)))

pub returns-clause-first : goal.returns-clause-first
unfolding first_after high_flag_names
returns-clause-first c =
    rw (c.in_ok-first-7.ensures.first, c.in_ok-first-6.ensures.first, c.in_ok-first-5.ensures.first, c.in_ok-first-4.ensures.first, c.in_ok-first-3.ensures.first, c.in_ok-first-2.ensures.first, c.in_ok-first.ensures.first)
