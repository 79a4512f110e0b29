use Rattle.std.proofs.Common.{◌∙◌, sym}
use Rattle.std.proofs.lemmas.List.{append-nil}
use Rattle.world_words.proofs.FlagNames.{none_named}
use Rattle.world_words.proofs.flags.put_flag_names.Goals as goal

pub returns-clause-put : goal.returns-clause-put
returns-clause-put c =
    let none = sym c.in_ok-first.ensures.first ∙ c.if-not-first.false in
    rw (c.in_ok-put.ensures.put, c.in_ok-first.ensures.put, none_named c.args.flags none, append-nil, none)
