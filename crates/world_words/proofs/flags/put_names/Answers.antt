use Rattle.std.proofs.Common.{ℕ, true, List, ◌++◌, ◌∙◌, ap, append_assoc}
use Rattle.message_text.specs.Names.{first_after, high_flag_names, low_flag_names, names_from}
use Rattle.world_words.proofs.FlagNames.{names_joined}
use Rattle.world_words.proofs.flags.put_names.Goals as goal

pub returns-clause-put : goal.returns-clause-put
returns-clause-put c =
    let flags = c.args.flags in
    let old = c.args.text.now in
    rw (c.in_ok-first-2.ensures.put, c.in_ok-first.ensures.put, c.in_ok-first.ensures.first)
    (append_assoc old (names_from true low_flag_names flags) (names_from (first_after true low_flag_names flags) high_flag_names flags)
    ∙ ap (λ (l : List ℕ). old ++ l) (names_joined flags))
