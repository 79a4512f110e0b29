use Rattle.std.proofs.Common.{◌∙◌, ◌++◌, ℕ, Bool, true, List, ap, sym}
use Rattle.message_text.specs.Names.{first_after, high_flag_names, low_flag_names, names_from}
use Rattle.message_text.specs.Room.{written}
use Rattle.message_text.proofs.Joined.{flag_names_parted}
use Rattle.message_text.proofs.Onto.{onto}
use Rattle.message_text.proofs.names.put_flag_names.Goals as goal

pub returns-clause-text : goal.returns-clause-text
returns-clause-text c =
    let flags = c.args.flags in
    let old = written c.args.room.now c.args.at in
    let low = written c.put_low_flag_names-middle.new.room c.put_low_flag_names-middle.result.0 in
    let high = c.put_high_flag_names.ensures.text
    ∙ ap (λ (first : Bool). low ++ names_from first high_flag_names flags) c.put_low_flag_names-middle.ensures.first in
    onto old (names_from true low_flag_names flags) (names_from (first_after true low_flag_names flags) high_flag_names flags)
    low (written c.put_high_flag_names.new.room c.put_high_flag_names.result) c.put_low_flag_names-middle.ensures.text high
    ∙ ap (λ (text : List ℕ). old ++ text) (sym (flag_names_parted flags))
