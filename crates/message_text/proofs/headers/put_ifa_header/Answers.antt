use Rattle.std.proofs.Common.{◌∙◌, ◌++◌, ℕ, List, ap, sym}
use Rattle.message_text.specs.Room.{written}
use Rattle.message_text.specs.Rows.{rows_text}
use Rattle.message_text.specs.Tables.{ifa_field_rows, ifa_first_rows}
use Rattle.message_text.proofs.Joined.{ifa_rows_parted}
use Rattle.message_text.proofs.Onto.{onto}
use Rattle.message_text.proofs.headers.put_ifa_header.Goals as goal

pub returns-clause-text : goal.returns-clause-text
returns-clause-text c =
    let m = c.args.message.now in
    let old = written c.args.room.now c.args.at in
    onto old (rows_text ifa_first_rows m) (rows_text ifa_field_rows m)
    (written c.put_ifa_first_line-fields.new.room c.put_ifa_first_line-fields.result) (written c.put_ifa_fields.new.room c.put_ifa_fields.result)
    c.put_ifa_first_line-fields.ensures.text c.put_ifa_fields.ensures.text
    ∙ ap (λ (text : List ℕ). old ++ text) (sym (ifa_rows_parted m))
