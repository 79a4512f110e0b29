use Rattle.std.proofs.Common.{◌∙◌, ◌++◌, ℕ, List, ap, sym}
use Rattle.message_text.specs.Room.{written}
use Rattle.message_text.specs.Rows.{rows_text}
use Rattle.message_text.specs.Tables.{path_rows, route_addrs_rows, route_field_rows, route_first_rows, time_rows}
use Rattle.message_text.proofs.Joined.{route_rows_parted}
use Rattle.message_text.proofs.Onto.{onto}
use Rattle.message_text.proofs.headers.put_route_header.Goals as goal

pub returns-clause-text : goal.returns-clause-text
returns-clause-text c =
    let m = c.args.message.now in
    let old = written c.args.room.now c.args.at in
    let one = rows_text route_first_rows m in
    let two = one ++ rows_text route_field_rows m in
    let three = two ++ rows_text path_rows m in
    let four = three ++ rows_text time_rows m in
    let at_one = written c.put_first_line-fields.new.room c.put_first_line-fields.result in
    let at_two = written c.put_fields-metrics.new.room c.put_fields-metrics.result in
    let at_three = written c.put_path_metrics-times.new.room c.put_path_metrics-times.result in
    let at_four = written c.put_time_metrics-addrs.new.room c.put_time_metrics-addrs.result in
    let put_two = onto old one (rows_text route_field_rows m) at_one at_two c.put_first_line-fields.ensures.text c.put_fields-metrics.ensures.text in
    let put_three = onto old two (rows_text path_rows m) at_two at_three put_two c.put_path_metrics-times.ensures.text in
    let put_four = onto old three (rows_text time_rows m) at_three at_four put_three c.put_time_metrics-addrs.ensures.text in
    onto old four (rows_text route_addrs_rows m) at_four (written c.put_route_addrs.new.room c.put_route_addrs.result)
    put_four c.put_route_addrs.ensures.text
    ∙ ap (λ (text : List ℕ). old ++ text) (sym (route_rows_parted m))
