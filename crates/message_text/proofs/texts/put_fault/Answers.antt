use Rattle.std.proofs.Common.{◌≡◌, ◌∙◌, ◌++◌, ℕ, List, ap, append-nil, refl}
use Rattle.std.specs.Prelude.{codes}
use Rattle.hex.specs.Hex.{encode_lower}
use Rattle.route_msgs.specs.MsgErr.{msg_err_text}
use Rattle.message_text.specs.Room.{so_far, written}
use Rattle.message_text.proofs.Onto.{onto, put_onto}
use Rattle.message_text.proofs.texts.put_fault.Goals as goal

pub returns-clause-text : goal.returns-clause-text
unfolding written
returns-clause-text c =
    let old = c.args.out.now.items in
    let bytes = codes "no message: " ++ encode_lower c.args.message.now ++ codes "\n " in
    let reason = msg_err_text c.args.fault.now in
    let one = so_far c.put_named_hex.new.out.items c.put_named_hex.new.room c.in_ok-digits.digits in
    let two = so_far c.make_room.new.out.items c.put-end.new.room c.put-end.result in
    let three = so_far c.make_room.new.out.items c.put.new.room c.put.result in
    let put_one : one ≡ old ++ bytes = c.in_ok-digits.ensures.text ∙ ap (λ (l : List ℕ). l ++ bytes) (append-nil old) in
    let said : written c.put-end.new.room c.put-end.result ≡ written c.put_named_hex.new.room c.in_ok-reason.reason ++ reason =
    c.put-end.ensures.text ∙ ap (λ (l : List ℕ). written c.put_named_hex.new.room c.in_ok-reason.reason ++ l) (c.as_bytes.ensures.value ∙ c.text.ensures) in
    let put_two = put_onto c.make_room.new.out.items (written c.put_named_hex.new.room c.in_ok-reason.reason) reason _ one said c.in_ok-reason.ensures.text in
    let put_three = put_onto c.make_room.new.out.items (written c.put-end.new.room c.put-end.result) (codes "\n") _ two c.put.ensures.text refl in
    onto old (bytes ++ reason) (codes "\n") two three (onto old bytes reason one two put_one put_two) put_three
