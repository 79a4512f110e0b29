use Rattle.std.proofs.Common.{◌++◌}
use Rattle.hex.specs.Hex.{encode_lower}
use Rattle.message_text.specs.Room.{so_far, written}
use Rattle.message_text.proofs.Onto.{onto, put_onto}
use Rattle.message_text.proofs.pages.put_named_hex.Goals as goal

pub returns-clause-text : goal.returns-clause-text
returns-clause-text c =
    let name = c.args.name.now in
    let digits = encode_lower c.args.bytes.now in
    let before = so_far c.args.out.now.items c.args.room.now c.args.at in
    let one = so_far c.make_room.new.out.items c.put-digits.new.room c.put-digits.result in
    let two = so_far c.put_long_hex.new.out.items c.put_long_hex.new.room c.in_ok-behind.behind in
    let three = so_far c.make_room-2.new.out.items c.put.new.room c.put.result in
    let named = put_onto c.make_room.new.out.items (written c.args.room.now c.in_ok-begin.begin) name _ before c.put-digits.ensures.text c.in_ok-begin.ensures.text in
    let ended = put_onto c.make_room-2.new.out.items (written c.put_long_hex.new.room c.in_ok-last.last) c.args.end.now _ two c.put.ensures.text c.in_ok-last.ensures.text in
    onto before (name ++ digits) c.args.end.now two three (onto before name digits one two named c.in_ok-behind.ensures.text) ended
