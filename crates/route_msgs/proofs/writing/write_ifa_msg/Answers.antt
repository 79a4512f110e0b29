-- The message says its own length.
use Rattle.std.proofs.Common.{◌≡◌, rules, sym, ◌∙◌}
use Rattle.route_msgs.specs.Headers.{ifa_message}
use Rattle.route_msgs.proofs.SizesRead.{ifa_says}
use Rattle.route_msgs.proofs.writing.write_ifa_msg.Goals as goal

pub returns-clause-size : goal.returns-clause-size
returns-clause-size c =
    let message : c.put.new.message.items ≡ ifa_message c.args.header.now c.args.addresses.now = search rules in
    rw message (ifa_says c.args.header.now c.args.addresses.now c.requires).size

pub returns-clause-says_size : goal.returns-clause-says_size
returns-clause-says_size c =
    let message : c.put.new.message.items ≡ ifa_message c.args.header.now c.args.addresses.now = search rules in
    let says = ifa_says c.args.header.now c.args.addresses.now c.requires in
    rw message (says.says ∙ sym says.size)
