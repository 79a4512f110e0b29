use Rattle.route_core.proofs.messages.address_message.Goals as goal

pub returns-clause-message : goal.returns-clause-message
returns-clause-message c =
    rw (c.interface_addresses.ensures.texts, c.ifa_flags.ensures) at c.write_ifa_msg.ensures.message
