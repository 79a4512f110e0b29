use Rattle.std.proofs.Common.{◌∙◌, sym}
use Rattle.message_text.specs.Room.{written}
use Rattle.message_text.proofs.texts.put_header.Goals as goal

pub returns-then-is_about_address-clause-text : goal.returns-then-is_about_address-clause-text
unfolding written
returns-then-is_about_address-clause-text c =
    rw (sym c.is_about_address.ensures ∙ c.if-is_about_address.true) c.put_ifa_header.ensures.text

pub returns-else-is_about_address-clause-text : goal.returns-else-is_about_address-clause-text
unfolding written
returns-else-is_about_address-clause-text c =
    rw (sym c.is_about_address.ensures ∙ c.if-is_about_address.false) c.put_route_header.ensures.text
