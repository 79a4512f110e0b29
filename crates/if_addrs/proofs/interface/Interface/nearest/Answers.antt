use Rattle.std.proofs.Common.{◌∙◌, ap, Option}
use Rattle.std.specs.List.{find}
use Rattle.std.specs.Option.{option_or}
use Rattle.if_addrs.specs.Interfaces.{Address}
use Rattle.if_addrs.specs.Wanted.{is_wanted}
use Rattle.if_addrs.specs.declared.address.Wanted.TheVariants.{Standing}
use Rattle.if_addrs.proofs.Searching.{nearest_is}
use Rattle.if_addrs.proofs.interface.Interface.nearest.Goals as goal

pub returns-in-Some : goal.returns-in-Some
returns-in-Some c =
    ap (λ (o : Option Address). option_or o (find (is_wanted Standing) c.args.self.now.addresses)) c.in-Some.ensures ∙ nearest_is c.args.sought c.args.self.now.addresses

pub returns-in-None : goal.returns-in-None
returns-in-None c =
    c.first-in-None.ensures
    ∙ ap (λ (o : Option Address). option_or o (find (is_wanted Standing) c.args.self.now.addresses)) c.in-None.ensures
    ∙ nearest_is c.args.sought c.args.self.now.addresses
