use Rattle.std.proofs.Common.{◌∙◌, ◌+◌, ap, Option, drop, filter}
use Rattle.std.specs.Prelude.{option_map}
use Rattle.if_addrs.specs.Interfaces.{Address, Interface, addresses_of}
use Rattle.if_addrs.specs.Searches.{longest}
use Rattle.if_addrs.specs.Wanted.{is_wanted, better}
use Rattle.if_addrs.proofs.Searching.{longest_from}
use Rattle.if_addrs.proofs.interface.longest.Goals as goal

pub loop-interface-preserved : goal.loop-interface-preserved
loop-interface-preserved c =
    let p = is_wanted c.args.wanted.now in
    let is = c.args.interfaces.now in
    let i = c.loop-interface.interface-index in
    let best = option_map (λ a. a.now) c.loop-interface.best in
    let here = c.longest.ensures ∙ ap (λ (x : Interface). longest (filter p x.addresses)) c.interface-item.is in
    ap (λ (o : Option Address). better o (longest (filter p (addresses_of (drop (i + 1) is))))) (c.better-best.ensures ∙ ap (λ (o : Option Address). better best o) here)
    ∙ longest_from p is i c.interface-item.result best c.loop-interface-test.true
    ∙ c.loop-interface.invariant
