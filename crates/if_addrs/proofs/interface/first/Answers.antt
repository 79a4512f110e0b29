use Rattle.std.proofs.Common.{◌≡◌, ◌∙◌, ◌+◌, sym, ap, Option, drop, slice_index_or}
use Rattle.std.specs.List.{find}
use Rattle.std.specs.Option.{option_or}
use Rattle.if_addrs.specs.Interfaces.{Address, Interface, addresses_of}
use Rattle.if_addrs.specs.Wanted.{is_wanted}
use Rattle.if_addrs.proofs.Searching.{found_from, answered, skipped}
use Rattle.if_addrs.proofs.interface.first.Goals as goal
use Rattle.if_addrs.proofs.interface.first.Goals.{After-is_some}

-- what is found in those behind this interface
abbrev behind : After-is_some → Option Address
behind c = find (is_wanted c.args.wanted.now) (addresses_of (drop (c.loop-interface.interface-index + 1) c.args.interfaces.now))

here : (c : After-is_some) → c.first-found.result ≡ find (is_wanted c.args.wanted.now) (slice_index_or c.args.interfaces.now c.loop-interface.interface-index c.interface-item.result).addresses
here c = c.first-found.ensures ∙ ap (λ (x : Interface). find (is_wanted c.args.wanted.now) x.addresses) c.interface-item.is

-- here or behind is what is found of all, since none is found before
all : (c : After-is_some) → option_or c.first-found.result (behind c) ≡ find (is_wanted c.args.wanted.now) (addresses_of c.args.interfaces.now)
all c =
    ap (λ (o : Option Address). option_or o (behind c)) (here c)
    ∙ sym (found_from (is_wanted c.args.wanted.now) c.args.interfaces.now c.loop-interface.interface-index c.interface-item.result c.loop-interface-test.true)
    ∙ c.loop-interface.invariant

pub returns-then-is_some : goal.returns-then-is_some
returns-then-is_some c =
    let at = (goal.at.returns-then-is_some c).After-is_some in
    answered at.first-found.result (behind at) (sym at.is_some.ensures ∙ c.if-is_some.true) ∙ all at

pub loop-interface-preserved : goal.loop-interface-preserved
loop-interface-preserved c =
    let at = (goal.at.loop-interface-preserved c).After-is_some in
    sym (skipped at.first-found.result (behind at) (sym at.is_some.ensures ∙ c.if-is_some.false)) ∙ all at
