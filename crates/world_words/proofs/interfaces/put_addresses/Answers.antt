use Rattle.std.proofs.Common.{ℕ, List, ◌++◌, ◌∙◌, ap, sym, append_assoc, arith}
use Rattle.std.proofs.lemmas.List.{append-nil}
use Rattle.world_words.specs.Interfaces.{address_line}
use Rattle.world_words.proofs.StandingAddresses.{lines_from, told_none, told_some}
use Rattle.world_words.proofs.interfaces.put_addresses.Goals as goal

pub addresses-preserved : goal.addresses-preserved
addresses-preserved c =
    let interfaces = c.args.world.now.interfaces in
    let text = c.addresses.text in
    let told = c.in-Some.told in
    let line = address_line told.address told.facts in
    let behind = lines_from told.next c.args.index interfaces in
    let it = told_some c.addresses.place c.args.index interfaces told c.in-Some.ensures in (
      ap (λ (l : List ℕ). l ++ behind) c.in_ok-put_address.ensures.put ∙ append_assoc text line behind
          ∙ ap (λ (l : List ℕ). text ++ l) (sym it.0)
          ∙ c.addresses.invariant.0,
      c.in_ok-put_address.ensures.counted ∙ c.addresses.invariant.1,
    )

pub addresses-smaller : goal.addresses-smaller
addresses-smaller c =
    let it = told_some c.addresses.place c.args.index c.args.world.now.interfaces c.in-Some.told c.in-Some.ensures in
    omega (arith, it.1, it.2)

pub returns-clause-put : goal.returns-clause-put
returns-clause-put c =
    let text = c.addresses.text in
    let none = told_none c.addresses.place c.args.index c.args.world.now.interfaces c.next_address.result
    c.in_default.not-Some c.next_address.ensures in
    sym (append-nil text) ∙ ap (λ (l : List ℕ). text ++ l) (sym none) ∙ c.addresses.invariant.0
