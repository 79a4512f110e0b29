use Rattle.std.proofs.Common.{◌≡◌, ◌<◌, ◌∙◌, ◌+◌, arith, length, refl, rules, sym, ap, true, ℕ, List, [], ◌∷◌, ◌++◌, Some, slice_set}
use Rattle.std.specs.List.{find, position, list_any}
use Rattle.if_addrs.specs.Interfaces.{Interface, addresses_of, has_name, has_number, kind_of, with_address, new_address, added}
use Rattle.if_addrs.proofs.Adding.{is_named, added_is, there_is, stays_is}
use Rattle.if_addrs.proofs.Homes.{added_at_home, few_at}
use Rattle.if_addrs.proofs.Keeping.{Stays, has_place, keeps_by, same_by}
use Rattle.if_addrs.proofs.interfaces.Interfaces.add_addr.Goals as goal
use Rattle.if_addrs.proofs.interfaces.Interfaces.add_addr.Goals.{After-unwrap, In_ok-add}

pub unwrap-at-requires : goal.unwrap-at-requires
unwrap-at-requires c =
    rw (c.place_of.ensures, c.deref.ensures.value, c.self.view_is) (has_place (has_name c.args.name) c.args.self.now (is_named c.args.name c.args.address c.args.far c.args.self.now c.requires))

-- the place of the interface of this name
place : (c : In_ok-add) → position (has_name c.args.name) c.self.inside.interfaces.items ≡ Some c.unwrap-at.result
place c = ap (λ (xs : List Interface). position (has_name c.args.name) xs) (sym c.deref.ensures.value) ∙ sym c.place_of.ensures ∙ c.unwrap-at.ensures

-- there is an interface of this name
there : (c : In_ok-add) → list_any (has_name c.args.name) c.self.inside.interfaces.items ≡ true
there c = ap (λ (xs : List Interface). list_any (has_name c.args.name) xs) c.self.view_is ∙ is_named c.args.name c.args.address c.args.far c.args.self.now c.requires

is_new : (c : In_ok-add) → c.new-address.result ≡ new_address (length c.self.inside.homes.items + 1) c.kind.result c.args.address c.args.prefix c.args.cloning c.args.far
is_new c = search rules

-- it is changed to one with the new address
changed : (c : In_ok-add) → slice_set c.self.inside.interfaces.items c.unwrap-at.result c.add.new.self ≡ with_address c.args.name c.args.address c.args.prefix c.args.cloning c.args.far c.self.inside.interfaces.items
changed c =
    let items = c.self.inside.interfaces.items in
    added_is (length c.self.inside.homes.items) items c.args.name c.args.address c.args.prefix c.args.cloning c.args.far c.unwrap-at.result c.kind.result c.add.new.self c.index_mut-interface.result.now c.index_mut-interface.result.now c.new-address.result
    (place c) c.in_ok-add.ensures.ok c.index_mut-interface.ensures.value c.kind.ensures (is_new c) c.self.invariant.numbered.counted

pub overflow_cast-home-2 : goal.overflow_cast-home-2
overflow_cast-home-2 c =
    let items = c.self.inside.interfaces.items in
    let d = c.index_mut-interface.result.now in
    let room : added items < 65535 = search rules in
    let within : c.unwrap-at.result < length items = search rules in
    omega (arith, room, few_at items c.unwrap-at.result d within, c.count.ensures, ap (λ (i : Interface). length i.addresses) c.index_mut-interface.ensures.value)

-- its home is kept
pushed : (c : After-unwrap) → c.push.new.self.items ≡ c.self.inside.homes.items ++ record { interface = c.unwrap-at.result; address = c.count.result } ∷ []
pushed c = search rules

pub invariant_of-self-2 : goal.invariant_of-self-2
invariant_of-self-2 c =
    let at = (goal.at.invariant_of-self-2 c).In_ok-add in
    let items = c.self.inside.interfaces.items in
    let d = c.index_mut-interface.result.now in
    rw (pushed c, changed at)
    (added_at_home c.self.inside.homes.items (record { interface = c.unwrap-at.result; address = c.count.result }) (has_name c.args.name)
    (new_address (added items + 1) (kind_of c.args.name items) c.args.address c.args.prefix c.args.cloning c.args.far) items d c.self.invariant (place at) refl
    (c.count.ensures ∙ ap (λ (i : Interface). length i.addresses) c.index_mut-interface.ensures.value))

pub returns-clause-added : goal.returns-clause-added
returns-clause-added c =
    changed (goal.at.returns-clause-added c).In_ok-add
    ∙ ap (λ (xs : List Interface). with_address c.args.name c.args.address c.args.prefix c.args.cloning c.args.far xs) c.self.view_is

pub returns-clause-there : goal.returns-clause-there
returns-clause-there c =
    let at = (goal.at.returns-clause-there c).In_ok-add in
    let items = c.self.inside.interfaces.items in
    let next = with_address c.args.name c.args.address c.args.prefix c.args.cloning c.args.far items in
    let number : c.len.result ≡ added items = search (rules, c.self.invariant.numbered.counted) in
    ap (λ (is : List Interface). find (has_number (c.len.result + 1)) (addresses_of is)) (changed at)
    ∙ ap (λ (n : ℕ). find (has_number (n + 1)) (addresses_of next)) number
    ∙ there_is (length c.self.inside.homes.items) items c.args.name c.args.address c.args.prefix c.args.cloning c.args.far c.self.invariant.numbered (there at)
    ∙ ap (λ (xs : List Interface). Some (new_address (added xs + 1) (kind_of c.args.name xs) c.args.address c.args.prefix c.args.cloning c.args.far)) c.self.view_is

stays : (c : In_ok-add) → Stays c.self.inside.interfaces.items (with_address c.args.name c.args.address c.args.prefix c.args.cloning c.args.far c.self.inside.interfaces.items)
stays c = stays_is (length c.self.inside.homes.items) c.self.inside.interfaces.items c.args.name c.args.address c.args.prefix c.args.cloning c.args.far c.self.invariant.numbered (there c)

pub returns-clause-keeps : goal.returns-clause-keeps
returns-clause-keeps c =
    let at = (goal.at.returns-clause-keeps c).In_ok-add in rw (changed at, ← c.self.view_is) (keeps_by c.self.inside.interfaces.items _ (stays at))

pub returns-clause-same : goal.returns-clause-same
returns-clause-same c =
    let at = (goal.at.returns-clause-same c).In_ok-add in rw (changed at, ← c.self.view_is) (same_by c.self.inside.interfaces.items _ (stays at))
