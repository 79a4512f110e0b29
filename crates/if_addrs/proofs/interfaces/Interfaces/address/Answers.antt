use Rattle.std.proofs.Common.{◌≡◌, ◌∙◌, sym, ap, ℕ, slice_index_or}
use Rattle.std.specs.Prelude.{slice_get}
use Rattle.std.specs.List.{find}
use Rattle.if_addrs.specs.Homes.{IsHome}
use Rattle.if_addrs.specs.Interfaces.{Interface, addresses_of, has_number}
use Rattle.if_addrs.proofs.Homes.{home_address}
use Rattle.if_addrs.proofs.interfaces.Interfaces.address.Goals as goal

pub returns-in_ok-home-in-Inet : goal.returns-in_ok-home-in-Inet
returns-in_ok-home-in-Inet c =
    let k = c.in-Inet.number in
    let home = c.in_ok-home-in-Inet.home in
    let items = c.self.inside.interfaces.items in
    let d = c.index-interface.result.now in
    let is_home : IsHome k home items = rw c.self.view_is c.in_ok-home-in-Inet.ensures.some in
    let there : slice_get d.addresses home.address ≡ find (has_number k) (addresses_of items) =
    ap (λ (i : Interface). slice_get i.addresses home.address) (c.index-interface.ensures ∙ ap (λ (n : ℕ). slice_index_or items n d) c.from.ensures)
    ∙ sym (home_address k home items d is_home) in
    rw (c.in-Inet.is, ← c.self.view_is)
    (sym c.address_at.ensures ∙ ap (λ (n : ℕ). slice_get d.addresses n) c.from-in-Inet.ensures ∙ there)
