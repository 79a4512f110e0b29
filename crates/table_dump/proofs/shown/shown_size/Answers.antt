use Rattle.std.proofs.Common.{◌≡◌, ◌+◌, ◌≤◌, arith, ℕ, length}
use Rattle.route_msgs.specs.AddrInfo.{address_bytes}
use Rattle.route_entries.specs.Addresses.{route_addresses}
use Rattle.table_dump.proofs.Showing.{addresses_sized, shown_says}
use Rattle.table_dump.proofs.shown.shown_size.Goals as goal

pub returns : goal.returns
returns c =
    let gate = c.gate_size.ensures.most in let mask = c.mask_size.ensures.most in let genmask = c.mask_size-2.ensures.most in
    let size : ℕ = 92 + c.gate_size.result + c.mask_size.result + c.mask_size-2.result in
    let most : size ≤ 140 = omega arith in
    let behind : (key : ℕ) → 76 + length (address_bytes (route_addresses key c.args.rank c.args.route.now)) ≡ size = λ key.
    let all = addresses_sized (record { key = key; rank = c.args.rank; value = c.args.route.now }) _ _ _ _ c.mask.ensures
    (rw c.gateway.ensures at c.gate_size.ensures.size) c.mask_size.ensures.size (rw c.genmask.ensures at c.mask_size-2.ensures.size) in
    omega (arith, all) in
    λ key index. (shown_says index (record { key = key; rank = c.args.rank; value = c.args.route.now }) size (behind key) most).size
