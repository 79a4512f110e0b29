-- A network's last address is an address, and the greatest of the network.
use Rattle.std.proofs.Common.{◌≡◌, ℕ, ◌+◌, ◌-◌, ◌*◌, ◌/◌, ◌%◌, ◌^◌, ◌<◌, ◌≤◌, sym, ap, ◌∙◌, arith}
use Rattle.std.proofs.lemmas.Nat.{pow_pos, pow-add, div_below, div-mul-add}
use Rattle.std.proofs.Math.Nat.{mul-le-mul_right, mod-le, lt-div-mul-add}
use Rattle.mask_table.specs.Agreeing.{front}
use Rattle.if_addrs.specs.InterfaceLaws.{LastOfNetworkIsGreatest}

-- with so many bits free
pub network_fits : (a free : ℕ) → a < 2 ^ 32 → free ≤ 32 → (a / 2 ^ free + 1) * 2 ^ free ≤ 2 ^ 32
network_fits a free h few =
    let bits : ℕ = 32 - free in
    let all : bits + free ≡ 32 = omega (arith, few) in
    let whole : 2 ^ 32 ≡ 2 ^ bits * 2 ^ free = ap (λ (k : ℕ). 2 ^ k) (sym all) ∙ pow-add 2 bits free in
    let inside : a < 2 ^ bits * 2 ^ free = omega (arith, h, whole) in
    let below : a / 2 ^ free < 2 ^ bits = div_below a (2 ^ free) (2 ^ bits) (pow_pos free) inside in
    let next : a / 2 ^ free + 1 ≤ 2 ^ bits = omega (arith, below) in
    let product : (a / 2 ^ free + 1) * 2 ^ free ≤ 2 ^ bits * 2 ^ free = mul-le-mul_right (2 ^ free) next in
    omega (arith, product, whole)

-- also as it is computed in 64 bits
pub network_cast : (a free : ℕ) → a < 2 ^ 32 → free ≤ 32 → (a / 2 ^ free + 1) * 2 ^ free % 2 ^ 64 - 1 < 2 ^ 32
network_cast a free h few = omega (arith, network_fits a free h few, mod-le ((a / 2 ^ free + 1) * 2 ^ free) (2 ^ 64))

-- the number before the next multiple has the quotient
before_next : (n size : ℕ) → 0 < size → ((n + 1) * size - 1) / size ≡ n
before_next n size some =
    let last : (n + 1) * size - 1 ≡ n * size + (size - 1) = omega (arith, some) in
    let less : size - 1 < size = omega (arith, some) in
    ap (λ k. k / size) last ∙ div-mul-add n size (size - 1) less

-- the law of a network's last address
pub last_is_greatest : LastOfNetworkIsGreatest
last_is_greatest prefix address h a =
    let some : 0 < 2 ^ (32 - prefix) = pow_pos (32 - prefix) in
    let fits : (front prefix address + 1) * 2 ^ (32 - prefix) ≤ 2 ^ 32 = network_fits address (32 - prefix) a (omega arith) in
    record {
      bits = before_next (front prefix address) (2 ^ (32 - prefix)) some;
      is_address = omega (arith, fits);
      greatest = λ other same.
          let below : other < other / 2 ^ (32 - prefix) * 2 ^ (32 - prefix) + 2 ^ (32 - prefix) = lt-div-mul-add some in
          let same_below : other < front prefix address * 2 ^ (32 - prefix) + 2 ^ (32 - prefix) = rw (← same) below in
          omega (arith, same_below);
    }
