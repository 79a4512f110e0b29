-- What follows from the definition of a network's last address.
use Rattle.std.specs.Prelude.{◌≡◌, ℕ, ◌^◌, ◌<◌, ◌≤◌}
use Rattle.mask_table.specs.Agreeing.{front}
use Rattle.if_addrs.specs.Interfaces.{last_of_network}

-- a number is the last of an address's network where it has the address's first bits, as many as the prefix says, is an
-- address, and no number with these bits is greater
pub record IsLast (prefix address last : ℕ) : Type 0 where
  pub bits : front prefix last ≡ front prefix address
  pub is_address : last < 2 ^ 32
  pub greatest : (other : ℕ) → front prefix other ≡ front prefix address → other ≤ last

-- the number that stands for a network's last address is that one
abbrev pub LastOfNetworkIsGreatest : Type 0
LastOfNetworkIsGreatest = (prefix address : ℕ) → prefix ≤ 32 → address < 2 ^ 32
    → IsLast prefix address (last_of_network prefix address)
