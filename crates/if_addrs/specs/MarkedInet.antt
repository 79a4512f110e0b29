-- An address and the mark that it was removed, which the code keeps in one number of 64 bits.
use Rattle.std.specs.Prelude.{◌≡◌, ℕ, ◌+◌, ◌%◌, ◌^◌, ◌<◌, nat_le, ◌==◌, Bool, true, false, not, ◌&&◌, if◌then◌else◌}
use Rattle.std.proofs.Common.{ap, arith}
use Rattle.if_addrs.specs.declared.marked_inet.MarkedInet.TheInside.{Inside}

pub record MarkedInet : Type 0 where
  pub address : ℕ
  pub removed : Bool

-- this address, without the mark
abbrev pub unmarked : ℕ → MarkedInet
unmarked address = record { address = address; removed = false }

-- the same address, with the mark
abbrev pub gone : MarkedInet → MarkedInet
gone m = record m { removed = true }

-- it is this address, and was not removed
abbrev pub is_at : ℕ → MarkedInet → Bool
is_at address m = not m.removed && (m.address == address)

-- what these bits say: the lower 32 are the address, and the one above is the mark
abbrev pub said_by : ℕ → MarkedInet
said_by bits = record { address = bits % 2 ^ 32; removed = nat_le (2 ^ 32) bits }

abbrev pub bits_of : MarkedInet → ℕ
bits_of m = if m.removed then 2 ^ 32 + m.address else m.address

bits_said : (bits : ℕ) → bits < 2 ^ 33 → bits_of (said_by bits) ≡ bits
bits_said bits h = grind (arith, h)

-- the bits are those that what they say gives
pub bits_again : (a : Inside) → a.bits < 2 ^ 33 → record { bits = bits_of (said_by a.bits) } ≡ a
bits_again a h = ap (λ (bits : ℕ). record { bits = bits }) (bits_said a.bits h)
