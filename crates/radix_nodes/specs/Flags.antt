-- The flags of a room's links, each a bit of one number.
use Rattle.std.specs.Prelude.{ℕ, ◌==◌, Bool, bit_xor}
use Rattle.std.specs.Int.{bit_at}
use Rattle.radix_nodes.specs.declared.flags.Flags.{Flags}

-- whether the flag of this bit is set
unfoldable pub has : Flags → ℕ → Bool
has f k = bit_at f.bits k == 1

-- with the lowest flag turned
abbrev pub turned : Flags → Flags
turned f = record { bits = bit_xor f.bits 1 }
