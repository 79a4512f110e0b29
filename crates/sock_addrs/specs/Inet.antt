-- An IPv4 address is a number below 2^32; the code keeps its four bytes.
use Rattle.std.specs.Prelude.{◌≡◌, ℕ, ◌<◌, List, length, slice_index, refl}
use Rattle.std.specs.Int.{w32, from_be_bytes, to_be_bytes}
use Rattle.std.proofs.Common.{ap}
use Rattle.std.proofs.lemmas.Nat.{be_bytes_4}
use Rattle.sock_addrs.specs.declared.inet.Inet.TheInside.{Inside}

-- four cells, each of them a byte
pub record AreFourBytes (cells : List ℕ) : Type 0 where
  pub four : length cells ≡ 4
  pub bytes : (i : ℕ) → slice_index cells i < 256

-- the bytes of the number that four bytes spell are those bytes
pub four_bytes_again : (a : Inside) → AreFourBytes a.0 → record { 0 = to_be_bytes w32 (from_be_bytes w32 a.0) } ≡ a
four_bytes_again a h = ap (λ (bs : List ℕ). record { 0 = bs }) (be_bytes_4 a.0 _ h.four h.bytes refl)
