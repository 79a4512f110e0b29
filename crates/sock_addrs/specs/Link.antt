-- A link-layer address is the list of its bytes, of which the first is their number; the code keeps them at the front
-- of an array.
use Rattle.std.specs.Prelude.{◌≡◌, ℕ, ◌+◌, ◌*◌, ◌≤◌, List, [], ◌∷◌, ◌++◌, length, max, take, slice_index}
use Rattle.std.specs.Int.{w16, to_be_bytes}
use Rattle.std.proofs.Common.{ap}
use Rattle.sock_addrs.specs.Padded.{IsPadded, padded_to, padded_to-front}
use Rattle.sock_addrs.specs.Rounding.{rounded}
use Rattle.sock_addrs.specs.declared.families.TheConstants.{AF_LINK}
use Rattle.sock_addrs.specs.declared.link.Link.TheInside.{Inside}

-- 8 to 32 bytes, of which the first is their number and the second the family of link-layer addresses
pub record IsLinkSockaddr (sockaddr : List ℕ) : Type 0 where
  pub least : 8 ≤ length sockaddr
  pub most : length sockaddr ≤ 32
  pub length_byte : slice_index sockaddr 0 ≡ length sockaddr
  pub family : slice_index sockaddr 1 ≡ AF_LINK

-- the link-layer address at the front of the cells, as long as its first byte says
abbrev pub link_in : List ℕ → List ℕ
link_in cells = take (slice_index cells 0) cells

-- what a link's cells are
pub record AreLinkCells (cells : List ℕ) : Type 0 where
  pub sockaddr : IsLinkSockaddr (link_in cells)
  pub padded : IsPadded 32 (slice_index cells 0) cells

-- a link's cells are those that its bytes give
pub link_again : (a : Inside) → AreLinkCells a.bytes → record { bytes = padded_to 32 (link_in a.bytes) } ≡ a
link_again a h =
    ap (λ (bytes : List ℕ). record { bytes = bytes }) (padded_to-front 32 (slice_index a.bytes 0) a.bytes h.padded)

-- how an interface's link-layer address stands in a message: its length, family, the interface's number and type, the
-- lengths of name, address and selector, the name and the address, and zeros to the length
abbrev pub interface_link : ℕ → ℕ → List ℕ → List ℕ → List ℕ
interface_link index type_number name address =
    let size = max 20 (rounded (8 + length name + length address)) in
    padded_to size ((size ∷ AF_LINK ∷ []) ++ to_be_bytes w16 index
    ++ (type_number ∷ length name ∷ length address ∷ 0 ∷ []) ++ name ++ address)

-- the number of an interface that stands in a link-layer address
abbrev pub index_in : List ℕ → ℕ
index_in link = 256 * slice_index link 2 + slice_index link 3
