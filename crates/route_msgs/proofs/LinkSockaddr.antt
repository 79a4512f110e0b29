-- A link-layer address at the front of 32 cells, and zeros behind it.
use Rattle.std.proofs.Common.{◌≡◌, ℕ, ◌+◌, ◌-◌, ◌<◌, ◌≤◌, List, ◌++◌, length, take, drop, replicate, slice_index, arith, length-append, append_assoc, take_at, drop_at, ap, sym, ◌∙◌}
use Rattle.std.proofs.lemmas.List.{drop-replicate, length-replicate, get_or_append_left, replicate-append-replicate}
use Rattle.sock_addrs.specs.Padded.{IsPadded}
use Rattle.sock_addrs.specs.Rounding.{rounded}
use Rattle.sock_addrs.specs.Link.{IsLinkSockaddr}
use Rattle.route_msgs.specs.Sockaddr.{IsSockaddr}
use Rattle.route_msgs.specs.AddrInfo.{padded}

-- the cells, cut behind the bytes that the address takes
pub record IsCut (link cells : List ℕ) (n : ℕ) : Type 0 where
  pub front : take n cells ≡ padded link
  pub sockaddr : IsSockaddr (take n cells)
  pub rest : IsPadded 32 n cells

rounded_fits : (n : ℕ) → 8 ≤ n → n ≤ 32 → (n ≤ rounded n) × (rounded n ≤ 32)
rounded_fits n least most = (omega arith, omega arith)

pub IsSockaddr-padded : (sockaddr : List ℕ) → IsLinkSockaddr sockaddr → IsSockaddr (padded sockaddr)
IsSockaddr-padded sockaddr h =
    let some : 0 < length sockaddr = omega (arith, h.least) in
    let first : slice_index (padded sockaddr) 0 ≡ slice_index sockaddr 0 = get_or_append_left sockaddr (replicate (rounded (slice_index sockaddr 0) - length sockaddr) 0) 0 0 some in
    let fits : (length sockaddr ≤ rounded (length sockaddr)) × (rounded (length sockaddr) ≤ 32) = rounded_fits (length sockaddr) h.least h.most in
    let same : rounded (slice_index sockaddr 0) ≡ rounded (length sockaddr) = ap rounded h.length_byte in
    let size : length (padded sockaddr) ≡ rounded (slice_index sockaddr 0) = omega (arith, length-append sockaddr (replicate (rounded (slice_index sockaddr 0) - length sockaddr) 0), length-replicate {A = ℕ} (rounded (slice_index sockaddr 0) - length sockaddr) 0, fits.0, same) in
    record {
      whole = size ∙ ap rounded (sym first);
      most = omega (arith, size, same, fits.1);
    }

cut_padded : (sockaddr : List ℕ) → IsLinkSockaddr sockaddr → IsCut sockaddr (sockaddr ++ drop (length sockaddr) (replicate 32 0)) (rounded (slice_index sockaddr 0))
cut_padded sockaddr h =
    let n : ℕ = rounded (slice_index sockaddr 0) in
    let more : List ℕ = replicate (n - length sockaddr) 0 in
    let rest : List ℕ = replicate (32 - n) 0 in
    let cells : List ℕ = sockaddr ++ drop (length sockaddr) (replicate 32 0) in
    let is : IsSockaddr (padded sockaddr) = IsSockaddr-padded sockaddr h in
    let fits : (length sockaddr ≤ rounded (length sockaddr)) × (rounded (length sockaddr) ≤ 32) = rounded_fits (length sockaddr) h.least h.most in
    let same : n ≡ rounded (length sockaddr) = ap rounded h.length_byte in
    let size : length (padded sockaddr) ≡ n = omega (arith, length-append sockaddr more, length-replicate {A = ℕ} (n - length sockaddr) 0, fits.0, same) in
    let sum : (n - length sockaddr) + (32 - n) ≡ 32 - length sockaddr = omega (arith, fits.0, fits.1, same) in
    let zeros : drop (length sockaddr) (replicate 32 0) ≡ more ++ rest = drop-replicate {X = ℕ} (length sockaddr) 32 0 ∙ sym (replicate-append-replicate {A = ℕ} (n - length sockaddr) (32 - n) 0 ∙ ap (λ (m : ℕ). replicate m 0) sum) in
    let parts : cells ≡ padded sockaddr ++ rest = ap (λ (xs : List ℕ). sockaddr ++ xs) zeros ∙ sym (append_assoc sockaddr more rest) in
    let front : take n cells ≡ padded sockaddr = ap (take n) parts ∙ take_at (padded sockaddr) rest n size in
    let behind : drop n cells ≡ rest = ap (drop n) parts ∙ drop_at (padded sockaddr) rest n size in
    let all : length cells ≡ 32 = omega (arith, ap length parts, length-append (padded sockaddr) rest, length-replicate {A = ℕ} (32 - n) 0, size, same, fits.1) in
    record {
      front = front;
      sockaddr = rw front is;
      rest = record { all = all; fits = omega (arith, same, fits.1); zeros = behind };
    }

pub cut : (link cells : List ℕ) (n : ℕ) → IsLinkSockaddr link → cells ≡ link ++ drop (length link) (replicate 32 0) → n ≡ rounded (slice_index link 0) → IsCut link cells n
cut link cells n h e size = rw (e, size) (cut_padded link h)
