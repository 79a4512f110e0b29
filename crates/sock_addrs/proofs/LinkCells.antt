-- What a link's cells are once its bytes are written at their front.
use Rattle.std.proofs.Common.{◌≡◌, ℕ, ◌<◌, ◌-◌, List, ◌++◌, length, take, drop, replicate, slice_index, arith, sym, ◌∙◌, length-append, ap}
use Rattle.std.proofs.Math.Seq.{take-append_seam, drop-append_seam}
use Rattle.std.proofs.lemmas.List.{get_or_append_left, drop-replicate, length-replicate}
use Rattle.sock_addrs.specs.Link.{IsLinkSockaddr, link_in, AreLinkCells}

-- with zeros behind the bytes
cells_with_zeros : (sockaddr : List ℕ) → IsLinkSockaddr sockaddr → AreLinkCells (sockaddr ++ replicate (32 - length sockaddr) 0)
cells_with_zeros sockaddr h =
    let cells = sockaddr ++ replicate (32 - length sockaddr) 0 in
    let some : 0 < length sockaddr = omega (arith, h.least) in
    let first : slice_index cells 0 ≡ length sockaddr = get_or_append_left sockaddr _ 0 0 some ∙ h.length_byte in
    let size : length cells ≡ 32 = omega (arith, length-append sockaddr (replicate (32 - length sockaddr) 0), length-replicate {A = ℕ} (32 - length sockaddr) 0, h.most) in
    let whole : link_in cells ≡ sockaddr = ap (λ n. take n cells) first ∙ take-append_seam sockaddr _ in
    let rest : drop (slice_index cells 0) cells ≡ replicate (32 - length sockaddr) 0 = ap (λ n. drop n cells) first ∙ drop-append_seam sockaddr _ in
    record {
      sockaddr = rw whole h;
      padded = record {
        all = size;
        fits = rw first h.most;
        zeros = rest ∙ ap (λ n. replicate (32 - n) 0) (sym first);
      };
    }

pub cells_of_link : (sockaddr : List ℕ) → IsLinkSockaddr sockaddr → AreLinkCells (sockaddr ++ drop (length sockaddr) (replicate 32 0))
cells_of_link sockaddr h = rw (drop-replicate {X = ℕ} (length sockaddr) 32 0) (cells_with_zeros sockaddr h)
