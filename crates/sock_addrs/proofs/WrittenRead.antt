-- What is written of an address is read again, and two masks are written differently.
use Rattle.std.proofs.Common.{◌≡◌, ℕ, ◌+◌, ◌-◌, ◌/◌, ◌%◌, ◌^◌, ◌<◌, ◌≤◌, Bool, true, false, nat_eq, nat_le, nat_lt, not, eq-eqb, suc, zero, inl, inr, List, ◌++◌, length, take, drop, sym, ◌∙◌, ap, refl, arith, lit≤, length-append}
use Rattle.std.specs.Int.{w32, from_be_bytes}
use Rattle.std.specs.Prelude.{slice_index, if◌then◌else◌}
use Rattle.std.proofs.Math.Pow.{pow_mono}
use Rattle.std.proofs.Math.Seq.{take-append_seam}
use Rattle.std.proofs.lemmas.Bool.{eqb-true, lt-leb, cases_order}
use Rattle.std.proofs.lemmas.List.{get_or_append_left, take-append-le, length-take-le, get_or-take}
use Rattle.std.proofs.lemmas.Nat.{from_be_bytes-to_be_bytes_4, pow_below}
use Rattle.sock_addrs.proofs.Below.{passes_below, passes_at}
use Rattle.sock_addrs.specs.Sockaddrs.{mask_number, mask_sockaddr, MaskIsOnesThenZeros, MaskSockaddrsDiffer}
use Rattle.sock_addrs.specs.Reading.{length_byte, number_of_mask, InetSockaddrIsRead, LinkSockaddrIsRead, ReadLinkIsLinkSockaddr, MaskSockaddrIsRead}

pub inet_sockaddr_is_read : InetSockaddrIsRead
inet_sockaddr_is_read address h rest = record {
  whole = record { some = omega arith; all = omega arith };
  family = refl;
  least = lit≤ tt;
  most = lit≤ tt;
  number = from_be_bytes-to_be_bytes_4 address h;
}

pub link_sockaddr_is_read : LinkSockaddrIsRead
link_sockaddr_is_read link h rest =
    let first : length_byte (link ++ rest) ≡ length link = get_or_append_left link rest 0 0 (omega (arith, h.least)) ∙ h.length_byte in
    let second : slice_index (link ++ rest) 1 ≡ 18 = get_or_append_left link rest 0 1 (omega (arith, h.least)) ∙ h.family in
    let size : length (link ++ rest) ≡ length link + length rest = length-append link rest in
    let long : nat_le (length_byte (link ++ rest)) 1 ≡ false = lt-leb _ _ (omega (arith, first, h.least)) in
    record {
      whole = record { some = omega (arith, size, h.least); all = omega (arith, size, first) };
      family = rw long second;
      least = omega (arith, first, h.least);
      most = omega (arith, first, h.most);
      bytes = rw first (take-append_seam link rest);
    }

pub read_link_is_link_sockaddr : ReadLinkIsLinkSockaddr
read_link_is_link_sockaddr sockaddr link h =
    let n = length_byte sockaddr in
    let size : length link ≡ n = ap length (sym h.bytes) ∙ length-take-le n sockaddr h.whole.all in
    let first : slice_index link 0 ≡ n = ap (λ (bytes : List ℕ). slice_index bytes 0) (sym h.bytes) ∙ get_or-take n sockaddr 0 0 (omega (arith, h.least)) in
    let long : nat_le n 1 ≡ false = lt-leb n 1 (omega (arith, h.least)) in
    let second_there : slice_index sockaddr 1 ≡ 18 = rw long at h.family in
    let second : slice_index link 1 ≡ slice_index sockaddr 1 = ap (λ (bytes : List ℕ). slice_index bytes 1) (sym h.bytes) ∙ get_or-take n sockaddr 1 0 (omega (arith, h.least)) in
    record {
      least = omega (arith, size, h.least);
      most = omega (arith, size, h.most);
      length_byte = first ∙ sym size;
      family = second ∙ second_there;
    }

mask_number_is_read : (p : ℕ) → p < 33 → nat_eq (number_of_mask (mask_sockaddr p)) (mask_number p) ≡ true
unfolding passes_below
mask_number_is_read p h = passes_at 33 (λ p. nat_eq (number_of_mask (mask_sockaddr p)) (mask_number p)) p refl h

pub mask_sockaddr_is_read : MaskSockaddrIsRead
mask_sockaddr_is_read zero h rest = record {
  whole = record { some = omega arith; all = omega arith };
  most = lit≤ tt;
  fits = h;
  ones_first = refl;
}
mask_sockaddr_is_read (suc p) h rest =
    let shorter : length_byte (mask_sockaddr (suc p)) ≤ length (mask_sockaddr (suc p)) = omega arith in
    let same : take (length_byte (mask_sockaddr (suc p))) (mask_sockaddr (suc p) ++ rest) ≡ take (length_byte (mask_sockaddr (suc p))) (mask_sockaddr (suc p)) = take-append-le _ _ rest shorter in
    let table : number_of_mask (mask_sockaddr (suc p)) ≡ mask_number (suc p) = eqb-true _ _ (mask_number_is_read (suc p) (omega arith)) in
    record {
      whole = record { some = omega arith; all = omega arith };
      most = omega arith;
      fits = h;
      ones_first = ap (λ (bytes : List ℕ). from_be_bytes w32 (drop 4 bytes)) same ∙ table;
    }

pub same_mask : (p q : ℕ) → p ≤ 32 → q ≤ 32 → mask_number p ≡ mask_number q → p ≡ q
same_mask p q hp hq e =
    let top : (k : ℕ) → 2 ^ (32 - k) ≤ 2 ^ 32 = λ k. let less : 32 - k ≤ 32 = omega arith in pow_mono less in
    elim (cases_order p q) [
      | inl same ↦ same
      | inr apart ↦ elim apart [
        | inl lt ↦ absurd (omega (arith, pow_below (32 - q) (32 - p) (omega arith), top p, top q))
        | inr gt ↦ absurd (omega (arith, pow_below (32 - p) (32 - q) (omega arith), top p, top q))
      ]
    ]

pub mask_sockaddrs_differ : MaskSockaddrsDiffer
mask_sockaddrs_differ p q hp hq e =
    let one : number_of_mask (mask_sockaddr p) ≡ mask_number p = eqb-true _ _ (mask_number_is_read p (omega arith)) in
    let other : number_of_mask (mask_sockaddr q) ≡ mask_number q = eqb-true _ _ (mask_number_is_read q (omega arith)) in
    same_mask p q hp hq (sym one ∙ ap number_of_mask e ∙ other)

-- a bit of the mask's number, and what it has to be
bit_is_right : ℕ → ℕ → Bool
bit_is_right p i = nat_eq (mask_number p / 2 ^ (31 - i) % 2) (if nat_lt i p then 1 else 0)

bits_are_right : (p : ℕ) → p < 33 → passes_below 32 (bit_is_right p) ≡ true
unfolding passes_below bit_is_right
bits_are_right p h = passes_at 33 (λ p. passes_below 32 (bit_is_right p)) p refl h

pub mask_is_ones_then_zeros : MaskIsOnesThenZeros
unfolding bit_is_right
mask_is_ones_then_zeros p i hp hi = eqb-true _ _ (passes_at 32 (bit_is_right p) i (bits_are_right p (omega arith)) hi)

-- 255.0.255.0 is the number of no mask
pub scattered_is_no_mask : (bits : ℕ) → bits ≤ 32 → 0xff00_ff00 ≡ mask_number bits → ⊥
unfolding passes_below
scattered_is_no_mask bits h e =
    let test : ℕ → Bool = λ p. not (nat_eq 0xff00_ff00 (mask_number p)) in
    let no : not (nat_eq 0xff00_ff00 (mask_number bits)) ≡ true = passes_at 33 test bits refl (omega arith) in
    let yes : nat_eq 0xff00_ff00 (mask_number bits) ≡ true = eq-eqb _ _ e in
    cc
