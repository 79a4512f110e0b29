-- How long addresses are, and the field that names them.
use Rattle.std.proofs.Common.{◌≡◌, ℕ, zero, suc, ◌+◌, ◌*◌, ◌/◌, ◌<◌, ◌≤◌, ◌==◌, List, [], ◌∷◌, ◌++◌, length, get_or, refl, ap, sym, ◌∙◌, arith, length-append, append-nil, append_assoc, Option, Some, None, is_some}
use Rattle.std.specs.List.{flat_map}
use Rattle.std.specs.Int.{bit_at}
use Rattle.std.proofs.lemmas.Nat.Bits.{bit_at_lowest, bit_at-suc}
use Rattle.route_msgs.specs.AddrInfo.{in_order, bytes_or_none, address_bytes, bit_of, addrs_of}
use Rattle.route_msgs.specs.Written.{IsSockaddrOrNone, AreSockaddrs}
use Rattle.route_msgs.specs.declared.addr_info.AddrInfo.{AddrInfo}

one_size : (t : Option (List ℕ)) → IsSockaddrOrNone t → length (bytes_or_none t) ≤ 32
one_size None h = omega arith
one_size (Some sockaddr) h = h.most

sizes : (xs : List (Option (List ℕ))) → ((k : ℕ) → IsSockaddrOrNone (get_or xs k None)) → length (flat_map bytes_or_none xs) ≤ 32 * length xs
sizes [] each = omega arith
sizes (t ∷ xs) each =
    omega (arith, length-append (bytes_or_none t) (flat_map bytes_or_none xs), one_size t (each 0), sizes xs (λ k. each (suc k)))

-- the sizes of the eight, one after the other
pub sizes_added : (info : AddrInfo) → length (address_bytes info) ≡ length (bytes_or_none info.dst) + length (bytes_or_none info.gateway) + length (bytes_or_none info.netmask) + length (bytes_or_none info.genmask) + length (bytes_or_none info.ifp) + length (bytes_or_none info.ifa) + length (bytes_or_none info.author) + length (bytes_or_none info.brd)
sizes_added info =
    let rest : (t : Option (List ℕ)) (xs : List (Option (List ℕ))) → length (flat_map bytes_or_none (t ∷ xs)) ≡ length (bytes_or_none t) + length (flat_map bytes_or_none xs) = λ t xs. length-append (bytes_or_none t) (flat_map bytes_or_none xs) in
    omega (
      arith,
      rest info.dst (info.gateway ∷ info.netmask ∷ info.genmask ∷ info.ifp ∷ info.ifa ∷ info.author ∷ info.brd ∷ []),
      rest info.gateway (info.netmask ∷ info.genmask ∷ info.ifp ∷ info.ifa ∷ info.author ∷ info.brd ∷ []),
      rest info.netmask (info.genmask ∷ info.ifp ∷ info.ifa ∷ info.author ∷ info.brd ∷ []),
      rest info.genmask (info.ifp ∷ info.ifa ∷ info.author ∷ info.brd ∷ []),
      rest info.ifp (info.ifa ∷ info.author ∷ info.brd ∷ []),
      rest info.ifa (info.author ∷ info.brd ∷ []),
      rest info.author (info.brd ∷ []),
      rest info.brd [],
    )

-- a list with another behind it
pub longer : (new old behind : List ℕ) → new ≡ old ++ behind → length new ≡ length old + length behind
longer new old behind e = ap length e ∙ length-append old behind

-- what is appended address by address
put_all : List ℕ → List (Option (List ℕ)) → List ℕ
put_all m [] = m
put_all m (t ∷ xs) = put_all (m ++ bytes_or_none t) xs

all_put : (m : List ℕ) (xs : List (Option (List ℕ))) → put_all m xs ≡ m ++ flat_map bytes_or_none xs
unfolding put_all
all_put m [] = sym (append-nil m)
all_put m (t ∷ xs) = all_put (m ++ bytes_or_none t) xs ∙ append_assoc m (bytes_or_none t) (flat_map bytes_or_none xs)

-- the eight, one after the other
pub put_in_order : (m : List ℕ) (info : AddrInfo) → ((((((((m ++ bytes_or_none info.dst) ++ bytes_or_none info.gateway) ++ bytes_or_none info.netmask) ++ bytes_or_none info.genmask) ++ bytes_or_none info.ifp) ++ bytes_or_none info.ifa) ++ bytes_or_none info.author) ++ bytes_or_none info.brd) ≡ m ++ address_bytes info
unfolding put_all
put_in_order m info = all_put m (in_order info)

-- all eight together
pub addresses_fit : (info : AddrInfo) → AreSockaddrs info → length (address_bytes info) ≤ 256
addresses_fit info h = sizes (in_order info) h

flag : Option (List ℕ) → ℕ
flag None = 0
flag (Some sockaddr) = 1

flag-lt : (t : Option (List ℕ)) → flag t < 2
unfolding flag
flag-lt None = omega arith
flag-lt (Some sockaddr) = omega arith

flag-is_some : (t : Option (List ℕ)) → (flag t == 1) ≡ is_some t
unfolding flag
flag-is_some None = refl
flag-is_some (Some sockaddr) = refl

bit_of-flag : (bit : ℕ) (t : Option (List ℕ)) → bit_of bit t ≡ bit * flag t
unfolding flag
bit_of-flag bit None = omega arith
bit_of-flag bit (Some sockaddr) = omega arith

bits_of : List (Option (List ℕ)) → ℕ
bits_of [] = 0
bits_of (t ∷ info) = flag t + 2 * bits_of info

bit_at-low : (b n : ℕ) → b < 2 → bit_at (b + 2 * n) 0 ≡ b
bit_at-low b n h = bit_at_lowest (b + 2 * n) ∙ omega arith

bit_at-high : (b n k : ℕ) → b < 2 → bit_at (b + 2 * n) (suc k) ≡ bit_at n k
bit_at-high b n k h = let half : (b + 2 * n) / 2 ≡ n = omega arith in bit_at-suc (b + 2 * n) k ∙ ap (λ m. bit_at m k) half

bit_at-bits_of : (xs : List (Option (List ℕ))) (k : ℕ) → k < length xs → bit_at (bits_of xs) k ≡ flag (get_or xs k None)
unfolding bits_of
bit_at-bits_of [] k less = absurd (omega arith)
bit_at-bits_of (t ∷ xs) zero less = bit_at-low (flag t) (bits_of xs) (flag-lt t)
bit_at-bits_of (t ∷ xs) (suc k) less = bit_at-high (flag t) (bits_of xs) k (flag-lt t) ∙ bit_at-bits_of xs k (omega arith)

addrs_of-bits : (info : AddrInfo) → addrs_of info ≡ bits_of (in_order info)
unfolding bits_of
addrs_of-bits info =
    omega (arith, bit_of-flag 0x1 info.dst, bit_of-flag 0x2 info.gateway, bit_of-flag 0x4 info.netmask, bit_of-flag 0x8 info.genmask, bit_of-flag 0x10 info.ifp, bit_of-flag 0x20 info.ifa, bit_of-flag 0x40 info.author, bit_of-flag 0x80 info.brd)

pub addrs_of-lt : (info : AddrInfo) → addrs_of info < 256
addrs_of-lt info =
    omega (
      arith,
      bit_of-flag 0x1 info.dst,
      bit_of-flag 0x2 info.gateway,
      bit_of-flag 0x4 info.netmask,
      bit_of-flag 0x8 info.genmask,
      bit_of-flag 0x10 info.ifp,
      bit_of-flag 0x20 info.ifa,
      bit_of-flag 0x40 info.author,
      bit_of-flag 0x80 info.brd,
      flag-lt info.dst,
      flag-lt info.gateway,
      flag-lt info.netmask,
      flag-lt info.genmask,
      flag-lt info.ifp,
      flag-lt info.ifa,
      flag-lt info.author,
      flag-lt info.brd,
    )

pub named : (info : AddrInfo) (k : ℕ) → k < 8 → (bit_at (addrs_of info) k == 1) ≡ is_some (get_or (in_order info) k None)
named info k less =
    ap (λ n. n == 1) (ap (λ n. bit_at n k) (addrs_of-bits info) ∙ bit_at-bits_of (in_order info) k less)
    ∙ flag-is_some (get_or (in_order info) k None)
