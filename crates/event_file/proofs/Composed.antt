-- The message that words within their bounds compose: it is bytes, few of them, and it is read again.
use Rattle.std.proofs.Common.{◌≡◌, ◌<◌, ◌≤◌, ◌+◌, ◌-◌, ◌^◌, ◌∙◌, ℕ, zero, suc, List, [], ◌∷◌, ◌++◌, length, take, drop, replicate, get_or, max, refl, sym, ap, subst, arith, lit<, lit≤, length-append, append-nil, take_at, Option, Some, None, Ok}
use Rattle.std.specs.Prelude.{⊤, flat_map, option_map, slice_index, unwrap_or}
use Rattle.std.specs.Int.{w32, bytes_high_first, div_ceil, from_be_bytes, to_be_bytes}
use Rattle.std.specs.Option.{IfSome}
use Rattle.std.proofs.lemmas.List.{get_or-take, get_or_append_left, length-replicate, length-take-le, take-take}
use Rattle.std.proofs.lemmas.Nat.{or_of_32}
use Rattle.hex.specs.Hex.{IsBytes}
use Rattle.sock_addrs.specs.Link.{IsLinkSockaddr}
use Rattle.sock_addrs.specs.Reading.{IsInet, IsLink, IsMask, ReadsGate, ReadsInet, ReadsMask, length_byte}
use Rattle.sock_addrs.specs.Rounding.{rounded}
use Rattle.sock_addrs.specs.Sockaddrs.{inet_sockaddr, mask_number, mask_sockaddr}
use Rattle.sock_addrs.specs.declared.gate.Gate.{Gate}
use Rattle.sock_addrs.specs.declared.gate.Gate.TheVariants as gate
use Rattle.sock_addrs.proofs.WrittenRead.{inet_sockaddr_is_read, link_sockaddr_is_read, mask_sockaddr_is_read}
use Rattle.route_msgs.specs.AddrInfo.{address_bytes, addrs_of, bytes_or_none, gate_sockaddr, in_order, padded}
use Rattle.route_msgs.specs.Headers.{route_fields, route_head}
use Rattle.route_msgs.specs.Layout.{Field, with_field, with_fields}
use Rattle.route_msgs.specs.Slots.{ReadsMessage, address_at, address_in, slot_in, slots_in}
use Rattle.route_msgs.specs.Sockaddr.{IsSockaddr}
use Rattle.route_msgs.specs.Written.{AreMetrics, AreSockaddrs, IsHeader, IsSockaddrOrNone, SockaddrsAreRead, WrittenIsRead, slot_among, slots_of, start_among}
use Rattle.route_msgs.specs.declared.header.Header.{Header}
use Rattle.route_msgs.specs.declared.parsed.Parsed.{Parsed}
use Rattle.route_msgs.specs.declared.parsed.Slot.{Slot}
use Rattle.route_msgs.proofs.SizesRead.{route_says}
use Rattle.event_file.specs.RouteLaws.{AreRouteWords, IsGate, IsMetric, IsPrefix, IsReadAs, Says}
use Rattle.event_file.specs.RouteWords.{addresses_named, bit_where, composed, header_said, kind_of, metrics_said, written_bits}
use Rattle.event_file.specs.declared.route_words.MetricWords.{MetricWords}
use Rattle.event_file.specs.declared.route_words.RouteWords.{RouteWords}
use Rattle.event_file.specs.declared.route_words.Verb.{Verb}
use Rattle.event_file.specs.declared.route_words.Verb.TheVariants.{Add, Delete, Change, Get, Lock}
use Rattle.event_file.proofs.ByteTexts.{AreBytes, AreBytes-append, AreBytes-cons, AreBytes-drop, AreBytes-from, AreBytes-number, AreBytes-said, AreBytes-take, AreBytes-zeros, IsBytes-from}

-- ---- the header

kind_of-small : (verb : Verb) → kind_of verb < 2 ^ 8
kind_of-small Add = omega arith
kind_of-small Delete = omega arith
kind_of-small Change = omega arith
kind_of-small Get = omega arith
kind_of-small Lock = omega arith

bit_where-most : (bit : ℕ) (metric : Option ℕ) → bit_where bit metric ≤ bit
bit_where-most bit None = omega arith
bit_where-most bit (Some n) = omega arith

written_bits-small : (m : MetricWords) → written_bits m < 2 ^ 32
written_bits-small m =
    omega (arith, bit_where-most 1 m.mtu, bit_where-most 2 m.hopcount, bit_where-most 4 m.expire, bit_where-most 8 m.recvpipe, bit_where-most 16 m.sendpipe, bit_where-most 32 m.ssthresh, bit_where-most 64 m.rtt, bit_where-most 128 m.rttvar)

metric-small : (metric : Option ℕ) → IsMetric metric → unwrap_or metric 0 < 2 ^ 32
metric-small None is = omega arith
metric-small (Some n) is = is

metrics_are : (w : RouteWords) → AreRouteWords w → AreMetrics (metrics_said w)
metrics_are w are = record {
  of_locks = are.of_locks;
  of_mtu = metric-small w.metrics.mtu are.of_metrics.of_mtu;
  of_hopcount = metric-small w.metrics.hopcount are.of_metrics.of_hopcount;
  of_expire = metric-small w.metrics.expire are.of_metrics.of_expire;
  of_recvpipe = metric-small w.metrics.recvpipe are.of_metrics.of_recvpipe;
  of_sendpipe = metric-small w.metrics.sendpipe are.of_metrics.of_sendpipe;
  of_ssthresh = metric-small w.metrics.ssthresh are.of_metrics.of_ssthresh;
  of_rtt = metric-small w.metrics.rtt are.of_metrics.of_rtt;
  of_rttvar = metric-small w.metrics.rttvar are.of_metrics.of_rttvar;
  of_pksent = omega arith;
}

header_is : (w : RouteWords) → AreRouteWords w → IsHeader (header_said w)
header_is w are = record {
  of_kind = kind_of-small w.verb;
  of_index = omega arith;
  of_padding = omega arith;
  of_flags = are.of_flags;
  of_pid = omega arith;
  of_seq = are.of_seq;
  of_errno = omega arith;
  of_use_count = omega arith;
  of_inits = or_of_32 w.inits (written_bits w.metrics) are.of_inits (written_bits-small w.metrics);
  of_metrics = metrics_are w are;
}

-- ---- the addresses

IsSockaddr-inet : (n : ℕ) → IsSockaddr (inet_sockaddr n)
IsSockaddr-inet n = record { whole = refl; most = lit≤ tt }

IsSockaddr-mask : (p : ℕ) → p ≤ 32 → IsSockaddr (mask_sockaddr p)
IsSockaddr-mask zero fits = record { whole = refl; most = lit≤ tt }
IsSockaddr-mask (suc p) fits = record { whole = omega arith; most = lit≤ tt }

IsSockaddr-link : (l : List ℕ) → IsLinkSockaddr l → IsSockaddr (padded l)
IsSockaddr-link l is =
    let zeros : List ℕ = replicate (rounded (slice_index l 0) - length l) 0 in
    let first : slice_index (padded l) 0 ≡ slice_index l 0 = get_or_append_left l zeros 0 0 (omega (arith, is.least)) in
    let fits : (length l ≤ rounded (length l)) × (rounded (length l) ≤ 32) = (omega arith, omega (arith, is.most)) in
    let same : rounded (slice_index l 0) ≡ rounded (length l) = ap rounded is.length_byte in
    let size : length (padded l) ≡ rounded (slice_index l 0) = omega (arith, length-append l zeros, length-replicate {A = ℕ} (rounded (slice_index l 0) - length l) 0, fits.0, same) in
    record { whole = size ∙ ap rounded (sym first); most = omega (arith, size, same, fits.1) }

gate-is : (g : Option Gate) → IfSome g IsGate → IsSockaddrOrNone (option_map gate_sockaddr g)
gate-is None is = tt
gate-is (Some (gate.Inet n)) is = IsSockaddr-inet n
gate-is (Some (gate.Link l)) is = IsSockaddr-link l is.0

mask-is : (p : Option ℕ) → IsPrefix p → IsSockaddrOrNone (option_map mask_sockaddr p)
mask-is None is = tt
mask-is (Some p) is = IsSockaddr-mask p is

addresses_are : (w : RouteWords) → AreRouteWords w → AreSockaddrs (addresses_named w)
addresses_are w are zero = IsSockaddr-inet w.destination
addresses_are w are (suc zero) = gate-is w.gateway are.of_gateway
addresses_are w are (suc (suc zero)) = mask-is w.netmask are.of_netmask
addresses_are w are (suc (suc (suc zero))) = mask-is w.genmask are.of_genmask
addresses_are w are (suc (suc (suc (suc zero)))) = gate-is w.ifp are.of_ifp
addresses_are w are (suc (suc (suc (suc (suc zero))))) = gate-is w.ifa are.of_ifa
addresses_are w are (suc (suc (suc (suc (suc (suc zero)))))) = tt
addresses_are w are (suc (suc (suc (suc (suc (suc (suc zero))))))) = tt
addresses_are w are (suc (suc (suc (suc (suc (suc (suc (suc k)))))))) = tt

-- ---- it is bytes

with_field-bytes : (f : Field) (text : List ℕ) → AreBytes text → AreBytes (with_field f text)
unfolding with_field
with_field-bytes f text are =
    let front = take f.offset text in
    let number = bytes_high_first f.width f.value in
    let behind = drop (f.offset + f.width) text in
    AreBytes-append (front ++ number) behind (AreBytes-append front number (AreBytes-take f.offset text are) (AreBytes-number f.width f.value)) (AreBytes-drop (f.offset + f.width) text are)

with_fields-bytes : (fs : List Field) (text : List ℕ) → AreBytes text → AreBytes (with_fields fs text)
with_fields-bytes [] text are = are
with_fields-bytes (f ∷ fs) text are = with_fields-bytes fs (with_field f text) (with_field-bytes f text are)

-- each of these addresses is bytes
abbrev EachBytes : List (Option (List ℕ)) → Type 0
EachBytes [] = ⊤
EachBytes (t ∷ ts) = AreBytes (bytes_or_none t) × EachBytes ts

all_bytes : (ts : List (Option (List ℕ))) → EachBytes ts → AreBytes (flat_map bytes_or_none ts)
all_bytes [] each = AreBytes-said [] refl
all_bytes (t ∷ ts) each = AreBytes-append (bytes_or_none t) (flat_map bytes_or_none ts) each.0 (all_bytes ts each.1)

inet-bytes : (n : ℕ) → AreBytes (inet_sockaddr n)
inet-bytes n =
    AreBytes-append (16 ∷ 2 ∷ 0 ∷ 0 ∷ []) (to_be_bytes w32 n ++ replicate 8 0) (AreBytes-said (16 ∷ 2 ∷ 0 ∷ 0 ∷ []) refl)
    (AreBytes-append (to_be_bytes w32 n) (replicate 8 0) (AreBytes-number 4 n) (AreBytes-zeros 8))

mask-bytes : (p : ℕ) → p ≤ 32 → AreBytes (mask_sockaddr p)
mask-bytes zero fits = AreBytes-said (0 ∷ 0 ∷ 0 ∷ 0 ∷ []) refl
mask-bytes (suc p) fits =
    let number = to_be_bytes w32 (mask_number (suc p)) in
    AreBytes-cons (4 + div_ceil (suc p) 8) (0 ∷ 0 ∷ 0 ∷ number) (omega arith)
    (AreBytes-append (0 ∷ 0 ∷ 0 ∷ []) number (AreBytes-said (0 ∷ 0 ∷ 0 ∷ []) refl) (AreBytes-number 4 (mask_number (suc p))))

no_bytes : AreBytes []
no_bytes = AreBytes-said [] refl

gate-bytes : (g : Option Gate) → IfSome g IsGate → AreBytes (bytes_or_none (option_map gate_sockaddr g))
gate-bytes None is = no_bytes
gate-bytes (Some (gate.Inet n)) is = inet-bytes n
gate-bytes (Some (gate.Link l)) is = AreBytes-append l _ (AreBytes-from l is.1) (AreBytes-zeros _)

mask-bytes-or_none : (p : Option ℕ) → IsPrefix p → AreBytes (bytes_or_none (option_map mask_sockaddr p))
mask-bytes-or_none None is = no_bytes
mask-bytes-or_none (Some p) is = mask-bytes p is

composed-bytes : (w : RouteWords) → AreRouteWords w → AreBytes (composed w)
composed-bytes w are =
    let info = addresses_named w in
    let size = 76 + length (address_bytes info) in
    let fields = route_fields size (addrs_of info) (header_said w) in
    AreBytes-append (route_head size (addrs_of info) (header_said w)) (address_bytes info) (with_fields-bytes fields (replicate 76 0) (AreBytes-zeros 76)) (all_bytes (in_order info) (
      inet-bytes w.destination,
      (
        gate-bytes w.gateway are.of_gateway,
        (
          mask-bytes-or_none w.netmask are.of_netmask,
          (
            mask-bytes-or_none w.genmask are.of_genmask,
            (gate-bytes w.ifp are.of_ifp, (gate-bytes w.ifa are.of_ifa, (no_bytes, (no_bytes, tt)))),
          ),
        ),
      ),
    ))

-- ---- its bounds

-- no address takes more than 32 bytes
one-short : (t : Option (List ℕ)) → IsSockaddrOrNone t → length (bytes_or_none t) ≤ 32
one-short None is = omega arith
one-short (Some sockaddr) is = is.most

-- none of them takes more bytes than its number
abbrev Fit : List ℕ → List (Option (List ℕ)) → Type 0
Fit [] [] = ⊤
Fit (n ∷ ns) (t ∷ ts) = (length (bytes_or_none t) ≤ n) × Fit ns ts
Fit ns ts = ⊥

abbrev total : List ℕ → ℕ
total [] = 0
total (n ∷ ns) = n + total ns

length-all : (ns : List ℕ) (ts : List (Option (List ℕ))) → Fit ns ts → length (flat_map bytes_or_none ts) ≤ total ns
length-all [] [] fit = omega arith
length-all [] (t ∷ ts) fit = absurd fit
length-all (n ∷ ns) [] fit = absurd fit
length-all (n ∷ ns) (t ∷ ts) fit = omega (arith, fit.0, length-append (bytes_or_none t) (flat_map bytes_or_none ts), length-all ns ts fit.1)

addresses-short : (w : RouteWords) → AreRouteWords w → length (address_bytes (addresses_named w)) ≤ 176
addresses-short w are =
    let via = one-short (option_map gate_sockaddr w.gateway) (gate-is w.gateway are.of_gateway) in
    let mask = one-short (option_map mask_sockaddr w.netmask) (mask-is w.netmask are.of_netmask) in
    let genmask = one-short (option_map mask_sockaddr w.genmask) (mask-is w.genmask are.of_genmask) in
    let ifp = one-short (option_map gate_sockaddr w.ifp) (gate-is w.ifp are.of_ifp) in
    let ifa = one-short (option_map gate_sockaddr w.ifa) (gate-is w.ifa are.of_ifa) in
    length-all (16 ∷ 32 ∷ 32 ∷ 32 ∷ 32 ∷ 32 ∷ 0 ∷ 0 ∷ []) (in_order (addresses_named w)) (lit≤ tt, (via, (mask, (genmask, (ifp, (ifa, (lit≤ tt, (lit≤ tt, tt))))))))

pub composed_is_bounded : (w : RouteWords) → AreRouteWords w → (length (composed w) ≤ 252) × IsBytes (composed w)
composed_is_bounded w are =
    let few = addresses-short w are in
    let says = route_says (header_said w) (addresses_named w) (omega (arith, few)) in
    (omega (arith, says.size, few), IsBytes-from (composed w) (composed-bytes w are))

-- ---- what it is read as

-- an address without its padding
abbrev unpadded : List ℕ → List ℕ
unpadded sockaddr = take (max 1 (slice_index sockaddr 0)) sockaddr

inet-read : (n : ℕ) → n < 2 ^ 32 → IsInet (unpadded (inet_sockaddr n)) n
inet-read n small = inet_sockaddr_is_read n small []

link-read : (l : List ℕ) → IsLinkSockaddr l → IsLink (unpadded (padded l)) l
link-read l is =
    let first : slice_index (padded l) 0 ≡ length l = get_or_append_left l _ 0 0 (omega (arith, is.least)) ∙ is.length_byte in
    let count : length l ≡ max 1 (slice_index (padded l) 0) = omega (arith, first, is.least) in
    let whole : unpadded (padded l) ≡ l = take_at l _ (max 1 (slice_index (padded l) 0)) count in
    subst (λ (bytes : List ℕ). IsLink bytes l) (append-nil l ∙ sym whole) (link_sockaddr_is_read l is [])

-- a mask is the same without the bytes that its length doesn't count
mask-cut : (sockaddr : List ℕ) (p : ℕ) → 1 ≤ length_byte sockaddr → IsMask sockaddr p → IsMask (take (length_byte sockaddr) sockaddr) p
mask-cut sockaddr p some is =
    let n = length_byte sockaddr in
    let front = take n sockaddr in
    let first : length_byte front ≡ n = get_or-take n sockaddr 0 0 (omega (arith, some)) in
    let size : length front ≡ n = length-take-le n sockaddr is.whole.all in
    let same : take (length_byte front) front ≡ take n sockaddr = ap (λ (k : ℕ). take k front) first ∙ take-take n n sockaddr (omega arith) in
    record {
      whole = record { some = omega (arith, size, some); all = omega (arith, size, first) };
      most = omega (arith, first, is.most);
      fits = is.fits;
      ones_first = ap (λ (bytes : List ℕ). from_be_bytes w32 (drop 4 bytes)) same ∙ is.ones_first;
    }

mask-read : (p : ℕ) → p ≤ 32 → IsMask (unpadded (mask_sockaddr p)) p
mask-read zero fits = record {
  whole = record { some = omega arith; all = omega arith };
  most = lit≤ tt;
  fits = fits;
  ones_first = refl;
}
mask-read (suc p) fits =
    let whole : IsMask (mask_sockaddr (suc p)) (suc p) = mask_sockaddr_is_read (suc p) fits [] in
    let count : length_byte (mask_sockaddr (suc p)) ≡ max 1 (length_byte (mask_sockaddr (suc p))) = omega arith in
    subst (λ (n : ℕ). IsMask (take n (mask_sockaddr (suc p))) (suc p)) count (mask-cut (mask_sockaddr (suc p)) (suc p) (omega arith) whole)

gate-read : (g : Option Gate) → IfSome g IsGate → IsReadAs ReadsGate (option_map unpadded (option_map gate_sockaddr g)) g
gate-read None is = tt
gate-read (Some (gate.Inet n)) is = inet-read n is
gate-read (Some (gate.Link l)) is = link-read l is.0

prefix-read : (p : Option ℕ) → IsPrefix p → IsReadAs ReadsMask (option_map unpadded (option_map mask_sockaddr p)) p
prefix-read None is = tt
prefix-read (Some p) is = mask-read p is

-- ---- where its addresses stand

module _ (written : WrittenIsRead) (stand : SockaddrsAreRead) (w : RouteWords) (are : AreRouteWords w) where
  abbrev named : List (Option (List ℕ))
  named = in_order (addresses_named w)

  abbrev parsed : Parsed
  parsed = record { header = record (header_said w) { addrs = addrs_of (addresses_named w) }; slots = slots_of (addresses_named w) }

  reads : ReadsMessage (composed w) (Ok parsed)
  reads = written (header_said w) (addresses_named w) (header_is w are) (addresses_are w are)

  at_slot : (k : ℕ) (t : Option (List ℕ)) → k < 8 → get_or named k None ≡ t → IsSockaddrOrNone t → address_at (slot_among named k) (composed w) ≡ option_map unpadded t
  at_slot k None less e is = rw e refl
  at_slot k (Some sockaddr) less e is =
      let n = max 1 (slice_index sockaddr 0) in
      let place = start_among named k in
      let there : take (length sockaddr) (drop place (composed w)) ≡ sockaddr = stand (header_said w) (addresses_named w) k sockaddr (header_is w are) (addresses_are w are) less e in
      let fits : n ≤ length sockaddr = omega (arith, is.whole) in
      let cut : take n (drop place (composed w)) ≡ take n sockaddr = sym (take-take n (length sockaddr) (drop place (composed w)) fits) ∙ ap (take n) there in
      rw e (ap Some cut)

  address_is : (k : ℕ) (t : Option (List ℕ)) → k < 8 → get_or named k None ≡ t → IsSockaddrOrNone t → slot_in (composed w) k ≡ slot_among named k → address_in (composed w) k ≡ option_map unpadded t
  address_is k t less e is slot = ap (λ (s : Option Slot). address_at s (composed w)) slot ∙ at_slot k t less e is

  -- each slot is where its address was written
  abbrev Stands : ℕ → Type 0
  Stands k = get_or (slots_in (composed w)) k None ≡ get_or (slots_of (addresses_named w)) k None

  stands : (k : ℕ) → Stands k
  stands k = ap (λ (ss : List (Option Slot)). get_or ss k None) (sym reads.4)

  pub composed_says : Says w (composed w)
  composed_says =
      let m = composed w in
      let to = address_is 0 (Some (inet_sockaddr w.destination)) (lit< tt) refl (IsSockaddr-inet w.destination) (stands 0) in
      let via = address_is 1 (option_map gate_sockaddr w.gateway) (lit< tt) refl (gate-is w.gateway are.of_gateway) (stands 1) in
      let mask = address_is 2 (option_map mask_sockaddr w.netmask) (lit< tt) refl (mask-is w.netmask are.of_netmask) (stands 2) in
      let genmask = address_is 3 (option_map mask_sockaddr w.genmask) (lit< tt) refl (mask-is w.genmask are.of_genmask) (stands 3) in
      let ifp = address_is 4 (option_map gate_sockaddr w.ifp) (lit< tt) refl (gate-is w.ifp are.of_ifp) (stands 4) in
      let ifa = address_is 5 (option_map gate_sockaddr w.ifa) (lit< tt) refl (gate-is w.ifa are.of_ifa) (stands 5) in
      record {
        whole = (reads.0, reads.1, reads.2, refl, refl);
        header = sym reads.3 ∙ ap (λ (addrs : ℕ). record (header_said w) { addrs = addrs }) (ap (λ (h : Header). h.addrs) reads.3);
        destination = subst (λ (t : Option (List ℕ)). IsReadAs ReadsInet t (Some w.destination)) (sym to) (inet-read w.destination are.of_destination);
        gateway = subst (λ (t : Option (List ℕ)). IsReadAs ReadsGate t w.gateway) (sym via) (gate-read w.gateway are.of_gateway);
        netmask = subst (λ (t : Option (List ℕ)). IsReadAs ReadsMask t w.netmask) (sym mask) (prefix-read w.netmask are.of_netmask);
        genmask = subst (λ (t : Option (List ℕ)). IsReadAs ReadsMask t w.genmask) (sym genmask) (prefix-read w.genmask are.of_genmask);
        ifp = subst (λ (t : Option (List ℕ)). IsReadAs ReadsGate t w.ifp) (sym ifp) (gate-read w.ifp are.of_ifp);
        ifa = subst (λ (t : Option (List ℕ)). IsReadAs ReadsGate t w.ifa) (sym ifa) (gate-read w.ifa are.of_ifa);
        no_author = address_is 6 None (lit< tt) refl tt (stands 6);
        no_broadcast = address_is 7 None (lit< tt) refl tt (stands 7);
      }
