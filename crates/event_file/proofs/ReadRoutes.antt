-- The words of a `route` line that were read are within their bounds.
use Rattle.std.proofs.Common.{◌≡◌, ◌<◌, ◌≤◌, ◌^◌, ℕ, Bool, true, false, cond, List, [], ◌∷◌, subst, arith, codes, bytes_eq, Option, Some, None}
use Rattle.std.specs.Prelude.{option_map}
use Rattle.std.specs.Option.{IfSome}
use Rattle.std.proofs.lemmas.Bool.{and_parts, eqb-true, leb-true}
use Rattle.std.proofs.lemmas.Option.{cond_some}
use Rattle.sock_addrs.specs.Link.{IsLinkSockaddr}
use Rattle.sock_addrs.specs.declared.gate.Gate.{Gate}
use Rattle.sock_addrs.specs.declared.gate.Gate.TheVariants as gate
use Rattle.event_file.specs.declared.route_line.AddressOptions.{AddressOptions}
use Rattle.event_file.specs.declared.route_line.BitOptions.{BitOptions}
use Rattle.event_file.specs.declared.route_line.Destination.{Destination}
use Rattle.event_file.specs.declared.route_words.MetricWords.{MetricWords}
use Rattle.event_file.specs.declared.route_words.RouteWords.{RouteWords}
use Rattle.event_file.specs.RouteLaws.{AreMetricWords, AreRouteWords, IsGate, IsMetric, IsPrefix}
use Rattle.event_file.specs.RouteLine.{address_options, behind_addresses, behind_bits, bit_options, destination_of, destination_of_parts, gate_if_written, hex_if_written, if_none_left, mask_if_written, metric_options, number_if_written, option_behind, route_words_of, verb_of, words_behind_all}
use Rattle.event_file.specs.Words.{bytes_to, gate_of, gate_of_parts, inet_of, is_link_sockaddr, link_of, number_to, parted_by}
use Rattle.event_file.proofs.ReadWords.{bind_some, bytes_to-Some, hex_number_of-Some, inet_of-Some, inside, mapped_some, number_to-Some, written_some}

-- ---- gateways

is_link : (bytes : List ℕ) → is_link_sockaddr bytes ≡ true → IsLinkSockaddr bytes
is_link bytes h =
    let (sized, second) = and_parts _ _ h in
    let (bounds, first) = and_parts _ _ sized in
    let (least, most) = and_parts _ _ bounds in
    record { least = leb-true _ _ least; most = leb-true _ _ most; length_byte = eqb-true _ _ first; family = eqb-true _ _ second }

link_of-Some : (word sockaddr : List ℕ) → link_of word ≡ Some sockaddr → IsGate (gate.Link sockaddr)
link_of-Some word sockaddr h =
    let (bytes, are, said) = bind_some (bytes_to 32 word) _ sockaddr h in
    let (is, same) = cond_some (is_link_sockaddr bytes) bytes sockaddr said in
    subst (λ b. IsGate (gate.Link b)) same (is_link bytes is, (bytes_to-Some 32 word bytes are).are)

gate_of_parts-Some : (parts : List (List ℕ)) (g : Gate) → gate_of_parts parts ≡ Some g → IsGate g
gate_of_parts-Some (address ∷ []) g h =
    let (a, is, same) = mapped_some gate.Inet (inet_of address) g h in
    subst IsGate same (inet_of-Some address a is)
gate_of_parts-Some (kind ∷ digits ∷ []) g h =
    elim (bytes_eq kind (codes "link")) as (λ (t : Bool). cond t (option_map gate.Link (link_of digits)) None ≡ Some g → IsGate g) [
      | true ↦ λ reads.
          let (l, is, same) = mapped_some gate.Link (link_of digits) g reads in
          subst IsGate same (link_of-Some digits l is)
      | false ↦ λ none. cc none
    ] h
gate_of_parts-Some parts g h = cc h

gate_of-Some : (word : List ℕ) (g : Gate) → gate_of word ≡ Some g → IsGate g
gate_of-Some word g h = gate_of_parts-Some (parted_by 58 word) g h

-- ---- options

gate-written : (word : Option (List ℕ)) (g : Option Gate) → gate_if_written word ≡ Some g → IfSome g IsGate
gate-written word g h = written_some gate_of IsGate gate_of-Some word g h

mask-written : (word : Option (List ℕ)) (p : Option ℕ) → mask_if_written word ≡ Some p → IsPrefix p
mask-written word p h = written_some (number_to 32) (λ p. p ≤ 32) (number_to-Some 32) word p h

number-written : (word : Option (List ℕ)) (n : Option ℕ) → number_if_written word ≡ Some n → IsMetric n
number-written word n h =
    written_some (number_to 4294967295) (λ n. n < 2 ^ 32) (λ word n is. omega (arith, number_to-Some 4294967295 word n is)) word n h

hex-written : (word : Option (List ℕ)) (n : ℕ) → hex_if_written word ≡ Some n → n < 2 ^ 32
hex-written None n h = subst (λ k. k < 2 ^ 32) (inside 0 n h) (omega arith)
hex-written (Some word) n h = hex_number_of-Some word n h

-- ---- the destination

record IsDestination (d : Destination) : Type 0 where
  address : d.address < 2 ^ 32
  mask : IsPrefix d.mask

destination_of_parts-Some : (parts : List (List ℕ)) (d : Destination) → destination_of_parts parts ≡ Some d → IsDestination d
destination_of_parts-Some (address ∷ []) d h =
    let (a, is, said) = bind_some (inet_of address) _ d h in
    subst IsDestination (inside (record { address = a; mask = None }) d said) (record { address = inet_of-Some address a is; mask = tt })
destination_of_parts-Some (address ∷ bits ∷ []) d h =
    let (a, is, masked) = bind_some (inet_of address) _ d h in
    let (p, small, said) = bind_some (number_to 32 bits) _ d masked in
    subst IsDestination (inside (record { address = a; mask = Some p }) d said) (record { address = inet_of-Some address a is; mask = number_to-Some 32 bits p small })
destination_of_parts-Some parts d h = cc h

destination_of-Some : (word : List ℕ) (d : Destination) → destination_of word ≡ Some d → IsDestination d
destination_of-Some word d h =
    let whole : Destination = record { address = 0; mask = Some 0 } in
    elim (bytes_eq word (codes "default")) as (λ (t : Bool). cond t (Some whole) (destination_of_parts (parted_by 47 word)) ≡ Some d → IsDestination d) [
      | true ↦ λ all. subst IsDestination (inside whole d all) (record { address = omega arith; mask = omega arith })
      | false ↦ λ parts. destination_of_parts-Some (parted_by 47 word) d parts
    ] h

-- ---- the options together

record AreAddresses (a : AddressOptions) : Type 0 where
  gateway : IfSome a.gateway IsGate
  genmask : IsPrefix a.genmask
  ifp : IfSome a.ifp IsGate
  ifa : IfSome a.ifa IsGate

address_options-Some : (words : List (List ℕ)) (a : AddressOptions) → address_options words ≡ Some a → AreAddresses a
address_options-Some words a h =
    let at_via = option_behind [] "via" words in
    let at_genmask = option_behind ("via" ∷ []) "genmask" words in
    let at_ifp = option_behind ("via" ∷ "genmask" ∷ []) "ifp" words in
    let at_ifa = option_behind ("via" ∷ "genmask" ∷ "ifp" ∷ []) "ifa" words in
    let (gateway, via, hv) = bind_some (gate_if_written at_via) _ a h in
    let (genmask, bits, hg) = bind_some (mask_if_written at_genmask) _ a hv in
    let (ifp, link, hi) = bind_some (gate_if_written at_ifp) _ a hg in
    let (ifa, its, said) = bind_some (gate_if_written at_ifa) _ a hi in
    let made : AddressOptions = record { gateway = gateway; genmask = genmask; ifp = ifp; ifa = ifa } in
    subst AreAddresses (inside made a said) (record {
      gateway = gate-written at_via gateway via;
      genmask = mask-written at_genmask genmask bits;
      ifp = gate-written at_ifp ifp link;
      ifa = gate-written at_ifa ifa its;
    })

record AreBits (b : BitOptions) : Type 0 where
  flags : b.flags < 2 ^ 32
  inits : b.inits < 2 ^ 32
  locks : b.locks < 2 ^ 32

bit_options-Some : (words : List (List ℕ)) (b : BitOptions) → bit_options words ≡ Some b → AreBits b
bit_options-Some words b h =
    let at_flags = option_behind [] "flags" words in
    let at_inits = option_behind ("flags" ∷ []) "inits" words in
    let at_locks = option_behind ("flags" ∷ "inits" ∷ []) "locks" words in
    let (flags, first, hf) = bind_some (hex_if_written at_flags) _ b h in
    let (inits, second, hi) = bind_some (hex_if_written at_inits) _ b hf in
    let (locks, third, said) = bind_some (hex_if_written at_locks) _ b hi in
    let made : BitOptions = record { flags = flags; inits = inits; locks = locks } in
    subst AreBits (inside made b said) (record {
      flags = hex-written at_flags flags first;
      inits = hex-written at_inits inits second;
      locks = hex-written at_locks locks third;
    })

none_left-same : {T : Type 0} (words : List (List ℕ)) (value said : T) → if_none_left words value ≡ Some said → value ≡ said
none_left-same [] value said h = cc h
none_left-same (word ∷ words) value said h = cc h

metric_options-Some : (words : List (List ℕ)) (m : MetricWords) → metric_options words ≡ Some m → AreMetricWords m
metric_options-Some words m h =
    let behind = words_behind_all ("mtu" ∷ "hopcount" ∷ "expire" ∷ "recvpipe" ∷ []) words in
    let at_mtu = option_behind [] "mtu" words in
    let at_hopcount = option_behind ("mtu" ∷ []) "hopcount" words in
    let at_expire = option_behind ("mtu" ∷ "hopcount" ∷ []) "expire" words in
    let at_recvpipe = option_behind ("mtu" ∷ "hopcount" ∷ "expire" ∷ []) "recvpipe" words in
    let at_sendpipe = option_behind [] "sendpipe" behind in
    let at_ssthresh = option_behind ("sendpipe" ∷ []) "ssthresh" behind in
    let at_rtt = option_behind ("sendpipe" ∷ "ssthresh" ∷ []) "rtt" behind in
    let at_rttvar = option_behind ("sendpipe" ∷ "ssthresh" ∷ "rtt" ∷ []) "rttvar" behind in
    let (mtu, i1, h1) = bind_some (number_if_written at_mtu) _ m h in
    let (hopcount, i2, h2) = bind_some (number_if_written at_hopcount) _ m h1 in
    let (expire, i3, h3) = bind_some (number_if_written at_expire) _ m h2 in
    let (recvpipe, i4, h4) = bind_some (number_if_written at_recvpipe) _ m h3 in
    let (sendpipe, i5, h5) = bind_some (number_if_written at_sendpipe) _ m h4 in
    let (ssthresh, i6, h6) = bind_some (number_if_written at_ssthresh) _ m h5 in
    let (rtt, i7, h7) = bind_some (number_if_written at_rtt) _ m h6 in
    let (rttvar, i8, h8) = bind_some (number_if_written at_rttvar) _ m h7 in
    let made : MetricWords = record {
      mtu = mtu;
      hopcount = hopcount;
      expire = expire;
      recvpipe = recvpipe;
      sendpipe = sendpipe;
      ssthresh = ssthresh;
      rtt = rtt;
      rttvar = rttvar;
    } in
    let left = words_behind_all ("sendpipe" ∷ "ssthresh" ∷ "rtt" ∷ "rttvar" ∷ []) behind in
    subst AreMetricWords (none_left-same left made m h8) (record {
      of_mtu = number-written at_mtu mtu i1;
      of_hopcount = number-written at_hopcount hopcount i2;
      of_expire = number-written at_expire expire i3;
      of_recvpipe = number-written at_recvpipe recvpipe i4;
      of_sendpipe = number-written at_sendpipe sendpipe i5;
      of_ssthresh = number-written at_ssthresh ssthresh i6;
      of_rtt = number-written at_rtt rtt i7;
      of_rttvar = number-written at_rttvar rttvar i8;
    })

pub route_words_of-Some : (words : List (List ℕ)) (w : RouteWords) → route_words_of words ≡ Some w → AreRouteWords w
route_words_of-Some (seq ∷ verb ∷ to ∷ options) w h =
    let (s, is, hs) = bind_some (number_to 4294967295 seq) _ w h in
    let (v, _, hv) = bind_some (verb_of verb) _ w hs in
    let (d, id, hd) = bind_some (destination_of to) _ w hv in
    let (a, ia, ha) = bind_some (address_options options) _ w hd in
    let (b, ib, hb) = bind_some (bit_options (behind_addresses options)) _ w ha in
    let (m, im, hm) = bind_some (metric_options (behind_bits (behind_addresses options))) _ w hb in
    let address = destination_of-Some to d id in
    let addresses = address_options-Some options a ia in
    let bits = bit_options-Some (behind_addresses options) b ib in
    let made : RouteWords = record {
      seq = s;
      verb = v;
      destination = d.address;
      netmask = d.mask;
      gateway = a.gateway;
      genmask = a.genmask;
      ifp = a.ifp;
      ifa = a.ifa;
      flags = b.flags;
      inits = b.inits;
      locks = b.locks;
      metrics = m;
    } in
    subst AreRouteWords (inside made w hm) (record {
      of_seq = omega (arith, number_to-Some 4294967295 seq s is);
      of_destination = address.address;
      of_netmask = address.mask;
      of_gateway = addresses.gateway;
      of_genmask = addresses.genmask;
      of_ifp = addresses.ifp;
      of_ifa = addresses.ifa;
      of_flags = bits.flags;
      of_inits = bits.inits;
      of_locks = bits.locks;
      of_metrics = metric_options-Some (behind_bits (behind_addresses options)) m im;
    })
route_words_of-Some words w h = cc h
