-- The fields of a message that was written.
use Rattle.std.proofs.Common.{◌≡◌, ℕ, ◌+◌, ◌<◌, ◌≤◌, ◌^◌, true, List, ◌++◌, length, replicate, refl, sym, ap, ◌∙◌, arith, lit≤, lit<, length-append, drop_at}
use Rattle.std.specs.Prelude.{nat_le}
use Rattle.std.proofs.lemmas.Bool.{leb-true}
use Rattle.std.proofs.lemmas.List.{length-replicate}
use Rattle.route_msgs.specs.Layout.{Field, number_at, with_fields}
use Rattle.route_msgs.specs.Headers.{route_fields, route_head, route_message, ifa_fields, ifa_head, ifa_message, header_in, metrics_in}
use Rattle.route_msgs.specs.AddrInfo.{address_bytes, addrs_of}
use Rattle.route_msgs.specs.Written.{IsHeader, IsIfaHeader, AreSockaddrs, IsLaidOut}
use Rattle.route_msgs.specs.declared.header.Header.{Header}
use Rattle.route_msgs.specs.declared.header.IfaHeader.{IfaHeader}
use Rattle.route_msgs.specs.declared.addr_info.AddrInfo.{AddrInfo}
use Rattle.route_msgs.proofs.FieldsRead.{FitsIn, AllFitIn, are_clear, value_among, read_fields, length-with_fields, number_at-append}
use Rattle.route_msgs.specs.declared.kinds.TheConstants.{RTM_VERSION}
use Rattle.route_msgs.specs.declared.metrics.Metrics.{Metrics}
use Rattle.route_msgs.proofs.AddressSizes.{addresses_fit, addrs_of-lt}

infixr 20 ◌&◌
-- both, where more may follow
◌&◌ : {A B : Type 0} → A → B → A × B
a & b = (a, b)

-- a number that is small enough, at a place of the header
placed : {n : ℕ} {f : Field} → nat_le (f.offset + f.width) n ≡ true → f.value < 256 ^ f.width → FitsIn n f
placed there small = record { within = leb-true _ _ there; small = small }

route_fits : (size addrs : ℕ) (h : Header) → size < 2 ^ 16 → addrs < 2 ^ 32 → IsHeader h → AllFitIn 76 (route_fields size addrs h)
route_fits size addrs h a b f =
    placed refl a & placed refl (lit< tt) & placed refl f.of_kind & placed refl f.of_index & placed refl f.of_padding
    & placed refl f.of_flags & placed refl b & placed refl f.of_pid & placed refl f.of_seq & placed refl f.of_errno
    & placed refl f.of_use_count & placed refl f.of_inits & placed refl f.of_metrics.of_locks & placed refl f.of_metrics.of_mtu
    & placed refl f.of_metrics.of_hopcount & placed refl f.of_metrics.of_expire & placed refl f.of_metrics.of_recvpipe & placed refl f.of_metrics.of_sendpipe
    & placed refl f.of_metrics.of_ssthresh & placed refl f.of_metrics.of_rtt & placed refl f.of_metrics.of_rttvar & placed refl f.of_metrics.of_pksent & tt

ifa_fits : (size addrs : ℕ) (h : IfaHeader) → size < 2 ^ 16 → addrs < 2 ^ 32 → IsIfaHeader h → AllFitIn 20 (ifa_fields size addrs h)
ifa_fits size addrs h a b f =
    placed refl a & placed refl (lit< tt) & placed refl f.of_kind & placed refl b & placed refl f.of_flags
    & placed refl f.of_index & placed refl f.of_padding & placed refl f.of_metric & tt

-- ---- a header of n bytes with such fields, and what stands behind it

module _ (n : ℕ) (fields : List Field) (behind : List ℕ) (fit : AllFitIn n fields) where
  abbrev zeros : List ℕ
  zeros = replicate n 0

  abbrev head : List ℕ
  head = with_fields fields zeros

  length-zeros : length zeros ≡ n
  length-zeros = length-replicate n _

  fit_zeros : AllFitIn (length zeros) fields
  fit_zeros = rw length-zeros fit

  length-fields : length head ≡ n
  length-fields = length-with_fields fields zeros fit_zeros ∙ length-zeros

  length-whole : length (head ++ behind) ≡ n + length behind
  length-whole = omega (arith, length-append head behind, length-fields)

  -- a number is that of the last field at its place, and 0 where there is none
  number_read : (o w : ℕ) → o + w ≤ n → are_clear o w fields ≡ true → number_at o w (head ++ behind) ≡ value_among o w fields (number_at o w zeros)
  number_read o w within clear =
      number_at-append o w head behind (rw length-fields within)
      ∙ read_fields o w (number_at o w zeros) fields zeros fit_zeros clear refl

-- ---- a message about a route

record MetricsStand (m : List ℕ) (ms : Metrics) : Type 0 where
  locks : number_at 36 4 m ≡ ms.locks
  mtu : number_at 40 4 m ≡ ms.mtu
  hopcount : number_at 44 4 m ≡ ms.hopcount
  expire : number_at 48 4 m ≡ ms.expire
  recvpipe : number_at 52 4 m ≡ ms.recvpipe
  sendpipe : number_at 56 4 m ≡ ms.sendpipe
  ssthresh : number_at 60 4 m ≡ ms.ssthresh
  rtt : number_at 64 4 m ≡ ms.rtt
  rttvar : number_at 68 4 m ≡ ms.rttvar
  pksent : number_at 72 4 m ≡ ms.pksent

metrics_stand : (m : List ℕ) (ms : Metrics) → MetricsStand m ms → metrics_in m ≡ ms
metrics_stand m ms e =
    rw (e.locks, e.mtu, e.hopcount, e.expire, e.recvpipe, e.sendpipe, e.ssthresh, e.rtt, e.rttvar, e.pksent) refl

record HeaderStands (m : List ℕ) (h : Header) (named : ℕ) : Type 0 where
  of_kind : number_at 3 1 m ≡ h.kind
  of_index : number_at 4 2 m ≡ h.index
  of_padding : number_at 6 2 m ≡ h.padding
  of_flags : number_at 8 4 m ≡ h.flags
  of_addrs : number_at 12 4 m ≡ named
  of_pid : number_at 16 4 m ≡ h.pid
  of_seq : number_at 20 4 m ≡ h.seq
  of_errno : number_at 24 4 m ≡ h.errno
  of_use_count : number_at 28 4 m ≡ h.use_count
  of_inits : number_at 32 4 m ≡ h.inits
  of_metrics : metrics_in m ≡ h.metrics

header_stands : (m : List ℕ) (h : Header) (named : ℕ) → HeaderStands m h named → header_in m ≡ record h { addrs = named }
header_stands m h named e =
    let metrics : metrics_in m ≡ h.metrics = e.of_metrics in
    rw (e.of_kind, e.of_index, e.of_padding, e.of_flags, e.of_addrs, e.of_pid, e.of_seq, e.of_errno, e.of_use_count, e.of_inits)
    (ap (λ (ms : Metrics). record h { addrs = named; metrics = ms }) metrics)

module _ (h : Header) (info : AddrInfo) (is : IsHeader h) (are : AreSockaddrs info) where
  abbrev fields : List Field
  fields = route_fields (76 + length (address_bytes info)) (addrs_of info) h

  fits : AllFitIn 76 fields
  fits =
      let small : 76 + length (address_bytes info) < 2 ^ 16 = omega (arith, addresses_fit info are) in
      let few : addrs_of info < 2 ^ 32 = omega (arith, addrs_of-lt info) in
      route_fits (76 + length (address_bytes info)) (addrs_of info) h small few is

  pub length-head : length (route_head (76 + length (address_bytes info)) (addrs_of info) h) ≡ 76
  length-head = length-fields 76 fields (address_bytes info) fits

  pub length-message : length (route_message h info) ≡ 76 + length (address_bytes info)
  length-message = length-whole 76 fields (address_bytes info) fits

  field_read : (o w : ℕ) → o + w ≤ 76 → are_clear o w fields ≡ true → number_at o w (route_message h info) ≡ value_among o w fields (number_at o w (replicate 76 0))
  field_read = number_read 76 fields (address_bytes info) fits

  pub size_read : number_at 0 2 (route_message h info) ≡ length (route_message h info)
  size_read = field_read 0 2 (lit≤ tt) refl ∙ sym length-message

  pub version_read : number_at 2 1 (route_message h info) ≡ RTM_VERSION
  version_read = field_read 2 1 (lit≤ tt) refl

  pub addrs_read : number_at 12 4 (route_message h info) ≡ addrs_of info
  addrs_read = field_read 12 4 (lit≤ tt) refl

  metrics_read : MetricsStand (route_message h info) h.metrics
  metrics_read = record {
    locks = field_read 36 4 (lit≤ tt) refl;
    mtu = field_read 40 4 (lit≤ tt) refl;
    hopcount = field_read 44 4 (lit≤ tt) refl;
    expire = field_read 48 4 (lit≤ tt) refl;
    recvpipe = field_read 52 4 (lit≤ tt) refl;
    sendpipe = field_read 56 4 (lit≤ tt) refl;
    ssthresh = field_read 60 4 (lit≤ tt) refl;
    rtt = field_read 64 4 (lit≤ tt) refl;
    rttvar = field_read 68 4 (lit≤ tt) refl;
    pksent = field_read 72 4 (lit≤ tt) refl;
  }

  pub header_read : header_in (route_message h info) ≡ record h { addrs = addrs_of info }
  header_read = header_stands (route_message h info) h (addrs_of info) (record {
    of_kind = field_read 3 1 (lit≤ tt) refl;
    of_index = field_read 4 2 (lit≤ tt) refl;
    of_padding = field_read 6 2 (lit≤ tt) refl;
    of_flags = field_read 8 4 (lit≤ tt) refl;
    of_addrs = addrs_read;
    of_pid = field_read 16 4 (lit≤ tt) refl;
    of_seq = field_read 20 4 (lit≤ tt) refl;
    of_errno = field_read 24 4 (lit≤ tt) refl;
    of_use_count = field_read 28 4 (lit≤ tt) refl;
    of_inits = field_read 32 4 (lit≤ tt) refl;
    of_metrics = metrics_stand (route_message h info) h.metrics metrics_read;
  })

-- ---- a message about an interface's address

module _ (h : IfaHeader) (info : AddrInfo) (is : IsIfaHeader h) (are : AreSockaddrs info) where
  abbrev fields_of_ifa : List Field
  fields_of_ifa = ifa_fields (20 + length (address_bytes info)) (addrs_of info) h

  fits_ifa : AllFitIn 20 fields_of_ifa
  fits_ifa =
      let small : 20 + length (address_bytes info) < 2 ^ 16 = omega (arith, addresses_fit info are) in
      let few : addrs_of info < 2 ^ 32 = omega (arith, addrs_of-lt info) in
      ifa_fits (20 + length (address_bytes info)) (addrs_of info) h small few is

  ifa_read : (o w : ℕ) → o + w ≤ 20 → are_clear o w fields_of_ifa ≡ true → number_at o w (ifa_message h info) ≡ value_among o w fields_of_ifa (number_at o w (replicate 20 0))
  ifa_read = number_read 20 fields_of_ifa (address_bytes info) fits_ifa

  pub ifa_laid_out : IsLaidOut h info (ifa_message h info)
  ifa_laid_out = record {
    size = ifa_read 0 2 (lit≤ tt) refl ∙ sym (length-whole 20 fields_of_ifa (address_bytes info) fits_ifa);
    version = ifa_read 2 1 (lit≤ tt) refl;
    kind_there = ifa_read 3 1 (lit≤ tt) refl;
    addrs_there = ifa_read 4 4 (lit≤ tt) refl;
    flags_there = ifa_read 8 4 (lit≤ tt) refl;
    index_there = ifa_read 12 2 (lit≤ tt) refl;
    padding_there = ifa_read 14 2 (lit≤ tt) refl;
    metric_there = ifa_read 16 4 (lit≤ tt) refl;
    behind = drop_at (ifa_head (20 + length (address_bytes info)) (addrs_of info) h) (address_bytes info) 20 (length-fields 20 fields_of_ifa (address_bytes info) fits_ifa);
  }
