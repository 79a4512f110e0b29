-- What one more route adds to a dump.
use Rattle.std.proofs.Common.{◌≡◌, ◌≢◌, ℕ, zero, suc, ◌+◌, ◌-◌, ◌≤◌, ◌^◌, Bool, true, false, min, List, [], ◌∷◌, ◌++◌, filter, length, length-append, append-nil, drop, take, map, subst, Option, option_map, refl, sym, ap, ◌∙◌, arith}
use Rattle.std.proofs.lemmas.List.{append_assoc}
use Rattle.std.proofs.lemmas.List.Sums.{sum_by-cons}
use Rattle.route_msgs.proofs.PutAddresses.{message_put, message_size, put_behind}
use Rattle.route_msgs.proofs.SizesRead.{SaysLength, route_says}
use Rattle.sock_addrs.specs.Sockaddrs.{inet_sockaddr, mask_sockaddr}
use Rattle.mask_table.specs.Ranks.{mask_of}
use Rattle.route_msgs.specs.AddrInfo.{address_bytes, addrs_of, bytes_or_none, gate_sockaddr}
use Rattle.route_msgs.specs.Headers.{blank, route_head}
use Rattle.route_msgs.specs.Pasted.{pasted}
use Rattle.route_msgs.specs.declared.header.Header.{Header}
use Rattle.route_msgs.specs.declared.kinds.TheConstants.{RTM_GET}
use Rattle.if_addrs.specs.Interfaces.{Interface}
use Rattle.radix_tree.specs.declared.entry.Entry.{Entry}
use Rattle.route_entries.specs.Addresses.{route_addresses}
use Rattle.route_entries.specs.declared.route.Route.{Route}
use Rattle.table_dump.specs.Dumps.{IsWhole, is_asked, shown, shown_as, shown_of, size_of}

filter_yes : {X : Type 0} (p : X → Bool) (x : X) (xs : List X) → p x ≡ true → filter p (x ∷ xs) ≡ x ∷ filter p xs
filter_yes p x xs h = rw h refl

filter_no : {X : Type 0} (p : X → Bool) (x : X) (xs : List X) → p x ≡ false → filter p (x ∷ xs) ≡ filter p xs
filter_no p x xs h = rw h refl

-- a route that is asked for is shown in front of those behind it
pub asked : (flags : Option ℕ) (interfaces : List Interface) (r : Entry Route) (rest old : List (Entry Route)) → old ≡ r ∷ rest → is_asked flags r.value ≡ true
    → shown_of flags interfaces old ≡ shown interfaces r ∷ shown_of flags interfaces rest
asked flags interfaces r rest old is h =
    ap (λ (es : List (Entry Route)). shown_of flags interfaces es) is
    ∙ ap (λ (es : List (Entry Route)). map (shown interfaces) es) (filter_yes (λ (e : Entry Route). is_asked flags e.value) r rest h)

-- one that is not is passed over
pub passed : (flags : Option ℕ) (interfaces : List Interface) (r : Entry Route) (rest old : List (Entry Route)) → old ≡ r ∷ rest → is_asked flags r.value ≡ false
    → shown_of flags interfaces old ≡ shown_of flags interfaces rest
passed flags interfaces r rest old is h =
    ap (λ (es : List (Entry Route)). shown_of flags interfaces es) is
    ∙ ap (λ (es : List (Entry Route)). map (shown interfaces) es) (filter_no (λ (e : Entry Route). is_asked flags e.value) r rest h)

-- how long a mask is, where there is one
pub mask_length : (bits : ℕ) → bits ≢ 0 → length (mask_sockaddr bits) ≡ 8
mask_length zero h = absurd (h refl)
mask_length (suc bits) h = refl

-- how many bytes a route's addresses take
pub addresses_sized : (r : Entry Route) (given : Option ℕ) (gate mask genmask : ℕ) → given ≡ mask_of r.rank
    → gate ≡ length (gate_sockaddr r.value.gateway) → mask ≡ length (bytes_or_none (option_map mask_sockaddr given))
    → genmask ≡ length (bytes_or_none (option_map mask_sockaddr r.value.genmask))
    → length (address_bytes (route_addresses r.key r.rank r.value)) ≡ 16 + (gate + (mask + genmask))
addresses_sized r given gate mask genmask of_rank is is_mask is_genmask =
    let m = bytes_or_none (option_map mask_sockaddr (mask_of r.rank)) in
    let g = bytes_or_none (option_map mask_sockaddr r.value.genmask) in
    let here : mask ≡ length m = is_mask ∙ ap (λ (o : Option ℕ). length (bytes_or_none (option_map mask_sockaddr o))) of_rank in
    let parts : address_bytes (route_addresses r.key r.rank r.value) ≡ inet_sockaddr r.key ++ (gate_sockaddr r.value.gateway ++ (m ++ (g ++ []))) = refl in
    let key : length (inet_sockaddr r.key) ≡ 16 = refl in
    ap length parts
    ∙ omega (
      arith,
      is,
      here,
      is_genmask,
      key,
      length-append (inet_sockaddr r.key) (gate_sockaddr r.value.gateway ++ (m ++ (g ++ []))),
      length-append (gate_sockaddr r.value.gateway) (m ++ (g ++ [])),
      length-append m (g ++ []),
      length-append g [],
    )

-- a route's header, which says its size
abbrev pub header_of : ℕ → Entry Route → Header
header_of index r = record (blank RTM_GET) { index = index; flags = r.value.flags; use_count = r.value.use_count; metrics = r.value.metrics }

pub shown_says : (index : ℕ) (r : Entry Route) (size : ℕ) → 76 + length (address_bytes (route_addresses r.key r.rank r.value)) ≡ size → size ≤ 140 → SaysLength size (shown_as index r)
shown_says index r size is most =
    subst (λ (n : ℕ). SaysLength n (shown_as index r)) is (route_says (header_of index r) (route_addresses r.key r.rank r.value) (omega (arith, is, most)))

-- it is whole
pub shown_whole : (index : ℕ) (r : Entry Route) (size : ℕ) → 76 + length (address_bytes (route_addresses r.key r.rank r.value)) ≡ size → size ≤ 140 → IsWhole (shown_as index r)
shown_whole index r size is most =
    let says = shown_says index r size is most in
    record { least = omega (arith, says.size, is); says_size = says.says ∙ sym says.size }

-- ---- it is put to its place

-- addresses that follow one another
pub in_turn : (a b c d : List ℕ) → ((a ++ b) ++ c) ++ d ≡ a ++ (b ++ (c ++ (d ++ [])))
in_turn a b c d = simp (append_assoc, append-nil)

-- the header put before them makes the message at the front of the room
pub headed : (head behind room laid after : List ℕ) (size : ℕ) → 76 ≤ length room → size ≤ length room → length laid ≡ length room → length after ≡ length laid
    → size ≡ 76 + length behind → laid ≡ pasted 76 behind room → after ≡ head ++ drop 76 laid → take size after ≡ head ++ behind
headed head behind room laid after size header fits same still is stands put =
    let whole : size ≡ 0 + length (head ++ behind) = omega (arith, message_size head head behind laid after size refl is (omega (arith, header, same)) put still) in
    put_behind 0 (head ++ behind) room after size (omega arith) whole
    (message_put head head behind room laid after size refl is fits stands put ∙ ap (λ (n : ℕ). (head ++ behind) ++ drop n room) whole)

-- the header that says the size of the message and names its addresses
pub head_is : (index : ℕ) (r : Entry Route) (size addrs : ℕ) (header : Header) → size ≡ 76 + length (address_bytes (route_addresses r.key r.rank r.value))
    → addrs ≡ addrs_of (route_addresses r.key r.rank r.value) → header ≡ header_of index r
    → route_head size addrs header ++ address_bytes (route_addresses r.key r.rank r.value) ≡ shown_as index r
head_is index r size addrs header is named same = rw (is, named, same) refl

-- the total so far, and what is still to come
pub added : (t n : ℕ) (m : List ℕ) (ms : List (List ℕ)) → length m ≡ n → min (min (t + n) (2 ^ 64 - 1) + size_of ms) (2 ^ 64 - 1) ≡ min (t + size_of (m ∷ ms)) (2 ^ 64 - 1)
added t n m ms is = omega (arith, is, sum_by-cons length m ms)

-- where nothing is still to come, the total so far is that of all
pub ended : (flags : Option ℕ) (interfaces : List Interface) (t all : ℕ) (rest : List (Entry Route)) → rest ≡ [] → t ≤ 2 ^ 64 - 1
    → min (t + size_of (shown_of flags interfaces rest)) (2 ^ 64 - 1) ≡ all → t ≡ all
ended flags interfaces t all rest none most is =
    let nothing : size_of (shown_of flags interfaces rest) ≡ 0 = ap (λ (es : List (Entry Route)). size_of (shown_of flags interfaces es)) none in
    omega (arith, nothing, most, is)
