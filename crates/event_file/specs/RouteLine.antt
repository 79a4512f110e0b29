-- The words behind `route`: a socket, a number, a verb, a destination, and options, each at most once and in their
-- order.
use Prim.Native.String.{String}
use Rattle.std.specs.Prelude.{ℕ, if◌then◌else◌, List, [], ◌∷◌, codes, bytes_eq, Option, Some, None}
use Rattle.sock_addrs.specs.declared.gate.Gate.{Gate}
use Rattle.event_file.specs.RouteWords.{composed}
use Rattle.event_file.specs.Words.{◌>>=◌, parted_by, number_to, hex_number_of, inet_of, gate_of, option_written, words_behind, if_written}
use Rattle.event_file.specs.declared.route_words.MetricWords.{MetricWords}
use Rattle.event_file.specs.declared.route_words.RouteWords.{RouteWords}
use Rattle.event_file.specs.declared.route_words.Verb.{Verb}
use Rattle.event_file.specs.declared.route_words.Verb.TheVariants.{Add, Delete, Change, Get, Lock}
use Rattle.event_file.specs.declared.route_line.AddressOptions.{AddressOptions}
use Rattle.event_file.specs.declared.route_line.BitOptions.{BitOptions}
use Rattle.event_file.specs.declared.route_line.Destination.{Destination}

-- what is asked for
abbrev pub verb_of : List ℕ → Option Verb
verb_of word =
    if bytes_eq word (codes "add") then Some Add
    else if bytes_eq word (codes "delete") then Some Delete
    else if bytes_eq word (codes "change") then Some Change
    else if bytes_eq word (codes "get") then Some Get
    else if bytes_eq word (codes "lock") then Some Lock
    else None

-- an address without a mask or with one, by its parts around a slash
abbrev pub destination_of_parts : List (List ℕ) → Option Destination
destination_of_parts (address ∷ []) = do
  address ← inet_of address
  Some (record { address = address; mask = None })
destination_of_parts (address ∷ bits ∷ []) = do
  address ← inet_of address
  bits ← number_to 32 bits
  Some (record { address = address; mask = Some bits })
destination_of_parts parts = None

-- `A`, `A/P`, or `default`, which is 0.0.0.0/0
abbrev pub destination_of : List ℕ → Option Destination
destination_of word =
    if bytes_eq word (codes "default") then Some (record { address = 0; mask = Some 0 })
    else destination_of_parts (parted_by 47 word)

abbrev pub gate_if_written : Option (List ℕ) → Option (Option Gate)
gate_if_written word = if_written gate_of word

abbrev pub mask_if_written : Option (List ℕ) → Option (Option ℕ)
mask_if_written word = if_written (number_to 32) word

abbrev pub number_if_written : Option (List ℕ) → Option (Option ℕ)
number_if_written word = if_written (number_to 4294967295) word

-- a number in hexadecimal, and 0 where none is written
abbrev pub hex_if_written : Option (List ℕ) → Option ℕ
hex_if_written None = Some 0
hex_if_written (Some word) = hex_number_of word

-- a value, where no word is left
abbrev pub if_none_left : {T : Type 0} → List (List ℕ) → T → Option T
if_none_left [] value = Some value
if_none_left (word ∷ words) value = None

-- the words behind these options
abbrev pub words_behind_all : List String → List (List ℕ) → List (List ℕ)
words_behind_all [] words = words
words_behind_all (name ∷ names) words = words_behind_all names (words_behind (codes name) words)

-- the word of an option that stands behind these
abbrev pub option_behind : List String → String → List (List ℕ) → Option (List ℕ)
option_behind names name words = option_written (codes name) (words_behind_all names words)

-- the addresses among the options, which stand first
abbrev pub address_options : List (List ℕ) → Option AddressOptions
address_options words = do
  gateway ← gate_if_written (option_behind [] "via" words)
  genmask ← mask_if_written (option_behind ("via" ∷ []) "genmask" words)
  ifp ← gate_if_written (option_behind ("via" ∷ "genmask" ∷ []) "ifp" words)
  ifa ← gate_if_written (option_behind ("via" ∷ "genmask" ∷ "ifp" ∷ []) "ifa" words)
  Some (record { gateway = gateway; genmask = genmask; ifp = ifp; ifa = ifa })

abbrev pub behind_addresses : List (List ℕ) → List (List ℕ)
behind_addresses words = words_behind_all ("via" ∷ "genmask" ∷ "ifp" ∷ "ifa" ∷ []) words

-- the words of bits, which stand behind the addresses
abbrev pub bit_options : List (List ℕ) → Option BitOptions
bit_options words = do
  flags ← hex_if_written (option_behind [] "flags" words)
  inits ← hex_if_written (option_behind ("flags" ∷ []) "inits" words)
  locks ← hex_if_written (option_behind ("flags" ∷ "inits" ∷ []) "locks" words)
  Some (record { flags = flags; inits = inits; locks = locks })

abbrev pub behind_bits : List (List ℕ) → List (List ℕ)
behind_bits words = words_behind_all ("flags" ∷ "inits" ∷ "locks" ∷ []) words

-- the metrics, which stand behind the words of bits
abbrev pub metric_options : List (List ℕ) → Option MetricWords
metric_options words = do
  mtu ← number_if_written (option_behind [] "mtu" words)
  hopcount ← number_if_written (option_behind ("mtu" ∷ []) "hopcount" words)
  expire ← number_if_written (option_behind ("mtu" ∷ "hopcount" ∷ []) "expire" words)
  recvpipe ← number_if_written (option_behind ("mtu" ∷ "hopcount" ∷ "expire" ∷ []) "recvpipe" words)
  let behind = words_behind_all ("mtu" ∷ "hopcount" ∷ "expire" ∷ "recvpipe" ∷ []) words
  sendpipe ← number_if_written (option_behind [] "sendpipe" behind)
  ssthresh ← number_if_written (option_behind ("sendpipe" ∷ []) "ssthresh" behind)
  rtt ← number_if_written (option_behind ("sendpipe" ∷ "ssthresh" ∷ []) "rtt" behind)
  rttvar ← number_if_written (option_behind ("sendpipe" ∷ "ssthresh" ∷ "rtt" ∷ []) "rttvar" behind)
  if_none_left (words_behind_all ("sendpipe" ∷ "ssthresh" ∷ "rtt" ∷ "rttvar" ∷ []) behind)
      (record {
        mtu = mtu;
        hopcount = hopcount;
        expire = expire;
        recvpipe = recvpipe;
        sendpipe = sendpipe;
        ssthresh = ssthresh;
        rtt = rtt;
        rttvar = rttvar;
      })

-- the words behind `route ID`: `SEQ VERB DEST OPTION..`
abbrev pub route_words_of : List (List ℕ) → Option RouteWords
route_words_of (seq ∷ verb ∷ to ∷ options) = do
  seq ← number_to 4294967295 seq
  verb ← verb_of verb
  to ← destination_of to
  addresses ← address_options options
  bits ← bit_options (behind_addresses options)
  metrics ← metric_options (behind_bits (behind_addresses options))
  Some (record {
    seq = seq;
    verb = verb;
    destination = to.address;
    netmask = to.mask;
    gateway = addresses.gateway;
    genmask = addresses.genmask;
    ifp = addresses.ifp;
    ifa = addresses.ifa;
    flags = bits.flags;
    inits = bits.inits;
    locks = bits.locks;
    metrics = metrics;
  })
route_words_of words = None

-- the message that they compose
abbrev pub message_of : List (List ℕ) → Option (List ℕ)
message_of words = do
  said ← route_words_of words
  Some (composed said)
