-- The options of a `route` line.
use Rattle.std.specs.Prelude.{ℕ, Bool, false, ◌||◌, List, [], ◌∷◌, drop, codes, bytes_eq}
use Rattle.line_faults.specs.declared.kinds.WordKind.{WordKind}
use Rattle.line_faults.specs.declared.kinds.WordKind.TheVariants.{Gateway, MaskLength, InterfaceAddress, FlagBits, Bits, Metric}
use Rattle.line_faults.specs.declared.options.RouteOption.{RouteOption}
use Rattle.line_faults.specs.declared.options.RouteOption.TheVariants as option

-- every option, in the order in which they may stand
abbrev pub all_options : List RouteOption
all_options = option.Via ∷ option.Genmask ∷ option.Ifp ∷ option.Ifa ∷ option.Flags ∷ option.Inits ∷ option.Locks
    ∷ option.Mtu ∷ option.Hopcount ∷ option.Expire ∷ option.Recvpipe ∷ option.Sendpipe ∷ option.Ssthresh ∷ option.Rtt
    ∷ option.Rttvar ∷ []

-- the word that begins it
abbrev pub option_text : RouteOption → List ℕ
option_text option.Via = codes "via"
option_text option.Genmask = codes "genmask"
option_text option.Ifp = codes "ifp"
option_text option.Ifa = codes "ifa"
option_text option.Flags = codes "flags"
option_text option.Inits = codes "inits"
option_text option.Locks = codes "locks"
option_text option.Mtu = codes "mtu"
option_text option.Hopcount = codes "hopcount"
option_text option.Expire = codes "expire"
option_text option.Recvpipe = codes "recvpipe"
option_text option.Sendpipe = codes "sendpipe"
option_text option.Ssthresh = codes "ssthresh"
option_text option.Rtt = codes "rtt"
option_text option.Rttvar = codes "rttvar"

-- what the word behind that one is
abbrev pub option_kind : RouteOption → WordKind
option_kind option.Via = Gateway
option_kind option.Genmask = MaskLength
option_kind option.Ifp = InterfaceAddress
option_kind option.Ifa = InterfaceAddress
option_kind option.Flags = FlagBits
option_kind option.Inits = Bits
option_kind option.Locks = Bits
option_kind option.Mtu = Metric
option_kind option.Hopcount = Metric
option_kind option.Expire = Metric
option_kind option.Recvpipe = Metric
option_kind option.Sendpipe = Metric
option_kind option.Ssthresh = Metric
option_kind option.Rtt = Metric
option_kind option.Rttvar = Metric

-- the word begins one of these options
abbrev pub begins_option : List RouteOption → List ℕ → Bool
begins_option [] word = false
begins_option (o ∷ options) word = bytes_eq word (option_text o) || begins_option options word

-- how many options stand before it
abbrev pub option_place : RouteOption → ℕ
option_place option.Via = 0
option_place option.Genmask = 1
option_place option.Ifp = 2
option_place option.Ifa = 3
option_place option.Flags = 4
option_place option.Inits = 5
option_place option.Locks = 6
option_place option.Mtu = 7
option_place option.Hopcount = 8
option_place option.Expire = 9
option_place option.Recvpipe = 10
option_place option.Sendpipe = 11
option_place option.Ssthresh = 12
option_place option.Rtt = 13
option_place option.Rttvar = 14

-- it and those behind it
abbrev pub options_from : RouteOption → List RouteOption
options_from o = drop (option_place o) all_options
