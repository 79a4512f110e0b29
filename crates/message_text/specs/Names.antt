-- The names of types, errnos and bits, as <net/route.h>, <sys/errno.h> and <net/if.h> have them.
use Rattle.std.specs.Prelude.{ℕ, ◌==◌, ◌&&◌, not, Bool, true, if◌then◌else◌, List, [], ◌∷◌, ◌++◌, codes, decimal, bit_and, Option, Some, None, unwrap_or}
use Rattle.route_msgs.specs.declared.bits.TheConstants.{RTA_AUTHOR, RTA_BRD, RTA_DST, RTA_GATEWAY, RTA_GENMASK, RTA_IFA, RTA_IFP, RTA_NETMASK}
use Rattle.route_msgs.specs.declared.flags.TheConstants.{IFA_ROUTE, RTF_BLACKHOLE, RTF_CLONING, RTF_DONE, RTF_DYNAMIC, RTF_GATEWAY, RTF_HOST, RTF_LLINFO, RTF_MASK, RTF_MODIFIED, RTF_PROTO1, RTF_PROTO2, RTF_REJECT, RTF_STATIC, RTF_UP, RTF_XRESOLVE}
use Rattle.route_msgs.specs.declared.inits.TheConstants.{RTV_EXPIRE, RTV_HOPCOUNT, RTV_MTU, RTV_RPIPE, RTV_RTT, RTV_RTTVAR, RTV_SPIPE, RTV_SSTHRESH}
use Rattle.route_msgs.specs.declared.kinds.TheConstants.{RTM_ADD, RTM_CHANGE, RTM_DELADDR, RTM_DELETE, RTM_GET, RTM_LOCK, RTM_LOSING, RTM_MISS, RTM_NEWADDR, RTM_REDIRECT, RTM_RESOLVE}

-- a number with its name
pub record Named : Type 0 where
  pub number : ℕ
  pub name : List ℕ

abbrev pub named : ℕ → List ℕ → Named
named number name = record { number = number; name = name }

-- the name of a number in a table
abbrev pub name_among : List Named → ℕ → Option (List ℕ)
name_among [] n = None
name_among (x ∷ xs) n = if n == x.number then Some x.name else name_among xs n

abbrev pub kinds : List Named
kinds =
    named RTM_ADD (codes "RTM_ADD")
    ∷ named RTM_DELETE (codes "RTM_DELETE")
    ∷ named RTM_CHANGE (codes "RTM_CHANGE")
    ∷ named RTM_GET (codes "RTM_GET")
    ∷ named RTM_LOSING (codes "RTM_LOSING")
    ∷ named RTM_REDIRECT (codes "RTM_REDIRECT")
    ∷ named RTM_MISS (codes "RTM_MISS")
    ∷ named RTM_LOCK (codes "RTM_LOCK")
    ∷ named 9 (codes "RTM_OLDADD")
    ∷ named 10 (codes "RTM_OLDDEL")
    ∷ named RTM_RESOLVE (codes "RTM_RESOLVE")
    ∷ named RTM_NEWADDR (codes "RTM_NEWADDR")
    ∷ named RTM_DELADDR (codes "RTM_DELADDR")
    ∷ named 14 (codes "RTM_IFINFO")
    ∷ []

-- a type by its name, and one without a name by its number
abbrev pub kind_text : ℕ → List ℕ
kind_text kind = unwrap_or (name_among kinds kind) (decimal kind)

abbrev pub errnos : List Named
errnos =
    named 3 (codes "ESRCH")
    ∷ named 6 (codes "ENXIO")
    ∷ named 9 (codes "EBADF")
    ∷ named 12 (codes "ENOMEM")
    ∷ named 17 (codes "EEXIST")
    ∷ named 22 (codes "EINVAL")
    ∷ named 24 (codes "EMFILE")
    ∷ named 28 (codes "ENOSPC")
    ∷ named 40 (codes "EMSGSIZE")
    ∷ named 43 (codes "EPROTONOSUPPORT")
    ∷ named 45 (codes "EOPNOTSUPP")
    ∷ named 48 (codes "EADDRINUSE")
    ∷ named 49 (codes "EADDRNOTAVAIL")
    ∷ named 51 (codes "ENETUNREACH")
    ∷ named 55 (codes "ENOBUFS")
    ∷ named 59 (codes "ETOOMANYREFS")
    ∷ named 65 (codes "EHOSTUNREACH")
    ∷ []

-- an errno's name, or that it has none here
abbrev pub errno_name : ℕ → List ℕ
errno_name errno = unwrap_or (name_among errnos errno) (codes "unknown")

abbrev pub has_bit : ℕ → ℕ → Bool
has_bit n bit = not (bit_and n bit == 0)

-- the bit's name where the bit is set, behind a comma where another stands before it
unfoldable pub name_of_bit : Bool → ℕ → Named → List ℕ
name_of_bit first n bit =
    if has_bit n bit.number then (if first then bit.name else 44 ∷ bit.name) else []

-- no name stands yet
unfoldable pub still_first : Bool → ℕ → Named → Bool
still_first first n bit = first && not (has_bit n bit.number)

unfoldable pub names_from : Bool → List Named → ℕ → List ℕ
names_from first [] n = []
names_from first (bit ∷ bits) n = name_of_bit first n bit ++ names_from (still_first first n bit) bits n

-- whether none of them is set, so that no name stands yet
unfoldable pub first_after : Bool → List Named → ℕ → Bool
first_after first [] n = first
first_after first (bit ∷ bits) n = first_after (still_first first n bit) bits n

-- the names of the bits that are set, with commas between them
abbrev pub names : List Named → ℕ → List ℕ
names bits n = names_from true bits n

-- the flags of a route
unfoldable pub low_flag_names : List Named
low_flag_names =
    named RTF_UP (codes "UP")
    ∷ named RTF_GATEWAY (codes "GATEWAY")
    ∷ named RTF_HOST (codes "HOST")
    ∷ named RTF_REJECT (codes "REJECT")
    ∷ named RTF_DYNAMIC (codes "DYNAMIC")
    ∷ named RTF_MODIFIED (codes "MODIFIED")
    ∷ named RTF_DONE (codes "DONE")
    ∷ named RTF_MASK (codes "MASK")
    ∷ []

unfoldable pub high_flag_names : List Named
high_flag_names =
    named RTF_CLONING (codes "CLONING")
    ∷ named RTF_XRESOLVE (codes "XRESOLVE")
    ∷ named RTF_LLINFO (codes "LLINFO")
    ∷ named RTF_STATIC (codes "STATIC")
    ∷ named RTF_BLACKHOLE (codes "BLACKHOLE")
    ∷ named RTF_PROTO2 (codes "PROTO2")
    ∷ named RTF_PROTO1 (codes "PROTO1")
    ∷ []

unfoldable pub flag_names : List Named
flag_names = low_flag_names ++ high_flag_names

-- the flags of an interface's address
unfoldable pub ifa_flag_names : List Named
ifa_flag_names = named IFA_ROUTE (codes "ROUTE") ∷ named RTF_CLONING (codes "CLONING") ∷ []

-- the bits of inits and of locks
unfoldable pub metric_names : List Named
metric_names =
    named RTV_MTU (codes "MTU")
    ∷ named RTV_HOPCOUNT (codes "HOPCOUNT")
    ∷ named RTV_EXPIRE (codes "EXPIRE")
    ∷ named RTV_RPIPE (codes "RPIPE")
    ∷ named RTV_SPIPE (codes "SPIPE")
    ∷ named RTV_SSTHRESH (codes "SSTHRESH")
    ∷ named RTV_RTT (codes "RTT")
    ∷ named RTV_RTTVAR (codes "RTTVAR")
    ∷ []

-- the bits of addrs
unfoldable pub address_names : List Named
address_names =
    named RTA_DST (codes "DST")
    ∷ named RTA_GATEWAY (codes "GATEWAY")
    ∷ named RTA_NETMASK (codes "NETMASK")
    ∷ named RTA_GENMASK (codes "GENMASK")
    ∷ named RTA_IFP (codes "IFP")
    ∷ named RTA_IFA (codes "IFA")
    ∷ named RTA_AUTHOR (codes "AUTHOR")
    ∷ named RTA_BRD (codes "BRD")
    ∷ []
