-- The messages that the world makes, each as a header and the addresses behind it; fields that are not named are 0.
use Rattle.std.specs.Prelude.{ℕ, List, bit_and, bit_or, Option, Some, None, option_map}
use Rattle.std.specs.Int.{bit_not, w16}
use Rattle.sock_addrs.specs.Errno.{errno_number}
use Rattle.sock_addrs.specs.Sockaddrs.{inet_sockaddr, mask_sockaddr}
use Rattle.sock_addrs.specs.declared.errno.Errno.{Errno}
use Rattle.sock_addrs.specs.declared.families.TheConstants.{AF_INET, AF_LINK}
use Rattle.sock_addrs.specs.declared.gate.Gate.{Gate}
use Rattle.sock_addrs.specs.declared.gate.Gate.TheVariants as gate
use Rattle.mask_table.specs.Ranks.{mask_of}
use Rattle.route_msgs.specs.AddrInfo.{gate_sockaddr, no_addresses, padded}
use Rattle.route_msgs.specs.Headers.{blank, route_message, ifa_flags, ifa_message}
use Rattle.route_msgs.specs.declared.addr_info.AddrInfo.{AddrInfo}
use Rattle.route_msgs.specs.declared.flags.TheConstants.{RTF_DONE, RTF_UP}
use Rattle.route_msgs.specs.declared.header.Header.{Header}
use Rattle.route_msgs.specs.declared.kinds.TheConstants.{RTM_ADD, RTM_DELADDR, RTM_DELETE, RTM_GET, RTM_LOSING, RTM_MISS, RTM_NEWADDR, RTM_REDIRECT, RTM_RESOLVE}
use Rattle.if_addrs.specs.declared.reference.Facts.{Facts}
use Rattle.radix_tree.specs.declared.entry.Entry.{Entry}
use Rattle.route_entries.specs.Addresses.{destination_addresses, route_addresses}
use Rattle.route_entries.specs.declared.route.Route.{Route}
use Rattle.route_ops.specs.declared.notice.Notice.{Notice}
use Rattle.route_ops.specs.declared.notice.Notice.TheVariants.{Miss, Resolve, Redirect, Losing}
use Rattle.route_core.specs.Telling.{Told, told}
use Rattle.route_core.specs.declared.messages.Shown.{Shown}

-- ---- addresses of interfaces

-- an address of an interface, with its mask and its far address, and the interface's link-layer address
abbrev pub interface_addresses : List ℕ → ℕ → Facts → AddrInfo
interface_addresses link address facts = record no_addresses {
  netmask = Some (mask_sockaddr facts.prefix);
  ifp = Some (padded link);
  ifa = Some (inet_sockaddr address);
  brd = Some (inet_sockaddr facts.far);
}

-- a message of this type about an address of the interface with this number and link-layer address
abbrev pub address_message : ℕ → ℕ → List ℕ → ℕ → Facts → List ℕ
address_message kind index link address facts =
    ifa_message
    (record {
      kind = kind;
      addrs = 0;
      flags = ifa_flags facts.cloning facts.routed;
      index = index;
      padding = 0;
      metric = 0;
    })
    (interface_addresses link address facts)

-- an interface has a new address, or one that goes
abbrev pub address_added : ℕ → List ℕ → ℕ → Facts → List ℕ
address_added index link address facts = address_message RTM_NEWADDR index link address facts

abbrev pub address_removed : ℕ → List ℕ → ℕ → Facts → List ℕ
address_removed index link address facts = address_message RTM_DELADDR index link address facts

-- a message of this type about the route of an address, with these flags
abbrev pub route_told : ℕ → ℕ → ℕ → Entry Route → List ℕ
route_told kind index flags r =
    route_message (record (blank kind) { index = index; flags = flags }) (destination_addresses r.key r.rank r.value)

-- the route of an address was added, or deleted: it is up no more
abbrev pub route_added : ℕ → Entry Route → List ℕ
route_added index r = route_told RTM_ADD index r.value.flags r

abbrev pub route_deleted : ℕ → Entry Route → List ℕ
route_deleted index r = route_told RTM_DELETE index (bit_and r.value.flags (bit_not w16 RTF_UP)) r

-- ---- the reply to a GET

-- to a GET with this header: the route, marked as done, with what is shown of its interface; padding, seq, errno and
-- inits as they were asked, and the asker's pid
abbrev pub route_got : Header → ℕ → Shown → Entry Route → List ℕ
route_got asked pid shown r =
    route_message
    (record (blank RTM_GET) {
      index = shown.index;
      padding = asked.padding;
      flags = bit_or r.value.flags RTF_DONE;
      pid = pid;
      seq = asked.seq;
      errno = asked.errno;
      use_count = r.value.use_count;
      inits = asked.inits;
      metrics = r.value.metrics;
    })
    (record (route_addresses r.key r.rank r.value) {
      ifp = option_map padded shown.ifp;
      ifa = option_map gate_sockaddr shown.ifa;
    })

-- ---- look-ups and redirects

-- the errno of a message, 0 where there is none
abbrev pub errno_or_zero : Option Errno → ℕ
errno_or_zero None = 0
errno_or_zero (Some errno) = errno_number errno

-- a message of this type about a look-up
abbrev pub looked_up : ℕ → Gate → Option Errno → List ℕ
looked_up kind about errno =
    route_message
    (record (blank kind) { flags = RTF_DONE; errno = errno_or_zero errno })
    (record no_addresses { dst = Some (gate_sockaddr about) })

-- the message of a redirect
abbrev pub redirected : ℕ → Gate → ℕ → ℕ → Option Errno → List ℕ
redirected destination gateway author flags errno =
    route_message
    (record (blank RTM_REDIRECT) { flags = flags; errno = errno_or_zero errno })
    (record no_addresses {
      dst = Some (inet_sockaddr destination);
      gateway = Some (gate_sockaddr gateway);
      author = Some (inet_sockaddr author);
    })

-- the message of a route that is doubted
abbrev pub doubted : ℕ → Gate → ℕ → ℕ → List ℕ
doubted destination gateway rank flags =
    route_message
    (record (blank RTM_LOSING) { flags = bit_or flags RTF_DONE })
    (record no_addresses {
      dst = Some (inet_sockaddr destination);
      gateway = Some (gate_sockaddr gateway);
      netmask = option_map mask_sockaddr (mask_of rank);
    })

abbrev pub notice_message : Notice → List ℕ
notice_message (Miss about errno) = looked_up RTM_MISS about errno
notice_message (Resolve about) = looked_up RTM_RESOLVE about None
notice_message (Redirect destination gateway author flags errno) = redirected destination gateway author flags errno
notice_message (Losing destination gateway rank flags) = doubted destination gateway rank flags

-- the family of its destination
abbrev pub gate_family : Gate → ℕ
gate_family (gate.Inet address) = AF_INET
gate_family (gate.Link sockaddr) = AF_LINK

abbrev pub notice_family : Notice → ℕ
notice_family (Miss about errno) = gate_family about
notice_family (Resolve about) = gate_family about
notice_family (Redirect destination gateway author flags errno) = AF_INET
notice_family (Losing destination gateway rank flags) = AF_INET

-- all hear it who hear that family
abbrev pub notice_told : Notice → Told
notice_told n = told (notice_message n) (notice_family n) None
