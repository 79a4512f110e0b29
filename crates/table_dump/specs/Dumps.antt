-- Dumps: the routes of a table as messages, and as many of these as fit a buffer.
use Rattle.std.specs.Prelude.{◌≡◌, ℕ, ◌-◌, ◌^◌, ◌≤◌, nat_le, nat_lt, Bool, true, if◌then◌else◌, min, List, [], ◌∷◌, filter, length, map, Option, Some, None}
use Rattle.std.specs.List.{flat_map, sum_by}
use Rattle.sock_addrs.specs.declared.errno.Errno.{Errno}
use Rattle.sock_addrs.specs.declared.errno.Errno.TheVariants.{ENOMEM}
use Rattle.route_msgs.specs.Headers.{blank, route_message}
use Rattle.route_msgs.specs.Layout.{number_at}
use Rattle.route_msgs.specs.declared.kinds.TheConstants.{RTM_GET}
use Rattle.if_addrs.specs.Interfaces.{Interface, interface_of}
use Rattle.radix_tree.specs.declared.entry.Entry.{Entry}
use Rattle.route_entries.specs.Addresses.{route_addresses}
use Rattle.route_entries.specs.Routes.{has_flag}
use Rattle.route_entries.specs.declared.route.Route.{Route}

-- the route is asked for: each one is where there is no filter, and otherwise one that has a flag of the filter
abbrev pub is_asked : Option ℕ → Route → Bool
is_asked None r = true
is_asked (Some flags) r = has_flag flags r

-- a route as a message, of the interface with this index: its flags, use count and metrics, and all its addresses
abbrev pub shown_as : ℕ → Entry Route → List ℕ
shown_as index r =
    route_message
    (record (blank RTM_GET) {
      index = index;
      flags = r.value.flags;
      use_count = r.value.use_count;
      metrics = r.value.metrics;
    })
    (route_addresses r.key r.rank r.value)

-- a route as a message, of the interface that it leaves by
abbrev pub shown : List Interface → Entry Route → List ℕ
shown interfaces r = shown_as (interface_of r.value.ifa interfaces) r

-- the messages of the routes that are asked for, in table order
abbrev pub shown_of : Option ℕ → List Interface → List (Entry Route) → List (List ℕ)
shown_of flags interfaces table = map (shown interfaces) (filter (λ r. is_asked flags r.value) table)

-- messages one after another
abbrev pub bytes_of : List (List ℕ) → List ℕ
bytes_of messages = flat_map (λ m. m) messages

-- how many bytes the messages are
abbrev pub size_of : List (List ℕ) → ℕ
size_of messages = sum_by length messages

-- as many, or the greatest number of 64 bits where they are more
abbrev pub total_of : List (List ℕ) → ℕ
total_of messages = min (size_of messages) (2 ^ 64 - 1)

-- the whole messages from the front that fit so many bytes
abbrev pub fitting : ℕ → List (List ℕ) → List (List ℕ)
fitting room [] = []
fitting room (m ∷ ms) = if nat_le (length m) room then m ∷ fitting (room - length m) ms else []

-- whether they are not all
abbrev pub dump_fault : ℕ → List (List ℕ) → Option Errno
dump_fault room messages = if nat_lt room (total_of messages) then Some ENOMEM else None

-- a message that begins with its length, two bytes, and has a whole header
pub record IsWhole (message : List ℕ) : Type 0 where
  pub least : 76 ≤ length message
  pub says_size : number_at 0 2 message ≡ length message
