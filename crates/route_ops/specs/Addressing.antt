-- The routes that addresses of interfaces bring with them, and take away when they are removed.
use Rattle.std.specs.Prelude.{ℕ, ◌||◌, Bool, false, not, if◌then◌else◌, bit_or, List, Option, Some, None}
use Rattle.sock_addrs.specs.declared.gate.Gate.TheVariants as gate
use Rattle.mask_table.specs.Agreeing.{masked}
use Rattle.route_msgs.specs.Headers.{no_metrics}
use Rattle.route_msgs.specs.declared.flags.TheConstants.{RTF_CLONING, RTF_HOST, RTF_UP}
use Rattle.if_addrs.specs.Searches.{has_broadcast}
use Rattle.if_addrs.specs.declared.reference.Facts.{Facts}
use Rattle.if_addrs.specs.declared.reference.IfaRef.{IfaRef}
use Rattle.radix_tree.specs.Table.{best_of, entry_at, first_of}
use Rattle.radix_tree.specs.declared.entry.Entry.{Entry}
use Rattle.route_entries.specs.declared.route.Route.{Route}
use Rattle.route_ops.specs.Redirecting.{same_ifa}

-- the route leads to the network on a broadcast interface, and to the far address on the others
abbrev pub address_key : ℕ → Facts → ℕ
address_key address facts = if has_broadcast facts.kind then masked facts.prefix address else facts.far

abbrev pub address_rank : Facts → ℕ
address_rank facts = if has_broadcast facts.kind then facts.prefix else 33

-- it is up, cloning where the address is, and of a host where it leads to the far address
abbrev pub address_flags : Facts → ℕ
address_flags facts =
    let cloning = if facts.cloning then RTF_CLONING else 0 in
    let host = if has_broadcast facts.kind then 0 else RTF_HOST in
    bit_or (bit_or RTF_UP cloning) host

-- the route that an address brings, by way of the address itself
abbrev pub address_entry : IfaRef → ℕ → Facts → Entry Route
address_entry ifa address facts = record {
  key = address_key address facts;
  rank = address_rank facts;
  value = record {
    flags = address_flags facts;
    gateway = gate.Inet address;
    metrics = no_metrics;
    genmask = None;
    ifa = ifa;
    use_count = 0;
  };
}

-- there is a route, and it leads out of another interface address
abbrev pub is_anothers : IfaRef → Option (Entry Route) → Bool
is_anothers ifa None = false
is_anothers ifa (Some r) = not (same_ifa r.value.ifa ifa)

-- the route that an address takes away, by its key: with the address's rank on a broadcast interface, and the first
-- on the others
abbrev pub brought_by : ℕ → Facts → List (Entry Route) → Option (Entry Route)
brought_by key facts table = if has_broadcast facts.kind then entry_at key facts.prefix table else first_of key table

-- it takes away one only where it brought one, and where the best route of the key isn't another interface address's
-- by now
abbrev pub withdrawn : IfaRef → ℕ → Facts → List (Entry Route) → Option (Entry Route)
withdrawn ifa address facts table =
    let key = address_key address facts in
    if not facts.routed || is_anothers ifa (best_of key table) then None
    else brought_by key facts table
