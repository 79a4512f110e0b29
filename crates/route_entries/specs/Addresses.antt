-- The addresses of a route in a message.
use Rattle.std.specs.Prelude.{ℕ, Some, option_map}
use Rattle.sock_addrs.specs.Sockaddrs.{inet_sockaddr, mask_sockaddr}
use Rattle.mask_table.specs.Ranks.{mask_of}
use Rattle.route_msgs.specs.AddrInfo.{gate_sockaddr, no_addresses}
use Rattle.route_msgs.specs.declared.addr_info.AddrInfo.{AddrInfo}
use Rattle.route_entries.specs.declared.route.Route.{Route}

-- where a route leads: its key, its gateway, and its mask where it has one
abbrev pub destination_addresses : ℕ → ℕ → Route → AddrInfo
destination_addresses key rank r = record no_addresses {
  dst = Some (inet_sockaddr key);
  gateway = Some (gate_sockaddr r.gateway);
  netmask = option_map mask_sockaddr (mask_of rank);
}

-- a whole route: where it leads, and the mask of its clones where it has one
abbrev pub route_addresses : ℕ → ℕ → Route → AddrInfo
route_addresses key rank r = record (destination_addresses key rank r) { genmask = option_map mask_sockaddr r.genmask }
