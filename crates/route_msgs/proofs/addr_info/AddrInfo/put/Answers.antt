use Rattle.std.proofs.Common.{◌≡◌, ◌++◌, rules, arith, ◌∙◌}
use Rattle.route_msgs.specs.AddrInfo.{bytes_or_none}
use Rattle.route_msgs.proofs.AddressSizes.{longer, put_in_order, sizes_added}
use Rattle.route_msgs.proofs.addr_info.AddrInfo.put.Goals as goal

pub put-requires-8 : goal.put-requires-8
put-requires-8 c =
    omega (
      arith,
      c.requires,
      sizes_added c.args.self.now,
      longer c.put.new.message.items c.args.message.now.items (bytes_or_none c.args.self.now.dst) c.put.ensures,
      longer c.put-2.new.message.items c.put.new.message.items (bytes_or_none c.args.self.now.gateway) c.put-2.ensures,
      longer c.put-3.new.message.items c.put-2.new.message.items (bytes_or_none c.args.self.now.netmask) c.put-3.ensures,
      longer c.put-4.new.message.items c.put-3.new.message.items (bytes_or_none c.args.self.now.genmask) c.put-4.ensures,
      longer c.put-5.new.message.items c.put-4.new.message.items (bytes_or_none c.args.self.now.ifp) c.put-5.ensures,
      longer c.put-6.new.message.items c.put-5.new.message.items (bytes_or_none c.args.self.now.ifa) c.put-6.ensures,
      longer c.put-7.new.message.items c.put-6.new.message.items (bytes_or_none c.args.self.now.author) c.put-7.ensures,
    )

pub returns : goal.returns
returns c =
    let now = c.args.self.now in
    let m = c.args.message.now.items in
    let put : c.put-8.new.message.items
    ≡ (((((((m ++ bytes_or_none now.dst) ++ bytes_or_none now.gateway) ++ bytes_or_none now.netmask) ++ bytes_or_none now.genmask) ++ bytes_or_none now.ifp) ++ bytes_or_none now.ifa) ++ bytes_or_none now.author) ++ bytes_or_none now.brd
    = search rules in
    put ∙ put_in_order m now
