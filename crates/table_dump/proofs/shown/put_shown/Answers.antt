use Rattle.std.proofs.Common.{◌≡◌, ◌∙◌, rules, take, sym, arith}
use Rattle.radix_tree.specs.declared.entry.Entry.{Entry}
use Rattle.route_entries.specs.declared.route.Route.{Route}
use Rattle.route_entries.specs.Addresses.{route_addresses}
use Rattle.route_msgs.specs.AddrInfo.{address_bytes}
use Rattle.route_msgs.specs.Headers.{route_head}
use Rattle.table_dump.specs.Dumps.{shown_as}
use Rattle.table_dump.proofs.Showing.{head_is, headed, shown_whole}
use Rattle.table_dump.proofs.shown.put_shown.Goals as goal

pub returns : goal.returns
returns c =
    let r : Entry Route = record { key = c.args.key; rank = c.args.rank; value = c.args.route.now } in
    let laid = c.put_addresses-size in
    let size = laid.result in
    let behind = address_bytes (route_addresses r.key r.rank r.value) in
    let put = headed (route_head size c.addrs.result c.header.result) behind c.args.room.now laid.new.room c.put_route_header.new.out size
    (omega arith) (omega arith) (search rules) (search rules) laid.ensures.end laid.ensures.text c.put_route_header.ensures in
    let is : take size c.put_route_header.new.out ≡ shown_as c.args.index r = put ∙ head_is c.args.index r size c.addrs.result c.header.result laid.ensures.end (c.addrs.ensures r.key) c.header.ensures in
    record {
      most = laid.ensures.most;
      message = is;
      size = search rules;
      whole = rw is (shown_whole c.args.index r size (sym laid.ensures.end) laid.ensures.most);
    }
