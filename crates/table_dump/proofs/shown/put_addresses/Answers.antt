use Rattle.std.proofs.Common.{◌≡◌, ◌+◌, ◌∙◌, ◌++◌, ℕ, List, length, ap, arith, rules}
use Rattle.std.specs.Prelude.{option_map}
use Rattle.sock_addrs.specs.Sockaddrs.{inet_sockaddr, mask_sockaddr}
use Rattle.mask_table.specs.Ranks.{mask_of}
use Rattle.route_msgs.specs.AddrInfo.{bytes_or_none, gate_sockaddr}
use Rattle.route_msgs.specs.Pasted.{pasted}
use Rattle.route_msgs.proofs.PutAddresses.{Laid, Laid-more}
use Rattle.table_dump.proofs.Showing.{in_turn}
use Rattle.table_dump.proofs.shown.put_addresses.Goals as goal

pub returns : goal.returns
returns c =
    let room = c.args.room.now in
    let key = inet_sockaddr c.args.key in
    let gateway = gate_sockaddr c.args.route.now.gateway in
    let netmask = bytes_or_none (option_map mask_sockaddr (mask_of c.args.rank)) in
    let genmask = bytes_or_none (option_map mask_sockaddr c.args.route.now.genmask) in
    let is_mask : c.map.result ≡ mask_of c.args.rank = search rules in
    let is_genmask : c.map-2.result ≡ c.args.route.now.genmask = search rules in
    let first : Laid room c.put_inet-gateway.new.room c.put_inet-gateway.result key = record {
      stand = c.put_inet-gateway.ensures.text;
      ended = c.put_inet-gateway.ensures.end;
    } in
    let second = Laid-more room c.put_inet-gateway.new.room c.put_gate-netmask.new.room c.put_inet-gateway.result c.put_gate-netmask.result
    key gateway
    first (omega arith) (rw c.gateway.ensures at c.put_gate-netmask.ensures.text) (rw c.gateway.ensures at c.put_gate-netmask.ensures.end) in
    let third = Laid-more room c.put_gate-netmask.new.room c.put_mask-genmask.new.room c.put_gate-netmask.result c.put_mask-genmask.result
    (key ++ gateway) netmask
    second (omega arith) (rw is_mask at c.put_mask-genmask.ensures.text) (rw is_mask at c.put_mask-genmask.ensures.end) in
    let last = Laid-more room c.put_mask-genmask.new.room c.put_mask.new.room c.put_mask-genmask.result c.put_mask.result
    ((key ++ gateway) ++ netmask) genmask
    third (omega arith) (rw is_genmask at c.put_mask.ensures.text) (rw is_genmask at c.put_mask.ensures.end) in
    let all = in_turn key gateway netmask genmask in
    record {
      end = last.ended ∙ ap (λ (b : List ℕ). 76 + length b) all;
      most = omega arith;
      text = last.stand ∙ ap (λ (b : List ℕ). pasted 76 b room) all;
    }
