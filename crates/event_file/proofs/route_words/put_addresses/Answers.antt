use Rattle.std.proofs.Common.{◌≡◌, ◌+◌, ◌∙◌, ◌++◌, ℕ, List, [], length, ap, arith, rules, append_assoc, append-nil}
use Rattle.std.specs.Prelude.{option_map}
use Rattle.sock_addrs.specs.Sockaddrs.{inet_sockaddr, mask_sockaddr}
use Rattle.route_msgs.specs.AddrInfo.{bytes_or_none, gate_sockaddr}
use Rattle.route_msgs.specs.Pasted.{pasted}
use Rattle.route_msgs.proofs.PutAddresses.{Laid, Laid-more}
use Rattle.event_file.proofs.route_words.put_addresses.Goals as goal

-- addresses in the order in which they follow each other
in_turn : (a b c d e f : List ℕ) → ((((a ++ b) ++ c) ++ d) ++ e) ++ f ≡ a ++ (b ++ (c ++ (d ++ (e ++ (f ++ [])))))
in_turn a b c d e f = simp (append_assoc, append-nil)

pub returns : goal.returns
returns c =
    let w = c.args.words.now in let room = c.args.room.now in
    let dst = inet_sockaddr w.destination in
    let gateway = bytes_or_none (option_map gate_sockaddr w.gateway) in
    let netmask = bytes_or_none (option_map mask_sockaddr w.netmask) in
    let genmask = bytes_or_none (option_map mask_sockaddr w.genmask) in
    let ifp = bytes_or_none (option_map gate_sockaddr w.ifp) in
    let ifa = bytes_or_none (option_map gate_sockaddr w.ifa) in
    let is_netmask : c.map.result ≡ w.netmask = search rules in
    let is_genmask : c.map-2.result ≡ w.genmask = search rules in
    let first : Laid room c.put_inet-gateway.new.room c.put_inet-gateway.result dst = record {
      stand = c.put_inet-gateway.ensures.text;
      ended = c.put_inet-gateway.ensures.end;
    } in
    let second = Laid-more room c.put_inet-gateway.new.room c.put_gate-netmask.new.room c.put_inet-gateway.result c.put_gate-netmask.result dst gateway
    first (omega arith) c.put_gate-netmask.ensures.text c.put_gate-netmask.ensures.end in
    let third = Laid-more room c.put_gate-netmask.new.room c.put_mask-genmask.new.room c.put_gate-netmask.result c.put_mask-genmask.result
    (dst ++ gateway) netmask
    second (omega arith) (rw is_netmask at c.put_mask-genmask.ensures.text) (rw is_netmask at c.put_mask-genmask.ensures.end) in
    let fourth = Laid-more room c.put_mask-genmask.new.room c.put_mask-ifp.new.room c.put_mask-genmask.result c.put_mask-ifp.result
    ((dst ++ gateway) ++ netmask) genmask
    third (omega arith) (rw is_genmask at c.put_mask-ifp.ensures.text) (rw is_genmask at c.put_mask-ifp.ensures.end) in
    let fifth = Laid-more room c.put_mask-ifp.new.room c.put_gate-ifa.new.room c.put_mask-ifp.result c.put_gate-ifa.result
    (((dst ++ gateway) ++ netmask) ++ genmask) ifp
    fourth (omega arith) c.put_gate-ifa.ensures.text c.put_gate-ifa.ensures.end in
    let last = Laid-more room c.put_gate-ifa.new.room c.put_gate.new.room c.put_gate-ifa.result c.put_gate.result
    ((((dst ++ gateway) ++ netmask) ++ genmask) ++ ifp) ifa
    fifth (omega arith) c.put_gate.ensures.text c.put_gate.ensures.end in
    let all = in_turn dst gateway netmask genmask ifp ifa in
    record {
      end = last.ended ∙ ap (λ (b : List ℕ). 76 + length b) all;
      most = omega arith;
      text = last.stand ∙ ap (λ (b : List ℕ). pasted 76 b room) all;
    }
