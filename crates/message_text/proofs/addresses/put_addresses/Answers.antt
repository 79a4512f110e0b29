use Rattle.std.proofs.Common.{false, true, drop}
use Rattle.std.specs.Prelude.{codes}
use Rattle.route_msgs.specs.declared.bits.TheConstants.{RTA_AUTHOR, RTA_BRD, RTA_DST, RTA_GATEWAY, RTA_GENMASK, RTA_IFA, RTA_IFP, RTA_NETMASK}
use Rattle.message_text.specs.Addresses.{place, places}
use Rattle.message_text.specs.Room.{so_far}
use Rattle.message_text.proofs.Onto.{lines_then}
use Rattle.message_text.proofs.addresses.put_addresses.Goals as goal

pub returns-clause-text : goal.returns-clause-text
returns-clause-text c =
    let addrs = c.args.addrs in
    let before = so_far c.args.out.now.items c.args.room.now c.args.at in
    let to_gateway = so_far c.put_next.new.out.items c.put_next.new.room c.in_ok-gateway.gateway.0 in
    let to_netmask = so_far c.put_next-2.new.out.items c.put_next-2.new.room c.in_ok-netmask.netmask.0 in
    let to_genmask = so_far c.put_next-3.new.out.items c.put_next-3.new.room c.in_ok-genmask.genmask.0 in
    let to_ifp = so_far c.put_next-4.new.out.items c.put_next-4.new.room c.in_ok-ifp.ifp.0 in
    let to_ifa = so_far c.put_next-5.new.out.items c.put_next-5.new.room c.in_ok-ifa.ifa.0 in
    let to_author = so_far c.put_next-6.new.out.items c.put_next-6.new.room c.in_ok-author.author.0 in
    let to_brd = so_far c.put_next-7.new.out.items c.put_next-7.new.room c.in_ok-brd.brd.0 in
    let to_behind = so_far c.put_next-8.new.out.items c.put_next-8.new.room c.in_ok-behind.behind.0 in
    let end = so_far c.put_rest.new.out.items c.put_rest.new.room c.in_ok-end.end in
    let from_behind = lines_then (place RTA_BRD (codes " BRD ") false) (drop 8 places) addrs c.in_ok-brd.brd.1.now c.in_ok-behind.behind.1.now to_brd to_behind end
    c.in_ok-behind.ensures.text c.in_ok-behind.ensures.rest c.in_ok-end.ensures.text in
    let from_brd = lines_then (place RTA_AUTHOR (codes " AUTHOR ") false) (drop 7 places) addrs c.in_ok-author.author.1.now c.in_ok-brd.brd.1.now to_author to_brd end
    c.in_ok-brd.ensures.text c.in_ok-brd.ensures.rest from_behind in
    let from_author = lines_then (place RTA_IFA (codes " IFA ") false) (drop 6 places) addrs c.in_ok-ifa.ifa.1.now c.in_ok-author.author.1.now to_ifa to_author end
    c.in_ok-author.ensures.text c.in_ok-author.ensures.rest from_brd in
    let from_ifa = lines_then (place RTA_IFP (codes " IFP ") false) (drop 5 places) addrs c.in_ok-ifp.ifp.1.now c.in_ok-ifa.ifa.1.now to_ifp to_ifa end
    c.in_ok-ifa.ensures.text c.in_ok-ifa.ensures.rest from_author in
    let from_ifp = lines_then (place RTA_GENMASK (codes " GENMASK ") true) (drop 4 places) addrs c.in_ok-genmask.genmask.1.now c.in_ok-ifp.ifp.1.now to_genmask to_ifp end
    c.in_ok-ifp.ensures.text c.in_ok-ifp.ensures.rest from_ifa in
    let from_genmask = lines_then (place RTA_NETMASK (codes " NETMASK ") true) (drop 3 places) addrs c.in_ok-netmask.netmask.1.now c.in_ok-genmask.genmask.1.now to_netmask to_genmask end
    c.in_ok-genmask.ensures.text c.in_ok-genmask.ensures.rest from_ifp in
    let from_netmask = lines_then (place RTA_GATEWAY (codes " GATEWAY ") false) (drop 2 places) addrs c.in_ok-gateway.gateway.1.now c.in_ok-netmask.netmask.1.now to_gateway to_netmask end
    c.in_ok-netmask.ensures.text c.in_ok-netmask.ensures.rest from_genmask in
    lines_then (place RTA_DST (codes " DST ") false) (drop 1 places) addrs c.args.bytes.now c.in_ok-gateway.gateway.1.now before to_gateway end
    c.in_ok-gateway.ensures.text c.in_ok-gateway.ensures.rest from_netmask
