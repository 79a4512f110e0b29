use Rattle.std.proofs.Common.{◌≡◌, ◌+◌, ◌∙◌, ℕ, length, ap, arith}
use Rattle.route_msgs.proofs.PutAddresses.{message_put, message_size}
use Rattle.route_msgs.specs.AddrInfo.{address_bytes, addrs_of}
use Rattle.route_msgs.specs.Headers.{route_head}
use Rattle.route_msgs.specs.declared.header.Header.{Header}
use Rattle.event_file.specs.RouteWords.{addresses_named, header_said}
use Rattle.event_file.proofs.route_words.put_composed.Goals as goal

head_is : (size addrs : ℕ) (h i : Header) (bytes named : ℕ) → size ≡ bytes → addrs ≡ named → h ≡ i → route_head size addrs h ≡ route_head bytes named i
head_is size addrs h i bytes named a b c =
    ap (λ (n : ℕ). route_head n addrs h) a ∙ ap (λ (n : ℕ). route_head bytes n h) b ∙ ap (λ (j : Header). route_head bytes named j) c

pub returns-clause-size : goal.returns-clause-size
returns-clause-size c =
    let w = c.args.words.now in let info = addresses_named w in
    let size = c.put_addresses-size.result in
    message_size (route_head size c.addrs.result c.header.result) (route_head (76 + length (address_bytes info)) (addrs_of info) (header_said w))
    (address_bytes info) c.put_addresses-size.new.room c.put_route_header.new.out size
    (head_is size c.addrs.result c.header.result (header_said w) (76 + length (address_bytes info)) (addrs_of info)
    c.put_addresses-size.ensures.end c.addrs.ensures c.header.ensures)
    c.put_addresses-size.ensures.end (omega arith) c.put_route_header.ensures (omega arith)

pub returns-clause-message : goal.returns-clause-message
returns-clause-message c =
    let w = c.args.words.now in let info = addresses_named w in
    let size = c.put_addresses-size.result in
    message_put (route_head size c.addrs.result c.header.result) (route_head (76 + length (address_bytes info)) (addrs_of info) (header_said w))
    (address_bytes info) c.args.room.now c.put_addresses-size.new.room c.put_route_header.new.out size
    (head_is size c.addrs.result c.header.result (header_said w) (76 + length (address_bytes info)) (addrs_of info)
    c.put_addresses-size.ensures.end c.addrs.ensures c.header.ensures)
    c.put_addresses-size.ensures.end (omega arith) c.put_addresses-size.ensures.text c.put_route_header.ensures
