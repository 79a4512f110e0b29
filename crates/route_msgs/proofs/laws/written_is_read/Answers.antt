use Rattle.std.proofs.Common.{◌≡◌, ℕ, ◌+◌, true, false, ◌&&◌, ◌==◌, not, nat_lt, length, refl, sym, ap, ◌∙◌, arith}
use Rattle.std.specs.Int.{bit_at}
use Rattle.std.proofs.lemmas.Bool.{eq-eqb, le-ltb}
use Rattle.route_msgs.specs.Layout.{number_at}
use Rattle.route_msgs.specs.Headers.{route_head, route_message}
use Rattle.route_msgs.specs.AddrInfo.{in_order, address_bytes, addrs_of}
use Rattle.route_msgs.specs.Written.{IsHeader, AreSockaddrs}
use Rattle.route_msgs.specs.declared.header.Header.{Header}
use Rattle.route_msgs.specs.declared.addr_info.AddrInfo.{AddrInfo}
use Rattle.route_msgs.proofs.HeadersRead.{length-head, length-message, size_read, version_read, addrs_read, header_read}
use Rattle.route_msgs.proofs.SlotsWritten.{IsJoined, room_written, slots_written}
use Rattle.route_msgs.proofs.AddressSizes.{named}
use Rattle.route_msgs.proofs.laws.written_is_read.Goals as goal

joined : (h : Header) (info : AddrInfo) → IsHeader h → AreSockaddrs info → IsJoined (route_message h info) (route_head (76 + length (address_bytes info)) (addrs_of info) h) (in_order info)
joined h info is are = record {
  whole = refl;
  header = length-head h info is are;
  eight = refl;
  names = λ k less. ap (λ (n : ℕ). bit_at n k == 1) (addrs_read h info is are) ∙ named info k less;
  addresses = are;
}

pub returns : goal.returns
returns c = λ h info is are.
    let m = route_message h info in
    let long : nat_lt (length m) 76 ≡ false = le-ltb (length m) 76 (omega (arith, length-message h info is are)) in
    let said : (number_at 0 2 m == length m) ≡ true = eq-eqb (number_at 0 2 m) (length m) (size_read h info is are) in (
      ap (λ b. not b && number_at 0 2 m == length m) long ∙ said,
      ap (λ (n : ℕ). n == 3) (version_read h info is are),
      room_written m _ (in_order info) (joined h info is are),
      sym (header_read h info is are),
      sym (slots_written m _ (in_order info) (joined h info is are)),
    )
