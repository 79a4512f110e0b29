-- What a write of bytes asks is in the ranges of its types.
use Rattle.std.proofs.Common.{ℕ, zero, suc, ◌<◌, ◌≤◌, ◌^◌, ◌==◌, Bool, true, false, List, [], ◌∷◌, take, drop, Option, Some, None, arith, slice_index}
use Rattle.std.specs.Prelude.{IfSome, Result, Ok, Err, if◌then◌else◌, unwrap_or, ⊤}
use Rattle.std.specs.Int.{w32, from_be_bytes}
use Rattle.std.specs.List.{AllByRecursion}
use Rattle.std.specs.Option.{option_and_then}
use Rattle.std.specs.Result.{result_ok}
use Rattle.sock_addrs.specs.Reading.{ReadsMask, gate_at_front, number_of_inet, read_gate_of, read_mask_of}
use Rattle.sock_addrs.specs.Rules.{unless_fault}
use Rattle.sock_addrs.specs.Sockaddrs.{family}
use Rattle.sock_addrs.specs.declared.bad_addr.BadAddr.{BadAddr}
use Rattle.sock_addrs.specs.declared.families.TheConstants.{AF_INET}
use Rattle.sock_addrs.specs.declared.gate.Gate.{Gate}
use Rattle.sock_addrs.specs.declared.gate.Gate.TheVariants as gate
use Rattle.sock_addrs.proofs.MaskRead.{mask_computed}
use Rattle.route_msgs.specs.AddrInfo.{bytes_or_none}
use Rattle.route_msgs.specs.Headers.{header_in}
use Rattle.route_msgs.specs.Slots.{address_at, address_in, slot_in}
use Rattle.route_msgs.specs.declared.kinds.TheConstants.{RTM_ADD, RTM_CHANGE, RTM_DELETE, RTM_LOCK}
use Rattle.route_msgs.specs.declared.parsed.Slot.{Slot}
use Rattle.route_ops.specs.Tables.{IsChange, IsGate, IsMaskOrNone, IsNewRoute}
use Rattle.route_core.specs.Writes.{asks_interface, change_in, destination, destination_bytes, flags_in, gate_in, mask_in, new_route_in, request_in}
use Rattle.route_core.specs.declared.request.Request.{Request}
use Rattle.route_core.specs.declared.request.Request.TheVariants.{Add, Change, Delete, Get, Lock}
use Rattle.route_msgs.specs.declared.places.TheConstants.{RTAX_DST, RTAX_GATEWAY, RTAX_GENMASK, RTAX_NETMASK}

-- what holds of both branches holds of the choice
either : {X : Type 0} (P : X → Type 0) (b : Bool) (x y : X) → P x → P y → P (if b then x else y)
either P true x y p q = p
either P false x y p q = q

-- ---- bytes

abbrev AreBytes : List ℕ → Type 0
AreBytes m = AllByRecursion (λ b. b < 256) m

bytes_taken : (n : ℕ) (m : List ℕ) → AreBytes m → AreBytes (take n m)
bytes_taken zero m h = tt
bytes_taken (suc n) [] h = tt
bytes_taken (suc n) (b ∷ m) h = (h.0, bytes_taken n m h.1)

bytes_left : (n : ℕ) (m : List ℕ) → AreBytes m → AreBytes (drop n m)
bytes_left zero m h = h
bytes_left (suc n) [] h = tt
bytes_left (suc n) (b ∷ m) h = bytes_left n m h.1

byte_at : (m : List ℕ) (i : ℕ) → AreBytes m → slice_index m i < 256
byte_at [] i h = omega arith
byte_at (b ∷ m) zero h = h.0
byte_at (b ∷ m) (suc i) h = byte_at m i h.1

-- four of them are a number of 32 bits
number_below : (m : List ℕ) → AreBytes m → from_be_bytes w32 m < 2 ^ 32
number_below m h = omega (arith, byte_at m 0 h, byte_at m 1 h, byte_at m 2 h, byte_at m 3 h)

inet_below : (sockaddr : List ℕ) → AreBytes sockaddr → number_of_inet sockaddr < 2 ^ 32
inet_below sockaddr h = number_below (drop 4 (take 8 sockaddr))
    (bytes_left 4 (take 8 sockaddr) (bytes_taken 8 sockaddr h))

-- ---- addresses

address_of_bytes : (o : Option Slot) (m : List ℕ) → AreBytes m → IfSome (address_at o m) AreBytes
address_of_bytes None m h = tt
address_of_bytes (Some s) m h = bytes_taken s.len (drop s.start m) (bytes_left s.start m h)

or_none : (o : Option (List ℕ)) → IfSome o AreBytes → AreBytes (bytes_or_none o)
or_none None h = tt
or_none (Some sockaddr) h = h

destination_below : (m : List ℕ) → AreBytes m → destination m < 2 ^ 32
destination_below m h =
    inet_below (destination_bytes m) (or_none (address_in m RTAX_DST) (address_of_bytes (slot_in m RTAX_DST) m h))

then_some : {X Y : Type 0} (P : X → Type 0) (Q : Y → Type 0) (f : X → Option Y) (o : Option X)
    → ((x : X) → P x → IfSome (f x) Q) → IfSome o P → IfSome (option_and_then f o) Q
then_some P Q f None each h = tt
then_some P Q f (Some x) each h = each x h

unless_ok : {X F : Type 0} (P : X → Type 0) (fault : Option F) (x : X) → P x
    → IfSome (result_ok (unless_fault fault x)) P
unless_ok P None x h = h
unless_ok P (Some fault) x h = tt

front_is_gate : (sockaddr : List ℕ) → AreBytes sockaddr → IsGate (gate_at_front sockaddr)
front_is_gate sockaddr h =
    either IsGate (family sockaddr == AF_INET) (gate.Inet (number_of_inet sockaddr)) _ (inet_below sockaddr h) tt

gate_in_is : (m : List ℕ) (at : ℕ) → AreBytes m → IfSome (gate_in m at) IsGate
gate_in_is m at h =
    then_some AreBytes IsGate (λ sockaddr. result_ok (read_gate_of sockaddr)) (address_in m at)
    (λ sockaddr k. unless_ok IsGate _ (gate_at_front sockaddr) (front_is_gate sockaddr k))
    (address_of_bytes (slot_in m at) m h)

mask_read_is : (sockaddr : List ℕ) (r : Result ℕ BadAddr) → ReadsMask sockaddr r → IsMaskOrNone (result_ok r)
mask_read_is sockaddr (Ok bits) h = h.fits
mask_read_is sockaddr (Err fault) h = tt

mask_in_is : (m : List ℕ) (at : ℕ) → IsMaskOrNone (mask_in m at)
mask_in_is m at =
    then_some (λ sockaddr. ⊤) (λ bits. bits ≤ 32) (λ sockaddr. result_ok (read_mask_of sockaddr)) (address_in m at)
    (λ sockaddr k. mask_read_is sockaddr (read_mask_of sockaddr) (mask_computed sockaddr))
    (whatever (address_in m at))
  where
    whatever : (o : Option (List ℕ)) → IfSome o (λ sockaddr. ⊤)
    whatever None = tt
    whatever (Some sockaddr) = tt

gateway_or_zero : (g : Option Gate) → IfSome g IsGate → IsGate (unwrap_or g (gate.Inet 0))
gateway_or_zero None h = omega arith
gateway_or_zero (Some g) h = h

-- ---- requests

abbrev pub IsInRange : Request → Type 0
IsInRange (Add a) = IsNewRoute a
IsInRange (Change a) = IsChange a
IsInRange request = ⊤

new_route_is : (m : List ℕ) → AreBytes m → IsNewRoute (new_route_in m)
new_route_is m h = record {
  destination = destination_below m h;
  netmask = mask_in_is m RTAX_NETMASK;
  gateway = gateway_or_zero (gate_in m RTAX_GATEWAY) (gate_in_is m RTAX_GATEWAY h);
  genmask = mask_in_is m RTAX_GENMASK;
}

change_is : (m : List ℕ) → AreBytes m → IsChange (change_in m)
change_is m h = record { gateway = gate_in_is m RTAX_GATEWAY h; genmask = mask_in_is m RTAX_GENMASK }

pub request_is_in_range : (m : List ℕ) → AllByRecursion (λ b. b < 256) m → IsInRange (request_in m)
request_is_in_range m h =
    let head = header_in m in
    either IsInRange (head.kind == RTM_ADD) (Add (new_route_in m)) _ (new_route_is m h)
    (either IsInRange (head.kind == RTM_DELETE) (Delete (destination m) (mask_in m RTAX_NETMASK) (flags_in m)) _ tt
    (either IsInRange (head.kind == RTM_CHANGE) (Change (change_in m)) _ (change_is m h)
    (either IsInRange (head.kind == RTM_LOCK)
    (Lock (destination m) (mask_in m RTAX_NETMASK) head.inits head.metrics.locks)
    (Get (destination m) (asks_interface m)) tt tt)))
