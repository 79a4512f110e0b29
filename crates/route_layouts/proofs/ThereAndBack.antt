-- A message that was converted is one in its layout, and goes back.
use Rattle.std.proofs.Common.{◌≡◌, ℕ, suc, ◌+◌, ◌*◌, ◌<◌, ◌≤◌, ◌^◌, ◌==◌, ◌&&◌, ◌||◌, Bool, true, false, List, ◌++◌, length, drop, refl, sym, ap, ◌∙◌, arith, length-append, get_or-drop, if◌then◌else◌}
use Rattle.std.specs.Prelude.{nat_le, nat_lt, slice_index}
use Rattle.std.proofs.lemmas.Bool.{le-leb, ltb-true}
use Rattle.std.proofs.lemmas.Bool.Decides.{nat_tests}
use Rattle.route_layouts.specs.Addresses.{length_as, sized}
use Rattle.route_layouts.specs.Walk.{addrs_before, bytes_before, has_room_before}
use Rattle.route_layouts.specs.Conversion.{IsConverted, PlainIsSettled, ThereAndBack, addresses_in, addrs_in, all_placed, change_of, has_kind, has_length, has_version, head_of, is_narrow, its_header, numbers_in_header, placed, renumbered, says_its_size}
use Rattle.route_layouts.specs.Fields.{in_order, numbers_of}
use Rattle.route_layouts.specs.Layouts.{IsHeader, IsLayout, Tells, header_of}
use Rattle.route_layouts.specs.Places.{number_at, number_of, numbers_in}
use Rattle.route_layouts.specs.declared.fields.Fields.{Fields}
use Rattle.route_layouts.specs.declared.layout.Header.{Header}
use Rattle.route_layouts.specs.declared.layout.Layout.{Layout}
use Rattle.route_layouts.specs.declared.order.Order.{Order}
use Rattle.route_layouts.specs.declared.order.Order.TheVariants as order
use Rattle.route_layouts.specs.declared.place.Place.{Place}
use Rattle.route_layouts.proofs.AddressesOn.{addrs_third, bytes_back, room_third}
use Rattle.route_layouts.proofs.Fitted.{sized_whole}
use Rattle.route_layouts.proofs.HeadersOf.{header_is, header_tells}
use Rattle.route_layouts.proofs.HeadersRead.{converted_read, length_written}
use Rattle.route_layouts.proofs.NumbersRead.{both}

-- the number of the one byte at 3
one_byte : (o : Order) (bytes : List ℕ) → number_of o 1 bytes ≡ slice_index bytes 0
one_byte order.Big bytes = omega arith
one_byte order.Little bytes = omega arith

byte_3 : (o : Order) (p : Place) (m : List ℕ) → p ≡ record { offset = 3; width = 1 } → number_at o p m ≡ slice_index m 3
unfolding number_at
byte_3 o p m e = rw e (one_byte o (drop 3 m) ∙ get_or-drop 3 m 0 0)

-- the fields that all headers have
kind_among : (o : Order) (f : Fields Place) (m : List ℕ) → slice_index (numbers_in o (in_order f) m) 3 ≡ number_at o f.kind m
unfolding in_order
kind_among o f m = refl

kind_of : (o : Order) (f : Fields Place) (m : List ℕ) → (numbers_of (numbers_in o (in_order f) m)).kind ≡ number_at o f.kind m
unfolding in_order numbers_of
kind_of o f m = refl

pub record Are (f : Fields Place) (n : Fields ℕ) : Type 0 where
  pub kind : slice_index (all_placed (in_order f) (in_order n)) 3 ≡ placed f.kind n.kind
  pub size : (numbers_of (all_placed (in_order f) (in_order n))).length ≡ placed f.length n.length
  pub version : (numbers_of (all_placed (in_order f) (in_order n))).version ≡ placed f.version n.version
  pub header_length : (numbers_of (all_placed (in_order f) (in_order n))).header_length ≡ placed f.header_length n.header_length
  pub addrs : (numbers_of (all_placed (in_order f) (in_order n))).addrs ≡ placed f.addrs n.addrs

pub are : (f : Fields Place) (n : Fields ℕ) → Are f n
unfolding in_order numbers_of
are f n = record { kind = refl; size = refl; version = refl; header_length = refl; addrs = refl }

-- a number whose place has bytes
pub with_place : (p : Place) (n w : ℕ) → p.width ≡ suc w → placed p n ≡ n
with_place p n w e =
    let some : (p.width == 0) ≡ false = grind (arith, nat_tests, e) in
    ap (λ (b : Bool). if b then 0 else n) some

itself : (n : ℕ) → (n == n) ≡ true
itself n = grind (arith, nat_tests)

size_by : (b : Bool) (n : ℕ) → (b || (if b then 0 else n) == n) ≡ true
size_by true n = refl
size_by false n = itself n

-- what a header says of its size is so
size_said_of : (h : Header) (n : Fields ℕ) → n.header_length ≡ placed h.places.header_length h.size → says_its_size h n.header_length ≡ true
size_said_of h n e = ap (says_its_size h) e ∙ size_by (h.places.header_length.width == 0) h.size

all_four : (a b c d : Bool) → a ≡ true → b ≡ true → c ≡ true → d ≡ true → (a && b && c && d) ≡ true
all_four true true true true a b c d = refl
all_four x y z u a b c d = cc

length_said : (l : Layout) (new : List ℕ) (h : Header) (n : Fields ℕ) → its_header l new ≡ h → numbers_in_header l new ≡ n → n.length ≡ length new → says_its_size h n.header_length ≡ true → length new ≤ 65535 → h.size ≤ length new → has_length l new ≡ true
length_said l new h n same numbers said size most fits =
    let length_is : (numbers_in_header l new).length ≡ length new = ap (λ (x : Fields ℕ). x.length) numbers ∙ said in
    all_four _ _ _ _ (le-leb (length new) 65535 most)
    (ap (λ (x : Header). nat_le x.size (length new)) same ∙ le-leb h.size (length new) fits)
    (ap (λ (x : ℕ). x == length new) length_is ∙ itself (length new))
    (ap (λ (x : Header). says_its_size x (numbers_in_header l new).header_length) same ∙ ap (λ (x : Fields ℕ). says_its_size h x.header_length) numbers ∙ size)

head_length : (o : Order) (h : Header) (n : Fields ℕ) → IsHeader h.size h.places → length (head_of o h n) ≡ h.size
unfolding head_of
head_length o h n is = length_written h.size h.places o n is

length_fits : (h : Header) (n : Fields ℕ) → is_narrow h n ≡ true → h.places.length.width ≡ 2 → n.length < 65536
unfolding is_narrow in_order
length_fits h n narrow e =
    let parts = both (h.places.length.width == 0 || nat_lt n.length (2 ^ (8 * h.places.length.width))) _ narrow in
    let small = rw e at parts.0 in
    ltb-true n.length 65536 small

-- what is read of a converted message
pub record IsRead (from to : Layout) (m new : List ℕ) : Type 0 where
  pub known : has_kind new ≡ true
  pub says_length : has_length to new ≡ true
  pub version : has_version to new ≡ true
  pub same : its_header to new ≡ its_header to m
  pub numbers : numbers_in_header to new ≡ numbers_of (all_placed (in_order (its_header to m).places) (in_order (renumbered from to m)))
  pub bits : (numbers_in_header to new).addrs ≡ addrs_in from to m
  pub head : length (head_of to.order (its_header to m) (renumbered from to m)) ≡ (its_header to m).size

pub is_read : (from to : Layout) (m new : List ℕ) → IsLayout from → IsLayout to → IsConverted from to m new → IsRead from to m new
is_read from to m new f t converted =
    let h : Header = its_header to m in
    let n : Fields ℕ = renumbered from to m in
    let is : IsHeader h.size h.places = header_is to (slice_index m 3) t in
    let tells : Tells h = header_tells to (slice_index m 3) t in
    let own : Tells (its_header from m) = header_tells from (slice_index m 3) f in
    let read = converted_read from to m new t converted in
    let each = are h.places n in
    let kind : slice_index new 3 ≡ slice_index m 3 =
    sym (byte_3 to.order h.places.kind new tells.kind) ∙ sym (kind_among to.order h.places new) ∙ ap (λ (ns : List ℕ). slice_index ns 3) read.0
    ∙ each.kind ∙ with_place h.places.kind n.kind 0 (ap (λ (p : Place). p.width) tells.kind)
    ∙ kind_of from.order (its_header from m).places m ∙ byte_3 from.order (its_header from m).places.kind m own.kind in
    let same : its_header to new ≡ h = ap (header_of to) kind in
    let placed_numbers : Fields ℕ = numbers_of (all_placed (in_order h.places) (in_order n)) in
    let numbers : numbers_in_header to new ≡ placed_numbers =
    ap (λ (x : Header). numbers_of (numbers_in to.order (in_order x.places) new)) same ∙ ap numbers_of read.0 in
    let head : List ℕ = head_of to.order h n in
    let bytes : new ≡ head ++ addresses_in from to m = converted.bytes in
    let head_size : length head ≡ h.size = head_length to.order h n is in
    let size : length new ≡ h.size + length (addresses_in from to m) = ap length bytes ∙ length-append head (addresses_in from to m) ∙ ap (λ (x : ℕ). x + length (addresses_in from to m)) head_size in
    let said : placed_numbers.length ≡ length new = each.size ∙ with_place h.places.length n.length 1 tells.size ∙ sym size in
    let small : n.length < 65536 = length_fits h n (both _ _ converted.narrow).1 tells.size in
    let bits : placed_numbers.addrs ≡ addrs_in from to m = each.addrs ∙ with_place h.places.addrs n.addrs 3 tells.addrs in
    record {
      known = ap (λ (k : ℕ). nat_le 1 k && nat_le k 13) kind ∙ converted.known;
      says_length = length_said to new h placed_numbers same numbers said (size_said_of h placed_numbers each.header_length) (omega (arith, size, small)) (omega (arith, size));
      version = ap (λ (x : Fields ℕ). x.version == to.version) numbers ∙ ap (λ (x : ℕ). x == to.version) (each.version ∙ with_place h.places.version n.version 0 tells.version) ∙ itself to.version;
      same = same;
      numbers = numbers;
      bits = ap (λ (x : Fields ℕ). x.addrs) numbers ∙ bits;
      head = head_size;
    }

-- a walk over the addresses of a converted message is one over what is behind its head
module _ {A : Type 0} (from to : Layout) (m new : List ℕ) (f : IsLayout from) (t : IsLayout to) (converted : IsConverted from to m new) (walk : List ℕ → ℕ → ℕ → A) where
  pub walked : walk new (numbers_in_header to new).addrs (its_header to new).size ≡ walk (head_of to.order (its_header to m) (renumbered from to m) ++ addresses_in from to m) (addrs_in from to m) (length (head_of to.order (its_header to m) (renumbered from to m)))
  walked =
      let read = is_read from to m new f t converted in
      let head : List ℕ = head_of to.order (its_header to m) (renumbered from to m) in
      let size : (its_header to new).size ≡ length head = ap (λ (x : Header). x.size) read.same ∙ sym read.head in
      ap (λ (x : ℕ). walk new x (its_header to new).size) read.bits
      ∙ ap (λ (x : ℕ). walk new (addrs_in from to m) x) size
      ∙ ap (λ (x : List ℕ). walk x (addrs_in from to m) (length head)) converted.bytes

pub there_and_back : ThereAndBack
there_and_back from to m new f t converted =
    let read = is_read from to m new f t converted in
    let head : List ℕ = head_of to.order (its_header to m) (renumbered from to m) in
    let c = change_of to from in
    record {
      known = read.known;
      says_length = read.says_length;
      version = read.version;
      room = walked from to m new f t converted (λ x addrs start. has_room_before c x addrs start 8) ∙ room_third from to m head t converted.room from;
      numbers = read.numbers;
      addrs = walked from to m new f t converted (λ x addrs start. addrs_before c x addrs start 8) ∙ addrs_third from to m head t converted.room from;
      addresses = walked from to m new f t converted (λ x addrs start. bytes_before c x addrs start 8) ∙ bytes_back from to m head t converted.room;
    }

pub plain_settled : PlainIsSettled
plain_settled there back k s whole one two =
    let same : sized (length_as there k s) s ≡ s = ap (λ (n : ℕ). sized n s) one ∙ sized_whole s whole in
    ap (λ (x : List ℕ). sized (length_as back k x) x) same ∙ ap (λ (n : ℕ). sized n s) two ∙ sized_whole s whole
