-- A converted message that is converted to its own layout.
use Rattle.std.proofs.Common.{◌≡◌, ℕ, ◌+◌, ◌*◌, ◌^◌, ◌==◌, ◌||◌, ◌&&◌, Bool, true, false, List, [], ◌∷◌, ◌++◌, length, take, drop, replicate, refl, sym, ap, ◌∙◌, if◌then◌else◌}
use Rattle.std.specs.Prelude.{nat_lt}
use Rattle.std.proofs.Common.{bit_and}
use Rattle.std.specs.Int.Bits.{and_self}
use Rattle.std.proofs.lemmas.Nat.{and_assoc}
use Rattle.std.proofs.lemmas.Bool.{eqb-true}
use Rattle.route_layouts.specs.Walk.{addrs_before, bytes_before, fit_before, has_room_before}
use Rattle.route_layouts.specs.Conversion.{ConvertedTwice, IsConverted, addresses_fit, addresses_in, addrs_in, all_placed, change_of, converted, errno_in, has_room, head_of, is_narrow, its_header, numbers_in_header, placed, renumbered}
use Rattle.route_layouts.specs.Fields.{in_order, numbers_of}
use Rattle.route_layouts.specs.Layouts.{IsLayout}
use Rattle.route_layouts.specs.Places.{all_fit, bytes_of, has_room as place_has_room, with_number, with_numbers}
use Rattle.route_layouts.specs.declared.fields.Fields.{Fields}
use Rattle.route_layouts.specs.declared.layout.Header.{Header}
use Rattle.route_layouts.specs.declared.layout.Layout.{Layout}
use Rattle.route_layouts.specs.declared.order.Order.{Order}
use Rattle.route_layouts.specs.declared.order.Order.TheVariants as order
use Rattle.route_layouts.specs.declared.place.Place.{Place}
use Rattle.route_layouts.proofs.AddressesOn.{addrs_third, bytes_again, fit_again, room_third}
use Rattle.route_layouts.proofs.NumbersRead.{both}
use Rattle.route_layouts.proofs.ThereAndBack.{is_read, walked}

-- ---- what has no place counts for nothing

no_bytes : (o : Order) (number : ℕ) → bytes_of o 0 number ≡ []
no_bytes order.Big number = refl
no_bytes order.Little number = refl

written_by : (o : Order) (at width number : ℕ) (m : List ℕ) (b : Bool) → (width == 0) ≡ b → take at m ++ bytes_of o width number ++ drop (at + width) m ≡ take at m ++ bytes_of o width (if b then 0 else number) ++ drop (at + width) m
written_by o at width number m true h =
    let e : width ≡ 0 = eqb-true width 0 h in
    rw e (ap (λ (xs : List ℕ). take at m ++ xs ++ drop (at + 0) m) (no_bytes o number ∙ sym (no_bytes o 0)))
written_by o at width number m false h = refl

written_placed : (o : Order) (p : Place) (number : ℕ) (m : List ℕ) → with_number o p number m ≡ with_number o p (placed p number) m
unfolding with_number
written_placed o p number m = written_by o p.offset p.width number m (p.width == 0) refl

all_written : (o : Order) (ps : List Place) (ns m : List ℕ) → with_numbers o ps ns m ≡ with_numbers o ps (all_placed ps ns) m
all_written o [] ns m = refl
all_written o (p ∷ ps) [] m = refl
all_written o (p ∷ ps) (n ∷ ns) m = ap (with_numbers o ps ns) (written_placed o p n m) ∙ all_written o ps ns (with_number o p (placed p n) m)

room_by : (width number : ℕ) (b : Bool) → (b || nat_lt number (2 ^ (8 * width))) ≡ (b || nat_lt (if b then 0 else number) (2 ^ (8 * width)))
room_by width number true = refl
room_by width number false = refl

all_room : (ps : List Place) (ns : List ℕ) → all_fit ps ns ≡ all_fit ps (all_placed ps ns)
all_room [] ns = refl
all_room (p ∷ ps) [] = refl
all_room (p ∷ ps) (n ∷ ns) =
    let first : place_has_room p n ≡ place_has_room p (placed p n) = room_by p.width n (p.width == 0) in
    rw (first, all_room ps ns) refl

twice_by : (b : Bool) (n : ℕ) → (if b then 0 else (if b then 0 else n)) ≡ (if b then 0 else n)
twice_by true n = refl
twice_by false n = refl

all_twice : (ps : List Place) (ns : List ℕ) → all_placed ps (all_placed ps ns) ≡ all_placed ps ns
all_twice [] ns = refl
all_twice (p ∷ ps) [] = refl
all_twice (p ∷ ps) (n ∷ ns) =
    let first : placed p (placed p n) ≡ placed p n = twice_by (p.width == 0) n in
    rw (first, all_twice ps ns) refl

-- ---- the numbers, made anew

record Renewed (f : Fields Place) (n : Fields ℕ) (length version header_length errno flags addrs : ℕ) : Type 0 where
  length_is : placed f.length length ≡ placed f.length n.length
  version_is : placed f.version version ≡ placed f.version n.version
  header_length_is : placed f.header_length header_length ≡ placed f.header_length n.header_length
  errno_is : placed f.errno errno ≡ placed f.errno n.errno
  flags_is : placed f.flags flags ≡ placed f.flags n.flags
  addrs_is : placed f.addrs addrs ≡ placed f.addrs n.addrs

-- the numbers of a header as they are read, but six of them made anew, are placed as they were
renewed : (f : Fields Place) (n : Fields ℕ) (length version header_length errno flags addrs : ℕ) → Renewed f n length version header_length errno flags addrs
    → all_placed (in_order f) (in_order (record (numbers_of (all_placed (in_order f) (in_order n))) { length = length; version = version; header_length = header_length; errno = errno; flags = flags; addrs = addrs }))
    ≡ all_placed (in_order f) (all_placed (in_order f) (in_order n))
unfolding in_order numbers_of
renewed f n length version header_length errno flags addrs h =
    rw (
      h.length_is ∙ sym (twice_by (f.length.width == 0) n.length),
      h.version_is ∙ sym (twice_by (f.version.width == 0) n.version),
      h.header_length_is ∙ sym (twice_by (f.header_length.width == 0) n.header_length),
      h.errno_is ∙ sym (twice_by (f.errno.width == 0) n.errno),
      h.flags_is ∙ sym (twice_by (f.flags.width == 0) n.flags),
      h.addrs_is ∙ sym (twice_by (f.addrs.width == 0) n.addrs),
    )
    refl

errno_read : (f : Fields Place) (n : Fields ℕ) → (numbers_of (all_placed (in_order f) (in_order n))).errno ≡ placed f.errno n.errno
unfolding in_order numbers_of
errno_read f n = refl

flags_read : (f : Fields Place) (n : Fields ℕ) → (numbers_of (all_placed (in_order f) (in_order n))).flags ≡ placed f.flags n.flags
unfolding in_order numbers_of
flags_read f n = refl

errno_by : (b : Bool) (own errno : ℕ) → (errno == own) ≡ b → (if b then own else errno) ≡ errno
errno_by true own errno h = sym (eqb-true errno own h)
errno_by false own errno h = refl

-- an errno stays in its own layout
errno_stays : (l : Layout) (errno : ℕ) → errno_in l l errno ≡ errno
errno_stays l errno = errno_by (errno == l.not_supported) l.not_supported errno refl

masked : (g t : ℕ) → bit_and (bit_and g t) t ≡ bit_and g t
masked g t = and_assoc t g t ∙ ap (bit_and g) (and_self t)

flags_by : (b : Bool) (x g t : ℕ) → x ≡ (if b then 0 else bit_and g t) → (if b then 0 else bit_and (bit_and x t) t) ≡ (if b then 0 else bit_and g t)
flags_by true x g t h = refl
flags_by false x g t h = ap (λ (y : ℕ). bit_and (bit_and y t) t) h ∙ masked (bit_and g t) t ∙ masked g t

head_again : (o : Order) (h : Header) (a b : Fields ℕ) → all_placed (in_order h.places) (in_order a) ≡ all_placed (in_order h.places) (in_order b) → head_of o h a ≡ head_of o h b
unfolding head_of
head_again o h a b same =
    all_written o (in_order h.places) (in_order a) (replicate h.size 0)
    ∙ ap (λ (ns : List ℕ). with_numbers o (in_order h.places) ns (replicate h.size 0)) same
    ∙ sym (all_written o (in_order h.places) (in_order b) (replicate h.size 0))

narrow_again : (h : Header) (a b : Fields ℕ) → all_placed (in_order h.places) (in_order a) ≡ all_placed (in_order h.places) (in_order b) → is_narrow h a ≡ is_narrow h b
unfolding is_narrow
narrow_again h a b same =
    all_room (in_order h.places) (in_order a) ∙ ap (all_fit (in_order h.places)) same ∙ sym (all_room (in_order h.places) (in_order b))

module _ (from to : Layout) (m new : List ℕ) (f : IsLayout from) (t : IsLayout to) (converted_to : IsConverted from to m new) where
  abbrev h : Header
  h = its_header to m

  abbrev n : Fields ℕ
  n = renumbered from to m

  abbrev head : List ℕ
  head = head_of to.order h n

  abbrev own : Fields ℕ
  own = numbers_in_header to new

  room_again : has_room to to new ≡ true
  room_again = walked from to m new f t converted_to (λ x addrs start. has_room_before (change_of to to) x addrs start 8) ∙ room_third from to m head t converted_to.room to

  addrs_again : addrs_in to to new ≡ addrs_in from to m
  addrs_again = walked from to m new f t converted_to (λ x addrs start. addrs_before (change_of to to) x addrs start 8) ∙ addrs_third from to m head t converted_to.room to

  addresses_again : addresses_in to to new ≡ addresses_in from to m
  addresses_again = walked from to m new f t converted_to (λ x addrs start. bytes_before (change_of to to) x addrs start 8) ∙ bytes_again from to m head t converted_to.room

  all_again : addresses_fit to to new ≡ true
  all_again =
      walked from to m new f t converted_to (λ x addrs start. fit_before (change_of to to) x addrs start 8)
      ∙ fit_again from to m head t converted_to.room (both _ _ converted_to.narrow).0

  numbers_again : all_placed (in_order h.places) (in_order (renumbered to to new)) ≡ all_placed (in_order h.places) (in_order n)
  numbers_again =
      let read = is_read from to m new f t converted_to in
      let size : (its_header to new).size ≡ h.size = ap (λ (x : Header). x.size) read.same in
      let length_is : (its_header to new).size + length (addresses_in to to new) ≡ n.length =
      ap (λ (x : ℕ). x + length (addresses_in to to new)) size ∙ ap (λ (xs : List ℕ). h.size + length xs) addresses_again in
      let errno : own.errno ≡ placed h.places.errno n.errno = ap (λ (x : Fields ℕ). x.errno) read.numbers ∙ errno_read h.places n in
      let flags : own.flags ≡ placed h.places.flags n.flags = ap (λ (x : Fields ℕ). x.flags) read.numbers ∙ flags_read h.places n in
      let each : Renewed h.places n ((its_header to new).size + length (addresses_in to to new)) to.version (its_header to new).size (errno_in to to own.errno) (bit_and (bit_and own.flags to.flags) to.flags) (addrs_in to to new) =
      record {
        length_is = ap (placed h.places.length) length_is;
        version_is = refl;
        header_length_is = ap (placed h.places.header_length) size;
        errno_is = ap (placed h.places.errno) (errno_stays to own.errno ∙ errno) ∙ twice_by (h.places.errno.width == 0) n.errno;
        flags_is = flags_by (h.places.flags.width == 0) own.flags (bit_and (numbers_in_header from m).flags from.flags) to.flags flags;
        addrs_is = ap (placed h.places.addrs) addrs_again;
      } in
      ap (λ (x : Fields ℕ). all_placed (in_order h.places) (in_order (record x { length = (its_header to new).size + length (addresses_in to to new); version = to.version; header_length = (its_header to new).size; errno = errno_in to to own.errno; flags = bit_and (bit_and own.flags to.flags) to.flags; addrs = addrs_in to to new }))) read.numbers
      ∙ renewed h.places n ((its_header to new).size + length (addresses_in to to new)) to.version (its_header to new).size (errno_in to to own.errno) (bit_and (bit_and own.flags to.flags) to.flags) (addrs_in to to new) each
      ∙ all_twice (in_order h.places) (in_order n)

  pub again : IsConverted to to new new
  again =
      let read = is_read from to m new f t converted_to in
      let q : Fields ℕ = renumbered to to new in
      let narrow : is_narrow (its_header to new) q ≡ true =
      ap (λ (x : Header). is_narrow x q) read.same ∙ narrow_again h q n numbers_again ∙ (both _ _ converted_to.narrow).1 in
      let made : converted to to new ≡ head ++ addresses_in from to m =
      ap (λ (x : Header). head_of to.order x q ++ addresses_in to to new) read.same
      ∙ ap (λ (xs : List ℕ). xs ++ addresses_in to to new) (head_again to.order h q n numbers_again)
      ∙ ap (λ (xs : List ℕ). head ++ xs) addresses_again in
      record {
        known = read.known;
        says_length = read.says_length;
        version = read.version;
        room = room_again;
        narrow = ap (λ (b : Bool). b && is_narrow (its_header to new) q) all_again ∙ narrow;
        bytes = converted_to.bytes ∙ sym made;
      }

pub converted_once_more : ConvertedTwice
converted_once_more from to m new f t converted_to = again from to m new f t converted_to
