-- A message of one layout in another.
use Rattle.std.specs.Prelude.{◌≡◌, ℕ, ◌+◌, nat_le, ◌==◌, Bool, true, false, ◌&&◌, ◌||◌, List, [], ◌∷◌, ◌++◌, length, slice_index, replicate, max, not, Result, Ok, Err, drop, if◌then◌else◌}
use Rattle.std.proofs.Common.{bit_and}
use Rattle.route_layouts.specs.Addresses.{length_as, padded, settled}
use Rattle.route_layouts.specs.Walk.{addrs_before, bytes_before, bytes_by, fit_before, has_room_before}
use Rattle.route_layouts.specs.Fields.{in_order, numbers_of}
use Rattle.route_layouts.specs.Layouts.{IsLayout, header_of}
use Rattle.route_layouts.specs.Places.{all_fit, numbers_in, with_numbers}
use Rattle.route_layouts.specs.declared.change.Change.{Change}
use Rattle.route_layouts.specs.declared.fault.Fault.{Fault}
use Rattle.route_layouts.specs.declared.fault.Fault.TheVariants as fault
use Rattle.route_layouts.specs.declared.fields.Fields.{Fields}
use Rattle.route_layouts.specs.declared.layout.Header.{Header}
use Rattle.route_layouts.specs.declared.layout.Layout.{Layout}
use Rattle.route_layouts.specs.declared.order.Order.{Order}
use Rattle.route_layouts.specs.declared.place.Place.{Place}
use Rattle.route_layouts.specs.declared.order.Order.TheVariants as order

-- the header of a message: byte 3 is its type in each layout
abbrev pub its_header : Layout → List ℕ → Header
its_header l m = header_of l (slice_index m 3)

-- the numbers of its fields
abbrev pub numbers_in_header : Layout → List ℕ → Fields ℕ
numbers_in_header l m = numbers_of (numbers_in l.order (in_order (its_header l m).places) m)

-- where a header says its size it is this
abbrev pub says_its_size : Header → ℕ → Bool
says_its_size h size = h.places.header_length.width == 0 || size == h.size

-- its type is one whose header is known
abbrev pub has_kind : List ℕ → Bool
has_kind m = nat_le 1 (slice_index m 3) && nat_le (slice_index m 3) 13

-- there is a whole header, and the message says the lengths that it and its header have
abbrev pub has_length : Layout → List ℕ → Bool
has_length l m =
    nat_le (length m) 65535 && nat_le (its_header l m).size (length m)
    && ((numbers_in_header l m).length == length m)
    && says_its_size (its_header l m) (numbers_in_header l m).header_length

abbrev pub has_version : Layout → List ℕ → Bool
has_version l m = (numbers_in_header l m).version == l.version

abbrev pub ReadsHeader : Layout → List ℕ → Result (Fields ℕ) Fault → Type 0
ReadsHeader l m (Ok numbers) =
    (has_kind m ≡ true) × (has_length l m ≡ true) × (has_version l m ≡ true) × (numbers ≡ numbers_in_header l m)
ReadsHeader l m (Err fault.Kind) = has_kind m ≡ false
ReadsHeader l m (Err fault.Length) = (has_kind m ≡ true) × (has_length l m ≡ false)
ReadsHeader l m (Err fault.Version) = (has_kind m ≡ true) × (has_length l m ≡ true) × (has_version l m ≡ false)
ReadsHeader l m (Err fault.Overrun) = ⊥
ReadsHeader l m (Err fault.Wide) = ⊥

-- a header with these numbers
unfoldable pub head_of : Order → Header → Fields ℕ → List ℕ
head_of o h numbers = with_numbers o (in_order h.places) (in_order numbers) (replicate h.size 0)

-- each number fits the place that the header has for it
unfoldable pub is_narrow : Header → Fields ℕ → Bool
is_narrow h numbers = all_fit (in_order h.places) (in_order numbers)

-- ---- how one becomes the other

-- the two keep numbers in different orders
abbrev pub differ : Order → Order → Bool
differ order.Big order.Big = false
differ order.Big order.Little = true
differ order.Little order.Big = true
differ order.Little order.Little = false

-- how the addresses change
abbrev pub change_of : Layout → Layout → Change
change_of from to = record {
  from_word = from.word;
  to_word = to.word;
  swaps = differ from.order to.order;
  most_link = to.most_link;
  least_mask = to.least_mask;
}

-- the addresses in the other layout, the bits of those that are there, and that none passes the end
abbrev pub addresses_in : Layout → Layout → List ℕ → List ℕ
addresses_in from to m = bytes_before (change_of from to) m (numbers_in_header from m).addrs (its_header from m).size 8

abbrev pub addrs_in : Layout → Layout → List ℕ → ℕ
addrs_in from to m = addrs_before (change_of from to) m (numbers_in_header from m).addrs (its_header from m).size 8

abbrev pub has_room : Layout → Layout → List ℕ → Bool
has_room from to m = has_room_before (change_of from to) m (numbers_in_header from m).addrs (its_header from m).size 8

-- none of them is too long for the other layout
abbrev pub addresses_fit : Layout → Layout → List ℕ → Bool
addresses_fit from to m = fit_before (change_of from to) m (numbers_in_header from m).addrs (its_header from m).size 8

-- an errno by the other's number: EOPNOTSUPP has two
abbrev pub errno_in : Layout → Layout → ℕ → ℕ
errno_in from to errno = if errno == from.not_supported then to.not_supported else errno

-- the numbers of the header in the other layout: the lengths, the version and the bits are its own, of the flags those
-- are left that mean the same in both, and all else is as it was
abbrev pub renumbered : Layout → Layout → List ℕ → Fields ℕ
renumbered from to m = record (numbers_in_header from m) {
  length = (its_header to m).size + length (addresses_in from to m);
  version = to.version;
  header_length = (its_header to m).size;
  errno = errno_in from to (numbers_in_header from m).errno;
  flags = bit_and (bit_and (numbers_in_header from m).flags from.flags) to.flags;
  addrs = addrs_in from to m;
}

-- each number has room in the other layout, or no place at all, and no address is too long
abbrev pub fits_in : Layout → Layout → List ℕ → Bool
fits_in from to m = addresses_fit from to m && is_narrow (its_header to m) (renumbered from to m)

-- the message in the other layout
abbrev pub converted : Layout → Layout → List ℕ → List ℕ
converted from to m = head_of to.order (its_header to m) (renumbered from to m) ++ addresses_in from to m

-- it has a counterpart, and this is it
pub record IsConverted (from to : Layout) (m new : List ℕ) : Type 0 where
  pub known : has_kind m ≡ true
  pub says_length : has_length from m ≡ true
  pub version : has_version from m ≡ true
  pub room : has_room from to m ≡ true
  pub narrow : fits_in from to m ≡ true
  pub bytes : new ≡ converted from to m

-- or it has none, for the first of the faults that holds
abbrev pub IsRefused : Layout → Layout → List ℕ → Fault → Type 0
IsRefused from to m fault.Kind = has_kind m ≡ false
IsRefused from to m fault.Length = (has_kind m ≡ true) × (has_length from m ≡ false)
IsRefused from to m fault.Version = (has_kind m ≡ true) × (has_length from m ≡ true) × (has_version from m ≡ false)
IsRefused from to m fault.Overrun =
    (has_kind m ≡ true) × (has_length from m ≡ true) × (has_version from m ≡ true) × (has_room from to m ≡ false)
IsRefused from to m fault.Wide =
    (has_kind m ≡ true) × (has_length from m ≡ true) × (has_version from m ≡ true) × (has_room from to m ≡ true)
    × (fits_in from to m ≡ false)

-- the message's counterpart, or the first fault for which it has none
abbrev pub counterpart : Layout → Layout → List ℕ → Result (List ℕ) Fault
counterpart from to m =
    if not (has_kind m) then Err fault.Kind
    else if not (has_length from m) then Err fault.Length
    else if not (has_version from m) then Err fault.Version
    else if not (has_room from to m) then Err fault.Overrun
    else if not (fits_in from to m) then Err fault.Wide
    else Ok (converted from to m)

-- so is what is converted or refused
pub record CounterpartIsComputed : Type 0 where
  pub ok : (from to : Layout) (m new : List ℕ) → IsConverted from to m new → counterpart from to m ≡ Ok new
  pub err : (from to : Layout) (m : List ℕ) (f : Fault) → IsRefused from to m f → counterpart from to m ≡ Err f

-- a number with a place is read as it is, and one without as 0
abbrev pub placed : Place → ℕ → ℕ
placed p number = if p.width == 0 then 0 else number

abbrev pub all_placed : List Place → List ℕ → List ℕ
all_placed [] numbers = []
all_placed (p ∷ ps) [] = []
all_placed (p ∷ ps) (number ∷ numbers) = placed p number ∷ all_placed ps numbers

-- a converted message is read as those numbers, and has the addresses behind its header
abbrev pub ConvertedIsRead : Type 0
ConvertedIsRead = (from to : Layout) (m new : List ℕ) → IsLayout to → IsConverted from to m new
    → (numbers_in to.order (in_order (its_header to m).places) new
    ≡ all_placed (in_order (its_header to m).places) (in_order (renumbered from to m)))
    × (drop (its_header to m).size new ≡ addresses_in from to m)

-- the addresses of a message that goes to another layout and back: cut and with more bytes as both have it, and with
-- zeros as padding
abbrev pub settled_in : Layout → Layout → List ℕ → List ℕ
settled_in from to m =
    bytes_by (λ k s. padded from.word (settled (change_of from to) (change_of to from) k s)) (change_of from to) m
    (numbers_in_header from m).addrs (its_header from m).size 8

-- an address that is too long for neither layout, and no mask with fewer bytes than one has there, is as it was
abbrev pub PlainIsSettled : Type 0
PlainIsSettled = (there back : Change) (k : ℕ) (s : List ℕ) → length s ≡ max (slice_index s 0) 1
    → length_as there k s ≡ slice_index s 0 → length_as back k s ≡ slice_index s 0 → settled there back k s ≡ s

-- a converted message can be read in its layout: it has each number that the layout has a place for, and its addresses
-- go back as they were, but for what is cut or has more bytes, with zeros as padding
pub record GoesBack (from to : Layout) (m new : List ℕ) : Type 0 where
  pub known : has_kind new ≡ true
  pub says_length : has_length to new ≡ true
  pub version : has_version to new ≡ true
  pub room : has_room to from new ≡ true
  pub numbers : numbers_in_header to new ≡ numbers_of (all_placed (in_order (its_header to m).places) (in_order (renumbered from to m)))
  pub addrs : addrs_in to from new ≡ addrs_in from to m
  pub addresses : addresses_in to from new ≡ settled_in from to m

abbrev pub ThereAndBack : Type 0
ThereAndBack = (from to : Layout) (m new : List ℕ) → IsLayout from → IsLayout to → IsConverted from to m new
    → GoesBack from to m new

-- a converted message that is converted to its own layout is as it was
abbrev pub ConvertedTwice : Type 0
ConvertedTwice = (from to : Layout) (m new : List ℕ) → IsLayout from → IsLayout to → IsConverted from to m new
    → IsConverted to to new new
