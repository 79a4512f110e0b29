-- What a layout is: no byte of a header is of two fields, and all are within its bytes.
use Rattle.std.specs.Prelude.{◌≡◌, ℕ, ◌≤◌, ◌==◌, ◌||◌, true, List, ◌++◌, replicate, if◌then◌else◌}
use Rattle.route_layouts.specs.Fields.{in_order}
use Rattle.route_layouts.specs.Places.{all_kept, are_apart, are_within, numbers_in, with_numbers}
use Rattle.route_layouts.specs.declared.fields.Fields.{Fields}
use Rattle.route_msgs.specs.declared.kinds.TheConstants.{RTM_DELADDR, RTM_NEWADDR}
use Rattle.route_layouts.specs.declared.layout.Header.{Header}
use Rattle.route_layouts.specs.declared.layout.Layout.{Layout}
use Rattle.route_layouts.specs.declared.order.Order.{Order}
use Rattle.route_layouts.specs.declared.place.Place.{Place}

-- a header of so many bytes
pub record IsHeader (size : ℕ) (f : Fields Place) : Type 0 where
  pub within : are_within size (in_order f) ≡ true
  pub apart : are_apart (in_order f) ≡ true

-- of a header that was written each field is read as the lowest bytes of its number that there is room for, whatever
-- follows it; of a field without a place that is 0
abbrev pub WrittenIsRead : Type 0
WrittenIsRead = (size : ℕ) (f : Fields Place) (o : Order) (numbers : Fields ℕ) (behind : List ℕ) → IsHeader size f
    → numbers_in o (in_order f) (with_numbers o (in_order f) (in_order numbers) (replicate size 0) ++ behind)
    ≡ all_kept (in_order f) (in_order numbers)

-- the header of a message of this type
abbrev pub header_of : Layout → ℕ → Header
header_of l kind = if kind == RTM_NEWADDR || kind == RTM_DELADDR then l.ifa else l.route

-- a header that tells its message's type in byte 3, its length in two bytes, its version in one and its addresses in
-- four
pub record Tells (h : Header) : Type 0 where
  pub kind : h.places.kind ≡ record { offset = 3; width = 1 }
  pub size : h.places.length.width ≡ 2
  pub version : h.places.version.width ≡ 1
  pub addrs : h.places.addrs.width ≡ 4

-- a layout: its headers are such, a word has 1 to 8 bytes, and no mask need have more than 8
pub record IsLayout (l : Layout) : Type 0 where
  pub route : IsHeader l.route.size l.route.places
  pub ifa : IsHeader l.ifa.size l.ifa.places
  pub route_tells : Tells l.route
  pub ifa_tells : Tells l.ifa
  pub route_size : l.route.size ≤ 200
  pub ifa_size : l.ifa.size ≤ 200
  pub least_word : 1 ≤ l.word
  pub most_word : l.word ≤ 8
  pub mask : l.least_mask ≤ 8
