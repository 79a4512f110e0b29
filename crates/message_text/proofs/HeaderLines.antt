-- The text of a header is of bytes that lines have.
use Rattle.std.proofs.Common.{◌≡◌, ℕ, ◌<◌, ◌^◌, Bool, true, false, ◌&&◌, nat_le, ◌==◌, List, [], ◌∷◌, ◌++◌, codes, decimal, refl, arith}
use Rattle.std.specs.Fmt.{digits}
use Rattle.std.specs.Int.{w32, to_be_bytes}
use Rattle.std.specs.Prelude.{if◌then◌else◌, unwrap_or, Option, Some, ⊤}
use Rattle.std.specs.List.{list_all}
use Rattle.std.proofs.lemmas.Bool.{and_from, and_parts}
use Rattle.hex.specs.Hex.{IsBytes, encode_lower}
use Rattle.route_msgs.specs.Layout.{number_at}
use Rattle.sock_addrs.proofs.Below.{passes_at, passes_below}
use Rattle.message_text.specs.Laws.{is_line_byte}
use Rattle.message_text.specs.Names.{Named, address_names, errnos, flag_names, has_bit, high_flag_names, ifa_flag_names, kind_text, low_flag_names, metric_names, name_among, name_of_bit, names_from, still_first}
use Rattle.message_text.specs.Rows.{Bits, Decimal, Kind, Row, Style, number_text, row_text, rows_text}
use Rattle.message_text.specs.Tables.{ifa_field_rows, ifa_first_rows, ifa_rows, path_rows, route_addrs_rows, route_field_rows, route_first_rows, route_rows, time_rows}
use Rattle.message_text.proofs.HeadersTold.{ifa_rows_end, route_rows_end}
use Rattle.message_text.proofs.Printable.{all_both, is_printed, printed_decimal, printed_hex, weaker}
use Rattle.message_text.proofs.Told.{byte_small, four_bytes, number_small, row_ends, rows_end, same_stop, style_ends}

printed_lined : (b : ℕ) → is_printed b ≡ true → is_line_byte b ≡ true
printed_lined b e = grind (arith, e)

pub lined : (s : List ℕ) → list_all is_printed s ≡ true → list_all is_line_byte s ≡ true
lined s h = weaker is_printed is_line_byte printed_lined s h

-- ---- names of a table

unfoldable names_lined : List Named → Bool
names_lined [] = true
names_lined (x ∷ xs) = list_all is_line_byte x.name && names_lined xs

lined_either : (b : Bool) (name : List ℕ) (o : Option (List ℕ)) (d : List ℕ) → list_all is_line_byte name ≡ true
    → list_all is_line_byte (unwrap_or o d) ≡ true → list_all is_line_byte (unwrap_or (if b then Some name else o) d) ≡ true
lined_either true name o d h k = h
lined_either false name o d h k = k

lined_among : (t : List Named) (n : ℕ) (d : List ℕ) → names_lined t ≡ true → list_all is_line_byte d ≡ true
    → list_all is_line_byte (unwrap_or (name_among t n) d) ≡ true
unfolding names_lined
lined_among [] n d h k = k
lined_among (x ∷ xs) n d h k =
    let parts = and_parts _ _ h in
    lined_either (n == x.number) x.name (name_among xs n) d parts.0 (lined_among xs n d parts.1 k)

lined_where : (set first : Bool) (name : List ℕ) → list_all is_line_byte name ≡ true
    → list_all is_line_byte (if set then (if first then name else 44 ∷ name) else []) ≡ true
lined_where true true name h = h
lined_where true false name h = h
lined_where false first name h = refl

lined_bit : (first : Bool) (n : ℕ) (x : Named) → list_all is_line_byte x.name ≡ true → list_all is_line_byte (name_of_bit first n x) ≡ true
unfolding name_of_bit
lined_bit first n x h = lined_where (has_bit n x.number) first x.name h

lined_names : (first : Bool) (t : List Named) (n : ℕ) → names_lined t ≡ true → list_all is_line_byte (names_from first t n) ≡ true
unfolding names_lined names_from
lined_names first [] n h = refl
lined_names first (x ∷ xs) n h =
    let parts = and_parts _ _ h in
    all_both is_line_byte (name_of_bit first n x) (names_from (still_first first n x) xs n) (lined_bit first n x parts.0)
    (lined_names (still_first first n x) xs n parts.1)

-- ---- rows

kinds_lined : passes_below 256 (λ n. list_all is_line_byte (kind_text n)) ≡ true
unfolding passes_below digits
kinds_lined = refl

lined_number : (s : Style) (o w stop : ℕ) (m : List ℕ) → IsBytes m → nat_le w 4 ≡ true → style_ends s w stop ≡ true
    → list_all is_line_byte (number_text s (number_at o w m)) ≡ true
unfolding style_ends
lined_number Kind o w stop m are few ends =
    let one : w ≡ 1 = same_stop w 1 (and_parts _ _ ends).0 in
    let small : number_at o w m < 256 = rw one (byte_small o m are) in
    passes_at 256 (λ n. list_all is_line_byte (kind_text n)) (number_at o w m) kinds_lined small
lined_number Decimal o w stop m are few ends =
    let small : number_at o w m < 2 ^ 64 = omega (arith, number_small o w m are few) in
    lined (decimal (number_at o w m)) (printed_decimal (number_at o w m) small)
lined_number Bits o w stop m are few ends =
    let bytes = to_be_bytes w32 (number_at o w m) in
    lined (encode_lower bytes) (printed_hex bytes (four_bytes (number_at o w m)))

-- the notes of these rows
abbrev NotesLined : List Row → Type 0
NotesLined [] = ⊤
NotesLined (r ∷ rs) = ((n : ℕ) → list_all is_line_byte (r.note n) ≡ true) × NotesLined rs

-- their names, and the bytes that end their numbers
unfoldable marks_lined : List Row → Bool
marks_lined [] = true
marks_lined (r ∷ rs) = (list_all is_line_byte r.name && is_line_byte r.stop) && marks_lined rs

lined_or_none : (b : Bool) (x : List ℕ) → list_all is_line_byte x ≡ true → list_all is_line_byte (if b then [] else x) ≡ true
lined_or_none true x h = refl
lined_or_none false x h = h

lined_row : (r : Row) (m : List ℕ) → IsBytes m → row_ends r ≡ true → (list_all is_line_byte r.name && is_line_byte r.stop) ≡ true
    → ((n : ℕ) → list_all is_line_byte (r.note n) ≡ true) → list_all is_line_byte (row_text r (number_at r.offset r.width m)) ≡ true
unfolding row_ends
lined_row r m are ends marks note =
    let n = number_at r.offset r.width m in
    let number = lined_number r.style r.offset r.width r.stop m are (and_parts _ _ ends).0 (and_parts _ _ ends).1 in
    let stop = and_from (is_line_byte r.stop) (list_all is_line_byte (r.note n)) (and_parts _ _ marks).1 (note n) in
    lined_or_none (r.is_optional && n == 0) (r.name ++ number_text r.style n ++ r.stop ∷ r.note n)
    (all_both is_line_byte (r.name ++ number_text r.style n) (r.stop ∷ r.note n)
    (all_both is_line_byte r.name (number_text r.style n) (and_parts _ _ marks).0 number) stop)

lined_rows : (rs : List Row) (m : List ℕ) → IsBytes m → rows_end rs ≡ true → marks_lined rs ≡ true → NotesLined rs
    → list_all is_line_byte (rows_text rs m) ≡ true
unfolding rows_text rows_end marks_lined
lined_rows [] m are ends marks notes = refl
lined_rows (r ∷ rs) m are ends marks notes =
    let parts = and_parts _ _ ends in
    let here = and_parts _ _ marks in
    all_both is_line_byte (row_text r (number_at r.offset r.width m)) (rows_text rs m)
    (lined_row r m are (and_parts _ _ parts.0).0 here.0 notes.0) (lined_rows rs m are parts.1 here.1 notes.1)

-- ---- the two headers

lined_bits : (t : List Named) → names_lined t ≡ true → (n : ℕ) → list_all is_line_byte (names_from true t n ++ codes ">\n") ≡ true
lined_bits t h n = all_both is_line_byte (names_from true t n) (codes ">\n") (lined_names true t n h) refl

lined_flags : (n : ℕ) → list_all is_line_byte (names_from true flag_names n ++ codes ">\n") ≡ true
unfolding names_lined flag_names low_flag_names high_flag_names
lined_flags n = lined_bits flag_names refl n

lined_ifa_flags : (n : ℕ) → list_all is_line_byte (names_from true ifa_flag_names n ++ codes ">\n") ≡ true
unfolding names_lined ifa_flag_names
lined_ifa_flags n = lined_bits ifa_flag_names refl n

lined_metrics : (n : ℕ) → list_all is_line_byte (names_from true metric_names n ++ codes ">\n") ≡ true
unfolding names_lined metric_names
lined_metrics n = lined_bits metric_names refl n

lined_addrs : (n : ℕ) → list_all is_line_byte (names_from true address_names n ++ codes ">\n") ≡ true
unfolding names_lined address_names
lined_addrs n = lined_bits address_names refl n

lined_errno : (n : ℕ) → list_all is_line_byte (40 ∷ unwrap_or (name_among errnos n) (codes "unknown") ++ codes ")\n") ≡ true
unfolding names_lined
lined_errno n =
    let name = unwrap_or (name_among errnos n) (codes "unknown") in
    all_both is_line_byte name (codes ")\n") (lined_among errnos n (codes "unknown") refl refl) refl

route_notes : NotesLined route_rows
unfolding route_rows route_first_rows route_field_rows path_rows time_rows route_addrs_rows
route_notes = (
  λ n. refl,
  (
    λ n. refl,
    (
      λ n. refl,
      (
        λ n. refl,
        (
          λ n. refl,
          (
            λ n. refl,
            (
              lined_flags,
              (
                lined_errno,
                (
                  λ n. refl,
                  (
                    λ n. refl,
                    (
                      lined_metrics,
                      (
                        lined_metrics,
                        (
                          λ n. refl,
                          (
                            λ n. refl,
                            (
                              λ n. refl,
                              (
                                λ n. refl,
                                (
                                  λ n. refl,
                                  (
                                    λ n. refl,
                                    (
                                      λ n. refl,
                                      (
                                        λ n. refl,
                                        (
                                          λ n. refl,
                                          (lined_addrs, tt),
                                        ),
                                      ),
                                    ),
                                  ),
                                ),
                              ),
                            ),
                          ),
                        ),
                      ),
                    ),
                  ),
                ),
              ),
            ),
          ),
        ),
      ),
    ),
  ),
)

ifa_notes : NotesLined ifa_rows
unfolding ifa_rows ifa_first_rows ifa_field_rows
ifa_notes =
    (λ n. refl, (λ n. refl, (λ n. refl, (λ n. refl, (λ n. refl, (lined_ifa_flags, (λ n. refl, (lined_addrs, tt))))))))

pub lined_route : (m : List ℕ) → IsBytes m → list_all is_line_byte (rows_text route_rows m) ≡ true
unfolding marks_lined route_rows route_first_rows route_field_rows path_rows time_rows route_addrs_rows
lined_route m are = lined_rows route_rows m are route_rows_end refl route_notes

pub lined_ifa : (m : List ℕ) → IsBytes m → list_all is_line_byte (rows_text ifa_rows m) ≡ true
unfolding marks_lined ifa_rows ifa_first_rows ifa_field_rows
lined_ifa m are = lined_rows ifa_rows m are ifa_rows_end refl ifa_notes
