-- A text is lines, each ended by a newline.
use Rattle.std.proofs.Common.{◌≡◌, ◌∙◌, ℕ, ◌⊎◌, inl, inr, Bool, true, false, ◌&&◌, List, [], ◌∷◌, ◌++◌, drop, codes, refl, sym, ap, append_assoc, append-nil}
use Rattle.std.specs.Prelude.{if◌then◌else◌, Option, Some, None}
use Rattle.std.specs.Int.{w32, to_be_bytes}
use Rattle.std.specs.List.{list_all}
use Rattle.std.proofs.lemmas.Bool.{and_parts}
use Rattle.hex.specs.Hex.{IsBytes, encode_lower}
use Rattle.route_msgs.specs.Layout.{number_at}
use Rattle.route_msgs.specs.MsgErr.{msg_err_text}
use Rattle.route_msgs.specs.declared.parsed.MsgErr.{MsgErr}
use Rattle.route_msgs.specs.declared.parsed.MsgErr.TheVariants as fault
use Rattle.sock_addrs.specs.Reading.{length_byte}
use Rattle.sock_addrs.specs.Rounding.{rounded}
use Rattle.message_text.specs.Addresses.{Place, address_line, address_lines, address_text, begins, behind, front, places, rest_line}
use Rattle.message_text.specs.Laws.{AreLines, TextsAreLines, is_line_byte}
use Rattle.message_text.specs.Names.{address_names, ifa_flag_names, names_from}
use Rattle.message_text.specs.Parts.{addrs_in, body_of, fault_in, header_size, is_about_address}
use Rattle.message_text.specs.Rows.{bits_line, number_line, row_text, rows_text}
use Rattle.message_text.specs.Tables.{ifa_field_rows, ifa_first_rows, ifa_rows, path_rows, route_addrs_rows, route_field_rows, route_first_rows, route_rows, time_rows}
use Rattle.message_text.specs.Texts.{fault_text, message_text, text_by}
use Rattle.message_text.proofs.HeaderLines.{lined, lined_ifa, lined_route}
use Rattle.message_text.proofs.Joined.{ifa_rows_parted, route_rows_parted}
use Rattle.message_text.proofs.LinesTold.{printed_address}
use Rattle.message_text.proofs.Printable.{all_both, bytes_before, printed_hex}
use Rattle.message_text.proofs.Told.{bytes_behind}

-- ---- what ends in a newline

abbrev Ends : List ℕ → Type 0
Ends t = (lines : List ℕ) × (t ≡ lines ++ codes "\n")

ends_behind : (a b : List ℕ) → Ends b → Ends (a ++ b)
ends_behind a b e = (a ++ e.0, ap (λ (l : List ℕ). a ++ l) e.1 ∙ sym (append_assoc a e.0 (codes "\n")))

ends_before : (a b : List ℕ) → Ends a → (b ≡ []) ⊎ Ends b → Ends (a ++ b)
ends_before a b e (inl none) = (e.0, ap (λ (l : List ℕ). a ++ l) none ∙ append-nil a ∙ e.1)
ends_before a b e (inr f) = ends_behind a b f

ends_or_none : (a b : List ℕ) → (a ≡ []) ⊎ Ends a → (b ≡ []) ⊎ Ends b → (a ++ b ≡ []) ⊎ Ends (a ++ b)
ends_or_none a b (inr e) f = inr (ends_before a b e f)
ends_or_none a b (inl none) (inr f) = inr (ends_behind a b f)
ends_or_none a b (inl none) (inl none_too) = inl (ap (λ (l : List ℕ). l ++ b) none ∙ none_too)

-- the bits that name the addresses end each header
bits_end : (name hex names : List ℕ) → Ends ((name ++ hex ++ 60 ∷ (names ++ codes ">\n")) ++ [])
bits_end name hex names =
    ends_before (name ++ hex ++ 60 ∷ (names ++ codes ">\n")) []
    (ends_behind (name ++ hex) (60 ∷ (names ++ codes ">\n"))
    (ends_behind (60 ∷ names) (codes ">\n") (codes ">", refl))) (inl refl)

route_ends : (m : List ℕ) → Ends (rows_text route_rows m)
unfolding rows_text route_addrs_rows
route_ends m =
    let front = rows_text route_first_rows m ++ rows_text route_field_rows m ++ rows_text path_rows m ++ rows_text time_rows m in
    let last = ends_behind front (rows_text route_addrs_rows m)
    (bits_end (codes " addrs ") (encode_lower (to_be_bytes w32 (number_at 12 4 m))) (names_from true address_names (number_at 12 4 m))) in
    (last.0, route_rows_parted m ∙ last.1)

ifa_ends : (m : List ℕ) → Ends (rows_text ifa_rows m)
unfolding rows_text ifa_field_rows
ifa_ends m =
    let last = bits_end (codes " addrs ") (encode_lower (to_be_bytes w32 (number_at 4 4 m))) (names_from true address_names (number_at 4 4 m)) in
    let flags = bits_line 8 (codes " flags ") ifa_flag_names in
    let padding = number_line 14 2 (codes " padding ") in
    let addrs = bits_line 4 (codes " addrs ") address_names in
    let fields = ends_behind (row_text flags (number_at 8 4 m)) (rows_text (padding ∷ addrs ∷ []) m)
    (ends_behind (row_text padding (number_at 14 2 m)) (rows_text (addrs ∷ []) m) last) in
    let all = ends_behind (rows_text ifa_first_rows m) (rows_text ifa_field_rows m) fields in
    (all.0, ifa_rows_parted m ∙ all.1)

-- ---- the lines of the addresses

unfoldable places_lined : List Place → Bool
places_lined [] = true
places_lined (p ∷ ps) = list_all is_line_byte p.name && places_lined ps

lined_if : (b : Bool) (x : List ℕ) → list_all is_line_byte x ≡ true → list_all is_line_byte (if b then x else []) ≡ true
lined_if true x h = h
lined_if false x h = refl

ends_if : (b : Bool) (x : List ℕ) → ((if b then x ++ codes "\n" else []) ≡ []) ⊎ Ends (if b then x ++ codes "\n" else [])
ends_if true x = inr (x, refl)
ends_if false x = inl refl

bytes_if : (b : Bool) (k : ℕ) (m : List ℕ) → IsBytes m → IsBytes (if b then drop k m else m)
bytes_if true k m are = bytes_behind k m are
bytes_if false k m are = are

behind_bytes : (bit addrs : ℕ) (m : List ℕ) → IsBytes m → IsBytes (behind bit addrs m)
unfolding behind
behind_bytes bit addrs m are = bytes_if (begins bit addrs m) (rounded (length_byte m)) m are

lined_line : (p : Place) (addrs : ℕ) (m : List ℕ) → IsBytes m → list_all is_line_byte p.name ≡ true
    → list_all is_line_byte (address_line p addrs m) ≡ true
unfolding address_line
lined_line p addrs m are name =
    let text = address_text p.is_mask (front m) in
    let printed = lined text (printed_address p.is_mask (front m) (bytes_before (rounded (length_byte m)) m are)) in
    lined_if (begins p.bit addrs m) (p.name ++ text ++ codes "\n")
    (all_both is_line_byte (p.name ++ text) (codes "\n") (all_both is_line_byte p.name text name printed) refl)

lined_rest : (m : List ℕ) → IsBytes m → list_all is_line_byte (rest_line m) ≡ true
unfolding rest_line
lined_rest [] are = refl
lined_rest (b ∷ m) are =
    all_both is_line_byte (codes " behind " ++ encode_lower (b ∷ m)) (codes "\n")
    (all_both is_line_byte (codes " behind ") (encode_lower (b ∷ m)) refl (lined (encode_lower (b ∷ m)) (printed_hex (b ∷ m) are))) refl

lined_lines : (ps : List Place) (addrs : ℕ) (m : List ℕ) → IsBytes m → places_lined ps ≡ true
    → list_all is_line_byte (address_lines ps addrs m) ≡ true
unfolding places_lined
lined_lines [] addrs m are h = lined_rest m are
lined_lines (p ∷ ps) addrs m are h =
    let parts = and_parts _ _ h in
    all_both is_line_byte (address_line p addrs m) (address_lines ps addrs (behind p.bit addrs m)) (lined_line p addrs m are parts.0)
    (lined_lines ps addrs (behind p.bit addrs m) (behind_bytes p.bit addrs m are) parts.1)

rest_ends : (m : List ℕ) → (rest_line m ≡ []) ⊎ Ends (rest_line m)
unfolding rest_line
rest_ends [] = inl refl
rest_ends (b ∷ m) = inr (codes " behind " ++ encode_lower (b ∷ m), refl)

line_ends : (p : Place) (addrs : ℕ) (m : List ℕ) → (address_line p addrs m ≡ []) ⊎ Ends (address_line p addrs m)
unfolding address_line
line_ends p addrs m = ends_if (begins p.bit addrs m) (p.name ++ address_text p.is_mask (front m))

lines_end : (ps : List Place) (addrs : ℕ) (m : List ℕ) → (address_lines ps addrs m ≡ []) ⊎ Ends (address_lines ps addrs m)
lines_end [] addrs m = rest_ends m
lines_end (p ∷ ps) addrs m =
    ends_or_none (address_line p addrs m) (address_lines ps addrs (behind p.bit addrs m)) (line_ends p addrs m)
    (lines_end ps addrs (behind p.bit addrs m))

-- ---- all bytes

places_are_lined : places_lined places ≡ true
unfolding places_lined
places_are_lined = refl

header_lines : (about : Bool) (m : List ℕ) → IsBytes m → AreLines (if about then rows_text ifa_rows m else rows_text route_rows m)
header_lines true m are = record { bytes = lined_ifa m are; ended = ifa_ends m }
header_lines false m are = record { bytes = lined_route m are; ended = route_ends m }

message_lines : (m : List ℕ) → IsBytes m → AreLines (message_text m)
message_lines m are =
    let header = if is_about_address m then rows_text ifa_rows m else rows_text route_rows m in
    let lines = address_lines places (addrs_in m) (body_of m) in
    let first = header_lines (is_about_address m) m are in
    record {
      bytes = all_both is_line_byte header lines first.bytes
          (lined_lines places (addrs_in m) (body_of m) (bytes_behind (header_size m) m are) places_are_lined);
      ended = ends_before header lines first.ended (lines_end places (addrs_in m) (body_of m));
    }

lined_reason : (f : MsgErr) → list_all is_line_byte (msg_err_text f) ≡ true
lined_reason fault.Length = refl
lined_reason fault.Version = refl
lined_reason fault.Overrun = refl

fault_lines : (f : MsgErr) (m : List ℕ) → IsBytes m → AreLines (fault_text f m)
fault_lines f m are =
    let hex = encode_lower m in
    let one = all_both is_line_byte (codes "no message: ") hex refl (lined hex (printed_hex m are)) in
    let two = all_both is_line_byte (codes "no message: " ++ hex) (codes "\n ") one refl in
    let three = all_both is_line_byte (codes "no message: " ++ hex ++ codes "\n ") (msg_err_text f) two (lined_reason f) in
    let text = codes "no message: " ++ hex ++ codes "\n " ++ msg_err_text f in
    record { bytes = all_both is_line_byte text (codes "\n") three refl; ended = (text, refl) }

lines_by : (f : Option MsgErr) (m : List ℕ) → IsBytes m → AreLines (text_by f m)
lines_by None m are = message_lines m are
lines_by (Some f) m are = fault_lines f m are

pub texts_are_lines : TextsAreLines
texts_are_lines m are = lines_by (fault_in m) m are
