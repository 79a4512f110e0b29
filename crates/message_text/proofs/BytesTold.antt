-- All bytes are told by their text.
use Rattle.std.proofs.Common.{◌≡◌, ◌∙◌, ℕ, ◌≤◌, Bool, true, false, ◌&&◌, ◌||◌, not, nat_lt, ◌==◌, List, [], ◌∷◌, ◌++◌, length, take, drop, get_or, codes, refl, sym, ap, append_assoc, get_or-drop, take-append-drop}
use Rattle.std.specs.Fmt.{digits}
use Rattle.std.specs.Prelude.{if◌then◌else◌, Option, Some, None, slice_index}
use Rattle.std.proofs.lemmas.Bool.{and_parts, eq-eqb, ltb-false}
use Rattle.std.proofs.lemmas.List.{append_cancel_left}
use Rattle.hex.specs.Hex.{IsBytes, encode_lower}
use Rattle.sock_addrs.specs.Rules.{Rule, first_fault, rule}
use Rattle.sock_addrs.proofs.Below.{passes_at, passes_below}
use Rattle.route_msgs.specs.Layout.{number_at}
use Rattle.route_msgs.specs.MsgErr.{msg_err_text}
use Rattle.route_msgs.specs.declared.kinds.TheConstants.{RTM_DELADDR, RTM_NEWADDR, RTM_VERSION}
use Rattle.route_msgs.specs.declared.parsed.MsgErr.{MsgErr}
use Rattle.route_msgs.specs.declared.parsed.MsgErr.TheVariants as fault
use Rattle.message_text.specs.Addresses.{address_lines, one_passes, places}
use Rattle.message_text.specs.Laws.{TextsTellTheirBytes}
use Rattle.message_text.specs.Names.{kind_text}
use Rattle.message_text.specs.Parts.{addrs_in, body_of, fault_in, has_size, header_size, is_about_address}
use Rattle.message_text.specs.Rows.{Row, kind_row, rows_text}
use Rattle.message_text.specs.Tables.{ifa_first_rows, ifa_rows, route_first_rows, route_rows}
use Rattle.message_text.specs.Texts.{fault_text, message_text, text_by}
use Rattle.message_text.proofs.HeadersTold.{ifa_header_told, one_told, route_header_told}
use Rattle.message_text.proofs.LinesTold.{lines_told}
use Rattle.message_text.proofs.Parting.{differs}
use Rattle.message_text.proofs.Printable.{hex_parted}
use Rattle.message_text.proofs.Told.{byte_small, bytes_behind, kind_told}

-- where the first rule doesn't hold, what it denies does
holds_unless : (h : Bool) (rest : List (Rule MsgErr)) → first_fault (rule (not h) fault.Length ∷ rest) ≡ None → h ≡ true
holds_unless true rest e = refl
holds_unless false rest e = cc

not_less : (less : Bool) (l k : ℕ) → nat_lt l k ≡ less → not less ≡ true → k ≤ l
not_less true l k same past = cc
not_less false l k same past = ltb-false l k same

long_enough : (l k : ℕ) (b : Bool) → (not (nat_lt l k) && b) ≡ true → k ≤ l
long_enough l k b h = not_less (nat_lt l k) l k refl (and_parts _ _ h).0

-- a message has its header
has_header : (m : List ℕ) → fault_in m ≡ None → header_size m ≤ length m
has_header m e = long_enough (length m) (header_size m) (number_at 0 2 m == length m) (holds_unless (has_size m)
    (rule (not (number_at 2 1 m == RTM_VERSION)) fault.Version ∷ rule (one_passes places (addrs_in m) (body_of m)) fault.Overrun ∷ []) e)

-- ---- the type

-- the type begins the rows of each header
kind_first : (rs : List Row) (m : List ℕ)
    → rows_text (kind_row ∷ rs) m ≡ kind_text (number_at 3 1 m) ++ 58 ∷ (codes " " ++ rows_text rs m)
unfolding rows_text
kind_first rs m = append_assoc (kind_text (number_at 3 1 m)) (58 ∷ codes " ") (rows_text rs m)

header_text : Bool → List ℕ → List ℕ
header_text about m = if about then rows_text ifa_rows m else rows_text route_rows m

behind_kind : Bool → List ℕ → List ℕ
behind_kind about m = codes " " ++ rows_text (drop 1 (if about then ifa_rows else route_rows)) m

kind_begins : (about : Bool) (m : List ℕ) → header_text about m ≡ kind_text (number_at 3 1 m) ++ 58 ∷ behind_kind about m
unfolding header_text behind_kind ifa_rows ifa_first_rows route_rows route_first_rows
kind_begins true m = kind_first (drop 1 ifa_rows) m
kind_begins false m = kind_first (drop 1 route_rows) m

-- and so a message's text
kind_before : (m : List ℕ) (t : List ℕ)
    → header_text (is_about_address m) m ++ t
    ≡ kind_text (number_at 3 1 m) ++ (58 ∷ behind_kind (is_about_address m) m ++ t)
kind_before m t =
    let about = is_about_address m in
    ap (λ (l : List ℕ). l ++ t) (kind_begins about m) ∙ append_assoc (kind_text (number_at 3 1 m)) (58 ∷ behind_kind about m) t

same_kind : (m n t u : List ℕ) → IsBytes m → IsBytes n
    → header_text (is_about_address m) m ++ t ≡ header_text (is_about_address n) n ++ u → slice_index m 3 ≡ slice_index n 3
same_kind m n t u p q e =
    let told = kind_told (number_at 3 1 m) (number_at 3 1 n) (behind_kind (is_about_address m) m ++ t)
    (behind_kind (is_about_address n) n ++ u) (byte_small 3 m p) (byte_small 3 n q) (sym (kind_before m t) ∙ e ∙ kind_before n u) in
    sym (get_or-drop 3 m 0 0) ∙ one_told 3 m n told.0 ∙ get_or-drop 3 n 0 0

-- ---- messages

-- the text of a message of each layout tells its header, the addresses that this names, and the text behind it
by_layout : (about : Bool) (m n t u : List ℕ) → IsBytes m → IsBytes n
    → (if about then 20 else 76) ≤ length m → (if about then 20 else 76) ≤ length n
    → header_text about m ++ t ≡ header_text about n ++ u
    → (take (if about then 20 else 76) m ≡ take (if about then 20 else 76) n)
    × ((if about then number_at 4 4 m else number_at 12 4 m) ≡ (if about then number_at 4 4 n else number_at 12 4 n)) × (t ≡ u)
unfolding header_text
by_layout true m n t u p q long long_too e = ifa_header_told m n t u p q long long_too e
by_layout false m n t u p q long long_too e = route_header_told m n t u p q long long_too e

message_told : (m n : List ℕ) → IsBytes m → IsBytes n → header_size m ≤ length m → header_size n ≤ length n
    → message_text m ≡ message_text n → m ≡ n
unfolding header_text
message_told m n p q long long_too e =
    let about = is_about_address m in
    let size = header_size m in
    let kind : slice_index n 3 ≡ slice_index m 3 =
    sym (same_kind m n (address_lines places (addrs_in m) (body_of m)) (address_lines places (addrs_in n) (body_of n)) p q e) in
    let alike : is_about_address n ≡ about = ap (λ (k : ℕ). k == RTM_NEWADDR || k == RTM_DELADDR) kind in
    let layout : (λ (b : Bool). header_text b n ++ address_lines places (if b then number_at 4 4 n else number_at 12 4 n)
    (drop (if b then 20 else 76) n)) (is_about_address n)
    ≡ header_text about n ++ address_lines places (if about then number_at 4 4 n else number_at 12 4 n) (drop size n) =
    ap (λ (b : Bool). header_text b n ++ address_lines places (if b then number_at 4 4 n else number_at 12 4 n)
    (drop (if b then 20 else 76) n)) alike in
    let long_enough : size ≤ length n = rw (← alike) long_too in
    let told = by_layout about m n (address_lines places (addrs_in m) (drop size m))
    (address_lines places (if about then number_at 4 4 n else number_at 12 4 n) (drop size n)) p q long long_enough (e ∙ layout) in
    let lines = told.2 ∙ ap (λ (a : ℕ). address_lines places a (drop size n)) (sym told.1) in
    let rest = lines_told places (addrs_in m) (drop size m) (drop size n) (bytes_behind size m p) (bytes_behind size n q) lines in
    sym (take-append-drop size m) ∙ ap (λ (l : List ℕ). l ++ drop size m) told.0 ∙ ap (λ (l : List ℕ). take size n ++ l) rest
    ∙ take-append-drop size n

-- ---- bytes that are no message

in_fault : (a b c d e : List ℕ) → (((a ++ b) ++ c) ++ d) ++ e ≡ a ++ (b ++ (c ++ (d ++ e)))
in_fault a b c d e = simp append_assoc

abbrev reason : MsgErr → List ℕ
reason f = codes "\n " ++ (msg_err_text f ++ codes "\n")

fault_parts : (f : MsgErr) (m : List ℕ) → fault_text f m ≡ codes "no message: " ++ (encode_lower m ++ reason f)
fault_parts f m = in_fault (codes "no message: ") (encode_lower m) (codes "\n ") (msg_err_text f) (codes "\n")

fault_told : (f g : MsgErr) (m n : List ℕ) → IsBytes m → IsBytes n → fault_text f m ≡ fault_text g n → m ≡ n
fault_told f g m n p q e =
    (hex_parted m n (reason f) (reason g) p q refl refl
    (append_cancel_left (codes "no message: ") (encode_lower m ++ reason f) (encode_lower n ++ reason g)
    (sym (fault_parts f m) ∙ e ∙ fault_parts g n))).0

-- no type's name begins as such a text does
begins_otherwise : List ℕ → Bool
begins_otherwise [] = false
begins_otherwise (b ∷ t) = not (b == 110)

kinds_begin_otherwise : passes_below 256 (λ n. begins_otherwise (kind_text n)) ≡ true
unfolding passes_below digits begins_otherwise
kinds_begin_otherwise = refl

first_otherwise : (t x : List ℕ) → begins_otherwise t ≡ true → get_or (t ++ x) 0 0 ≡ 110 → ⊥
unfolding begins_otherwise
first_otherwise [] x h e = cc
first_otherwise (b ∷ t) x h e = differs (b == 110) (eq-eqb b 110 e) h

no_fault : (f : MsgErr) (m n : List ℕ) → IsBytes m → message_text m ≡ fault_text f n → ⊥
unfolding header_text
no_fault f m n p e =
    let lines = address_lines places (addrs_in m) (body_of m) in
    let first : get_or (message_text m) 0 0 ≡ 110 = ap (λ (l : List ℕ). get_or l 0 0) (e ∙ fault_parts f n) in
    first_otherwise (kind_text (number_at 3 1 m)) (58 ∷ behind_kind (is_about_address m) m ++ lines)
    (passes_at 256 (λ k. begins_otherwise (kind_text k)) (number_at 3 1 m) kinds_begin_otherwise (byte_small 3 m p))
    (ap (λ (l : List ℕ). get_or l 0 0) (sym (kind_before m lines)) ∙ first)

-- ---- all bytes

told_by : (f g : Option MsgErr) (m n : List ℕ) → IsBytes m → IsBytes n → fault_in m ≡ f → fault_in n ≡ g
    → text_by f m ≡ text_by g n → m ≡ n
told_by None None m n p q none none_too e = message_told m n p q (has_header m none) (has_header n none_too) e
told_by None (Some g) m n p q none some e = absurd (no_fault g m n p e)
told_by (Some f) None m n p q some none e = absurd (no_fault f n m q (sym e))
told_by (Some f) (Some g) m n p q some some_too e = fault_told f g m n p q e

pub texts_tell_their_bytes : TextsTellTheirBytes
texts_tell_their_bytes m n p q e = told_by (fault_in m) (fault_in n) m n p q refl refl e
