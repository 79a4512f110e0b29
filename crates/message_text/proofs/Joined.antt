-- A text that a table gives is that of its first rows and then that of the others.
use Rattle.std.proofs.Common.{◌≡◌, ◌∙◌, ℕ, Bool, true, List, [], ◌∷◌, ◌++◌, refl, sym, ap, append_assoc}
use Rattle.message_text.specs.Names.{Named, first_after, flag_names, high_flag_names, low_flag_names, name_of_bit, names_from, still_first}
use Rattle.message_text.specs.Rows.{Row, row_text, rows_text}
use Rattle.message_text.specs.Tables.{ifa_field_rows, ifa_first_rows, ifa_rows, path_rows, route_addrs_rows, route_field_rows, route_first_rows, route_rows, time_rows}
use Rattle.route_msgs.specs.Layout.{number_at}

names_from-append : (first : Bool) (xs ys : List Named) (n : ℕ)
    → names_from first (xs ++ ys) n ≡ names_from first xs n ++ names_from (first_after first xs n) ys n
unfolding names_from first_after
names_from-append first [] ys n = refl
names_from-append first (x ∷ xs) ys n =
    let text = name_of_bit first n x in
    let next = still_first first n x in
    ap (λ (rest : List ℕ). text ++ rest) (names_from-append next xs ys n)
    ∙ sym (append_assoc text (names_from next xs n) (names_from (first_after next xs n) ys n))

pub flag_names_parted : (n : ℕ) → names_from true flag_names n
    ≡ names_from true low_flag_names n ++ names_from (first_after true low_flag_names n) high_flag_names n
unfolding flag_names
flag_names_parted n = names_from-append true low_flag_names high_flag_names n

pub rows_text-append : (xs ys : List Row) (m : List ℕ) → rows_text (xs ++ ys) m ≡ rows_text xs m ++ rows_text ys m
unfolding rows_text
rows_text-append [] ys m = refl
rows_text-append (x ∷ xs) ys m =
    let text = row_text x (number_at x.offset x.width m) in
    ap (λ (rest : List ℕ). text ++ rest) (rows_text-append xs ys m)
    ∙ sym (append_assoc text (rows_text xs m) (rows_text ys m))

pub route_rows_parted : (m : List ℕ) → rows_text route_rows m
    ≡ rows_text route_first_rows m ++ rows_text route_field_rows m ++ rows_text path_rows m ++ rows_text time_rows m
    ++ rows_text route_addrs_rows m
unfolding route_rows
route_rows_parted m =
    let two = route_first_rows ++ route_field_rows in
    let three = two ++ path_rows in
    let four = three ++ time_rows in
    rows_text-append four route_addrs_rows m
    ∙ ap (λ (front : List ℕ). front ++ rows_text route_addrs_rows m)
    (rows_text-append three time_rows m
    ∙ ap (λ (front : List ℕ). front ++ rows_text time_rows m)
    (rows_text-append two path_rows m
    ∙ ap (λ (front : List ℕ). front ++ rows_text path_rows m) (rows_text-append route_first_rows route_field_rows m)))

pub ifa_rows_parted : (m : List ℕ) → rows_text ifa_rows m ≡ rows_text ifa_first_rows m ++ rows_text ifa_field_rows m
unfolding ifa_rows
ifa_rows_parted m = rows_text-append ifa_first_rows ifa_field_rows m
