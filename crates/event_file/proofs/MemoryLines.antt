-- Which lines of an answer say that there is no memory.
use Rattle.std.proofs.Common.{◌≡◌, ◌≢◌, ◌∙◌, ◌+◌, ◌/◌, ◌%◌, ◌==◌, zero, suc, ℕ, Bool, true, false, not, nat_lt, ◌||◌, cond, List, [], ◌∷◌, ◌++◌, length, length-append, codes, bytes_eq, decimal, get_or, slice_index, append_assoc, arith, refl, sym, ap, subst, Some, None, Result, Ok}
use Rattle.std.specs.Prelude.{⊤, if◌then◌else◌, filter, flat_map}
use Rattle.std.specs.Fmt.{digit_glyph, digits, digits_onto}
use Rattle.std.specs.List.{All, join_with_byte, list_all}
use Rattle.std.proofs.lemmas.Bool.{ne_eqb, true≢false}
use Rattle.std.proofs.lemmas.List.Concat.{flat_map-cons}
use Rattle.std.proofs.lemmas.List.Elements.{All-append, All-cons, All-head, All-nil, All-tail, filter-append}
use Rattle.std.proofs.lemmas.List.Sums.{AllPass-from_list_all}
use Rattle.std.proofs.lemmas.Slice.Eq.{bytes_eq-Decides}
use Rattle.hex.specs.Hex.{encode_lower, encode_with, lower_digits}
use Rattle.sock_addrs.specs.Errno.{errno_number}
use Rattle.sock_addrs.specs.declared.errno.Errno.{Errno}
use Rattle.sock_addrs.specs.declared.errno.Errno.TheVariants.{ENOBUFS}
use Rattle.sock_addrs.specs.declared.gate.Gate.{Gate}
use Rattle.sock_addrs.specs.declared.gate.Gate.TheVariants.{Inet, Link}
use Rattle.route_core.specs.declared.answer.Answer.{Answer}
use Rattle.route_core.specs.declared.answer.Answer.TheVariants.{Done, Refused, Routed, Dropped, Size, Messages}
use Rattle.route_core.specs.declared.answer.Choice.{Choice}
use Rattle.event_file.specs.Answers.{answer_text, choice_words, gate_word, last_line, message_line, rank_word, refusal_line, response_text}
use Rattle.event_file.specs.Causes.{refusals}
use Rattle.event_file.specs.Lines.{has_newline, lines_of}
use Rattle.event_file.specs.Printed.{inet_word}
use Rattle.event_file.specs.declared.bad.Bad.{Bad}
use Rattle.event_file.proofs.Joined.{Lacks, Lacks-joined, Lacks-tested}
use Rattle.event_file.proofs.LineLemmas.{lines_of-line}
use Rattle.event_file.proofs.PrintedWords.{Lacks-inet_word}
use Rattle.event_file.proofs.ResponseLines.{NoneFull, lines_of-response}

-- ---- no newline stands in the words of an answer

Lacks-codes : (text : List ℕ) → list_all (λ b. not (b == 10)) text ≡ true → Lacks 10 text
Lacks-codes text are = Lacks-tested (λ b. not (b == 10)) 10 text (AllPass-from_list_all (λ b. not (b == 10)) text are) refl

Lacks-append : (xs ys : List ℕ) → Lacks 10 xs → Lacks 10 ys → Lacks 10 (xs ++ ys)
Lacks-append xs ys p q = All-append (λ b. (b == 10) ≡ false) xs ys p q

glyph-other : (d : ℕ) → (digit_glyph false d == 10) ≡ false
glyph-other d = elim (nat_lt d 10) as (λ t. ((if t then 48 + d else 87 + d) == 10) ≡ false) [
  | true ↦ ne_eqb (48 + d) 10 (λ e. omega (arith, e))
  | false ↦ ne_eqb (87 + d) 10 (λ e. omega (arith, e))
]

Lacks-digits_onto : (k n : ℕ) (acc : List ℕ) → Lacks 10 acc → Lacks 10 (digits_onto k 10 false n acc)
Lacks-digits_onto zero n acc h = h
Lacks-digits_onto (suc k) n acc h =
    let glyph = digit_glyph false (n % 10) in
    let more : Lacks 10 (glyph ∷ acc) = All-cons (λ b. (b == 10) ≡ false) glyph acc (glyph-other (n % 10)) h in
    elim (n / 10 == 0) as (λ t. Lacks 10 (if t then glyph ∷ acc else digits_onto k 10 false (n / 10) (glyph ∷ acc))) [
      | true ↦ more
      | false ↦ Lacks-digits_onto k (n / 10) (glyph ∷ acc) more
    ]

Lacks-number : (n : ℕ) → Lacks 10 (decimal n)
unfolding digits
Lacks-number n = Lacks-digits_onto 64 n [] (All-nil (λ b. (b == 10) ≡ false))

place-other : (xs : List ℕ) → Lacks 10 xs → (k : ℕ) → (get_or xs k 0 == 10) ≡ false
place-other [] lack k = refl
place-other (x ∷ xs) lack zero = All-head (λ b. (b == 10) ≡ false) x xs lack
place-other (x ∷ xs) lack (suc k) = place-other xs (All-tail (λ b. (b == 10) ≡ false) x xs lack) k

digit-other : (k : ℕ) → (slice_index lower_digits k == 10) ≡ false
digit-other k = place-other lower_digits (Lacks-codes lower_digits refl) k

Lacks-hex : (bytes : List ℕ) → Lacks 10 (encode_lower bytes)
unfolding encode_with
Lacks-hex [] = All-nil (λ b. (b == 10) ≡ false)
Lacks-hex (b ∷ bs) =
    let rest = encode_with lower_digits bs in
    let low = slice_index lower_digits (b % 16) in
    All-cons (λ b. (b == 10) ≡ false) (slice_index lower_digits (b / 16)) (low ∷ rest) (digit-other (b / 16))
    (All-cons (λ b. (b == 10) ≡ false) low rest (digit-other (b % 16)) (Lacks-hex bs))

Lacks-rank_word : (rank : ℕ) → Lacks 10 (rank_word rank)
Lacks-rank_word rank = elim (rank == 33) as (λ t. Lacks 10 (if t then codes "-" else decimal rank)) [
  | true ↦ Lacks-codes (codes "-") refl
  | false ↦ Lacks-number rank
]

Lacks-address : (address : ℕ) → Lacks 10 (inet_word address)
Lacks-address address = Lacks-inet_word 10 address (omega arith) (λ e. omega arith)

Lacks-gate_word : (gate : Gate) → Lacks 10 (gate_word gate)
Lacks-gate_word (Inet address) = Lacks-address address
Lacks-gate_word (Link sockaddr) = Lacks-append (codes "link:") (encode_lower sockaddr) (Lacks-codes (codes "link:") refl) (Lacks-hex sockaddr)

Lacks-choice : (fate : List ℕ) (c : Choice) → Lacks 10 fate → Lacks 10 (join_with_byte 32 (fate ∷ choice_words c))
Lacks-choice fate c lack = Lacks-joined 10 32 (fate ∷ choice_words c) (λ e. omega arith)
    (lack, (Lacks-address c.key, (Lacks-rank_word c.rank, (Lacks-gate_word c.gateway, (Lacks-number c.index, (Lacks-hex _, tt))))))

no_newline : (text : List ℕ) → Lacks 10 text → has_newline text ≡ false
no_newline [] lack = refl
no_newline (b ∷ bs) lack =
    ap (λ t. t || has_newline bs) (All-head (λ b. (b == 10) ≡ false) b bs lack)
    ∙ no_newline bs (All-tail (λ b. (b == 10) ≡ false) b bs lack)

-- ---- lines that don't say that there is no memory

abbrev Other : List ℕ → Type 0
Other line = line ≢ codes "err 55"

other_first : (line : List ℕ) (b : ℕ) → get_or line 0 0 ≡ b → b ≢ 101 → Other line
other_first line b first other e = other (sym first ∙ ap (λ (l : List ℕ). get_or l 0 0) e)

-- a line, and lines behind it
none_full-line : (word more : List ℕ) → Lacks 10 word → Other word → NoneFull more → NoneFull (word ++ 10 ∷ more)
none_full-line word more lack other rest =
    subst (All Other) (sym (lines_of-line word more (no_newline word lack))) (All-cons Other word (lines_of more) other rest)

pub none_full-nil : NoneFull []
none_full-nil = All-nil Other

-- a line alone
none_full-word : (word : List ℕ) → Lacks 10 word → Other word → NoneFull (word ++ 10 ∷ [])
none_full-word word lack other = none_full-line word [] lack other none_full-nil

abbrev refusal_word : Errno → List ℕ
refusal_word errno = codes "err " ++ decimal (errno_number errno)

refusal-tested : (errno : Errno) → errno ≢ ENOBUFS → bytes_eq (refusal_word errno) (codes "err 55") ≡ false
unfolding digits
refusal-tested ENOBUFS other = absurd (other refl)
refusal-tested errno other = refl

refusal-other : (errno : Errno) → errno ≢ ENOBUFS → Other (refusal_word errno)
refusal-other errno other e =
    true≢false (sym ((bytes_eq-Decides (refusal_word errno) (codes "err 55")).1 e) ∙ refusal-tested errno other)

Lacks-refusal : (errno : Errno) → Lacks 10 (refusal_word errno)
Lacks-refusal errno = Lacks-append (codes "err ") (decimal (errno_number errno)) (Lacks-codes (codes "err ") refl)
    (Lacks-number (errno_number errno))

-- ---- answers that don't say so

-- the answer doesn't say that there is no memory
abbrev pub HasMemory : Answer → Type 0
HasMemory (Refused errno) = errno ≢ ENOBUFS
HasMemory (Messages messages (Some errno)) = errno ≢ ENOBUFS
HasMemory (Messages messages None) = ⊤
HasMemory Done = ⊤
HasMemory (Routed choice) = ⊤
HasMemory (Dropped choice) = ⊤
HasMemory (Size size) = ⊤

none_full-messages : (messages : List (List ℕ)) (last : List ℕ) → NoneFull last → NoneFull (flat_map message_line messages ++ last)
none_full-messages [] last rest = rest
none_full-messages (m ∷ ms) last rest =
    let word = codes "msg " ++ encode_lower m in
    let more = flat_map message_line ms ++ last in
    let parts : flat_map message_line (m ∷ ms) ++ last ≡ word ++ 10 ∷ more =
    ap (λ t. t ++ last) (flat_map-cons message_line m ms) ∙ append_assoc (message_line m) (flat_map message_line ms) last
    ∙ append_assoc word (codes "\n") more in
    subst NoneFull (sym parts)
    (none_full-line word more (Lacks-append (codes "msg ") (encode_lower m) (Lacks-codes (codes "msg ") refl) (Lacks-hex m))
    (other_first _ 109 refl (λ e. omega (arith, e))) (none_full-messages ms last rest))

none_full-ok : NoneFull (codes "ok\n")
none_full-ok = none_full-word (codes "ok") (Lacks-codes (codes "ok") refl) (other_first _ 111 refl (λ e. omega (arith, e)))

none_full-refusal : (errno : Errno) → errno ≢ ENOBUFS → NoneFull (refusal_line (errno_number errno))
none_full-refusal errno has = none_full-word (refusal_word errno) (Lacks-refusal errno) (refusal-other errno has)

pub none_full-answer : (answer : Answer) → HasMemory answer → NoneFull (answer_text answer)
none_full-answer Done has = none_full-ok
none_full-answer (Refused errno) has = none_full-refusal errno has
none_full-answer (Routed choice) has =
    none_full-word (join_with_byte 32 (codes "via" ∷ choice_words choice))
    (Lacks-choice (codes "via") choice (Lacks-codes (codes "via") refl)) (other_first _ 118 refl (λ e. omega (arith, e)))
none_full-answer (Dropped choice) has =
    none_full-word (join_with_byte 32 (codes "drop" ∷ choice_words choice))
    (Lacks-choice (codes "drop") choice (Lacks-codes (codes "drop") refl)) (other_first _ 100 refl (λ e. omega (arith, e)))
none_full-answer (Size size) has =
    none_full-word (codes "size " ++ decimal size)
    (Lacks-append (codes "size ") (decimal size) (Lacks-codes (codes "size ") refl) (Lacks-number size))
    (other_first _ 115 refl (λ e. omega (arith, e)))
none_full-answer (Messages messages None) has =
    none_full-messages messages (codes "ok\n") none_full-ok
none_full-answer (Messages messages (Some errno)) has =
    none_full-messages messages (last_line (Some errno)) (none_full-refusal errno has)

pub none_full-bad : NoneFull (codes "bad\n")
none_full-bad = none_full-word (codes "bad") (Lacks-codes (codes "bad") refl) (other_first _ 98 refl (λ e. omega (arith, e)))

-- ---- how many lines say so

abbrev is_full : List ℕ → Bool
is_full line = bytes_eq line (codes "err 55")

is_full-other : (line : List ℕ) → Other line → is_full line ≡ false
is_full-other line other = elim (is_full line) as (λ t. is_full line ≡ t → t ≡ false) [
  | true ↦ λ e. absurd (other ((bytes_eq-Decides line (codes "err 55")).0 e))
  | false ↦ λ _. refl
] refl

none_counted : (lines : List (List ℕ)) → All Other lines → length (filter is_full lines) ≡ 0
none_counted [] none = refl
none_counted (line ∷ lines) none =
    ap (λ t. length (cond t (line ∷ filter is_full lines) (filter is_full lines))) (is_full-other line (All-head Other line lines none))
    ∙ none_counted lines (All-tail Other line lines none)

counted_none : (lines : List (List ℕ)) → length (filter is_full lines) ≡ 0 → All Other lines
counted_none [] none = All-nil Other
counted_none (line ∷ lines) none = elim (is_full line) as (λ t. is_full line ≡ t
    → length (cond t (line ∷ filter is_full lines) (filter is_full lines)) ≡ 0 → All Other (line ∷ lines)) [
      | true ↦ λ is some. absurd (omega (arith, some))
      | false ↦ λ is rest. All-cons Other line lines
          (λ e. true≢false (sym ((bytes_eq-Decides line (codes "err 55")).1 e) ∙ is)) (counted_none lines rest)
    ] refl none

pub refusals-none : (text : List ℕ) → NoneFull text → refusals text ≡ 0
refusals-none text none = none_counted (lines_of text) none

pub none-refusals : (text : List ℕ) → refusals text ≡ 0 → NoneFull text
none-refusals text none = counted_none (lines_of text) none

-- a response, and the text behind it
pub refusals-response : (response : Result Answer Bad) (rest : List ℕ)
    → refusals (response_text response ++ rest) ≡ refusals (response_text response) + refusals rest
refusals-response response rest =
    ap (λ ls. length (filter is_full ls)) (lines_of-response response rest)
    ∙ ap length (filter-append is_full (lines_of (response_text response)) (lines_of rest))
    ∙ length-append (filter is_full (lines_of (response_text response))) (filter is_full (lines_of rest))

pub refusals-one : refusals (response_text (Ok (Refused ENOBUFS))) ≡ 1
unfolding digits
refusals-one = refl
