-- The lines of a text that begins with a response.
use Rattle.std.proofs.Common.{◌≡◌, ◌≢◌, ℕ, List, [], ◌∷◌, ◌++◌, codes, decimal, refl, sym, subst, append_assoc, Some, None, Result, Ok, Err}
use Rattle.std.specs.Fmt.{digits}
use Rattle.std.specs.List.{All, join_with_byte}
use Rattle.std.specs.Prelude.{flat_map}
use Rattle.std.proofs.lemmas.List.Elements.{All-append, All-nil, All-cons, All-head, All-tail}
use Rattle.sock_addrs.specs.Errno.{errno_number}
use Rattle.sock_addrs.specs.declared.errno.Errno.TheVariants.{ENOBUFS}
use Rattle.route_core.specs.declared.answer.Answer.{Answer}
use Rattle.route_core.specs.declared.answer.Answer.TheVariants.{Done, Refused, Routed, Dropped, Size, Messages}
use Rattle.event_file.specs.Answers.{ResponsesEndInANewline, choice_words, message_line, response_text}
use Rattle.event_file.specs.Lines.{lines_of}
use Rattle.event_file.specs.declared.bad.Bad.{Bad}
use Rattle.event_file.proofs.LineLemmas.{ended_lines-end, lines_of-ended}

pub response-ends : ResponsesEndInANewline
response-ends (Err bad) = (codes "bad", refl)
response-ends (Ok Done) = (codes "ok", refl)
response-ends (Ok (Refused errno)) = (codes "err " ++ decimal (errno_number errno), refl)
response-ends (Ok (Routed choice)) = (join_with_byte 32 (codes "via" ∷ choice_words choice), refl)
response-ends (Ok (Dropped choice)) = (join_with_byte 32 (codes "drop" ∷ choice_words choice), refl)
response-ends (Ok (Size size)) = (codes "size " ++ decimal size, refl)
response-ends (Ok (Messages messages None)) =
    (flat_map message_line messages ++ codes "ok", sym (append_assoc (flat_map message_line messages) (codes "ok") (codes "\n")))
response-ends (Ok (Messages messages (Some errno))) =
    let why = codes "err " ++ decimal (errno_number errno) in
    (flat_map message_line messages ++ why, sym (append_assoc (flat_map message_line messages) why (codes "\n")))

-- a text begins with lines of its own
abbrev Begins : List ℕ → List ℕ → Type 0
Begins rest text = lines_of (text ++ rest) ≡ lines_of text ++ lines_of rest

pub lines_of-response : (response : Result Answer Bad) (rest : List ℕ) → lines_of (response_text response ++ rest) ≡ lines_of (response_text response) ++ lines_of rest
lines_of-response response rest =
    let (front, ends) = response-ends response in
    subst (Begins rest) (sym ends) (subst (Begins rest) (ended_lines-end front) (lines_of-ended (front ++ codes "\n") rest))

-- ---- what holds of all lines of a text

All-left : {X : Type 0} (P : X → Type 0) (xs ys : List X) → All P (xs ++ ys) → All P xs
All-left P [] ys all = All-nil P
All-left P (x ∷ xs) ys all = All-cons P x xs (All-head P x (xs ++ ys) all) (All-left P xs ys (All-tail P x (xs ++ ys) all))

All-right : {X : Type 0} (P : X → Type 0) (xs ys : List X) → All P (xs ++ ys) → All P ys
All-right P [] ys all = all
All-right P (x ∷ xs) ys all = All-right P xs ys (All-tail P x (xs ++ ys) all)

-- of all lines of a response and a rest, it holds of all lines of each; and the other way round
pub All-first : (P : List ℕ → Type 0) (response : Result Answer Bad) (rest : List ℕ)
    → All P (lines_of (response_text response ++ rest)) → All P (lines_of (response_text response))
All-first P response rest all =
    All-left P (lines_of (response_text response)) (lines_of rest) (subst (All P) (lines_of-response response rest) all)

pub All-rest : (P : List ℕ → Type 0) (response : Result Answer Bad) (rest : List ℕ)
    → All P (lines_of (response_text response ++ rest)) → All P (lines_of rest)
All-rest P response rest all =
    All-right P (lines_of (response_text response)) (lines_of rest)
    (subst (All P) (lines_of-response response rest) all)

pub All-both : (P : List ℕ → Type 0) (response : Result Answer Bad) (rest : List ℕ)
    → All P (lines_of (response_text response)) → All P (lines_of rest)
    → All P (lines_of (response_text response ++ rest))
All-both P response rest first behind =
    subst (All P) (sym (lines_of-response response rest))
    (All-append P (lines_of (response_text response)) (lines_of rest) first behind)

-- no line of the text says that memory was refused
abbrev pub NoneFull : List ℕ → Type 0
NoneFull text = All (λ line. line ≢ codes "err 55") (lines_of text)

full_line : lines_of (response_text (Ok (Refused ENOBUFS))) ≡ codes "err 55" ∷ []
unfolding digits
full_line = refl

none_full-response : (response : Result Answer Bad) → NoneFull (response_text response) → response ≢ Ok (Refused ENOBUFS)
none_full-response response none is =
    let full : NoneFull (response_text (Ok (Refused ENOBUFS))) = subst (λ r. NoneFull (response_text r)) is none in
    All-head (λ line. line ≢ codes "err 55") (codes "err 55") [] (subst (All (λ line. line ≢ codes "err 55")) full_line full) refl

-- the first response is none that says so, and the rest has no such line
pub none_full-first : (response : Result Answer Bad) (rest : List ℕ)
    → NoneFull (response_text response ++ rest) → response ≢ Ok (Refused ENOBUFS)
none_full-first response rest none =
    none_full-response response (All-first (λ line. line ≢ codes "err 55") response rest none)

pub none_full-rest : (response : Result Answer Bad) (rest : List ℕ)
    → NoneFull (response_text response ++ rest) → NoneFull rest
none_full-rest response rest none = All-rest (λ line. line ≢ codes "err 55") response rest none
