-- Words without a space.
use Rattle.std.proofs.Common.{◌≡◌, ◌<◌, ◌≤◌, ℕ, Bool, false, cond, List, [], ◌∷◌, length, take, arith, nat_lt, Some, None, ◌==◌, get_or}
use Rattle.std.specs.Prelude.{position}
use Rattle.std.specs.List.{position_or_len}
use Rattle.std.proofs.lemmas.Bool.{or_parts}
use Rattle.std.proofs.lemmas.List.{get_or-take, length-take-le}
use Rattle.std.proofs.lemmas.List.Elements.{All-nil, All-cons, All-from_get_or}
use Rattle.std.proofs.lemmas.List.Folds.{list_any_none}
use Rattle.std.proofs.lemmas.List.Sums.{fails_before_first}
use Rattle.event_file.proofs.Joined.{Lacks}
use Rattle.line_faults.specs.Words.{has_space}

below : (p n at : ℕ) → Some at ≡ cond (nat_lt p n) (Some p) None → (p < n) × (p ≡ at)
below p n at h = grind arith

past : (p n : ℕ) → None ≡ cond (nat_lt p n) (Some p) None → n ≤ p
past p n h = grind arith

-- a byte before the first that passes
same_byte : (test : ℕ → Bool) (at : ℕ) (text : List ℕ) (k : ℕ) → k < at → position_or_len test text ≡ at → test (get_or (take at text) k 0) ≡ false
same_byte test at text k under is = rw (get_or-take at text k 0 under) (fails_before_first test text k 0 (omega (arith, under, is)))

-- before the first space there is none
pub none_before : (at : ℕ) (text : List ℕ) → Some at ≡ position (λ b. b == 32) text → has_space (take at text) ≡ false
none_before at text h =
    let is_space : ℕ → Bool = λ b. b == 32 in
    let there : (position_or_len is_space text < length text) × (position_or_len is_space text ≡ at) = below _ _ at h in
    list_any_none is_space (take at text) (All-from_get_or (λ b. (b == 32) ≡ false) (take at text) 0 (λ k within. same_byte is_space at text k (omega (arith, within, there.0, there.1, length-take-le at text (omega (arith, there.0, there.1)))) there.1))

-- where there is no first space there is none
pub none_at_all : (text : List ℕ) → None ≡ position (λ b. b == 32) text → has_space text ≡ false
none_at_all text h =
    let is_space : ℕ → Bool = λ b. b == 32 in
    let none : length text ≤ position_or_len is_space text = past _ _ h in
    list_any_none is_space text (All-from_get_or (λ b. (b == 32) ≡ false) text 0 (λ k within. fails_before_first is_space text k 0 (omega (arith, within, none))))

-- what is said of a text's bytes one by one
pub Lacks-spaceless : (text : List ℕ) → has_space text ≡ false → Lacks 32 text
Lacks-spaceless [] none = All-nil (λ b. (b == 32) ≡ false)
Lacks-spaceless (b ∷ bs) none =
    let (first, rest) = or_parts _ _ none in
    All-cons (λ b. (b == 32) ≡ false) b bs first (Lacks-spaceless bs rest)
