-- Facts of options, of tests and counts of one, of a write to one room, and of the bits of keys.
use Rattle.radix_tree.proofs.Words.{◌≡◌, ℕ, ◌≤◌, ◌==◌, Bool, true, false, if◌then◌else◌, Option, Some, None, is_some, refl, sym, ap, ◌∙◌, arith, true≢false, Id}
use Rattle.radix_tree.proofs.Words.{one_if, number_of, ◌<◌, ◌⊎◌, IsRoute, Entry, zero, suc, ◌+◌, ◌^◌, ◌/◌, subst, bit_xor, count_leading_zeros, front, Differs}
use Rattle.mask_table.proofs.Agreeing.{bit_of_front, masked_bits, front_suc}
use Rattle.radix_tree.specs.Tree.{bit_at, Covers}
use Rattle.std.proofs.Math.Nat.{div-eq_of_lt, lt-div-mul-add}
use Rattle.std.specs.Int.Bits.{xor_add_and, xor_self}
use Rattle.std.specs.Int.Count.{leading_of_zero}
use Rattle.std.proofs.lemmas.Nat.{and_le_l, and_le_r, leading_top, pow_pos, xor_lt, xor_shr}

pub some_of : {A : Type 0} (o : Option A) → is_some o ≡ true → (a : A) × (o ≡ Some a)
some_of o is = search arith

pub none_of : {A : Type 0} (o : Option A) → is_some o ≡ false → o ≡ None
none_of None e = refl
none_of (Some x) e = absurd (true≢false e)

pub same_none : {A : Type 0} {o : Option A} (p : Option A) → is_some p ≡ is_some o → o ≡ None → p ≡ None
same_none p same none = none_of p (same ∙ ap is_some none)

pub none_if : {A : Type 0} (o : Option A) → ((x : A) → o ≡ Some x → ⊥) → o ≡ None
none_if o never = search arith

pub no_use : (b : Bool) → one_if b ≡ 0 → b ≡ false
no_use b e = search arith

pub one_if_most : (b : Bool) → one_if b ≤ 1
one_if_most b = search arith

-- a test of two numbers, either way round
pub test_turned : (n k : ℕ) → (n == k) ≡ (k == n)
test_turned n k = grind arith

pub same_id : (a b : Id) → a.block ≡ b.block → a ≡ b
same_id a b block = ap (λ p. record { block = p }) block

pub own_room : {A : Type 0} (room : Id) (x y : A) → (if (number_of room) == (number_of room) then x else y) ≡ x
own_room room x y = grind arith

pub off_room : {A : Type 0} (room : Id) (n : ℕ) (x y : A) → (n ≡ number_of room → ⊥) → (if n == (number_of room) then x else y) ≡ y
off_room room n x y other = grind arith

-- -------- what bits tell of a route's key, and of an address that it covers
pub zero_not_one : {n : ℕ} → n ≡ 0 → n ≡ 1 → ⊥
zero_not_one none one = omega arith

pub zero_or_one : (b n : ℕ) → (bit_at b n ≡ 0) ⊎ (bit_at b n ≡ 1)
unfolding bit_at
zero_or_one b n = grind arith

module _ {V : Type 0} where
  -- a bit before the rank of a route is the address's
  pub covered_bit : (address b : ℕ) (e : Entry V) → b < e.rank → b ≤ 31 → Covers address e → bit_at b e.key ≡ bit_at b address
  unfolding bit_at Covers
  covered_bit address b e before within covers = bit_of_front e.rank e.key address b before (omega arith) (grind arith)

  -- one past it is 0
  pub clear_bit : (b : ℕ) {e : Entry V} → IsRoute e → e.rank ≤ b → b ≤ 31 → bit_at b e.key ≡ 0
  unfolding bit_at
  clear_bit b {e = e} route past within = grind (arith, masked_bits)

-- -------- the first bit at which two keys differ
-- numbers that differ in no bit are the same
same_numbers : (x y : ℕ) → bit_xor x y ≡ 0 → x ≡ y
same_numbers x y none = omega (arith, xor_add_and x y, and_le_l x y, and_le_r x y)

-- their first bits are the same where what differs is past them
same_fronts : (x y k : ℕ) → bit_xor x y < 2 ^ k → x / 2 ^ k ≡ y / 2 ^ k
same_fronts x y k small = same_numbers (x / 2 ^ k) (y / 2 ^ k) (sym (xor_shr x y k) ∙ div-eq_of_lt small)

-- and differ where it is not
other_fronts : (x y k : ℕ) → 2 ^ k ≤ bit_xor x y → x / 2 ^ k ≡ y / 2 ^ k → ⊥
other_fronts x y k large same =
    grind (arith, xor_shr x y k ∙ ap (λ n. bit_xor n (y / 2 ^ k)) same ∙ xor_self (y / 2 ^ k), lt-div-mul-add {a = bit_xor x y} {b = 2 ^ k} (pow_pos k))

differs_at : (b x y : ℕ) → b < 32 → front b x ≡ front b y → (front (b + 1) x ≡ front (b + 1) y → ⊥) → Differs x y b
unfolding bit_at
differs_at b x y within same other = search (arith, bit_of_front, front_suc)

-- the first bit that differs is the highest bit of what differs
pub differs_first : (x y : ℕ) → x < 2 ^ 32 → y < 2 ^ 32 → count_leading_zeros 32 (bit_xor x y) < 32 → Differs x y (count_leading_zeros 32 (bit_xor x y))
differs_first x y fits_x fits_y few = first_of (bit_xor x y) refl
  where
    first_of : (n : ℕ) → bit_xor x y ≡ n → Differs x y (count_leading_zeros 32 (bit_xor x y))
    first_of zero e = let all = ap (count_leading_zeros 32) e ∙ leading_of_zero 32 in
        absurd (omega arith)
    first_of (suc n) e =
        let top = leading_top 32 (bit_xor x y) (omega arith) (xor_lt 32 x y fits_x fits_y) in
        differs_at _ x y few (subst (λ k. x / 2 ^ k ≡ y / 2 ^ k) (omega (arith, top.1)) (same_fronts x y (suc top.0) top.3))
        (λ same. other_fronts x y top.0 top.2 (subst (λ k. x / 2 ^ k ≡ y / 2 ^ k) (omega (arith, top.1)) same))

-- and there is none where all bits of what differs are 0
pub none_differs : (x y : ℕ) → x < 2 ^ 32 → y < 2 ^ 32 → 32 ≤ count_leading_zeros 32 (bit_xor x y) → x ≡ y
none_differs x y fits_x fits_y all = none_of (bit_xor x y) refl
  where
    none_of : (n : ℕ) → bit_xor x y ≡ n → x ≡ y
    none_of zero e = same_numbers x y e
    none_of (suc n) e = absurd (omega (arith, (leading_top 32 (bit_xor x y) (omega arith) (xor_lt 32 x y fits_x fits_y)).1))
