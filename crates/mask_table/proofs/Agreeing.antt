-- The laws of agreeing and masking.
use Rattle.std.proofs.Common.{◌≡◌, ℕ, ◌+◌, ◌-◌, ◌*◌, ◌/◌, ◌^◌, ◌<◌, ◌≤◌, suc, zero, ◌⊎◌, inl, inr, sym, ◌∙◌, ap, arith, IsTrue, eq-eqb, subst}
use Rattle.std.proofs.Math.Nat.{mul-div_cancel}
use Rattle.std.proofs.lemmas.Nat.{pow_pos, shr-shr, pow-add}
use Rattle.std.proofs.lemmas.Bool.{eqb-true, cases_eq}
use Rattle.mask_table.specs.Agreeing.{front, agrees, masked, bit, HaveSameBits, AgreesInWords, AgreesWhereMaskedEqual, AgreesAtSmallerRanks, MaskedAgrees, MaskedTwiceIsOnce, MaskedBits}

front_of_masked : (rank address : ℕ) → front rank (masked rank address) ≡ front rank address
front_of_masked rank address = mul-div_cancel (front rank address) (pow_pos (32 - rank))

pub masked_twice_is_once : MaskedTwiceIsOnce
masked_twice_is_once rank address = ap (λ n. n * 2 ^ (32 - rank)) (front_of_masked rank address)

pub masked_agrees : MaskedAgrees
masked_agrees rank address = eq-eqb _ _ (front_of_masked rank address)

pub agrees_where_masked_equal : AgreesWhereMaskedEqual
agrees_where_masked_equal rank key address = (
  (λ h. ap (λ n. n * 2 ^ (32 - rank)) (eqb-true (front rank key) (front rank address) h)),
  (λ e. eq-eqb _ _ (sym (front_of_masked rank key) ∙ ap (λ n. front rank n) e ∙ front_of_masked rank address)),
)

-- fewer first bits are the first of more
front_of_front : (smaller rank address : ℕ) → smaller ≤ rank → front rank address / 2 ^ (32 - smaller - (32 - rank)) ≡ front smaller address
front_of_front smaller rank address h =
    let more : 32 - rank + (32 - smaller - (32 - rank)) ≡ 32 - smaller = omega arith in
    shr-shr address (32 - rank) (32 - smaller - (32 - rank)) ∙ ap (λ n. address / 2 ^ n) more

same_front : (smaller rank key address : ℕ) → smaller ≤ rank → front rank key ≡ front rank address → front smaller key ≡ front smaller address
same_front smaller rank key address h e =
    sym (front_of_front smaller rank key h) ∙ ap (λ n. n / 2 ^ (32 - smaller - (32 - rank))) e ∙ front_of_front smaller rank address h

pub agrees_at_smaller_ranks : AgreesAtSmallerRanks
agrees_at_smaller_ranks smaller rank key address h e = eq-eqb _ _ (same_front smaller rank key address h (eqb-true (front rank key) (front rank address) e))

-- one more bit
pub front_suc : (n address : ℕ) → n < 32 → front (suc n) address ≡ 2 * front n address + bit n address
front_suc n address h =
    let here : 32 - suc n ≡ 31 - n = omega arith in
    let next : 31 - n + 1 ≡ 32 - n = omega arith in
    let half : address / 2 ^ (31 - n) / 2 ≡ front n address = shr-shr address (31 - n) 1 ∙ ap (λ k. address / 2 ^ k) next in
    let all : front (suc n) address ≡ address / 2 ^ (31 - n) = ap (λ k. address / 2 ^ k) here in
    omega (arith, half, all)

pub front_of_bits : (many key address : ℕ) → many ≤ 32 → key < 2 ^ 32 → address < 2 ^ 32 → HaveSameBits many key address → front many key ≡ front many address
front_of_bits zero key address h k a same = omega (arith, k, a)
front_of_bits (suc n) key address h k a same =
    let fits : n < 32 = omega arith in
    let before : front n key ≡ front n address = front_of_bits n key address (omega arith) k a (λ i lt. same i (omega arith)) in
    let last : bit n key ≡ bit n address = same n (omega arith) in
    omega (arith, before, last, front_suc n key fits, front_suc n address fits)

pub bit_of_front : (rank key address i : ℕ) → i < rank → i < 32 → front rank key ≡ front rank address → bit i key ≡ bit i address
bit_of_front rank key address i lt fits e =
    let before : front i key ≡ front i address = same_front i rank key address (omega arith) e in
    let with_it : front (suc i) key ≡ front (suc i) address = same_front (suc i) rank key address (omega arith) e in
    omega (arith, before, with_it, front_suc i key fits, front_suc i address fits)

bit_past : (rank address i : ℕ) → i < 32 → rank ≤ i → bit i (masked rank address) ≡ 0
bit_past rank address i fits h =
    let some : 31 - i + (i - rank + 1) ≡ 32 - rank = omega arith in
    let twice : 2 ^ (i - rank + 1) ≡ 2 ^ (i - rank) * 2 = pow-add 2 (i - rank) 1 in
    let all : 2 ^ (32 - rank) ≡ 2 ^ (31 - i) * 2 ^ (i - rank + 1) = ap (λ n. 2 ^ n) (sym some) ∙ pow-add 2 (31 - i) (i - rank + 1) in
    let whole : masked rank address ≡ front rank address * 2 ^ (i - rank) * 2 * 2 ^ (31 - i) = omega (arith, ap (λ n. front rank address * n) all, ap (λ n. front rank address * (2 ^ (31 - i) * n)) twice) in
    let half : masked rank address / 2 ^ (31 - i) ≡ front rank address * 2 ^ (i - rank) * 2 = ap (λ n. n / 2 ^ (31 - i)) whole ∙ mul-div_cancel (front rank address * 2 ^ (i - rank) * 2) (pow_pos (31 - i)) in
    omega (arith, half)

pub masked_bits : MaskedBits
masked_bits rank address i fits = (
  (λ lt. bit_of_front rank (masked rank address) address i lt fits (front_of_masked rank address)),
  bit_past rank address i fits,
)

host_is_key : (rank key address : ℕ) → rank ≡ 33 → front rank key ≡ front rank address → key ≡ address
host_is_key rank key address host e =
    let whole : front 33 key ≡ front 33 address = subst (λ r. front r key ≡ front r address) host e in
    omega (arith, whole)

pub agrees_in_words : AgreesInWords
agrees_in_words rank key address most k a =
    let to : IsTrue (agrees rank key address) → ((rank ≡ 33) × (key ≡ address)) ⊎ ((rank ≤ 32) × HaveSameBits rank key address) =
    λ h. let e : front rank key ≡ front rank address = eqb-true (front rank key) (front rank address) h in
    elim (cases_eq rank 33) [ inl host ↦ inl (host, host_is_key rank key address host e) | inr mask ↦ inr (omega arith, λ i lt. bit_of_front rank key address i lt (omega arith) e) ] in
    let back : ((rank ≡ 33) × (key ≡ address)) ⊎ ((rank ≤ 32) × HaveSameBits rank key address) → IsTrue (agrees rank key address) =
    λ h. elim h [ inl host ↦ eq-eqb _ _ (ap (λ n. front rank n) host.1) | inr mask ↦ eq-eqb _ _ (front_of_bits rank key address mask.0 k a mask.1) ] in
    (to, back)
