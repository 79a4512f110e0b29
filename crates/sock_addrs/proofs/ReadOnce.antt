-- Each sockaddr is read, and in one way alone.
use Rattle.std.proofs.Common.{◌≡◌, ℕ, ◌<◌, ◌≤◌, ◌⊎◌, inl, inr, zero, suc, List, length, Result, Ok, Err, sym, ◌∙◌, ap, refl, arith}
use Rattle.std.specs.Int.{IsOutOfRange}
use Rattle.std.proofs.lemmas.Bool.{cases_eq, cases_lt}
use Rattle.sock_addrs.specs.Sockaddrs.{family, mask_number}
use Rattle.sock_addrs.specs.Reading.{length_byte, number_of_mask, IsShort, IsWhole, ReadsInet, ReadsGate, ReadsMask, IsReadOnce}
use Rattle.sock_addrs.specs.declared.bad_addr.BadAddr.{BadAddr}
use Rattle.sock_addrs.specs.declared.bad_addr.BadAddr.TheVariants as bad
use Rattle.sock_addrs.specs.declared.gate.Gate.{Gate}
use Rattle.sock_addrs.specs.declared.gate.Gate.TheVariants as gate
use Rattle.sock_addrs.proofs.WrittenRead.{same_mask}

short_or_whole : (sockaddr : List ℕ) → IsShort sockaddr ⊎ IsWhole sockaddr
short_or_whole sockaddr = elim (cases_eq (length sockaddr) 0) [
  | inl none ↦ inl (inl none)
  | inr some ↦ elim (cases_lt (length sockaddr) (length_byte sockaddr)) [
    | inl short ↦ inl (inr short)
    | inr all ↦ inr (record { some = omega arith; all = all })
  ]
]

in_or_out : (lo hi c : ℕ) → IsOutOfRange lo hi c ⊎ ((lo ≤ c) × (c ≤ hi))
in_or_out lo hi c = elim (cases_lt c lo) [
  | inl below ↦ inl (inl below)
  | inr least ↦ elim (cases_lt hi c) [ inl above ↦ inl (inr above) | inr most ↦ inr (least, most) ]
]

-- a result that is no other is the only one
the_only : {A : Type 0} (Reads : Result A BadAddr → Type 0) → ((r s : Result A BadAddr) → Reads r → Reads s → s ≡ r) → (r : Result A BadAddr) → Reads r
    → (result : Result A BadAddr) × Reads result × ((other : Result A BadAddr) → Reads other → other ≡ result)
the_only Reads single r h = (r, h, λ other k. single r other h k)

inet_single : (sockaddr : List ℕ) (r s : Result ℕ BadAddr) → ReadsInet sockaddr r → ReadsInet sockaddr s → s ≡ r
inet_single sockaddr (Ok a) (Ok b) h k = ap Ok (sym k.number ∙ h.number)
inet_single sockaddr (Err bad.Short) (Err bad.Short) h k = refl
inet_single sockaddr (Err bad.Family) (Err bad.Family) h k = refl
inet_single sockaddr (Err bad.Length) (Err bad.Length) h k = refl
inet_single sockaddr r s h k = absurd (grind arith)

pub inet_read_once : IsReadOnce ReadsInet
inet_read_once sockaddr = let by = the_only (ReadsInet sockaddr) (inet_single sockaddr) in elim (short_or_whole sockaddr) [
  | inl short ↦ by (Err bad.Short) short
  | inr whole ↦ elim (cases_eq (family sockaddr) 2) [
    | inr other ↦ by (Err bad.Family) (whole, other)
    | inl two ↦ elim (in_or_out 8 16 (length_byte sockaddr)) [
      | inl out ↦ by (Err bad.Length) (whole, two, out)
      | inr within ↦ by (Ok _) (record { whole = whole; family = two; least = within.0; most = within.1; number = refl })
    ]
  ]
]

gate_single : (sockaddr : List ℕ) (r s : Result Gate BadAddr) → ReadsGate sockaddr r → ReadsGate sockaddr s → s ≡ r
gate_single sockaddr (Ok (gate.Inet a)) (Ok (gate.Inet b)) h k = ap (λ (n : ℕ). Ok (gate.Inet n)) (sym k.number ∙ h.number)
gate_single sockaddr (Ok (gate.Link a)) (Ok (gate.Link b)) h k = ap (λ (bytes : List ℕ). Ok (gate.Link bytes)) (sym k.bytes ∙ h.bytes)
gate_single sockaddr (Err bad.Short) (Err bad.Short) h k = refl
gate_single sockaddr (Err bad.Family) (Err bad.Family) h k = refl
gate_single sockaddr (Err bad.Length) (Err bad.Length) h k = refl
gate_single sockaddr r s h k = absurd (grind arith)

pub gate_read_once : IsReadOnce ReadsGate
gate_read_once sockaddr = let by = the_only (ReadsGate sockaddr) (gate_single sockaddr) in elim (short_or_whole sockaddr) [
  | inl short ↦ by (Err bad.Short) short
  | inr whole ↦ elim (cases_eq (family sockaddr) 2) [
    | inl two ↦ elim (in_or_out 8 16 (length_byte sockaddr)) [
      | inl out ↦ by (Err bad.Length) (whole, inl (two, out))
      | inr within ↦ by (Ok (gate.Inet _)) (record { whole = whole; family = two; least = within.0; most = within.1; number = refl })
    ]
    | inr not_inet ↦ elim (cases_eq (family sockaddr) 18) [
      | inr other ↦ by (Err bad.Family) (whole, not_inet, other)
      | inl eighteen ↦ elim (in_or_out 8 32 (length_byte sockaddr)) [
        | inl out ↦ by (Err bad.Length) (whole, inr (eighteen, out))
        | inr within ↦ by (Ok (gate.Link _)) (record { whole = whole; family = eighteen; least = within.0; most = within.1; bytes = refl })
      ]
    ]
  ]
]

-- the number is that of a mask of fewer bits than k, or of none of these
mask_or_none : (k number : ℕ) → ((p : ℕ) × (p < k) × (number ≡ mask_number p)) ⊎ ((p : ℕ) → p < k → number ≡ mask_number p → ⊥)
mask_or_none zero number = inr (λ p lt e. omega arith)
mask_or_none (suc k) number = elim (cases_eq number (mask_number k)) [
  | inl e ↦ inl (k, omega arith, e)
  | inr ne ↦ elim (mask_or_none k number) [
    | inl found ↦ inl (found.0, omega (arith, found.1), found.2)
    | inr none ↦ inr (λ p lt e. elim (cases_eq p k) [ inl same ↦ ne (e ∙ ap mask_number same) | inr apart ↦ none p (omega arith) e ])
  ]
]

pub mask_single : (sockaddr : List ℕ) (r s : Result ℕ BadAddr) → ReadsMask sockaddr r → ReadsMask sockaddr s → s ≡ r
mask_single sockaddr (Ok p) (Ok q) h k = ap Ok (same_mask q p k.fits h.fits (sym k.ones_first ∙ h.ones_first))
mask_single sockaddr (Ok p) (Err bad.NotContiguous) h k = absurd (k.2 p h.fits h.ones_first)
mask_single sockaddr (Err bad.NotContiguous) (Ok q) h k = absurd (h.2 q k.fits k.ones_first)
mask_single sockaddr (Err bad.Short) (Err bad.Short) h k = refl
mask_single sockaddr (Err bad.Length) (Err bad.Length) h k = refl
mask_single sockaddr (Err bad.NotContiguous) (Err bad.NotContiguous) h k = refl
mask_single sockaddr r s h k = absurd (grind arith)

pub mask_read_once : IsReadOnce ReadsMask
mask_read_once sockaddr = let by = the_only (ReadsMask sockaddr) (mask_single sockaddr) in elim (short_or_whole sockaddr) [
  | inl short ↦ by (Err bad.Short) short
  | inr whole ↦ elim (cases_lt 16 (length_byte sockaddr)) [
    | inl long ↦ by (Err bad.Length) (whole, long)
    | inr most ↦ elim (mask_or_none 33 (number_of_mask sockaddr)) [
      | inl found ↦ by (Ok found.0) (record { whole = whole; most = most; fits = omega (arith, found.1); ones_first = found.2 })
      | inr none ↦ by (Err bad.NotContiguous) (whole, most, λ bits fits e. none bits (omega arith) e)
    ]
  ]
]
