-- A message with one field of its header changed: the others stand as they were.
use Rattle.std.proofs.Common.{◌≡◌, ℕ, ◌+◌, ◌<◌, ◌≤◌, ◌^◌, true, List, ◌++◌, length, take, drop, refl, arith, length-append, length-take-le}
use Rattle.std.specs.Prelude.{nat_le}
use Rattle.std.proofs.lemmas.Bool.{leb-true}
use Rattle.std.proofs.lemmas.Slice.{drop-append-drop}
use Rattle.byteorder.specs.Endian.{big_bytes}
use Rattle.byteorder.specs.Numbers.{length-bytes_high_first}
use Rattle.route_msgs.specs.Layout.{Field, field, number_at, with_field}
use Rattle.route_msgs.specs.Headers.{header_in, metrics_in}
use Rattle.route_msgs.specs.Patches.{IsWithHeader, with_errno, with_flags, with_pid}
use Rattle.route_msgs.specs.declared.header.Header.{Header}
use Rattle.route_msgs.proofs.FieldsRead.{is_apart, length-with_field, number_at-with_field, read_apart}

-- what stands behind a field
drop-with_field : (f : Field) (m : List ℕ) (n : ℕ) → f.offset + f.width ≤ n → n ≤ length m → drop n (with_field f m) ≡ drop n m
unfolding with_field
drop-with_field f m n before fits =
    let front = take f.offset m in
    let bytes = big_bytes f.width f.value in
    let a : length front ≡ f.offset = length-take-le f.offset m (omega arith) in
    let b : length bytes ≡ f.width = length-bytes_high_first f.width f.value in
    drop-append-drop (f.offset + f.width) m (front ++ bytes) n before (omega (arith, length-append front bytes, a, b))

module _ (m : List ℕ) (long : 76 ≤ length m) (offset value : ℕ) (within : nat_le (offset + 4) 36 ≡ true) where
  abbrev new : List ℕ
  new = with_field (field offset 4 value) m

  fits : offset + 4 ≤ length m
  fits = omega (arith, long, leb-true (offset + 4) 36 within)

  -- a field that stands elsewhere
  pub kept : (o w : ℕ) → is_apart o w (field offset 4 value) ≡ true → number_at o w new ≡ number_at o w m
  kept o w apart = read_apart o w (field offset 4 value) m fits apart

  -- the field itself
  pub set : value < 2 ^ 32 → number_at offset 4 new ≡ value
  set small = number_at-with_field (field offset 4 value) m fits small

  metric : (o : ℕ) → nat_le 36 o ≡ true → number_at o 4 new ≡ number_at o 4 m
  metric o behind =
      let after : offset + 4 ≤ o = omega (arith, leb-true 36 o behind, leb-true (offset + 4) 36 within) in
      kept o 4 (grind (arith, after))

  pub metrics_kept : metrics_in new ≡ metrics_in m
  metrics_kept =
      rw (metric 36 refl, metric 40 refl, metric 44 refl, metric 48 refl, metric 52 refl, metric 56 refl, metric 60 refl, metric 64 refl, metric 68 refl, metric 72 refl) refl

  pub is_with : (h : Header) → header_in new ≡ h → is_apart 0 2 (field offset 4 value) ≡ true → is_apart 2 1 (field offset 4 value) ≡ true → IsWithHeader h new m
  is_with h is first second = record {
    header = is;
    size = length-with_field (field offset 4 value) m fits;
    says_size = kept 0 2 first;
    version = kept 2 1 second;
    behind = drop-with_field (field offset 4 value) m 76 (omega (arith, leb-true (offset + 4) 36 within)) long;
  }

module _ (m : List ℕ) (value : ℕ) (long : 76 ≤ length m) (small : value < 2 ^ 32) where
  pub flags_changed : IsWithHeader (record (header_in m) { flags = value }) (with_flags value m) m
  flags_changed =
      let k = kept m long 8 value refl in
      is_with m long 8 value refl _ (rw (k 3 1 refl, k 4 2 refl, k 6 2 refl, set m long 8 value refl small, k 12 4 refl, k 16 4 refl, k 20 4 refl, k 24 4 refl, k 28 4 refl, k 32 4 refl, metrics_kept m long 8 value refl) refl) refl refl

  pub pid_changed : IsWithHeader (record (header_in m) { pid = value }) (with_pid value m) m
  pid_changed =
      let k = kept m long 16 value refl in
      is_with m long 16 value refl _ (rw (k 3 1 refl, k 4 2 refl, k 6 2 refl, k 8 4 refl, k 12 4 refl, set m long 16 value refl small, k 20 4 refl, k 24 4 refl, k 28 4 refl, k 32 4 refl, metrics_kept m long 16 value refl) refl) refl refl

  pub errno_changed : IsWithHeader (record (header_in m) { errno = value }) (with_errno value m) m
  errno_changed =
      let k = kept m long 24 value refl in
      is_with m long 24 value refl _ (rw (k 3 1 refl, k 4 2 refl, k 6 2 refl, k 8 4 refl, k 12 4 refl, k 16 4 refl, k 20 4 refl, set m long 24 value refl small, k 28 4 refl, k 32 4 refl, metrics_kept m long 24 value refl) refl) refl refl
