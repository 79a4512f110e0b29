-- Names are compared by what they are kept in, and that as one number.
use Rattle.std.proofs.Common.{◌≡◌, ℕ, ◌<◌, ◌∙◌, List, ap, sym, refl, length, take, bytes_eq, nat_eq, get_or}
use Rattle.std.specs.Int.{from_be_bytes, to_be_bytes, w64}
use Rattle.std.proofs.lemmas.Bool.Decides.{Decides-eqb, Decides-like, same_from_decides}
use Rattle.std.proofs.lemmas.Nat.{be_bytes_8}
use Rattle.std.proofs.lemmas.Slice.Eq.{bytes_eq-Decides}
use Rattle.sock_addrs.specs.Padded.{IsPadded, padded_to, padded_to-front}

-- eight bytes are those of the number that they spell
again : (bytes : List ℕ) → length bytes ≡ 8 → ((i : ℕ) → get_or bytes i 0 < 256) → to_be_bytes w64 (from_be_bytes w64 bytes) ≡ bytes
again bytes eight small = be_bytes_8 bytes (from_be_bytes w64 bytes) eight small refl

pub numbers_compared : (a b : List ℕ) → length a ≡ 8 → length b ≡ 8 → ((i : ℕ) → get_or a i 0 < 256) → ((i : ℕ) → get_or b i 0 < 256)
    → nat_eq (from_be_bytes w64 a) (from_be_bytes w64 b) ≡ bytes_eq a b
numbers_compared a b eight eight_too small small_too =
    same_from_decides _ _
    (Decides-like (nat_eq (from_be_bytes w64 a) (from_be_bytes w64 b))
    (λ same. sym (again a eight small) ∙ ap (λ n. to_be_bytes w64 n) same ∙ again b eight_too small_too)
    (λ same. ap (λ bytes. from_be_bytes w64 bytes) same)
    (Decides-eqb (from_be_bytes w64 a) (from_be_bytes w64 b)))
    (bytes_eq-Decides a b)

cells_of_text : (a b : List ℕ) (len : ℕ) → IsPadded 8 len a → IsPadded 8 len b → take len a ≡ take len b → a ≡ b
cells_of_text a b len padded other same =
    sym (padded_to-front 8 len a padded) ∙ ap (λ text. padded_to 8 text) same ∙ padded_to-front 8 len b other

-- two names of one length are equal where all that they are kept in is
pub names_compared : (a b : List ℕ) (len : ℕ) → IsPadded 8 len a → IsPadded 8 len b → bytes_eq a b ≡ bytes_eq (take len a) (take len b)
names_compared a b len padded other =
    same_from_decides _ _
    (Decides-like (bytes_eq a b) (λ same. ap (λ cells. take len cells) same) (λ same. cells_of_text a b len padded other same) (bytes_eq-Decides a b))
    (bytes_eq-Decides (take len a) (take len b))
