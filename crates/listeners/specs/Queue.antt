-- A socket's messages as bytes, one after another; each begins with its length, two bytes, the high one first.
use Rattle.std.specs.Prelude.{◌≡◌, ℕ, ◌+◌, ◌-◌, ◌*◌, ◌^◌, ◌≤◌, zero, suc, min, nat_le, Bool, true, false, List, [], ◌∷◌, length, take, drop, slice_index}
use Rattle.std.specs.List.{AllByRecursion, flat_map}
use Rattle.listeners.specs.declared.limits.TheConstants.{MOST_QUEUED}

-- the length with which the bytes begin
abbrev pub length_field : List ℕ → ℕ
length_field bytes = 256 * slice_index bytes 0 + slice_index bytes 1

-- one message: at least the 20 bytes of the shortest header, and its length is what its first two bytes say
pub record IsMessage (message : List ℕ) : Type 0 where
  pub least : 20 ≤ length message
  pub says_length : length_field message ≡ length message

-- the bytes of these messages
abbrev pub joined : List (List ℕ) → List ℕ
joined messages = flat_map (λ m. m) messages

-- at most so many messages from the front of the bytes
abbrev pub cut_at_most : ℕ → List ℕ → List (List ℕ)
cut_at_most zero bytes = []
cut_at_most (suc more) [] = []
cut_at_most (suc more) (b ∷ bs) =
    take (length_field (b ∷ bs)) (b ∷ bs) ∷ cut_at_most more (drop (length_field (b ∷ bs)) (b ∷ bs))

-- the messages that the bytes are cut into, each as long as its first two bytes say
abbrev pub cut : List ℕ → List (List ℕ)
cut bytes = cut_at_most (length bytes) bytes

-- the bytes are whole messages, one after another
pub record AreMessages (bytes : List ℕ) : Type 0 where
  pub each : AllByRecursion IsMessage (cut bytes)
  pub all : joined (cut bytes) ≡ bytes

-- whether one more message fits whole behind these
abbrev pub fits : List (List ℕ) → List ℕ → Bool
fits messages message = nat_le (length (joined messages) + length message) MOST_QUEUED

-- the count of losses after one more: it stays at the greatest number that it can be
abbrev pub one_more : ℕ → ℕ
one_more lost = min (lost + 1) (2 ^ 64 - 1)

-- how the bytes of messages are kept: whole messages, not more than may wait, in memory for as many as may
pub record IsKept (bytes : List ℕ) (capacity : ℕ) : Type 0 where
  pub whole : AreMessages bytes
  pub few : length bytes ≤ MOST_QUEUED
  pub room : MOST_QUEUED ≤ capacity
