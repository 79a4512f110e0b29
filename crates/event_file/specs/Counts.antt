-- A reader or a writer with its counts, how they rise, the least room of a read, and whether what was written is
-- flushed.
use Rattle.std.specs.Prelude.{ℕ, ◌+◌, ◌-◌, ◌^◌, ◌==◌, ◌&&◌, not, min, cond, Bool, true, false, List, length, Result, Ok, Err}

-- what a contract sees of a `Counted`
pub record Counts (T : Type 0) : Type 0 where
  pub inner : T
  pub reads : ℕ
  pub failures : ℕ
  pub least_room : ℕ
  -- the reads that came while something that was written may not have been flushed
  pub early_reads : ℕ
  -- something was written since the last flush
  pub unflushed : Bool

-- a count after one more; one that has reached u64::MAX stays there
abbrev pub one_more : ℕ → ℕ
one_more n = min (n + 1) (2 ^ 64 - 1)

-- a count after a call that counts where it failed
abbrev pub one_more_if : Bool → ℕ → ℕ
one_more_if failed n = cond failed (one_more n) n

-- a read fails where it answers an error
abbrev pub read_failed : {E : Type 0} → Result ℕ E → Bool
read_failed (Ok n) = false
read_failed (Err e) = true

-- a write of some bytes fails where it answers an error, or takes none of at least one
abbrev pub write_failed : {E : Type 0} → Result ℕ E → List ℕ → Bool
write_failed (Ok n) bytes = n == 0 && not (length bytes == 0)
write_failed (Err e) bytes = true

-- a flush fails where it answers an error
abbrev pub flush_failed : {E : Type 0} → Result (Unit {0}) E → Bool
flush_failed (Ok n) = false
flush_failed (Err e) = true
