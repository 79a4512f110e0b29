-- How counters of visits go on.
use Rattle.std.specs.Prelude.{◌≡◌, ℕ, ◌+◌, ◌≤◌}
use Rattle.radix_nodes.specs.Counting.{Counter}

-- a counter went on, by so many visits at most
pub record Reads (old new : Counter) (most : ℕ) : Type 0 where
  pub turn : new.turn ≡ old.turn
  pub rises : old.count ≤ new.count
  pub bound : new.count ≤ old.count + most

-- for one that is near: eight slots
abbrev pub near_looks : ℕ
near_looks = 8

-- of a pair: the tags of its sixteen places, and then each place at most
abbrev pub pair_looks : ℕ
pair_looks = 16 + 16
