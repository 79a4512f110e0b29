-- What a call that puts a text out did to its counted writer.
use Rattle.std.specs.Prelude.{◌≡◌, ℕ, ◌+◌, List, ◌++◌, Option}
use Rattle.std.specs.Io.KnownBytes.{Appends}
use Rattle.event_file.specs.Counts.{Counts}

-- the writer took the whole text, and nothing failed
pub record Wrote {T : Type 0} (contents : T → Option (List ℕ)) (old new : Counts T) (text : List ℕ) : Type 0 where
  pub appends : Appends (contents old.inner) (contents new.inner) text
  pub failures : new.failures ≡ old.failures
  pub reads : new.reads ≡ old.reads

-- one write failed, and the writer took what stands before some unwritten rest of the text
pub record WroteFront {T : Type 0} (contents : T → Option (List ℕ)) (old new : Counts T) (text : List ℕ) : Type 0 where
  pub written : List ℕ
  pub unwritten : List ℕ
  pub whole : text ≡ written ++ unwritten
  pub appends : Appends (contents old.inner) (contents new.inner) written
  pub failures : new.failures ≡ old.failures + 1
  pub reads : new.reads ≡ old.reads

-- the writer took a front of the text, what is kept back is the rest of it, and nothing failed
pub record KeptBack {T : Type 0} (contents : T → Option (List ℕ)) (old new : Counts T)
    (text kept : List ℕ) : Type 0 where
  pub written : List ℕ
  pub whole : text ≡ written ++ kept
  pub wrote : Wrote contents old new written
