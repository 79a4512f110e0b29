-- How often more memory was refused.
use Rattle.std.specs.Prelude.{◌≡◌, ◌<◌, ℕ, Bool, true, false}

-- the count before a call and after it: it rose where the call was refused for want of memory, and stands else
abbrev pub Rises : Bool → ℕ → ℕ → Type 0
Rises true before after = before < after
Rises false before after = after ≡ before
