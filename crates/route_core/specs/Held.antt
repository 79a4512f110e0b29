-- Bytes that are lent, or kept beside.
use Rattle.std.specs.Prelude.{ℕ, List}
use Rattle.route_core.specs.declared.received.Held.{Held}
use Rattle.route_core.specs.declared.received.Held.TheVariants.{Lent, Owned}

abbrev pub held_bytes : Held → List ℕ
held_bytes (Lent bytes) = bytes.now
held_bytes (Owned bytes) = bytes.items
