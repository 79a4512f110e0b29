-- A handle that has a session.
use Rattle.std.specs.Prelude.{◌≡◌, Option, Some}

pub record IsOpen {T : Type 0} (session : Option T) : Type 0 where
  pub value : T
  pub is : session ≡ Some value
