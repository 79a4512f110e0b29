-- What a handle is once a `&mut` to its session has ended.
use Rattle.std.specs.Prelude.{Some}
use Rattle.std.specs.Borrow.{Fml, MutBor, Lends}
use Rattle.hoiskend.specs.Sessions.{Session}
use Rattle.hoiskend.specs.contracts.held.Held.{the_row as held_row}
use Rattle.hoiskend.specs.declared.handle.Handle.{Handle}
use Rattle.hoiskend.specs.contracts.handle.Handle.{the_row}

-- the same handle with w as its session
abbrev pub with_session : Handle → Session → Handle
with_session h w = record { at = h.at; session = Some w }

abbrev pub lends_session : MutBor Handle → MutBor Session → Fml
lends_session h r = Lends the_row held_row h r (with_session h.now)
