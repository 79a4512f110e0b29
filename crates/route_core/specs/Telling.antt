-- Messages that a step tells, and the sockets after they heard of them.
use Rattle.std.specs.Prelude.{ℕ, List, [], ◌∷◌, Option}
-- a message, the family of those who hear it, and the socket to whose own write it is the reply, if it is one
pub use Rattle.listeners.specs.Kept.{Delivery as Told}
use Rattle.listeners.specs.Sockets.{Socket, delivered}

abbrev pub told : List ℕ → ℕ → Option (List ℕ) → Told
told message family own = record { message = message; family = family; own = own }

-- the sockets after these messages were delivered, one after the other
abbrev pub delivered_all : List Told → List Socket → List Socket
delivered_all [] sockets = sockets
delivered_all (t ∷ ts) sockets = delivered_all ts (delivered t.message t.family t.own sockets)
