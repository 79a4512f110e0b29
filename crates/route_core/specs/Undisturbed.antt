-- Listeners do not disturb each other: one may open, close, read, ask for its losses and turn its loopback as it likes,
-- and the others hear and are answered the same.
use Rattle.std.specs.Prelude.{◌≡◌, ◌||◌, ℕ, Bool, true, false, List, [], ◌∷◌, map, filter, bytes_eq}
use Rattle.std.specs.List.{AllByRecursion, list_any}
use Rattle.sock_addrs.specs.declared.errno.Errno.TheVariants.{EMFILE, ENOBUFS}
use Rattle.listeners.specs.Sockets.{socket_of}
use Rattle.route_core.specs.Commands.{Command}
use Rattle.route_core.specs.Step.{Steps}
use Rattle.route_core.specs.World.{World, empty_world}
use Rattle.route_core.specs.declared.answer.Answer.{Answer}
use Rattle.route_core.specs.declared.answer.Answer.TheVariants.{Refused}
use Rattle.route_core.specs.declared.command.Command.TheVariants.{Close, Loopback, Lost, Open, Read, Write}

-- ---- a run

-- a command, and what it is answered
pub record Turn : Type 0 where
  pub command : Command
  pub answer : Answer

abbrev pub commands_of : List Turn → List Command
commands_of turns = map (λ t. t.command) turns

-- the commands may be answered so, one after another, and lead from the old world to the new one
abbrev pub Runs : World → List Turn → World → Type 0
Runs old [] new = new ≡ old
Runs old (t ∷ ts) new = (next : World) × Steps old t.command t.answer next × Runs next ts new

-- it is answered that too many sockets are open, 24, or that there is no memory, 55
abbrev pub lacks_room : Answer → Bool
lacks_room (Refused EMFILE) = true
lacks_room (Refused ENOBUFS) = true
lacks_room answer = false

-- nothing is answered so
abbrev pub HaveRoom : List Turn → Type 0
HaveRoom turns = AllByRecursion (λ t. lacks_room t.answer ≡ false) turns

-- ---- what may be taken out

-- the command writes to the socket with this id
abbrev pub writes_to : List ℕ → Command → Bool
writes_to id (Write other bytes) = bytes_eq other id
writes_to id c = false

-- an id matters to x among these commands: it is x, or one of them writes to it
abbrev pub matters : List ℕ → List Command → List ℕ → Bool
matters x commands id = bytes_eq id x || list_any (writes_to id) commands

-- every `loopback`, `read` and `lost` of other ids is taken out, and every `open` and `close` of ids that aren't
-- marked; any other command is left
abbrev pub is_left_where : List ℕ → (List ℕ → Bool) → Command → Bool
is_left_where x marked (Open id pid protocol) = marked id
is_left_where x marked (Close id) = marked id
is_left_where x marked (Loopback id on) = bytes_eq id x
is_left_where x marked (Read id) = bytes_eq id x
is_left_where x marked (Lost id) = bytes_eq id x
is_left_where x marked c = true

-- marked are the ids that matter: `open` and `close` of other ids that no write names are taken out
abbrev pub is_left : List ℕ → List Command → Command → Bool
is_left x commands c = is_left_where x (matters x commands) c

abbrev pub commands_left : List ℕ → List Command → List Command
commands_left x commands = filter (is_left x commands) commands

-- with the answers that they had
abbrev pub turns_left : List ℕ → List Turn → List Turn
turns_left x turns = filter (λ t. is_left x (commands_of turns) t.command) turns

-- ---- the laws

-- two worlds are one to x: the routes, the interfaces, and x's own socket with its messages
pub record AreOneTo (x : List ℕ) (a b : World) : Type 0 where
  pub table : b.table ≡ a.table
  pub interfaces : b.interfaces ≡ a.interfaces
  pub socket : socket_of x b.sockets ≡ socket_of x a.sockets

-- the commands that are left are answered the same, and lead to the same table and the same messages of x
abbrev pub OthersDoNotDisturb : Type 0
OthersDoNotDisturb = (x : List ℕ) (old new other : World) (turns rest : List Turn)
    → Runs old turns new → HaveRoom turns
    → commands_of rest ≡ commands_left x (commands_of turns) → Runs old rest other → HaveRoom rest
    → (rest ≡ turns_left x turns) × AreOneTo x new other

-- from the empty world on they may always be answered the same
abbrev pub OthersAreNotNeeded : Type 0
OthersAreNotNeeded = (x : List ℕ) (new : World) (turns : List Turn) → Runs empty_world turns new → HaveRoom turns
    → (other : World) × Runs empty_world (turns_left x turns) other × AreOneTo x new other
