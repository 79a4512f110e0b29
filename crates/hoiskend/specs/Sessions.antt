-- A world with its last answer, and what a call makes of it.
use Rattle.std.specs.Prelude.{◌≡◌, ℕ, Bool, true, false, List, [], length, Option, Some, None, Result, Ok, Err}
use Rattle.sock_addrs.specs.declared.families.TheConstants.{AF_INET, AF_LINK}
use Rattle.sock_addrs.specs.declared.gate.Gate.{Gate}
use Rattle.sock_addrs.specs.declared.gate.Gate.TheVariants as gate
use Rattle.sock_addrs.specs.Errno.{errno_number}
use Rattle.sock_addrs.specs.Padded.{padded_to}
use Rattle.sock_addrs.specs.declared.errno.Errno.TheVariants.{EEXIST, EINVAL, ENOBUFS}
use Rattle.memory.specs.Refusing.{Rises}
use Rattle.event_file.specs.Answers.{messages_in, response_text}
use Rattle.event_file.specs.Grammar.{command_of}
use Rattle.event_file.specs.Lines.{is_passed, kept}
use Rattle.event_file.specs.declared.bad.Bad.{Bad}
use Rattle.route_core.specs.Commands.{Command}
use Rattle.route_core.specs.Step.{Steps, lacks_memory}
use Rattle.route_core.specs.World.{World, empty_world}
use Rattle.route_core.specs.declared.answer.Answer.{Answer}
use Rattle.route_core.specs.declared.answer.Answer.TheVariants.{Done, Refused, Routed, Dropped, Size, Messages}
use Rattle.route_core.specs.declared.answer.Choice.{Choice}
use Rattle.hoiskend.specs.declared.codes.TheConstants.{BAD}
use Rattle.hoiskend.specs.declared.route.Route.{Route}
use Rattle.hoiskend.specs.declared.route.TheConstants.{LINK_BYTES}

-- a world; what was answered last: nothing at first, and to a line that gives no answer; and how often memory was
-- refused since the world was opened
pub record Session : Type 0 where
  pub world : World
  pub response : Option (Result Answer Bad)
  pub refused : ℕ

-- before the first call
abbrev pub fresh : Session
fresh = record { world = empty_world; response = None; refused = 0 }

-- ---- what a call makes of a session

-- the number of an answer: 0, or the errno
abbrev pub code_of : Answer → ℕ
code_of Done = 0
code_of (Refused errno) = errno_number errno
code_of (Routed choice) = 0
code_of (Dropped choice) = 0
code_of (Size size) = 0
code_of (Messages messages None) = 0
code_of (Messages messages (Some errno)) = errno_number errno

-- what was answered last is that there was no memory
abbrev pub is_short : Option (Result Answer Bad) → Bool
is_short None = false
is_short (Some (Ok answer)) = lacks_memory answer
is_short (Some (Err bad)) = false

-- the machine's step answers a command, and the code is the number of its answer
abbrev pub Answers : World → Command → ℕ → Option (Result Answer Bad) → World → Type 0
Answers old command code (Some (Ok answer)) new = Steps old command answer new × (code ≡ code_of answer)
Answers old command code (Some (Err bad)) new = ⊥
Answers old command code None new = ⊥

-- that, and memory was refused where the answer says so, and only there
abbrev pub Does : Session → Command → ℕ → Session → Type 0
Does old command code new =
    Answers old.world command code new.response new.world × Rises (is_short new.response) old.refused new.refused

-- a call by parameters, which spell a command; where they spell none, it gives EINVAL and changes nothing, not even
-- what was answered last
abbrev pub Obeys : Session → Option Command → ℕ → Session → Type 0
Obeys old (Some command) code new = Does old command code new
Obeys old None code new = (code ≡ errno_number EINVAL) × (new ≡ old)

-- a line that is to be answered, by the command that it says; where it says none, it is bad, and all else stays
abbrev pub Replies : Session → Option Command → ℕ → Session → Type 0
Replies old (Some command) code new = Does old command code new
Replies old None code new = (code ≡ BAD) × (new ≡ record old { response = Some (Err (record {})) })

-- a line of a script: one that gives no answer is done without one, and all else stays
abbrev pub HeedsWhere : Bool → Session → List ℕ → ℕ → Session → Type 0
HeedsWhere true old line code new = (code ≡ 0) × (new ≡ record old { response = None })
HeedsWhere false old line code new = Replies old (command_of line) code new

abbrev pub Heeds : Session → List ℕ → ℕ → Session → Type 0
Heeds old line code new = HeedsWhere (is_passed (kept line)) old line code new

-- ---- what a response tells

-- its messages
abbrev pub heard : Option (Result Answer Bad) → List (List ℕ)
heard None = []
heard (Some response) = messages_in response

-- its text
abbrev pub text_of : Option (Result Answer Bad) → List ℕ
text_of None = []
text_of (Some response) = response_text response

abbrev pub gateway_of : Gate → ℕ
gateway_of (gate.Inet address) = address
gateway_of (gate.Link sockaddr) = 0

abbrev pub family_of : Gate → ℕ
family_of (gate.Inet address) = AF_INET
family_of (gate.Link sockaddr) = AF_LINK

-- the bytes of a link-layer gateway
abbrev pub link_of : Gate → List ℕ
link_of (gate.Inet address) = []
link_of (gate.Link sockaddr) = sockaddr

abbrev pub number_of : Bool → ℕ
number_of true = 1
number_of false = 0

abbrev pub route_of : Choice → Bool → Route
route_of c drops = record {
  key = c.key;
  gateway = gateway_of c.gateway;
  index = c.index;
  flags = c.flags;
  rank = c.rank;
  family = family_of c.gateway;
  drops = number_of drops;
  link_n = length (link_of c.gateway);
  link = padded_to LINK_BYTES (link_of c.gateway);
}

-- the route that an answer tells
abbrev pub route_in : Answer → Option Route
route_in (Routed choice) = Some (route_of choice false)
route_in (Dropped choice) = Some (route_of choice true)
route_in Done = None
route_in (Refused errno) = None
route_in (Size size) = None
route_in (Messages messages why) = None

-- the size that an answer tells
abbrev pub size_in : Answer → Option ℕ
size_in (Size size) = Some size
size_in Done = None
size_in (Refused errno) = None
size_in (Routed choice) = None
size_in (Dropped choice) = None
size_in (Messages messages why) = None

-- what a response tells, by what its answer does
abbrev pub told_by : {T : Type 0} → (Answer → Option T) → Option (Result Answer Bad) → Option T
told_by told None = None
told_by told (Some (Ok answer)) = told answer
told_by told (Some (Err bad)) = None

-- ---- a call over a handle

-- what is asked by a call: a command, which its parameters may fail to spell; what a line of a script says; or a look
-- at what was answered last
pub data Call : Type 0 where
  Asks : Option Command → Call
  Says : List ℕ → Call
  Looks : Call

abbrev pub Serves : Session → Call → ℕ → Session → Type 0
Serves old (Asks asked) code new = Obeys old asked code new
Serves old (Says line) code new = Heeds old line code new
Serves old Looks code new = new ≡ old

-- a call by a handle: one that is closed stays closed, and gives EINVAL
unfoldable pub Calls : Option Session → Call → ℕ → Option Session → Type 0
Calls (Some old) call code (Some new) = Serves old call code new
Calls (Some old) call code None = ⊥
Calls None call code (Some new) = ⊥
Calls None call code None = code ≡ errno_number EINVAL

-- a closed handle is opened, or there is no memory and it stays closed
abbrev pub Begins : ℕ → Option Session → Type 0
Begins code (Some new) = (code ≡ 0) × (new ≡ fresh)
Begins code None = code ≡ errno_number ENOBUFS

-- one that is open stays as it is, and gives EEXIST
abbrev pub Opens : Option Session → ℕ → Option Session → Type 0
Opens None code new = Begins code new
Opens (Some old) code new = (code ≡ errno_number EEXIST) × (new ≡ Some old)

-- the messages that a handle has to be fetched
abbrev pub heard_by : Option Session → List (List ℕ)
heard_by (Some s) = heard s.response
heard_by None = []

-- the text of what was answered last
abbrev pub text_by : Option Session → List ℕ
text_by (Some s) = text_of s.response
text_by None = []

-- what a call told that asked for a command; one that asked for none told nothing
abbrev pub told_for : {T : Type 0} → Option Command → (Answer → Option T) → Option Session → Option T
told_for (Some command) told (Some s) = told_by told s.response
told_for (Some command) told None = None
told_for None told s = None
