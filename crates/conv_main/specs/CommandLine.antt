-- The words of the command line, by what the crate that reads them makes of words.
use Rattle.std.specs.Prelude.{◌≡◌, ◌≢◌, ◌⊎◌, ⊤, ℕ, bytes_eq, codes, if◌then◌else◌, List, [], Option, Some, None, is_some, take, drop, true}
use Rattle.clap.specs.Words.{App, Kinds, Text, fault_of, first_of, matches_of, new_app, new_rule, with_rule}
use Rattle.program_ends.specs.declared.refusal.Refusal.{Refusal}
use Rattle.program_ends.specs.declared.refusal.Refusal.TheVariants.{Usage, NoMemory, Unopened}
use Rattle.route_layouts.specs.declared.layout.System.{System}
use Rattle.route_layouts.specs.declared.layout.System.TheVariants as system
use Rattle.conv_main.specs.declared.way.Form.{Form}
use Rattle.conv_main.specs.declared.way.Form.TheVariants.{Lines, Raw}
use Rattle.conv_main.specs.declared.words.Side.{Side}

-- `routeconv FROM TO FILE`: three operands, and no option, not even for help
abbrev pub program : App
program = let plain = new_app (codes "routeconv") in
    with_rule (with_rule (with_rule (record plain { top = record plain.top { disable_help_flag = true } })
    (new_rule (codes "FROM"))) (new_rule (codes "TO"))) (new_rule (codes "FILE"))

-- what is wrong with these words
abbrev pub faults_of : List Text → Kinds
faults_of words = fault_of program words

-- what these words name for an operand
abbrev pub word_of : List ℕ → List Text → Option Text
word_of name words = first_of name (matches_of program words)

abbrev pub system_named : List ℕ → Option System
system_named name =
    if bytes_eq name (codes "4.4bsd") then Some system.Bsd44
    else if bytes_eq name (codes "freebsd") then Some system.FreeBsd
    else if bytes_eq name (codes "openbsd") then Some system.OpenBsd
    else if bytes_eq name (codes "netbsd") then Some system.NetBsd
    else if bytes_eq name (codes "macos") then Some system.Darwin
    else None

-- messages of a system in lines, or raw ones of that behind `raw:`
abbrev pub in_form : Form → Option System → Option Side
in_form form None = None
in_form form (Some s) = Some (record { form = form; system = s })

abbrev pub side_named : List ℕ → Option Side
side_named word =
    if bytes_eq (take 4 word) (codes "raw:") then in_form Raw (system_named (drop 4 word)) else in_form Lines (system_named word)

abbrev pub side_of : Option Text → Option Side
side_of None = None
side_of (Some word) = side_named word

-- they name what is read and what is written
abbrev pub Names : List Text → Side → Side → Type 0
Names words read written =
    (side_of (word_of (codes "FROM") words) ≡ Some read) × (side_of (word_of (codes "TO") words) ≡ Some written)

-- or one of them is missing or no such word
abbrev pub NamesNone : List Text → Type 0
NamesNone words = (side_of (word_of (codes "FROM") words) ≡ None) ⊎ (side_of (word_of (codes "TO") words) ≡ None)

-- what each refusal of these words says of them: there is a fault in them, or FROM or TO is not named; or neither
-- holds, and they name a FILE
abbrev pub Refuses : List Text → Refusal → Type 0
Refuses words Usage = (faults_of words ≢ []) ⊎ NamesNone words
Refuses words Unopened =
    (faults_of words ≡ []) × (NamesNone words → ⊥) × (is_some (word_of (codes "FILE") words) ≡ true)
Refuses words NoMemory = ⊤
