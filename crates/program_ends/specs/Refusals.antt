-- What a refusal of the program's words or of its FILE is to the program's caller.
use Rattle.std.specs.Prelude.{◌≡◌, ◌≢◌, ⊤, ℕ, List, [], codes, is_some, true}
use Rattle.clap.specs.Words.{Text}
use Rattle.clap.specs.declared.error.kind.ErrorKind.{ErrorKind}
use Rattle.clap.specs.declared.error.kind.ErrorKind.TheVariants.{OutOfMemory}
use Rattle.program_ends.specs.CommandLine.{faults_of, file_of}
use Rattle.program_ends.specs.declared.refusal.Refusal.{Refusal}
use Rattle.program_ends.specs.declared.refusal.Refusal.TheVariants.{Usage, NoMemory, Unopened}

-- the refusal of words that were refused for this cause
abbrev pub of_kind : ErrorKind → Refusal
of_kind OutOfMemory = NoMemory
of_kind _ = Usage

-- what each refusal of these words of the program with this name says of them: there is a fault in them; or there is
-- none, and they name a FILE
abbrev pub Refuses : List ℕ → List Text → Refusal → Type 0
Refuses name words Usage = faults_of name words ≢ []
Refuses name words Unopened = (faults_of name words ≡ []) × (is_some (file_of name words) ≡ true)
Refuses name words NoMemory = ⊤

-- the exit status
abbrev pub status_of : Refusal → ℕ
status_of Usage = 2
status_of Unopened = 4
status_of NoMemory = 6

-- the text of standard error
abbrev pub text_of : Refusal → List ℕ
text_of Usage = codes "usage"
text_of Unopened = codes "read fault"
text_of NoMemory = codes "no memory"
