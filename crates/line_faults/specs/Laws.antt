-- Laws of faults.
use Rattle.std.specs.Prelude.{◌≡◌, ◌≤◌, ℕ, false, is_none, is_some, length, List, ◌++◌, Some}
use Rattle.std.specs.Option.{IfSome}
use Rattle.event_file.specs.Grammar.{command_of}
use Rattle.event_file.specs.Words.{parted_by}
use Rattle.line_faults.specs.Faults.{fault_in, fault_of_words}
use Rattle.line_faults.specs.Wanted.{is_right}
use Rattle.line_faults.specs.Words.{word_of}
use Rattle.line_faults.specs.declared.faults.LineFault.{LineFault}

-- a line has no fault just where the grammar has it
abbrev pub FaultlessIsCommand : Type 0
FaultlessIsCommand = (line : List ℕ) → is_none (fault_in line) ≡ is_some (command_of line)

-- a fault is at a word of the line, or one past its last
abbrev pub FaultIsAtAWord : Type 0
FaultIsAtAWord = (line : List ℕ) (fault : LineFault) → fault_in line ≡ Some fault
    → fault.place ≤ length (parted_by 32 line)

-- and a word that stands there isn't as it is wanted
abbrev pub FaultyWordIsWrong : Type 0
FaultyWordIsWrong = (line : List ℕ) (fault : LineFault) → fault_in line ≡ Some fault
    → IfSome (word_of (parted_by 32 line) fault.place) (λ word. is_right fault.wanted word ≡ false)

-- while the words before it have none but that more is to come
abbrev pub WordsBeforeAreRight : Type 0
WordsBeforeAreRight = (line : List ℕ) (fault : LineFault) → fault_in line ≡ Some fault
    → (front rest : List (List ℕ)) → parted_by 32 line ≡ front ++ rest → length front ≡ fault.place
    → IfSome (fault_of_words front) (λ f. f.place ≡ length front)
