-- What is answered where something was tried.
use Rattle.std.specs.Prelude.{ℕ, List, None, Result, Ok, Err}
use Rattle.sock_addrs.specs.declared.errno.Errno.{Errno}
use Rattle.route_core.specs.declared.answer.Answer.{Answer}
use Rattle.route_core.specs.declared.answer.Answer.TheVariants.{Done, Messages, Refused}

-- what came of it, or why it was refused
abbrev pub answer_to : Result Answer Errno → Answer
answer_to (Ok answer) = answer
answer_to (Err errno) = Refused errno

-- that it was done, or why it was refused
abbrev pub done_or_refused : {A : Type 0} → Result A Errno → Answer
done_or_refused (Ok a) = Done
done_or_refused (Err errno) = Refused errno

-- that these messages were read, or why none were
abbrev pub read_or_refused : {A : Type 0} → Result A Errno → List (List ℕ) → Answer
read_or_refused (Ok a) messages = Messages messages None
read_or_refused (Err errno) messages = Refused errno
