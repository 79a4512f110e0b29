-- What a session keeps of the last answer: the messages of a read stay in a queue beside it.
use Rattle.std.specs.Prelude.{ℕ, List, Option, Some, None, Result, Ok}
use Rattle.event_file.specs.declared.bad.Bad.{Bad}
use Rattle.route_core.specs.declared.answer.Answer.{Answer}
use Rattle.route_core.specs.declared.answer.Answer.TheVariants.{Messages}
use Rattle.hoiskend.specs.declared.session.Last.{Last}
use Rattle.hoiskend.specs.declared.session.Last.TheVariants.{Nothing, Response, Read}

abbrev pub response_of : List (List ℕ) → Last → Option (Result Answer Bad)
response_of messages Nothing = None
response_of messages (Response response) = Some response
response_of messages Read = Some (Ok (Messages messages None))
