use Rattle.std.proofs.Common.{◌≡◌, ◌∙◌, List, ℕ, ap, sym}
use Rattle.std.proofs.lemmas.Option.{cond_some}
use Rattle.route_core.specs.Commands.{Command}
use Rattle.route_core.specs.declared.command.Command.TheVariants.{Write}
use Rattle.event_file.specs.RouteLine.{message_of, route_words_of}
use Rattle.event_file.specs.RouteWords.{composed}
use Rattle.event_file.specs.Words.{name_of}
use Rattle.event_file.proofs.Composed.{composed_says}
use Rattle.event_file.proofs.ReadRoutes.{route_words_of-Some}
use Rattle.event_file.proofs.ReadWords.{bind_some, inside}
use Rattle.event_file.proofs.laws.route_lines_are_read.Goals as goal

pub returns-clause-composed : goal.returns-clause-composed
returns-clause-composed c = λ w are. composed_says c.written_is_read.ensures c.sockaddrs_are_read.ensures w are

pub returns-clause-lines : goal.returns-clause-lines
returns-clause-lines c = λ id words command h.
    let (i, is, named) = bind_some (name_of id) _ command h in
    let (m, composes, said) = bind_some (message_of words) _ command named in
    let (w, reads, same) = bind_some (route_words_of words) _ m composes in
    let name : i ≡ id = sym (cond_some _ id i is).1 in
    let bytes : m ≡ composed w = sym (inside (composed w) m same) in
    let write : Command = Write i m in (
      w,
      reads,
      sym (inside write command said) ∙ ap (λ (n : List ℕ). Write n m) name ∙ ap (λ (b : List ℕ). Write id b) bytes,
      composed_says c.written_is_read.ensures c.sockaddrs_are_read.ensures w (route_words_of-Some words w reads),
    )
