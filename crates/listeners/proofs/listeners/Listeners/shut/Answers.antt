use Rattle.std.proofs.Common.{◌≡◌, ◌≤◌, ◌∙◌, sym, ap, rules, not, filter, map, List}
use Rattle.std.proofs.lemmas.Fn.{filter_same}
use Rattle.listeners.specs.Open.{Open, seen}
use Rattle.listeners.specs.Sockets.{Socket, has_id, without}
use Rattle.listeners.proofs.SocketLists.{is_closed, is_not_closed, others_left}
use Rattle.listeners.proofs.listeners.Listeners.shut.Goals as goal
use Rattle.listeners.proofs.listeners.Listeners.shut.Goals.{After-retain}

left : (c : After-retain) → c.retain.new.self.items ≡ filter (λ s. not (has_id c.args.id (seen s))) c.self.inside.sockets.items
left c = filter_same _ _ _ (λ x b f' k. search rules) _ _ c.retain.ensures.filtered

pub returns-then-not-is_open-clause-fault : goal.returns-then-not-is_open-clause-fault
returns-then-not-is_open-clause-fault c = sym (is_closed c.args.id c.args.self.now (sym c.is_open.ensures ∙ c.if-not-is_open.true))

pub returns-clause-fault : goal.returns-clause-fault
returns-clause-fault c = sym (is_not_closed c.args.id c.args.self.now (sym c.is_open.ensures ∙ c.if-not-is_open.false))

pub returns-clause-shut : goal.returns-clause-shut
returns-clause-shut c =
    let at = (goal.at.returns-clause-shut c).After-retain in
    ap (λ (xs : List Open). map seen xs) (left at) ∙ others_left c.self.inside.sockets.items c.args.id ∙ ap (λ (ss : List Socket). without c.args.id ss) c.self.view_is
