use Rattle.std.proofs.Common.{◌≡◌, ◌∙◌, sym, ap, Bool, List}
use Rattle.std.specs.List.{list_any}
use Rattle.listeners.specs.Open.{Open, seen}
use Rattle.listeners.specs.Sockets.{Socket, has_id}
use Rattle.sock_addrs.proofs.FirstLemmas.{list_any-map}
use Rattle.listeners.proofs.listeners.Listeners.is_open.Goals as goal

pub returns : goal.returns
returns c =
    let items = c.self.inside.sockets.items in
    let test : Open → Bool = λ s. has_id c.args.id (seen s) in
    let any : c.is_open.result ≡ list_any test items = c.is_open.ensures ∙ ap (λ (xs : List Open). list_any test xs) c.deref.ensures.value in
    any ∙ sym (list_any-map seen (has_id c.args.id) items) ∙ ap (λ (ss : List Socket). list_any (has_id c.args.id) ss) c.self.view_is
