use Rattle.std.proofs.Common.{◌∙◌, ap, List, ℕ, ◌++◌, ◌∷◌, [], vec_capacity}
use Rattle.listeners.specs.Queue.{cut}
use Rattle.listeners.proofs.QueueLemmas.{cut-push, kept-push}
use Rattle.listeners.proofs.queue.Queue.push.Goals as goal

pub invariant_of-self : goal.invariant_of-self
invariant_of-self c =
    let items = rw c.unwrap.ensures at c.extend_from_slice.ensures.items in
    rw items (kept-push c.self.inside.bytes.items _ (vec_capacity c.self.inside.bytes) _ c.args.self.now c.self.invariant c.self.view_is c.requires.message c.requires.room c.extend_from_slice.ensures.capacity)

pub returns : goal.returns
returns c =
    let items = rw c.unwrap.ensures at c.extend_from_slice.ensures.items in
    ap (λ (x : List ℕ). cut x) items ∙ cut-push c.self.inside.bytes.items c.args.message.now c.self.invariant.whole c.requires.message
    ∙ ap (λ (ms : List (List ℕ)). ms ++ c.args.message.now ∷ []) c.self.view_is
