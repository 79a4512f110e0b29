use Rattle.std.proofs.Common.{◌≡◌, ◌≤◌, ◌∷◌, ◌++◌, ◌+◌, ◌-◌, length, take, List, ℕ, rules, ap, sym, ◌∙◌, arith}
use Rattle.std.proofs.lemmas.List.{append_assoc}
use Rattle.std.proofs.lemmas.List.Sums.{sum_by-cons}
use Rattle.table_dump.proofs.Fronts.{given_first}
use Rattle.table_dump.proofs.Showing.{asked}
use Rattle.table_dump.specs.Dumps.{bytes_of, fitting, shown_of, size_of}
use Rattle.table_dump.proofs.dump.dump_into.Goals as goal

pub loop-key-preserved : goal.loop-key-preserved
loop-key-preserved c =
    let all = shown_of c.args.filter c.args.interfaces.now c.args.table.now.entries in
    let old = shown_of c.args.filter c.args.interfaces.now c.loop-key.walk.rest in
    let rest = shown_of c.args.filter c.args.interfaces.now c.step.new.self.rest in
    let size = c.put_shown-size.result in
    let message = take size c.put_shown-size.new.room in
    let given_so_far = c.loop-key.bytes.items in
    let front : old ≡ message ∷ rest = search (rules, asked) in
    let given : fitting c.loop-key.left (message ∷ rest) ≡ message ∷ fitting (c.loop-key.left - size) rest = search (rules, given_first) in
    let taken : c.extend.new.items.items ≡ given_so_far ++ message = search rules in
    let len : size ≡ length message = c.put_shown-size.ensures.size in
    let fits : length message ≤ c.loop-key.left = search (rules, arith) in
    let sizes : size_of old ≡ length message + size_of rest = ap (λ (ms : List (List ℕ)). size_of ms) front ∙ sum_by-cons length message rest in
    let so_far : c.loop-key.left + size_of all ≡ c.args.room + size_of old = c.loop-key.invariant.size in
    record {
      turn = search rules;
      counter = search rules;
      memory = search rules;
      of = search rules;
      bytes = c.loop-key.invariant.bytes
          ∙ ap (λ (ms : List (List ℕ)). given_so_far ++ bytes_of (fitting c.loop-key.left ms)) front
          ∙ ap (λ (ms : List (List ℕ)). given_so_far ++ bytes_of ms) given
          ∙ sym (append_assoc given_so_far message (bytes_of (fitting (c.loop-key.left - size) rest)))
          ∙ ap (λ (items : List ℕ). items ++ bytes_of (fitting (c.loop-key.left - size) rest)) (sym taken);
      size = omega (arith, len, fits, sizes, so_far);
      whole = search (rules, front, given);
    }
