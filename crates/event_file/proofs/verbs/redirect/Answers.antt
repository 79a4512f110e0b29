use Rattle.std.proofs.Common.{◌<◌, ◌≤◌, arith, length, map, rules}
use Rattle.std.proofs.lemmas.List.{length-map}
use Rattle.event_file.proofs.ManyWords.{redirect_form-few, redirect_form-many}
use Rattle.event_file.proofs.verbs.redirect.Goals.{in_default-via-then-words-lt3, in_default-via-else-words-lt3+else-words-lt4}
use Rattle.event_file.proofs.verbs.redirect.Goals as goal

pub returns-in_default : goal.returns-in_default
returns-in_default c =
    let size = length-map c.args.words.now (λ w. w.now) in
    elim c.in_default.branch [
      | in_default-via-then-words-lt3 w ↦
          let few : length c.args.words.now < 3 = search rules in
          redirect_form-few (map (λ w. w.now) c.args.words.now) (omega (arith, few, size))
      | in_default-via-else-words-lt3+else-words-lt4 w ↦
          let many : 4 ≤ length c.args.words.now = search rules in
          redirect_form-many (map (λ w. w.now) c.args.words.now) (omega (arith, many, size))
    ]
