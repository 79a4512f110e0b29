use Rattle.std.proofs.Common.{arith, map}
use Rattle.std.proofs.lemmas.List.{length-map}
use Rattle.event_file.proofs.ManyWords.{add_address_form-few}
use Rattle.event_file.proofs.verbs.add_address.Goals as goal

pub returns-in_default : goal.returns-in_default
returns-in_default c =
    add_address_form-few (map (λ w. w.now) c.args.words.now) (omega (arith, c.in_default.len_below, length-map c.args.words.now (λ w. w.now)))
