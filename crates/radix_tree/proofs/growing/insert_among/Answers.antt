use Rattle.radix_tree.proofs.{Kept.pair_there, Gained.gains_same, Gained.among_left, Words.number_of, Words.arith, Words.late_at}
use Rattle.radix_tree.proofs.growing.insert_among.Goals as goal

pub returns-in-Err-clause-there : goal.returns-in-Err-clause-there
returns-in-Err-clause-there g c =
    let w = c.requires.led.0 in
    let at = c.in-Err.ensures.there w in
    pair_there w c.args.entry.key c.args.entry.rank at.0 at.1 at.2

pub returns-in-Ok-clause-whole : goal.returns-in-Ok-clause-whole
returns-in-Ok-clause-whole g c = among_left c.args.room (number_of c.in-Ok.id) c.in-Ok.ensures.number
    (c.list_mask.ensures.whole c.in-Ok.root (late_at c.args.room) c.in-Ok.ensures.ok)

pub returns-in-Ok-clause-routes : goal.returns-in-Ok-clause-routes
returns-in-Ok-clause-routes g c = search (arith, gains_same)
