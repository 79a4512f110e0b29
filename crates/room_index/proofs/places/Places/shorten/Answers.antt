use Rattle.std.proofs.Common.{sym, ap, ◌∙◌}
use Rattle.room_index.proofs.Counting.{tag_of_free, used_before}
use Rattle.room_index.specs.Places.{used_in}
use Rattle.room_index.proofs.places.Places.shorten.Goals as goal

pub returns-clause-used : goal.returns-clause-used
returns-clause-used g c =
    let p = c.args.self.now in
    c.give_back.ensures.used ∙ c.requires.used
    ∙ sym (used_before p.tags.items c.args.size (λ n past. tag_of_free p.tags.items p.entries.items n c.requires.even (c.requires.free n past)))
    ∙ ap used_in (sym (c.give_back.ensures.tags ∙ c.truncate.ensures.items))
