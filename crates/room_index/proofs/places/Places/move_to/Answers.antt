use Rattle.std.proofs.Common.{ap, sym, ◌∙◌}
use Rattle.std.proofs.lemmas.Option.{same_Some}
use Rattle.room_index.proofs.Moving.{moved}
use Rattle.room_index.proofs.Standing.{tag_read}
use Rattle.room_index.specs.Homes.{tag_of}
use Rattle.room_index.proofs.places.Places.move_to.Goals as goal

pub put-requires-clause-tag : goal.put-requires-clause-tag
put-requires-clause-tag g c = sym (tag_read c.args.self.now.tags.items c.args.from c.index-tag.result.now c.requires.from c.index-tag.ensures) ∙ c.requires.entry.2
    ∙ ap (λ e. tag_of e.pair) (same_Some _ _ (sym c.requires.entry.1 ∙ c.free-entry.ensures.was))

pub returns-clause-moved : goal.returns-clause-moved
returns-clause-moved g c = moved c.args.self.now c.free-entry.new.self c.put.new.self c.args.from c.args.to c.free-entry.result c.free-entry.ensures.was
    (c.requires.entry.2 ∙ ap (λ e. tag_of e.pair) (same_Some _ _ (sym c.requires.entry.1 ∙ c.free-entry.ensures.was))) c.free-entry.ensures.freed c.put.ensures.put
