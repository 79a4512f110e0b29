use Rattle.std.proofs.Common.{ap, arith}
use Rattle.room_index.proofs.Counting.{fewer_used, tag_of_free, used_more}
use Rattle.room_index.specs.Places.{used_in}
use Rattle.room_index.proofs.places.Places.put.Goals as goal

pub overflow_add-self : goal.overflow_add-self
overflow_add-self g c =
    let p = c.args.self.now in
    omega (
      arith,
      fewer_used p.tags.items c.args.place c.requires.tags (tag_of_free p.tags.items p.entries.items c.args.place c.requires.entries c.requires.free),
      c.requires.used,
      c.write.ensures.used,
      p.tags.ok.0,
    )

pub returns-clause-put : goal.returns-clause-put
returns-clause-put g c = record {
  same = record { tags = c.write.ensures.written.same.tags; entries = c.write.ensures.written.same.entries; bits = c.write.ensures.written.same.bits };
  stand = c.write.ensures.written.stand;
  tags = c.write.ensures.written.tags;
}

pub returns-clause-used : goal.returns-clause-used
returns-clause-used g c =
    let p = c.args.self.now in
    let more = used_more p.tags.items c.args.place c.requires.tags (tag_of_free p.tags.items p.entries.items c.args.place c.requires.entries c.requires.free)
    c.args.tag (λ none. omega (arith, c.requires.tag, none)) in
    omega (arith, c.requires.used, c.write.ensures.used, ap used_in c.write.ensures.tags, more)
