use Rattle.std.proofs.Common.{◌*◌, ◌/◌, ◌-◌, subst, sym, arith}
use Rattle.room_index.proofs.HomeLemmas.{folded_home}
use Rattle.room_index.proofs.Sizing.{folded_past, folded_same, folded_down}
use Rattle.room_index.specs.Places.{IsHome}
use Rattle.room_index.proofs.places.Places.fold.Goals as goal

pub returns-in_default-clause-filed : goal.returns-in_default-clause-filed
returns-in_default-clause-filed g c done = folded_past _ c.args.self.now.bits c.args.half c.args.place c.requires.filed c.in_default.ensures.none

pub free_below-requires-clause-home : goal.free_below-requires-clause-home
free_below-requires-clause-home g c =
    let stood = c.requires.filed.places c.args.place c.in-Some.entry.now c.in-Some.ensures.some in
    subst (IsHome c.args.self.now.bits (8 * ((c.args.place - c.args.half) / 8))) (sym c.pair-pair.ensures.pair) (folded_home c.args.self.now.bits c.args.place c.in-Some.entry.now.pair (stood.upper c.requires.upper).1 (omega (arith, c.requires.half, c.requires.upper))
    (8 * ((c.args.place - c.args.half) / 8)) (omega (arith, c.requires.half, c.requires.upper)))

pub returns-clause-filed : goal.returns-clause-filed
returns-clause-filed g c done =
    let found = c.in-Some-free_below.ensures in
    folded_down _ c.args.self.now.bits c.args.half c.args.place c.requires.filed c.move_to.new.self c.in-Some-free_below.free c.in-Some.entry.now
    c.in-Some.ensures.some found.free.1 c.move_to.ensures.moved c.requires.half c.requires.within (subst (IsHome c.args.self.now.bits c.in-Some-free_below.free) c.pair-pair.ensures.pair found.home)

pub returns-clause-same : goal.returns-clause-same
returns-clause-same g c done =
    let found = c.in-Some-free_below.ensures in
    folded_same _ c.args.self.now.bits c.args.half c.args.place c.requires.filed c.move_to.new.self c.in-Some-free_below.free c.in-Some.entry.now
    c.in-Some.ensures.some found.free.1 c.move_to.ensures.moved c.requires.half c.requires.within (subst (IsHome c.args.self.now.bits c.in-Some-free_below.free) c.pair-pair.ensures.pair found.home)
