use Rattle.std.proofs.Common.{◌≡◌, ◌-◌, ◌%◌, ◌^◌, ◌≤◌, ◌+◌, slice_index, arith, ap, sym, subst, pow_mono, ◌∙◌}
use Rattle.mask_table.specs.RankSets.{HasRank}
use Rattle.room_index.proofs.Ranging.{range_low, told_in}
use Rattle.room_index.specs.Ranges.{range_of}
use Rattle.room_index.proofs.ranges.Ranges.tell.Goals.{After-saturating_sub-spread}
use Rattle.room_index.proofs.ranges.Ranges.tell.Goals as goal

pub overflow_add-first : goal.overflow_add-first
overflow_add-first g c = omega (arith, c.range-first.ensures, range_low c.args.self.now.bits c.args.pair c.requires, pow_mono {i = c.saturating_sub-spread.result} {j = 6} c.if-spread-le-WIDEST.true)

-- by how many bits a range's are more than the rank
spread_is : (g : _) (c : After-saturating_sub-spread g) → c.args.pair % 64 ≤ 33 → c.saturating_sub-spread.result ≡ c.args.self.now.bits - c.args.pair % 64
spread_is g c fits = omega (arith, c.saturating_sub-spread.ensures, c.from.ensures, c.number.ensures.number, c.rank_of-rank.ensures fits)

-- a network that is as long as a range has one
pub returns-then-spread-eq0-clause-told : goal.returns-then-spread-eq0-clause-told
returns-then-spread-eq0-clause-told g c fits =
    let new = c.tell_at.new.self in
    let of = c.args.pair in
    let first = c.range-first.result in
    let here : first ≡ range_of new.bits of = c.range-first.ensures ∙ ap (λ b. range_of b of) (sym c.tell_at.ensures.more.bits) in
    let none : new.bits - of % 64 ≡ 0 =
    omega (arith, spread_is g (goal.at.returns-then-spread-eq0-clause-told g c).After-saturating_sub-spread fits, c.if-spread-eq0.true, c.tell_at.ensures.more.bits) in
    let one : 2 ^ (new.bits - of % 64) ≡ 1 = ap (λ s. 2 ^ s) none in
    told_in new of first (first + 1) (omega (arith, c.requires, c.tell_at.ensures.more.bits)) here (omega (arith, one))
    (λ n from until within. subst (λ k. HasRank (slice_index new.ranks.items k) (of % 64)) (omega (arith, from, until))
    (subst (HasRank _) (c.rank_of-rank.ensures fits) (c.tell_at.ensures.told (omega (arith, from, until, within))))) fits

pub returns-then-spread-le-WIDEST-clause-told : goal.returns-then-spread-le-WIDEST-clause-told
returns-then-spread-le-WIDEST-clause-told g c fits =
    let new = c.tell_in.new.self in
    let of = c.args.pair in
    let small : 2 ^ c.saturating_sub-spread.result ≤ 2 ^ 6 = pow_mono {i = c.saturating_sub-spread.result} {j = 6} c.if-spread-le-WIDEST.true in
    let spread : c.saturating_sub-spread.result ≡ new.bits - of % 64 =
    omega (arith, spread_is g (goal.at.returns-then-spread-le-WIDEST-clause-told g c).After-saturating_sub-spread fits, c.tell_in.ensures.more.bits) in
    told_in new of c.range-first.result _ (omega (arith, c.requires, c.tell_in.ensures.more.bits)) (c.range-first.ensures ∙ ap (λ b. range_of b of) (sym c.tell_in.ensures.more.bits))
    (omega (arith, small, ap (λ s. 2 ^ s) spread)) (λ n from until within. subst (HasRank _) (c.rank_of-rank.ensures fits) (c.tell_in.ensures.told n from until within)) fits
