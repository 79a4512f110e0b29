use Rattle.std.proofs.Common.{◌≤◌, [], ℕ, List, length, refl, rules, subst, arith, inl, inr}
use Rattle.std.proofs.KnownBytes.{Keeps-trans}
use Rattle.line_reader.specs.Given.{Parted}
use Rattle.line_reader.proofs.Parting.{HasRead-last, HasRead-one, Needed-failed, Needed-read, Parted-ended, Parted-kept, Parted-more, Parted-unended, is_begun, nothing_new}
use Rattle.line_reader.proofs.reader.LineReader.next_line.Goals as goal

pub returns-then-branch-clause-line : goal.returns-then-branch-clause-line
returns-then-branch-clause-line g c = λ _.
    Parted-ended c.in_ok-take_line.field-0 _ _ c.if-branch.true c.in_ok-take_line.ensures.took c.loop-turn.invariant.parted

pub returns-in_err-read_more-clause-begun : goal.returns-in_err-read_more-clause-begun
returns-in_err-read_more-clause-begun g c = λ _. record {
  behind = [];
  parted = Parted-kept (Parted-unended c.in_ok-take_line.field-0 _ _ c.if-branch.false c.in_ok-take_line.ensures.took c.loop-turn.invariant.parted)
      c.in_err-read_more.ensures.fault;
  none = inl refl;
}

pub returns-in_err-read_more-clause-needed : goal.returns-in_err-read_more-clause-needed
returns-in_err-read_more-clause-needed g c = inr (Needed-failed
    (Parted-unended c.in_ok-take_line.field-0 _ _ c.if-branch.false c.in_ok-take_line.ensures.took c.loop-turn.invariant.parted)
    c.in_err-read_more.ensures.fault)

pub returns-then-is_empty-clause-needed : goal.returns-then-is_empty-clause-needed
returns-then-is_empty-clause-needed g c = inr (Needed-read c.read_more.new.self
    (Parted-unended c.in_ok-take_line.field-0 _ _ c.if-branch.false c.in_ok-take_line.ensures.took c.loop-turn.invariant.parted)
    c.in_ok-read_more.ensures.read c.in_ok-read_more.ensures.ahead)

pub returns-else-is_empty-clause-needed : goal.returns-else-is_empty-clause-needed
returns-else-is_empty-clause-needed g c = inr (Needed-read c.read_more.new.self
    (Parted-unended c.in_ok-take_line.field-0 _ _ c.if-branch.false c.in_ok-take_line.ensures.took c.loop-turn.invariant.parted)
    c.in_ok-read_more.ensures.read c.in_ok-read_more.ensures.ahead)

pub returns-else-is_empty-clause-last : goal.returns-else-is_empty-clause-last
returns-else-is_empty-clause-last g c = λ _.
    let unended = Parted-unended c.in_ok-take_line.field-0 _ _ c.if-branch.false c.in_ok-take_line.ensures.took c.loop-turn.invariant.parted in
    let nothing = nothing_new c.read_more.new.self c.in_ok-read_more.field-0 c.in_ok-read_more.ensures.some c.if-branch-eq0.true in (
      subst (λ (l : List ℕ). Parted (g.R.Read.remaining c.args.reader.now.inner) (g.R.Read.remaining c.read_more.new.reader.inner) c.args.self.now c.take_line.new.line.items l)
          nothing (Parted-more c.read_more.new.self unended c.in_ok-read_more.ensures.read),
      search rules,
      is_begun c.take_line.new.line.items (search rules),
    )

pub returns-else-is_empty-clause-none_behind : goal.returns-else-is_empty-clause-none_behind
returns-else-is_empty-clause-none_behind g c = λ _.
    nothing_new c.read_more.new.self c.in_ok-read_more.field-0 c.in_ok-read_more.ensures.some c.if-branch-eq0.true

pub returns-then-is_empty-clause-none_left : goal.returns-then-is_empty-clause-none_left
returns-then-is_empty-clause-none_left g c = λ _.
    nothing_new c.read_more.new.self c.in_ok-read_more.field-0 c.in_ok-read_more.ensures.some c.if-branch-eq0.true

pub loop-turn-preserved : goal.loop-turn-preserved
loop-turn-preserved g c =
    let unended = Parted-unended c.in_ok-take_line.field-0 _ _ c.if-branch.false c.in_ok-take_line.ensures.took c.loop-turn.invariant.parted in
    let some : 1 ≤ length c.read_more.new.self = omega (arith, c.in_ok-read_more.ensures.some, c.if-branch-eq0.false) in
    record {
      parted = Parted-more c.read_more.new.self unended c.in_ok-read_more.ensures.read;
      needed = inr (Needed-read c.read_more.new.self unended c.in_ok-read_more.ensures.read c.read_more.ensures.ahead);
      many = HasRead-one c.read_more.new.self c.loop-turn.invariant.many c.in_ok-read_more.ensures.read some;
      keeps = Keeps-trans _ _ _ c.loop-turn.invariant.keeps c.read_more.ensures.keeps;
      flushed = inr (search rules);
      prompt = search rules;
      reads = search rules;
      writes = search rules;
      memory = search rules;
    }

pub returns-clause-begun : goal.returns-clause-begun
returns-clause-begun g c = λ _. record { behind = c.loop-turn.self; parted = c.loop-turn.invariant.parted; none = inr (HasRead-last c.loop-turn._turn c.loop-turn-test.false c.loop-turn.auto._turn-end c.loop-turn.invariant.many) }

pub returns-clause-read_fault : goal.returns-clause-read_fault
returns-clause-read_fault g c = λ _. inr (HasRead-last c.loop-turn._turn c.loop-turn-test.false c.loop-turn.auto._turn-end c.loop-turn.invariant.many)
