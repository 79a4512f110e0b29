use Rattle.std.proofs.Common.{◌≢◌, ◌≤◌, ◌∙◌, ◌∷◌, [], ap, arith, length, rules, sym, inl, inr, Err}
use Rattle.std.specs.Io.KnownBytes.{IsAtEnd}
use Rattle.line_reader.specs.Given.{Parted}
use Rattle.line_reader.specs.declared.reader.TheConstants.{READ_ROOM}
use Rattle.lab_main.proofs.Reaching.{Ended-turns, Ends-at_end, Ends-between, Ends-front, Ends-last, Ends-over, Front-last, Front-line, Front-now, Lines-line, Reached-kept, Reached-line, Spent-behind, Spent-turns, not_read}
use Rattle.lab_main.proofs.Untold.{Left-needed, Left-parted}
use Rattle.lab_main.proofs.run.tell_lines.Goals as goal

pub returns-in-Err-tell_line-clause-ends : goal.returns-in-Err-tell_line-clause-ends
returns-in-Err-tell_line-clause-ends g c =
    let parted : Parted (g.R.Read.remaining c.loop-turn.reader.inner) (g.R.Read.remaining c.next_line.new.reader.inner) c.loop-turn.lines c.deref.result.now (10 ∷ c.next_line.new.self) =
    search rules in
    let reached = Reached-kept c.loop-turn.invariant.reached c.in-Ok-Line.ensures.keeps in
    let few : length c.next_line.new.self ≤ READ_ROOM = search rules in
    Ends-front c.stop.result _
    (Front-line g.W.Write.contents c.next_line.new.writer c.tell_line.new.writer (g.W.Write.contents c.stop.new.writer.inner) c.in-Err-tell_line.fault c.deref.result.now c.next_line.new.self
    c.tell_line.new.lab reached parted few c.in-Err-tell_line.ensures.fault c.stop.ensures.keeps)
    (λ is. Lines-line g.W.Write.contents c.next_line.new.writer c.tell_line.new.writer (g.W.Write.contents c.stop.new.writer.inner) c.in-Err-tell_line.fault c.deref.result.now
    c.tell_line.new.lab reached (Left-parted parted (omega (arith, few))) c.in-Err-tell_line.ensures.fault (c.stop.ensures.no_memory is) c.stop.ensures.keeps)
    (λ is. not_read g.W.Write.contents _ _ _ _ _ _ c.in-Err-tell_line.fault c.in-Err-tell_line.ensures.fault (c.stop.ensures.read_fault is)) c.stop.ensures.read

pub returns-then-is_over-clause-ends : goal.returns-then-is_over-clause-ends
returns-then-is_over-clause-ends g c =
    let parted : Parted (g.R.Read.remaining c.loop-turn.reader.inner) (g.R.Read.remaining c.next_line.new.reader.inner) c.loop-turn.lines c.deref.result.now (10 ∷ c.next_line.new.self) =
    search rules in
    let reached = Reached-kept c.loop-turn.invariant.reached c.in-Ok-Line.ensures.keeps in
    let few : length c.next_line.new.self ≤ READ_ROOM = search rules in
    let told = c.in_default.ensures.told in
    Ends-over c.finish.result (g.W.Write.contents c.finish.new.writer.inner)
    (Reached-line c.deref.result.now c.next_line.new.self told.0 reached parted told.1 told.2.appends) (sym c.is_over.ensures ∙ c.if-is_over.true) few c.finish.ensures.ends

pub returns-in-Err-tell_line-2-clause-ends : goal.returns-in-Err-tell_line-2-clause-ends
returns-in-Err-tell_line-2-clause-ends g c =
    let line = c.deref-in-Ok-Last.result.now in
    let parted : Parted (g.R.Read.remaining c.loop-turn.reader.inner) (g.R.Read.remaining c.next_line.new.reader.inner) c.loop-turn.lines line []
    × IsAtEnd (g.R.Read.remaining c.next_line.new.reader.inner) × (line ≢ []) = search rules in
    let reached = Reached-kept c.loop-turn.invariant.reached c.in-Ok-Last.ensures.keeps in
    let stop = c.stop-in-Err-tell_line-2 in
    Ends-front stop.result _
    (Front-last g.W.Write.contents c.next_line.new.writer c.tell_line-in-Ok-Last.new.writer (g.W.Write.contents stop.new.writer.inner) c.in-Err-tell_line-2.fault line
    c.tell_line-in-Ok-Last.new.lab reached parted c.in-Err-tell_line-2.ensures.fault stop.ensures.keeps)
    (λ is. Lines-line g.W.Write.contents c.next_line.new.writer c.tell_line-in-Ok-Last.new.writer (g.W.Write.contents stop.new.writer.inner) c.in-Err-tell_line-2.fault line
    c.tell_line-in-Ok-Last.new.lab reached (Left-parted parted.0 (omega arith)) c.in-Err-tell_line-2.ensures.fault (stop.ensures.no_memory is) stop.ensures.keeps)
    (λ is. not_read g.W.Write.contents _ _ _ _ _ _ c.in-Err-tell_line-2.fault c.in-Err-tell_line-2.ensures.fault (stop.ensures.read_fault is)) stop.ensures.read

pub returns-in-Ok-Last-clause-ends : goal.returns-in-Ok-Last-clause-ends
returns-in-Ok-Last-clause-ends g c =
    let line = c.deref-in-Ok-Last.result.now in
    let parted : Parted (g.R.Read.remaining c.loop-turn.reader.inner) (g.R.Read.remaining c.next_line.new.reader.inner) c.loop-turn.lines line []
    × IsAtEnd (g.R.Read.remaining c.next_line.new.reader.inner) × (line ≢ []) = search rules in
    let reached = Reached-kept c.loop-turn.invariant.reached c.in-Ok-Last.ensures.keeps in
    let told = c.in_default-tell_line.ensures.told in
    Ends-last c.finish-in-Ok-Last.result (g.R.Read.remaining c.next_line.new.reader.inner) (g.W.Write.contents c.tell_line-in-Ok-Last.new.writer.inner)
    (g.W.Write.contents c.finish-in-Ok-Last.new.writer.inner) line told.0 reached parted told.1 told.2.appends c.finish-in-Ok-Last.ensures.ends

pub returns-in-Ok-End-clause-ends : goal.returns-in-Ok-End-clause-ends
returns-in-Ok-End-clause-ends g c =
    let parted : Parted (g.R.Read.remaining c.loop-turn.reader.inner) (g.R.Read.remaining c.next_line.new.reader.inner) c.loop-turn.lines [] []
    × IsAtEnd (g.R.Read.remaining c.next_line.new.reader.inner) = search rules in
    let reached = Reached-kept c.loop-turn.invariant.reached c.in-Ok-End.ensures.keeps in
    Ends-at_end c.finish-in-Ok-End.result (g.R.Read.remaining c.next_line.new.reader.inner) (g.W.Write.contents c.finish-in-Ok-End.new.writer.inner) reached parted
    c.finish-in-Ok-End.ensures.ends

pub returns-in-Err-clause-ends : goal.returns-in-Err-clause-ends
returns-in-Err-clause-ends g c =
    let left = Left-needed (elim c.in-Err.ensures.needed [
      | inl same ↦ inl (ap (λ r. g.R.Read.remaining r.inner) same)
      | inr needed ↦ inr needed
    ]) c.loop-turn.invariant.ahead in
    Ends-between c.stop-in-Err.result (g.W.Write.contents c.next_line.new.writer.inner) (g.W.Write.contents c.stop-in-Err.new.writer.inner) c.next_line.new.line.items
    c.loop-turn.invariant.reached (λ is. c.in-Err.ensures.begun (ap Err (c.stop-in-Err.ensures.read_fault is))) left c.in-Err.ensures.keeps
    c.stop-in-Err.ensures.keeps c.stop-in-Err.ensures.read

pub returns-in-Err-clause-read_fault : goal.returns-in-Err-clause-read_fault
returns-in-Err-clause-read_fault g c = λ is. elim (c.in-Err.ensures.read_fault (ap Err (c.stop-in-Err.ensures.read_fault is))) [
  | inl failed ↦ inl failed
  | inr spent ↦ inr (Spent-behind c.loop-turn.invariant.reached.cut spent)
]

pub returns-in-Err-clause-unfailed_reads : goal.returns-in-Err-clause-unfailed_reads
returns-in-Err-clause-unfailed_reads g c = λ not_read. c.in-Err.ensures.reads
    (λ is. not_read (c.stop-in-Err.ensures.fault_read (cc)))

pub loop-turn-preserved : goal.loop-turn-preserved
loop-turn-preserved g c =
    let parted : Parted (g.R.Read.remaining c.loop-turn.reader.inner) (g.R.Read.remaining c.next_line.new.reader.inner) c.loop-turn.lines c.deref.result.now (10 ∷ c.next_line.new.self) =
    search rules in
    let reached = Reached-kept c.loop-turn.invariant.reached c.in-Ok-Line.ensures.keeps in
    let told = c.in_default.ensures.told in
    record {
      reached = Reached-line c.deref.result.now c.next_line.new.self told.0 reached parted told.1 told.2.appends;
      ahead = search rules;
      goes_on = sym c.is_over.ensures ∙ c.if-is_over.false;
      reads = search rules;
      writes = search rules;
      prompt = search rules;
      memory = search rules;
    }

pub returns-in_default-flush-clause-ends : goal.returns-in_default-flush-clause-ends
returns-in_default-flush-clause-ends g c = Front-now c.loop-turn.invariant.reached c.loop-turn.invariant.ahead c.flush.ensures.bytes

pub returns-clause-ends : goal.returns-clause-ends
returns-clause-ends g c = Ended-turns c.loop-turn.invariant.reached c.loop-turn-test.false c.flush.ensures.bytes

pub returns-clause-read_fault : goal.returns-clause-read_fault
returns-clause-read_fault g c = λ _. inr (Spent-turns c.loop-turn.invariant.reached c.loop-turn-test.false)
