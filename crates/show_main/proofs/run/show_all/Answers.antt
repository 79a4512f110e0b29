use Rattle.std.proofs.Common.{◌≡◌, Err, inr, ◌≤◌, length, ◌++◌, ◌∙◌, ap, arith, rules, subst, take}
use Rattle.std.specs.Prelude.{IfSome}
use Rattle.std.specs.Io.KnownBytes.{Consumes}
use Rattle.event_file.specs.Lines.{has_newline}
use Rattle.event_file.proofs.LineLemmas.{begun_line-no_newline}
use Rattle.show_main.specs.declared.run.TheConstants.{MOST_READS}
use Rattle.program_ends.proofs.ReadLemmas.{HasRead-more, HasRead-reads, HasRead-text}
use Rattle.show_main.proofs.ShownLemmas.{Ends-finish, Ends-flush_fault, Ends-stopped, Reached-read}
use Rattle.show_main.proofs.run.show_all.Goals as goal

pub returns-then-taken-eq0-clause-ends : goal.returns-then-taken-eq0-clause-ends
returns-then-taken-eq0-clause-ends g c =
    let nothing = subst (λ n. Consumes (g.R.Read.remaining c.loop-turn.reader.inner) (g.R.Read.remaining c.read_behind.new.self.inner) (take n c.read_behind.new.buf)) c.if-taken-eq0.true c.in-Ok.ensures.bytes.0 in
    Ends-finish c.finish.result (g.R.Read.remaining c.read_behind.new.self.inner) (g.W.Write.contents c.finish.new.writer.inner) c.loop-turn.invariant.reached nothing (search rules)
    (rw (← c.deref.ensures.value) c.finish.ensures.ends)

pub returns-in-Err-clause-ends : goal.returns-in-Err-clause-ends
returns-in-Err-clause-ends g c =
    Ends-stopped c.stop.result (g.R.Read.remaining c.read_behind.new.self.inner) (g.W.Write.contents c.stop.new.writer.inner) (take c.in-Ok.taken c.read_behind.new.buf) c.stop.ensures.ends
    c.loop-turn.invariant.reached c.in-Ok.ensures.bytes.0 c.in-Err.ensures.fault (λ none. c.in-Err.ensures.first (ap Err (c.stop.ensures.cause none))) c.stop.ensures.keeps

pub loop-turn-preserved : goal.loop-turn-preserved
loop-turn-preserved g c =
    record {
      reads = search rules;
      no_read_failure = search rules;
      no_write_failure = search rules;
      memory = search rules;
      room = grind arith;
      prompt = search rules;
      flushed = search rules;
      begun = ap has_newline c.in_default-show_bytes.ensures.begun ∙ begun_line-no_newline (c.loop-turn.line.items ++ take c.in-Ok.taken c.read_behind.new.buf);
      reached = Reached-read (g.R.Read.remaining c.read_behind.new.self.inner) (g.W.Write.contents c.show_bytes.new.writer.inner) (g.W.Write.contents c.flush.new.self.inner)
          (take c.in-Ok.taken c.read_behind.new.buf) c.loop-turn.invariant.reached c.in-Ok.ensures.bytes.0 c.in_default-show_bytes.ensures.shown.appends
          c.in_default-show_bytes.ensures.begun c.flush.ensures.bytes;
      many = HasRead-more c.in-Ok.taken _ c.loop-turn.invariant.many c.in-Ok.ensures.bytes.0 c.in-Ok.ensures.bound.0 c.if-taken-eq0.false;
    }

pub returns-in_default-flush-clause-ends : goal.returns-in_default-flush-clause-ends
returns-in_default-flush-clause-ends g c =
    Ends-flush_fault (Reached-read (g.R.Read.remaining c.read_behind.new.self.inner) (g.W.Write.contents c.show_bytes.new.writer.inner) (g.W.Write.contents c.flush.new.self.inner)
    (take c.in-Ok.taken c.read_behind.new.buf) c.loop-turn.invariant.reached c.in-Ok.ensures.bytes.0 c.in_default-show_bytes.ensures.shown.appends
    c.in_default-show_bytes.ensures.begun c.flush.ensures.bytes)

pub returns-in_default-clause-reads_needed : goal.returns-in_default-clause-reads_needed
returns-in_default-clause-reads_needed g c = HasRead-reads c.loop-turn._turn c.read_behind.new.self.reads _ _ c.loop-turn.invariant.many (grind arith)

pub returns-then-taken-eq0-clause-reads_needed : goal.returns-then-taken-eq0-clause-reads_needed
returns-then-taken-eq0-clause-reads_needed g c = HasRead-reads c.loop-turn._turn c.read_behind.new.self.reads _ _ c.loop-turn.invariant.many (grind arith)

pub returns-in_default-flush-clause-reads_needed : goal.returns-in_default-flush-clause-reads_needed
returns-in_default-flush-clause-reads_needed g c = HasRead-reads c.loop-turn._turn c.read_behind.new.self.reads _ _ c.loop-turn.invariant.many (grind arith)

pub returns-clause-reads_needed : goal.returns-clause-reads_needed
returns-clause-reads_needed g c = HasRead-reads c.loop-turn._turn c.loop-turn.reader.reads _ _ c.loop-turn.invariant.many (grind arith)

pub returns-clause-read_fault : goal.returns-clause-read_fault
returns-clause-read_fault g c =
    let last : c.loop-turn._turn ≡ MOST_READS = omega (arith, c.loop-turn-test.false, c.loop-turn.auto._turn-end) in
    λ _. inr (c.loop-turn.invariant.reads ∙ last, subst (λ n. IfSome (g.R.Read.remaining c.args.reader.now.inner) (λ text. n ≤ length text)) last (HasRead-text c.loop-turn.invariant.many))
