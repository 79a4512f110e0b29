use Rattle.std.proofs.Common.{arith, rules}
use Rattle.route_main.proofs.ProgressLemmas.{Ends-flush_fault, Ends-write_fault, HasRead-more, Reached-kept, Reached-read}
use Rattle.route_main.proofs.run.answer_script.Goals as goal

pub returns-in_default-answer_bytes-clause-counted : goal.returns-in_default-answer_bytes-clause-counted
returns-in_default-answer_bytes-clause-counted g c = Ends-write_fault c.loop-turn.invariant.reached c.in-Ok.ensures.bytes.0 c.in_default-answer_bytes.ensures.err

pub loop-turn-preserved : goal.loop-turn-preserved
loop-turn-preserved g c = record {
  reads = search rules;
  no_read_failure = search rules;
  no_write_failure = search rules;
  room = grind arith;
  unended = search rules;
  prompt = search rules;
  flushed = search rules;
  reached = Reached-kept (Reached-read c.loop-turn.invariant.reached c.in-Ok.ensures.bytes.0 c.in-Ok-answer_bytes.ensures.ok) c.flush.ensures.bytes;
  many = HasRead-more c.in-Ok.taken _ c.loop-turn.invariant.many c.in-Ok.ensures.bytes.0 c.in-Ok.ensures.bound.0 c.if-taken-eq0.false;
}

pub returns-in_default-flush-clause-counted : goal.returns-in_default-flush-clause-counted
returns-in_default-flush-clause-counted g c = Ends-flush_fault (Reached-read c.loop-turn.invariant.reached c.in-Ok.ensures.bytes.0 c.in-Ok-answer_bytes.ensures.ok) c.flush.ensures.bytes
