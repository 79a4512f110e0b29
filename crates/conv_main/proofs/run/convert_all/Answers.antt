use Rattle.std.proofs.Common.{◌≡◌, ◌≤◌, ◌+◌, ◌∙◌, [], false, sym, subst, take, length, length-take-le, arith, rules}
use Rattle.std.specs.Prelude.{is_err}
use Rattle.std.specs.Io.KnownBytes.{Consumes}
use Rattle.memory.specs.Refusing.{Rises}
use Rattle.program_ends.proofs.ReadLemmas.{HasRead-more}
use Rattle.conv_main.specs.declared.run.TheConstants.{READ_ROOM}
use Rattle.conv_main.specs.Pieces.{begun_piece, whole_pieces}
use Rattle.conv_main.specs.Progress.{Took}
use Rattle.conv_main.proofs.Grown.{from_ok}
use Rattle.conv_main.proofs.Runs.{Ends-finish, Ends-short, Ends-stopped, Reached-took}
use Rattle.conv_main.proofs.Taken.{either_took}
use Rattle.conv_main.proofs.run.convert_all.Goals as goal

pub returns-then-taken-eq0-clause-ends : goal.returns-then-taken-eq0-clause-ends
returns-then-taken-eq0-clause-ends g c =
    let nothing = subst (λ n. Consumes (g.R.Read.remaining c.loop-turn.reader.inner) (g.R.Read.remaining c.read_behind.new.self.inner) (take n c.read_behind.new.buf)) c.if-taken-eq0.true c.in-Ok.ensures.bytes.0 in
    Ends-finish c.finish.result (g.R.Read.remaining c.read_behind.new.self.inner) (g.W.Write.contents c.finish.new.writer.inner) (g.E.Write.contents c.finish.new.teller.inner)
    c.loop-turn.invariant.reached nothing (search rules) c.finish.ensures.ends

pub returns-in_default-deliver-clause-ends : goal.returns-in_default-deliver-clause-ends
returns-in_default-deliver-clause-ends g c =
    Ends-stopped c.take_bytes-took.result c.take_bytes-took.new.self.place
    c.loop-turn.progress.made.out.items c.take_bytes-took.new.self.made.out.items c.loop-turn.progress.made.told.items c.take_bytes-took.new.self.made.told.items
    (g.R.Read.remaining c.read_behind.new.self.inner) (g.W.Write.contents c.deliver.new.writer.inner) (g.E.Write.contents c.deliver.new.teller.inner)
    (take c.in-Ok.taken c.read_behind.new.buf) c.loop-turn.invariant.reached c.in-Ok.ensures.bytes.0
    c.loop-turn.invariant.no_out c.loop-turn.invariant.no_line c.take_bytes-took.ensures.took c.take_bytes-took.ensures.err c.in_default-deliver.ensures.err

pub returns-then-is_err-clause-ends : goal.returns-then-is_err-clause-ends
returns-then-is_err-clause-ends g c =
    let old = c.loop-turn.progress in let new = c.take_bytes-took.new.self in let bytes = take c.in-Ok.taken c.read_behind.new.buf in
    let t = either_took c.take_bytes-took.result c.args.way.now old.place new.place (whole_pieces c.args.way.now old.piece.items bytes)
    old.made.out.items new.made.out.items old.made.told.items new.made.told.items c.take_bytes-took.ensures.took c.take_bytes-took.ensures.err in
    let long = length-take-le c.in-Ok.taken c.read_behind.new.buf c.in-Ok.ensures.bound.0 in
    let few : length bytes ≤ READ_ROOM = omega (arith, long, c.in-Ok.ensures.bound.0, c.read_behind.auto.buf, c.loop-turn.auto.chunk, c.requires.room) in
    Ends-short new.place t.0 old.made.out.items new.made.out.items old.made.told.items new.made.told.items
    (g.R.Read.remaining c.read_behind.new.self.inner) (g.W.Write.contents c.deliver.new.writer.inner) (g.E.Write.contents c.deliver.new.teller.inner)
    bytes c.loop-turn.invariant.reached c.in-Ok.ensures.bytes.0 c.loop-turn.invariant.no_out c.loop-turn.invariant.no_line t.1
    c.in-Ok-deliver.ensures.out.appends c.in-Ok-deliver.ensures.lines.appends few

pub loop-turn-preserved : goal.loop-turn-preserved
loop-turn-preserved g c =
    let w = c.args.way.now in let bytes = take c.in-Ok.taken c.read_behind.new.buf in
    let old = c.loop-turn.progress in let new = c.take_bytes-took.new.self in
    let fine : is_err c.take_bytes-took.result ≡ false = sym c.is_err.ensures.value ∙ c.if-is_err.false in
    let kept : Rises false c.loop-turn.memory c.take_bytes-took.new.memory =
    subst (λ t. Rises t c.loop-turn.memory c.take_bytes-took.new.memory) fine c.take_bytes-took.ensures.counted in
    let sum = from_ok c.take_bytes-took.result (new.place.offset + length new.piece.items ≡ old.place.offset + length old.piece.items + length bytes) fine c.take_bytes-took.ensures.count in
    let long = length-take-le c.in-Ok.taken c.read_behind.new.buf c.in-Ok.ensures.bound.0 in
    record {
      reads = search rules;
      no_read_failure = search rules;
      no_write_failure = search rules;
      no_failure_to_tell = search rules;
      memory = omega (arith, kept, c.loop-turn.invariant.memory);
      room = grind arith;
      prompt = search rules;
      flushed = λ _. c.in-Ok-deliver.ensures.flushed;
      flushed_lines = λ _. c.in-Ok-deliver.ensures.flushed_lines;
      number = from_ok c.take_bytes-took.result (new.place.messages ≤ new.place.offset) fine c.take_bytes-took.ensures.number;
      count = omega (arith, sum, long, c.in-Ok.ensures.bound.0, c.loop-turn.invariant.count, c.read_behind.auto.buf, c.loop-turn.auto.chunk, c.requires.room);
      no_out = c.in-Ok-deliver.ensures.no_out;
      no_line = c.in-Ok-deliver.ensures.no_line;
      reached = Reached-took new.place old.made.out.items new.made.out.items old.made.told.items new.made.told.items new.piece.items c.in-Ok-deliver.told
          (g.R.Read.remaining c.read_behind.new.self.inner) (g.W.Write.contents c.deliver.new.writer.inner) (g.E.Write.contents c.deliver.new.teller.inner)
          bytes c.loop-turn.invariant.reached c.in-Ok.ensures.bytes.0 c.loop-turn.invariant.no_out c.loop-turn.invariant.no_line
          (from_ok c.take_bytes-took.result (Took w old.place new.place (whole_pieces w old.piece.items bytes) [] old.made.out.items new.made.out.items old.made.told.items new.made.told.items)
          fine c.take_bytes-took.ensures.took)
          c.in-Ok-deliver.ensures.out.appends c.in-Ok-deliver.ensures.lines.appends c.in-Ok-deliver.ensures.told
          (from_ok c.take_bytes-took.result (new.piece.items ≡ begun_piece w old.piece.items bytes) fine c.take_bytes-took.ensures.piece);
      many = HasRead-more c.in-Ok.taken _ c.loop-turn.invariant.many c.in-Ok.ensures.bytes.0 c.in-Ok.ensures.bound.0 c.if-taken-eq0.false;
    }
