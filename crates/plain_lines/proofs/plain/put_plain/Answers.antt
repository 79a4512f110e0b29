use Rattle.std.proofs.Common.{◌∙◌}
use Rattle.plain_lines.specs.PlainLines.{plain_of}
use Rattle.plain_lines.proofs.PutLemmas.{compared, put_both}
use Rattle.plain_lines.proofs.plain.put_plain.Goals as goal

pub returns-clause-put : goal.returns-clause-put
returns-clause-put c =
    put_both c.args.text.now c.put.new.self c.put_behind.new.text c.first_word.result.0.now c.first_word.result.1.now c.args.line.now
    c.first_word.ensures.words c.in_ok-put.ensures.put c.in_ok-put_behind.ensures.put

pub returns-clause-other : goal.returns-clause-other
returns-clause-other c =
    let put = put_both c.args.text.now c.put.new.self c.put_behind.new.text c.first_word.result.0.now c.first_word.result.1.now c.args.line.now
    c.first_word.ensures.words c.in_ok-put.ensures.put c.in_ok-put_behind.ensures.put in
    compared c.ne.result c.len-from.result c.args.text.now (plain_of c.args.line.now) c.args.line.now c.as_bytes.result.now
    (c.as_bytes.ensures ∙ put) c.len-from.ensures c.ne.ensures
