use Rattle.std.proofs.Common.{◌≡◌, [], List, ℕ, append-nil, rules, sym, subst}
use Rattle.std.specs.Io.KnownBytes.{Appends}
use Rattle.lab_main.specs.Texts.{ending}
use Rattle.program_ends.proofs.ReadLemmas.{Appends-kept}
use Rattle.lab_main.proofs.run.finish.Goals as goal

pub returns-in_default-flush-clause-ends : goal.returns-in_default-flush-clause-ends
returns-in_default-flush-clause-ends g c =
    let bad = c.args.lab.now.bad in
    let text : c.as_bytes.result.now ≡ ending bad = search rules in
    record {
      written = ending bad;
      unwritten = [];
      whole = sym (append-nil (ending bad));
      appends = Appends-kept _ _ _ (ending bad) (subst (λ (t : List ℕ). Appends (g.W.Write.contents c.args.writer.now.inner) (g.W.Write.contents c.write_bytes.new.writer.inner) t)
          text c.in-Ok.ensures.ok.appends) c.flush.ensures.bytes;
    }
