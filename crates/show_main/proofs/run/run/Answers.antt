use Rattle.std.proofs.Common.{ℕ, subst}
use Rattle.show_main.specs.Ends.{EndsCounted}
use Rattle.show_main.proofs.ShownLemmas.{First-none, exact_of, short_of, shown_of_all}
use Rattle.show_main.specs.declared.run.TheConstants.{MOST_READS}
use Rattle.show_main.proofs.run.run.Goals as goal

pub returns-clause-shown : goal.returns-clause-shown
returns-clause-shown g c = shown_of_all c.show_all.result (g.R.Read.remaining c.args.reader.now.inner) (g.R.Read.remaining c.show_all.new.reader.inner)
    (g.W.Write.contents c.args.writer.now.inner) (g.W.Write.contents c.show_all.new.writer.inner) c.show_all.ensures.ends

pub returns-clause-short : goal.returns-clause-short
returns-clause-short g c =
    let counted = subst (λ (n : ℕ). EndsCounted c.show_all.result n c.show_all.new.memory) c.in-Ok.ensures.counted c.show_all.ensures.counted in
    short_of c.show_all.result c.show_all.new.writer.failures c.args.memory.now c.show_all.new.memory
    counted c.show_all.ensures.write_fault

pub returns-clause-exact : goal.returns-clause-exact
returns-clause-exact g c =
    let counted = subst (λ (n : ℕ). EndsCounted c.show_all.result n c.show_all.new.memory) c.in-Ok.ensures.counted c.show_all.ensures.counted in
    exact_of c.show_all.result (g.R.Read.remaining c.args.reader.now.inner) (g.R.Read.remaining c.show_all.new.reader.inner)
    (g.W.Write.contents c.args.writer.now.inner) (g.W.Write.contents c.show_all.new.writer.inner) c.args.memory.now c.show_all.new.memory
    c.show_all.new.reader.failures c.show_all.new.writer.failures c.show_all.new.reader.reads MOST_READS
    c.show_all.ensures.ends counted c.show_all.ensures.write_fault c.show_all.ensures.read_fault

pub returns-in_default-clause-ends : goal.returns-in_default-clause-ends
returns-in_default-clause-ends g c = First-none (g.R.Read.remaining c.args.reader.now.inner) (g.W.Write.contents c.args.writer.now.inner)
