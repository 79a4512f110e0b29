use Rattle.conv_main.proofs.Cut.{texts_are_cut}
use Rattle.conv_main.proofs.Runs.{First-none}
use Rattle.conv_main.proofs.run.run.Goals as goal

pub returns-clause-cut : goal.returns-clause-cut
returns-clause-cut g c = texts_are_cut

pub returns-in_default-clause-cut : goal.returns-in_default-clause-cut
returns-in_default-clause-cut g c = texts_are_cut

pub returns-in_default-clause-ends : goal.returns-in_default-clause-ends
returns-in_default-clause-ends g c = First-none c.args.way.now (g.R.Read.remaining c.args.reader.now.inner)
    (g.W.Write.contents c.args.writer.now.inner) (g.E.Write.contents c.args.teller.now.inner)
