use Rattle.lab_main.proofs.Reaching.{Lines-none}
use Rattle.lab_main.proofs.run.run.Goals as goal

pub returns-in_default-clause-ends : goal.returns-in_default-clause-ends
returns-in_default-clause-ends g c = Lines-none c.args.shows (g.R.Read.remaining c.args.reader.now.inner) (g.W.Write.contents c.args.writer.now.inner)
