use Rattle.event_file.proofs.Reaching.{scripts_lead}
use Rattle.event_file.proofs.laws.scripts_lead_to_worlds.Goals as goal

pub returns : goal.returns
returns c = scripts_lead c.read_is_within_bounds.ensures
