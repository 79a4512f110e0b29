use Rattle.std.proofs.Common.{refl}
use Rattle.message_text.specs.Names.{flag_names, high_flag_names, low_flag_names}
use Rattle.plain_lines.proofs.laws.names_are_flags.Goals as goal

pub returns : goal.returns
unfolding flag_names low_flag_names high_flag_names
returns c = refl
