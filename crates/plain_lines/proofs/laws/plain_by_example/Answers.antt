use Rattle.std.proofs.Common.{refl}
use Rattle.hex.specs.Hex.{encode_with}
use Rattle.message_text.specs.Names.{flag_names, high_flag_names, low_flag_names}
use Rattle.plain_lines.proofs.laws.plain_by_example.Goals as goal

pub returns-clause-route : goal.returns-clause-route
unfolding flag_names low_flag_names high_flag_names encode_with
returns-clause-route c = refl

pub returns-clause-twice : goal.returns-clause-twice
unfolding flag_names low_flag_names high_flag_names encode_with
returns-clause-twice c = refl

pub returns-clause-filter : goal.returns-clause-filter
unfolding flag_names low_flag_names high_flag_names encode_with
returns-clause-filter c = refl

pub returns-clause-all_of_some : goal.returns-clause-all_of_some
unfolding flag_names low_flag_names high_flag_names encode_with
returns-clause-all_of_some c = refl

pub returns-clause-all : goal.returns-clause-all
unfolding flag_names low_flag_names high_flag_names encode_with
returns-clause-all c = refl

pub returns-clause-socket : goal.returns-clause-socket
unfolding flag_names low_flag_names high_flag_names encode_with
returns-clause-socket c = refl

pub returns-clause-digits : goal.returns-clause-digits
unfolding flag_names low_flag_names high_flag_names encode_with
returns-clause-digits c = refl

pub returns-clause-misspelt : goal.returns-clause-misspelt
unfolding flag_names low_flag_names high_flag_names encode_with
returns-clause-misspelt c = refl
