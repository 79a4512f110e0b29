use Rattle.std.proofs.Common.{refl}
use Rattle.std.specs.Fmt.{digits}
use Rattle.hex.specs.Hex.{encode_with}
use Rattle.event_file.proofs.laws.printing_by_example.Goals as goal

pub returns-clause-attach : goal.returns-clause-attach
unfolding digits encode_with
returns-clause-attach c = refl

pub returns-clause-no_link : goal.returns-clause-no_link
unfolding digits
returns-clause-no_link c = refl

pub returns-clause-add_address : goal.returns-clause-add_address
unfolding digits
returns-clause-add_address c = refl

pub returns-clause-cloning : goal.returns-clause-cloning
unfolding digits
returns-clause-cloning c = refl

pub returns-clause-open : goal.returns-clause-open
unfolding digits
returns-clause-open c = refl

pub returns-clause-write : goal.returns-clause-write
unfolding encode_with
returns-clause-write c = refl

pub returns-clause-point_to_point : goal.returns-clause-point_to_point
unfolding digits
returns-clause-point_to_point c = refl

pub returns-clause-far : goal.returns-clause-far
unfolding digits
returns-clause-far c = refl

pub returns-clause-far_cloning : goal.returns-clause-far_cloning
unfolding digits
returns-clause-far_cloning c = refl

pub returns-clause-protocol : goal.returns-clause-protocol
unfolding digits
returns-clause-protocol c = refl

pub returns-clause-close : goal.returns-clause-close
unfolding digits
returns-clause-close c = refl

pub returns-clause-loopback_on : goal.returns-clause-loopback_on
unfolding digits
returns-clause-loopback_on c = refl

pub returns-clause-loopback_off : goal.returns-clause-loopback_off
unfolding digits
returns-clause-loopback_off c = refl

pub returns-clause-remove_address : goal.returns-clause-remove_address
unfolding digits
returns-clause-remove_address c = refl

pub returns-clause-lost : goal.returns-clause-lost
returns-clause-lost c = refl

pub returns-clause-losing : goal.returns-clause-losing
unfolding digits
returns-clause-losing c = refl

pub returns-clause-packet : goal.returns-clause-packet
unfolding digits
returns-clause-packet c = refl

pub returns-clause-redirect : goal.returns-clause-redirect
unfolding digits
returns-clause-redirect c = refl

pub returns-clause-dump_size : goal.returns-clause-dump_size
returns-clause-dump_size c = refl

pub returns-clause-flags_size : goal.returns-clause-flags_size
unfolding encode_with
returns-clause-flags_size c = refl

pub returns-clause-dump : goal.returns-clause-dump
unfolding digits
returns-clause-dump c = refl

pub returns-clause-flags : goal.returns-clause-flags
unfolding digits encode_with
returns-clause-flags c = refl
