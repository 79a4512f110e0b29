-- The words that a fault of a message prints.
use Rattle.std.specs.Prelude.{ℕ, List}
use lib.Chars.{codes}
use Rattle.route_msgs.specs.declared.parsed.MsgErr.{MsgErr}
use Rattle.route_msgs.specs.declared.parsed.MsgErr.TheVariants as fault

abbrev pub msg_err_text : MsgErr → List ℕ
msg_err_text fault.Length = codes "the length is wrong"
msg_err_text fault.Version = codes "the version is not 3"
msg_err_text fault.Overrun = codes "an address passes the end"
