-- The text of a message. Bytes that are no message are shown as they are, with the first reason that holds.
use Rattle.std.specs.Prelude.{ℕ, if◌then◌else◌, List, ◌++◌, codes, Option, Some, None}
use Rattle.hex.specs.Hex.{encode_lower}
use Rattle.route_msgs.specs.MsgErr.{msg_err_text}
use Rattle.route_msgs.specs.declared.parsed.MsgErr.{MsgErr}
use Rattle.message_text.specs.Addresses.{address_lines, places}
use Rattle.message_text.specs.Parts.{addrs_in, body_of, fault_in, is_about_address}
use Rattle.message_text.specs.Rows.{rows_text}
use Rattle.message_text.specs.Tables.{ifa_rows, route_rows}

-- bytes that are no message
abbrev pub fault_text : MsgErr → List ℕ → List ℕ
fault_text e m = codes "no message: " ++ encode_lower m ++ codes "\n " ++ msg_err_text e ++ codes "\n"

-- a message: the fields of its header, and its addresses
abbrev pub message_text : List ℕ → List ℕ
message_text m =
    (if is_about_address m then rows_text ifa_rows m else rows_text route_rows m)
    ++ address_lines places (addrs_in m) (body_of m)

abbrev pub text_by : Option MsgErr → List ℕ → List ℕ
text_by None m = message_text m
text_by (Some e) m = fault_text e m

-- the text of any bytes
abbrev pub text_of : List ℕ → List ℕ
text_of m = text_by (fault_in m) m
