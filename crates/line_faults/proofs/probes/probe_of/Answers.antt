use Rattle.std.proofs.Common.{[], codes, subst, sym}
use Rattle.line_faults.proofs.ProbeRows.{address_row, bits_row, destination_row, gate_row, kind_row, link_row, mask_row, name_row, number_row, prefix_row, protocol_row, room_row, switch_row, type_row, verb_row, written_row}
use Rattle.line_faults.specs.Probes.{Probes}
use Rattle.line_faults.proofs.probes.probe_of.Goals as goal

pub returns-in-InterfaceName : goal.returns-in-InterfaceName
returns-in-InterfaceName c = subst (λ kind. Probes kind (codes "close ") []) (sym c.in-InterfaceName.is) name_row

pub returns-in-SocketId : goal.returns-in-SocketId
returns-in-SocketId c = subst (λ kind. Probes kind (codes "close ") []) (sym c.in-SocketId.is) name_row

pub returns-in-InterfaceKind : goal.returns-in-InterfaceKind
returns-in-InterfaceKind c = subst (λ kind. Probes kind (codes "if a ") (codes " 0 -")) (sym c.in-InterfaceKind.is) kind_row

pub returns-in-TypeNumber : goal.returns-in-TypeNumber
returns-in-TypeNumber c = subst (λ kind. Probes kind (codes "if a loopback ") (codes " -")) (sym c.in-TypeNumber.is) type_row

pub returns-in-LinkBytes : goal.returns-in-LinkBytes
returns-in-LinkBytes c = subst (λ kind. Probes kind (codes "if a loopback 0 ") []) (sym c.in-LinkBytes.is) link_row

pub returns-in-Address : goal.returns-in-Address
returns-in-Address c = subst (λ kind. Probes kind (codes "losing ") []) (sym c.in-Address.is) address_row

pub returns-in-AddressPrefix : goal.returns-in-AddressPrefix
returns-in-AddressPrefix c = subst (λ kind. Probes kind (codes "addr a ") []) (sym c.in-AddressPrefix.is) prefix_row

pub returns-in-Pid : goal.returns-in-Pid
returns-in-Pid c = subst (λ kind. Probes kind (codes "open a ") (codes " any")) (sym c.in-Pid.is) number_row

pub returns-in-Protocol : goal.returns-in-Protocol
returns-in-Protocol c = subst (λ kind. Probes kind (codes "open a 0 ") []) (sym c.in-Protocol.is) protocol_row

pub returns-in-Switch : goal.returns-in-Switch
returns-in-Switch c = subst (λ kind. Probes kind (codes "loopback a ") []) (sym c.in-Switch.is) switch_row

pub returns-in-Written : goal.returns-in-Written
returns-in-Written c = subst (λ kind. Probes kind (codes "write a ") []) (sym c.in-Written.is) written_row

pub returns-in-SequenceNumber : goal.returns-in-SequenceNumber
returns-in-SequenceNumber c = subst (λ kind. Probes kind (codes "open a ") (codes " any")) (sym c.in-SequenceNumber.is) number_row

pub returns-in-RouteVerb : goal.returns-in-RouteVerb
returns-in-RouteVerb c = subst (λ kind. Probes kind (codes "route a 0 ") (codes " default")) (sym c.in-RouteVerb.is) verb_row

pub returns-in-Destination : goal.returns-in-Destination
returns-in-Destination c = subst (λ kind. Probes kind (codes "route a 0 get ") []) (sym c.in-Destination.is) destination_row

pub returns-in-Gateway : goal.returns-in-Gateway
returns-in-Gateway c = subst (λ kind. Probes kind (codes "route a 0 get default via ") []) (sym c.in-Gateway.is) gate_row

pub returns-in-MaskLength : goal.returns-in-MaskLength
returns-in-MaskLength c = subst (λ kind. Probes kind (codes "route a 0 get default genmask ") []) (sym c.in-MaskLength.is) mask_row

pub returns-in-InterfaceAddress : goal.returns-in-InterfaceAddress
returns-in-InterfaceAddress c = subst (λ kind. Probes kind (codes "route a 0 get default via ") []) (sym c.in-InterfaceAddress.is) gate_row

pub returns-in-FlagBits : goal.returns-in-FlagBits
returns-in-FlagBits c = subst (λ kind. Probes kind (codes "flags ") (codes " ask")) (sym c.in-FlagBits.is) bits_row

pub returns-in-Bits : goal.returns-in-Bits
returns-in-Bits c = subst (λ kind. Probes kind (codes "flags ") (codes " ask")) (sym c.in-Bits.is) bits_row

pub returns-in-Metric : goal.returns-in-Metric
returns-in-Metric c = subst (λ kind. Probes kind (codes "open a ") (codes " any")) (sym c.in-Metric.is) number_row

pub returns-in-DumpRoom : goal.returns-in-DumpRoom
returns-in-DumpRoom c = subst (λ kind. Probes kind (codes "dump ") []) (sym c.in-DumpRoom.is) room_row
