use Rattle.std.proofs.Common.{◌+◌, length}
use Rattle.route_msgs.specs.Headers.{route_head}
use Rattle.route_msgs.specs.AddrInfo.{in_order, address_bytes, addrs_of}
use Rattle.route_msgs.proofs.HeadersRead.{length-head}
use Rattle.route_msgs.proofs.SlotsWritten.{sockaddr_written}
use Rattle.route_msgs.proofs.laws.sockaddrs_are_read.Goals as goal

pub returns : goal.returns
returns c = λ h info k sockaddr is are less e. sockaddr_written (route_head (76 + length (address_bytes info)) (addrs_of info) h) (in_order info) k sockaddr (length-head h info is are) less e
