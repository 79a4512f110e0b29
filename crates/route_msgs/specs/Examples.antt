-- Messages worked out by hand: an interface le0 with the address 10.0.0.1/8, and a question for the route to 10.9.9.9.
use Rattle.std.specs.Prelude.{ℕ, List, [], ◌∷◌, ◌++◌, replicate, Some, None}
use Rattle.std.specs.List.{flat_map}
use Rattle.sock_addrs.specs.Sockaddrs.{inet_sockaddr, mask_sockaddr}
use Rattle.byteorder.specs.Endian.{big_bytes}
use Rattle.route_msgs.specs.Headers.{blank}
use Rattle.route_msgs.specs.AddrInfo.{no_addresses, padded}
use Rattle.route_msgs.specs.declared.header.Header.{Header}
use Rattle.route_msgs.specs.declared.header.IfaHeader.{IfaHeader}
use Rattle.route_msgs.specs.declared.parsed.Parsed.{Parsed}
use Rattle.route_msgs.specs.declared.addr_info.AddrInfo.{AddrInfo}

-- words of four bytes
abbrev pub words : List ℕ → List ℕ
words ws = flat_map (big_bytes 4) ws

-- the address is announced
abbrev pub announcement_header : IfaHeader
announcement_header = record { kind = 12; addrs = 0; flags = 0x100; index = 1; padding = 0; metric = 0 }

abbrev pub announcement_addresses : AddrInfo
announcement_addresses = record no_addresses {
  netmask = Some (mask_sockaddr 8);
  ifp = Some (padded (words (0x14120001 ∷ 0x06030600 ∷ 0x6c653008 ∷ 0x00200102 ∷ 0x03000000 ∷ [])));
  ifa = Some (inet_sockaddr 0x0a000001);
  brd = Some (inet_sockaddr 0x0affffff);
}

abbrev pub announcement : List ℕ
announcement =
    words (0x0050030c ∷ 0x000000b4 ∷ 0x00000100 ∷ 0x00010000 ∷ 0 ∷ [])
    ++ words (0x05000000 ∷ 0xff000000 ∷ [])
    ++ words (0x14120001 ∷ 0x06030600 ∷ 0x6c653008 ∷ 0x00200102 ∷ 0x03000000 ∷ [])
    ++ words (0x10020000 ∷ 0x0a000001 ∷ 0 ∷ 0 ∷ [])
    ++ words (0x10020000 ∷ 0x0affffff ∷ 0 ∷ 0 ∷ [])

-- the address's route, with its destination, its gateway and its mask
abbrev pub network_addresses : AddrInfo
network_addresses = record no_addresses {
  dst = Some (inet_sockaddr 0x0a000000);
  gateway = Some (inet_sockaddr 0x0a000001);
  netmask = Some (mask_sockaddr 8);
}

abbrev pub network_words : List ℕ
network_words = words (0x10020000 ∷ 0x0a000000 ∷ 0 ∷ 0 ∷ 0x10020000 ∷ 0x0a000001 ∷ 0 ∷ 0 ∷ 0x05000000 ∷ 0xff000000 ∷ [])

-- it is added
abbrev pub addition_header : Header
addition_header = record (blank 1) { index = 1; flags = 0x101 }

abbrev pub addition : List ℕ
addition = words (0x00740301 ∷ 0x00010000 ∷ 0x00000101 ∷ 0x00000007 ∷ []) ++ replicate 60 0 ++ network_words

-- and it is changed: no two fields of this header hold the same number, so each says by itself where it stands
abbrev pub change_header : Header
change_header = record {
  kind = 3;
  index = 2;
  padding = 0x0b0c;
  flags = 0x903;
  addrs = 0;
  pid = 100;
  seq = 9;
  errno = 17;
  use_count = 300;
  inits = 0xff;
  metrics = record {
    locks = 0x13;
    mtu = 1500;
    hopcount = 4;
    expire = 0x2f0a1b00;
    recvpipe = 0x2000;
    sendpipe = 0x4000;
    ssthresh = 0x1800;
    rtt = 250000;
    rttvar = 31250;
    pksent = 12;
  };
}

abbrev pub change : List ℕ
change =
    words (0x00740303 ∷ 0x00020b0c ∷ 0x00000903 ∷ 0x00000007 ∷ 0x00000064 ∷ 0x00000009 ∷ [])
    ++ words (0x00000011 ∷ 0x0000012c ∷ 0x000000ff ∷ [])
    ++ words (0x00000013 ∷ 0x000005dc ∷ 0x00000004 ∷ 0x2f0a1b00 ∷ 0x00002000 ∷ 0x00004000 ∷ 0x00001800 ∷ [])
    ++ words (0x0003d090 ∷ 0x00007a12 ∷ 0x0000000c ∷ [])
    ++ network_words

abbrev pub change_parsed : Parsed
change_parsed = record {
  header = record change_header { addrs = 7 };
  slots =
      Some (record { start = 76; len = 16 })
      ∷ Some (record { start = 92; len = 16 })
      ∷ Some (record { start = 108; len = 5 })
      ∷ replicate 5 None;
}

-- process 100 asked for it, and this is the reply
abbrev pub answer_header : Header
answer_header = record (blank 4) { flags = 0x141; pid = 100; seq = 1 }

abbrev pub answer : List ℕ
answer = words (0x00740304 ∷ 0 ∷ 0x00000141 ∷ 0x00000007 ∷ 0x00000064 ∷ 0x00000001 ∷ []) ++ replicate 52 0
    ++ network_words

-- the question
abbrev pub question : List ℕ
question = words (0x005c0304 ∷ 0 ∷ 0 ∷ 1 ∷ 0 ∷ 1 ∷ []) ++ replicate 52 0 ++ words (0x10020000 ∷ 0x0a090909 ∷ 0 ∷ 0 ∷ [])

abbrev pub question_parsed : Parsed
question_parsed = record {
  header = record (blank 4) { addrs = 1; seq = 1 };
  slots = Some (record { start = 76; len = 16 }) ∷ replicate 7 None;
}

-- a question that ends where its destination would begin, and the same with a destination of length 0
abbrev pub bare : List ℕ
bare = words (0x004c0304 ∷ 0 ∷ 0 ∷ 1 ∷ 0 ∷ 1 ∷ []) ++ replicate 52 0

abbrev pub bare_parsed : Parsed
bare_parsed = record question_parsed { slots = replicate 8 None }

abbrev pub short : List ℕ
short = words (0x00500304 ∷ 0 ∷ 0 ∷ 1 ∷ 0 ∷ 1 ∷ []) ++ replicate 56 0

abbrev pub short_parsed : Parsed
short_parsed = record question_parsed { slots = Some (record { start = 76; len = 1 }) ∷ replicate 7 None }
