-- The two headers in words. Each has all fields of its layout, once.
use Rattle.std.specs.Prelude.{List, [], ◌∷◌, ◌++◌, codes}
use Rattle.message_text.specs.Names.{address_names, flag_names, ifa_flag_names, metric_names}
use Rattle.message_text.specs.Rows.{Row, bits_line, errno_line, kind_row, last_row, number_line, number_row, some_bits_line}

-- struct rt_msghdr: the first line
unfoldable pub route_first_rows : List Row
route_first_rows =
    kind_row
    ∷ number_row 0 2 (codes "length ")
    ∷ number_row 2 1 (codes "version ")
    ∷ number_row 16 4 (codes "pid ")
    ∷ number_row 20 4 (codes "seq ")
    ∷ last_row 4 2 (codes "index ")
    ∷ []

-- its other fields but for the metrics
unfoldable pub route_field_rows : List Row
route_field_rows =
    bits_line 8 (codes " flags ") flag_names
    ∷ errno_line 24
    ∷ number_line 28 4 (codes " use ")
    ∷ number_line 6 2 (codes " padding ")
    ∷ some_bits_line 32 (codes " inits ") metric_names
    ∷ some_bits_line 36 (codes " locks ") metric_names
    ∷ []

-- its metrics
unfoldable pub path_rows : List Row
path_rows =
    number_line 40 4 (codes " mtu ")
    ∷ number_line 44 4 (codes " hopcount ")
    ∷ number_line 48 4 (codes " expire ")
    ∷ number_line 52 4 (codes " recvpipe ")
    ∷ number_line 56 4 (codes " sendpipe ")
    ∷ []

unfoldable pub time_rows : List Row
time_rows =
    number_line 60 4 (codes " ssthresh ")
    ∷ number_line 64 4 (codes " rtt ")
    ∷ number_line 68 4 (codes " rttvar ")
    ∷ number_line 72 4 (codes " pksent ")
    ∷ []

-- the addresses that it names, which stand behind it
unfoldable pub route_addrs_rows : List Row
route_addrs_rows = bits_line 12 (codes " addrs ") address_names ∷ []

unfoldable pub route_rows : List Row
route_rows = route_first_rows ++ route_field_rows ++ path_rows ++ time_rows ++ route_addrs_rows

-- struct ifa_msghdr: the first line
unfoldable pub ifa_first_rows : List Row
ifa_first_rows =
    kind_row
    ∷ number_row 0 2 (codes "length ")
    ∷ number_row 2 1 (codes "version ")
    ∷ number_row 12 2 (codes "index ")
    ∷ last_row 16 4 (codes "metric ")
    ∷ []

-- its other fields
unfoldable pub ifa_field_rows : List Row
ifa_field_rows =
    bits_line 8 (codes " flags ") ifa_flag_names
    ∷ number_line 14 2 (codes " padding ")
    ∷ bits_line 4 (codes " addrs ") address_names
    ∷ []

unfoldable pub ifa_rows : List Row
ifa_rows = ifa_first_rows ++ ifa_field_rows
