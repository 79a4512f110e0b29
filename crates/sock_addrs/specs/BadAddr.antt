-- The words that a fault of an address prints.
use Rattle.std.specs.Prelude.{ℕ, List}
use lib.Chars.{codes}
use Rattle.sock_addrs.specs.declared.bad_addr.BadAddr.{BadAddr}
use Rattle.sock_addrs.specs.declared.bad_addr.BadAddr.TheVariants as bad

abbrev pub bad_addr_text : BadAddr → List ℕ
bad_addr_text bad.Short = codes "the address ends before its length byte says"
bad_addr_text bad.Family = codes "an address of another family"
bad_addr_text bad.Length = codes "an address of a wrong length"
bad_addr_text bad.NotContiguous = codes "a mask whose ones don't all come first"
