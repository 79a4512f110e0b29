-- What a caller is told of an address.
use Rattle.if_addrs.specs.Interfaces.{Address}
use Rattle.if_addrs.specs.declared.reference.Facts.{Facts}

abbrev pub facts_of : Address → Facts
facts_of a =
    record { kind = a.kind; prefix = a.prefix; cloning = a.cloning; routed = a.routed; far = a.far }
