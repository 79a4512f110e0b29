use Rattle.std.proofs.Common.{rules}
use Rattle.sock_addrs.specs.Reading.{ReadsMask, read_mask_of}
use Rattle.sock_addrs.proofs.MaskRead.{mask_computed}
use Rattle.sock_addrs.proofs.ReadOnce.{mask_single}
use Rattle.sock_addrs.proofs.reading.read_mask.Goals as goal

pub returns-clause-computed : goal.returns-clause-computed
returns-clause-computed c =
    let sockaddr = c.args.sockaddr.now in
    let read : ReadsMask sockaddr c.ok_or.result = search rules in
    mask_single sockaddr (read_mask_of sockaddr) c.ok_or.result (mask_computed sockaddr) read
