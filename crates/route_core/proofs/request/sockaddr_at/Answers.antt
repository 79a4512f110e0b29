use Rattle.route_core.proofs.SockaddrsFound.{found_whole}
use Rattle.route_core.proofs.request.sockaddr_at.Goals as goal

pub returns-clause-whole : goal.returns-clause-whole
returns-clause-whole c =
    found_whole c.args.bytes.now c.args.message.now.slots c.args.at c.address.result
    c.requires.at c.requires.slots c.requires.within c.address.ensures
