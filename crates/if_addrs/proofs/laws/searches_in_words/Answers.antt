use Rattle.if_addrs.proofs.SearchLawsProved.{with_addr_in_words, with_far_in_words, with_net_in_words, of_interface_in_words}
use Rattle.if_addrs.proofs.laws.searches_in_words.Goals as goal

pub returns-clause-own : goal.returns-clause-own
returns-clause-own c = with_addr_in_words

pub returns-clause-far : goal.returns-clause-far
returns-clause-far c = with_far_in_words

pub returns-clause-network : goal.returns-clause-network
returns-clause-network c = with_net_in_words

pub returns-clause-interface : goal.returns-clause-interface
returns-clause-interface c = of_interface_in_words
