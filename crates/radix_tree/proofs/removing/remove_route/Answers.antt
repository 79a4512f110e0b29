use Rattle.radix_tree.proofs.{MovedReads.Has_kept, Gained.shown_same, Indexed.less_places, Words.◌∙◌, Words.number_of, Words.arith}
use Rattle.radix_tree.proofs.RemovedRooms.{get_out, out_gone, out_shown, gains_stays, value_taken, room_less}
use Rattle.radix_tree.proofs.removing.remove_route.Goals as goal

pub take_out-rest-requires-clause-route : goal.take_out-rest-requires-clause-route
take_out-rest-requires-clause-route g c =
    record {
      whole = c.unlist_mask.ensures.whole c.args.root c.requires.whole;
      unmarked = c.unlist_mask.ensures.gone;
      there = Has_kept c.unlist_mask.new.nodes.lodged (search arith) c.requires.there;
    }

pub evict-room-requires : goal.evict-room-requires
evict-room-requires g c =
    record { there = Has_kept c.take_out-rest.new.nodes.lodged (search arith) c.requires.there }

pub returns-clause-whole : goal.returns-clause-whole
returns-clause-whole g c = search (arith, out_gone)

pub returns-clause-routes : goal.returns-clause-routes
returns-clause-routes g c p said =
    gains_stays _ _ (c.take_out-rest.ensures.routes p (c.unlist_mask.ensures.tree.leaves (number_of c.args.at) ∙ said))
    (search (arith, out_shown)) (search (arith, shown_same))

pub returns-clause-value : goal.returns-clause-value
returns-clause-value g c p said = search (arith, value_taken)

pub returns-clause-rooms : goal.returns-clause-rooms
returns-clause-rooms g c = search (arith, room_less)

pub returns-clause-gone : goal.returns-clause-gone
returns-clause-gone g c = search (arith, get_out)

pub returns-clause-places : goal.returns-clause-places
returns-clause-places g c = search (arith, less_places)
