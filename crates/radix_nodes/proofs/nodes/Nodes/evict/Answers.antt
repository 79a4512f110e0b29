use Rattle.std.proofs.Common.{sym, ap, ◌∙◌}
use Rattle.radix_nodes.proofs.RoomLemmas.{Has_at, seen_is, lodged_is, starts_gone, starts_seen, view_seen, view_gone}
use Rattle.radix_nodes.proofs.RoomRows.{older_there, newer_there, row_less, seen_newer, seen_older, said_newer, said_older}
use Rattle.radix_nodes.proofs.nodes.Nodes.evict.Goals as goal
use Rattle.radix_nodes.specs.Naming.{number_of}

pub take-full-requires : goal.take-full-requires
take-full-requires g c = Has_at _ c.args.id (lodged_is _ _ _ c.self.view_is) c.requires.there

pub name_newer-requires-clause-there : goal.name_newer-requires-clause-there
name_newer-requires-clause-there g c = rw c.name-older.ensures (older_there _ _ _ _ _ _ c.take-full.ensures.0 c.take-full.ensures.2 c.self.invariant.0)

pub name_older-requires-clause-there : goal.name_older-requires-clause-there
name_older-requires-clause-there g c = rw c.name-newer.ensures
    (newer_there _ _ _ _ _ _ _ c.take-full.ensures.0 c.take-full.ensures.2 (said_newer _ _ _ _ _ _ c.name-older.ensures c.name-newer.ensures c.name_newer.ensures) c.self.invariant.0)

pub invariant_of-self : goal.invariant_of-self
invariant_of-self g c = rw (c.newest_without-self-inside.ensures, c.name-newer.ensures, c.name-older.ensures) (
  row_less _ _ _ _ _ _ _ _ c.take-full.ensures.0 c.take-full.ensures.2 (said_newer _ _ _ _ _ _ c.name-older.ensures c.name-newer.ensures c.name_newer.ensures)
      (said_older _ _ _ _ _ _ c.name-newer.ensures c.name-older.ensures c.name_older.ensures) c.self.invariant.0,
  starts_seen c.take-full.new.self.cells _ (seen_older _ _ _ _ c.name_older.ensures ∙ seen_newer _ _ _ _ c.name_newer.ensures) (rw c.take-full.ensures.2 (starts_gone _ _ c.self.invariant.1)),
)

pub returns-clause-value : goal.returns-clause-value
returns-clause-value g c = λ room at. ap (λ s. s.value) (sym (seen_is _ _ _ _ room (lodged_is _ _ _ c.self.view_is) c.take-full.ensures.0 at))

pub returns-clause-evicted : goal.returns-clause-evicted
returns-clause-evicted g c = view_seen _ _ _ (seen_older _ _ _ _ c.name_older.ensures ∙ seen_newer _ _ _ _ c.name_newer.ensures)
    ∙ view_gone _ _ _ _ (number_of c.args.id) c.self.view_is c.take-full.ensures.2
