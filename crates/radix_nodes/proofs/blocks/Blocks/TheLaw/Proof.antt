-- A `&` to the blocks reaches each value. Assumes `Logic`.
use mathlib.Core.List.{[], ◌++◌}
use base.Fml.{Incl-trans}
use contract.BorrowLft.{meet_⊑_left}
use denote.RattleType.{RattleType}
use denote.RawPtr.{RawPtr}
use denote.Param.Laws.{Laws}
use denote.Param.Shared.{copy_shared}
use denote.Struct.Laws.{field_copy}
use denote.Struct.Lending.{of_Lends}
use Rattle.core.specs.contracts.marker.PhantomData as marker
use Rattle.core.specs.FinMap.{entries}
use Rattle.radix_nodes.specs.contracts.blocks.Blocks as C
use Rattle.radix_nodes.proofs.blocks.Blocks.TheLaw.Statement.{statement}
use Rattle.radix_nodes.proofs.Sharing.{all_lent_laws, Lends-all}

pub shares : (T : RattleType) (L : Laws T) → statement T L
shares T L = of_Lends (C.struct T) (C.the_codes T.Denot T.coded (marker.the_row RawPtr).coded) (C.the_heap T) (C.the_lent T)
    (λ d p. all_lent_laws T L.shr_laws (entries d.cells)) (copy_shared (marker.the_field RawPtr) (field_copy (marker.the_type RawPtr) tt), tt)
    (λ M 𝓤 𝓛 d p. Lends-all T L 𝓛 (C.the_row T).lives (Incl-trans (meet_⊑_left (T.lives ++ []) _) (meet_⊑_left T.lives [])) (entries d.cells))
