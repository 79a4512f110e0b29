-- A `&` to the blocks is made where one to each value is. Assumes `Logic`.
use Prim.Native.Nat.{ℕ}
use mathlib.Core.List.{List, [], ◌∷◌}
use seplogic.Ra.Ura.{Ura}
use base.Fraction.{full_share}
use base.Fml.{Lft, Incl, ftrue}
use mir.Raw.{raw as bare}
use types.Logic.{Logic}
use denote.RattleType.{RattleType, RowLaws}
use denote.Memory.{lone}
use denote.Param.Laws.{Laws}
use denote.RawPtr.{Ptr, lies_at}
use denote.Sharing.{ShrLaws}
use denote.SharingLaws.{beside_shr_laws, nothing_shr_laws}
use denote.Shares.{Shares-less}
use denote.Struct.Lending.{Lends, lent_at, lent_at_shr_laws, Lends-lies, Lends-first, Lends-both, Lends-nothing}
use Rattle.radix_nodes.specs.Chunk.{chunk}
use Rattle.radix_nodes.specs.Owning.{one_owns, all_own, all_lent}

module _ (R : RattleType) where
  pub all_lent_laws : RowLaws R → (es : List (ℕ × (Ptr × R.Denot))) → ShrLaws (all_lent R es)
  all_lent_laws L [] = nothing_shr_laws
  all_lent_laws L (e ∷ es) = beside_shr_laws _ _ (lent_at_shr_laws R L e.1.0 e.1.1) (all_lent_laws L es)

  module _ (L : Laws R) {M : Type 1} {𝓤 : Ura M} (𝓛 : Logic 𝓤) (l : Lft) (inc : Incl l R.lives) where
    pub Lends-all : (es : List (ℕ × (Ptr × R.Denot))) → Lends 𝓛 (all_own R es) (all_lent R es) l
    Lends-all [] = Lends-nothing 𝓛 ftrue l
    Lends-all (e ∷ es) =
        let p : Ptr = e.1.0 in let x : R.Denot = e.1.1 in
        Lends-both 𝓛 (one_owns R p x) (all_own R es) (lent_at R p x) (all_lent R es) l
        (Lends-first 𝓛 (lies_at R full_share p x) (chunk (bare (lone R.mir)) p) (lent_at R p x) l
        (Lends-lies 𝓛 R l p x (Shares-less 𝓛 R R.lives l inc (L.shares 𝓛) x))) (Lends-all es)
