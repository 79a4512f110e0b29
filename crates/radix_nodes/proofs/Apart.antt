-- Two owners do not overlap: an empty block is none of those that are held. Assumes `Logic`.
use Rattle.std.proofs.Common.{◌≡◌, ℕ, ◌+◌, ◌<◌, List, [], ◌∷◌, Option, Some, None, refl, sym, ap, ◌∙◌, subst, arith}
use Prim.Native.Nat.{zero}
use seplogic.Ra.Ura.{Ura}
use mir.Raw.{raw as bare}
use mir.Val.{Val}
use prog.Memory.{size}
use prog.Model.{Model, Within}
use prog.RawLaws.{size-raw}
use base.Fraction.{full_share}
use base.Logic.{ent, sep, via, never, never_e}
use base.Fml.{fat, froom}
use types.Logic.{Logic, sem}
use types.Kit.{‵, raw, ◌⊛◌, some, given, ◌$◌, ◌∵◌, !, qed, by, move, keep, use1, split, fsplit, learn, pick}
use contract.Monad.{fact, fact_i, fact_mono}
use denote.RattleType.{RattleType}
use denote.RawPtr.{Ptr, block_ptr}
use denote.Param.{param, layout}
use denote.Param.Laws.{Laws}
use denote.Steps.{heard}
use Rattle.core.proofs.cell.Inside.{Good}
use Rattle.std.specs.Ordering.{nat_cmp}
use Rattle.std.specs.FinMap.{FinMap, get, remove, entries}
use Rattle.std_heap.proofs.GlobalToken.{dealloc_token_start}
use Rattle.radix_nodes.specs.At.{AreStarts}
use Rattle.radix_nodes.specs.Naming.{number_at}
use Rattle.radix_nodes.specs.Owning.{one_owns, all_own}
use Rattle.radix_nodes.proofs.Memory.{Room, room_val, room_had, value_out, take_out}

first_byte : (n : ℕ) → 0 < n → Within 0 0 n
first_byte n large = (omega arith, omega (arith, large))

module _ (T : RattleType) (L : Laws T) {M : Type 1} {𝓤 : Ura M} (𝓛 : Logic 𝓤) where
  abbrev R : RattleType
  R = param 0 T

  abbrev Map : Type 0
  Map = FinMap nat_cmp (Ptr × T.Denot)

  -- an empty block lies at the start of one of the heap's
  abbrev pub IsAtStart : (Room R).Denot → List Val → Type 0
  IsAtStart d vs = (b : ℕ) × (d.ptr ≡ block_ptr b 0) × (vs ≡ room_val b 0 ∷ [])

  pub at_start : (d : (Room R).Denot) (vs : List Val) → ent 𝓤 (sem 𝓛 ((Room R).own_val d vs)) (fact 𝓤 (IsAtStart d vs))
  at_start d vs = qed 𝓛 (‵ ((Room R).own_val d vs) ∷ []) ∵ room_had R ! d vs (λ b o e e2. keep ! (1 ∷ []) $
      by ! (via 𝓤 (fact 𝓤 (o ≡ zero)) (dealloc_token_start 𝓛 (record { memory = record { seal = record {} } }) (bare (layout T)) (block_ptr b o))
      (fact_mono 𝓤 (o ≡ zero) (IsAtStart d vs) (λ start. (b, e ∙ ap (block_ptr b) start, e2 ∙ ap (λ (k : ℕ). room_val b k ∷ []) start)))))

  module _ (𝓜 : Model 𝓤 𝓛.H) (large : 0 < size (layout T)) where
    -- what is held at the same start would own the same bytes
    never_both : (m : Map) (n b : ℕ) (x : T.Denot) → get m n ≡ Some (block_ptr b 0, x) → ent 𝓤 (sep 𝓤 (sem 𝓛 (all_own R (entries m))) (sem 𝓛 (froom (bare (layout T)) b 0))) (never 𝓤)
    never_both m n b x at = qed 𝓛 (‵ (all_own R (entries m)) ∷ ‵ (froom (bare (layout T)) b 0) ∷ []) ∵
        use1 𝓛 (‵ (one_owns R (block_ptr b 0) x) ⊛ ‵ (all_own R (entries (remove m n)))) (take_out R 𝓛 m n (block_ptr b 0, x) at) $ split ! $ fsplit ! $
        use1 𝓛 (some (λ (v : Val). given (Good (layout T) v) (‵ (fat full_share (layout T) b 0 v) ⊛ ‵ (T.own_val x (v ∷ []))))) (value_out T L 𝓛 x b 0) $ pick ! (λ v. learn ! (λ good. split ! $
        use1 𝓛 (‵ (froom (layout T) b 0)) (𝓛.laws.at_room (layout T) b 0 v) $ keep ! (0 ∷ 4 ∷ []) $
        by ! (𝓜.room-room (layout T) (bare (layout T)) b 0 0 0 (first_byte _ large) (first_byte _ (subst (λ (k : ℕ). 0 < k) (sym (size-raw (layout T))) large)))))

    pub free_at : (m : Map) (b : ℕ) → AreStarts m → ent 𝓤 (sep 𝓤 (sem 𝓛 (all_own R (entries m))) (sem 𝓛 (froom (bare (layout T)) b 0))) (fact 𝓤 (get m (b + 1) ≡ None))
    free_at m b starts = by_what (get m (b + 1)) refl
      where
        by_what : (o : Option (Ptr × T.Denot)) → get m (b + 1) ≡ o → ent 𝓤 (sep 𝓤 (sem 𝓛 (all_own R (entries m))) (sem 𝓛 (froom (bare (layout T)) b 0))) (fact 𝓤 (get m (b + 1) ≡ None))
        by_what None e = fact_i 𝓤 (get m (b + 1) ≡ None) _ e
        by_what (Some c) e =
            let start = starts (b + 1) c e in let k = start.1.0 in let same : b + 1 ≡ k + 1 = start.0 ∙ ap number_at start.1.1 in let is : k ≡ b = omega (arith, same) in
            via 𝓤 (never 𝓤) (never_both m (b + 1) b c.1 (e ∙ ap (λ (p : Ptr). Some (p, c.1)) (start.1.1 ∙ ap (λ (j : ℕ). block_ptr j 0) is))) (never_e 𝓤 _)

    free_here : (m : Map) (b o : ℕ) → o ≡ zero → AreStarts m → ent 𝓤 (sep 𝓤 (sem 𝓛 (all_own R (entries m))) (sem 𝓛 (froom (bare (layout T)) b o))) (fact 𝓤 (get m (b + 1) ≡ None))
    free_here m b o start starts = subst (λ (k : ℕ). ent 𝓤 (sep 𝓤 (sem 𝓛 (all_own R (entries m))) (sem 𝓛 (froom (bare (layout T)) b k))) (fact 𝓤 (get m (b + 1) ≡ None))) (sym start) (free_at m b starts)

    pub room_free : (m : Map) (d : (Room R).Denot) (vs : List Val) → AreStarts m
        → ent 𝓤 (sep 𝓤 (sem 𝓛 (all_own R (entries m))) (sem 𝓛 ((Room R).own_val d vs))) (fact 𝓤 (get m (number_at d.ptr) ≡ None))
    room_free m d vs starts = qed 𝓛 (‵ (all_own R (entries m)) ∷ ‵ ((Room R).own_val d vs) ∷ []) ∵ move ! (1 ∷ []) $ room_had R ! d vs (λ b o e e2. move ! (1 ∷ []) $
        use1 𝓛 (raw (fact 𝓤 (o ≡ zero))) (dealloc_token_start 𝓛 (record { memory = record { seal = record {} } }) (bare (layout T)) (block_ptr b o)) $ heard ! _ (λ start. move ! (1 ∷ 0 ∷ []) $
        by ! (via 𝓤 (fact 𝓤 (get m (b + 1) ≡ None)) (free_here m b o start starts) (fact_mono 𝓤 (get m (b + 1) ≡ None) (get m (number_at d.ptr) ≡ None) (λ free. ap (λ (p : Ptr). get m (number_at p)) e ∙ free)))))
