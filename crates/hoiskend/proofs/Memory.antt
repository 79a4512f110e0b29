-- What the walks over the handle share. Assumes `Logic`.
--     Field                the handle's own field, which is the address
--     Room, room_val, room_had, room_made      an empty block as a machine value, taken apart and put together
--     value_tells, value_out      a value is one machine value, of its type, by itself and in memory
use Rattle.std.proofs.Common.{◌≡◌, ℕ, Bool, true, false, not, Option, Some, None, is_some, List, [], ◌∷◌, ◌++◌, refl, sym, subst}
use lib.Dec.{lit<}
use mir.Syntax.{ty_ptr, ptr_eq}
use seplogic.Ra.Ura.{Ura}
use mir.Raw.{raw as bare}
use mir.Val.{Val, vptr, vnull, vbool, vunit, vstruct, vcons, vnil, of_list, op2_val}
use base.Fraction.{full_share}
use base.Logic.{ent, sep, emp, ex, guard, via, never, never_e, fst∗, snd∗}
use base.Fml.{fat, froom}
use borrow.Table.OneValue.{part_out}
use types.Logic.{Logic, sem}
use contract.Monad.{fact, fact_i, fact_use}
use types.Kit.{Item, Goal, Seq, Step, step, ‵, raw, ◌⊛◌, ◌$◌, ◌∵◌, !, qed, move, drop, use0, use1, split, fsplit, fjoin, fpick, fpack, feq_l, feq_i, some, pick, show, check, done}
use denote.RattleType.{RattleType, Valss}
use denote.RawPtr.{Ptr, RawPtr, block_ptr, null_ptr, ptr_val, in_a_block, lies_at, Testable}
use denote.Laws.{Is, shows}
use denote.Memory.{lone, part_at}
use denote.Steps.{nothing, peeks}
use denote.Struct.Struct.{Struct, within}
use denote.Struct.Owning.{shape}
use Rattle.core.proofs.cell.Inside.{Good, one}
use Rattle.std_alloc.specs.Vacant.{vacant}
use Rattle.std_alloc.specs.contracts.room.vacant.Vacant as vacancy
use Rattle.std_heap.specs.contracts.Global as heap
use Rattle.std_heap.specs.contracts.GlobalAllocator.TheImpl.{ghosts}
use Rattle.std_heap.proofs.Global.TheLaws.{lowers}
use Rattle.std_heap.proofs.GlobalToken.{dealloc_token-Testable}
use Rattle.hoiskend.specs.Sessions.{Session}
use Rattle.hoiskend.specs.contracts.held.Held.{the_row as R}
use Rattle.hoiskend.proofs.held.Held.TheLaws.{the_row_laws}
use Rattle.hoiskend.specs.Owning.{chunk, may_own}
use Rattle.hoiskend.specs.contracts.handle.Handle as handle

abbrev pub Field : RattleType
Field = Struct (shape handle.the_type)

abbrev pub handle_val : Ptr → Val
handle_val p = vstruct (vcons (ptr_val p) vnil)

module _ {M : Type 1} {𝓤 : Ura M} {𝓛 : Logic 𝓤} {K : Type 0} {Γ : List (Item 𝓤)} {G : Goal 𝓤 𝓛.H} where
  pub field_made : K → (p : Ptr) → Step K 𝓛 (‵ (Field.own_val (p, tt) (handle_val p ∷ [])) ∷ Γ) G Γ G
  field_made t p = step (λ s.
      nothing t $ feq_i t (List Val) (ptr_val p ∷ []) (ptr_val p ∷ []) refl $ fjoin t $ feq_i t (List Val) (handle_val p ∷ []) (handle_val p ∷ []) refl $ fjoin t $
      fpack t (Valss (RawPtr ∷ [])) (within (shape handle.the_type) (p, tt) (handle_val p ∷ [])) (ptr_val p ∷ [], tt) $ s)

-- an empty block whose memory comes from the heap
abbrev pub Room : RattleType
Room = vacancy.the_row R heap.the_row ghosts

abbrev pub heap_val : Val
heap_val = vstruct (vcons (vstruct (vcons vunit vnil)) vnil)

abbrev pub room_val : ℕ → ℕ → Val
room_val b o = vstruct (vcons (vptr b o) (vcons heap_val vnil))

pub room_good : (b o : ℕ) → Good (lone Room.mir) (room_val b o)
room_good b o = (tt, (tt, (((tt, tt), tt), tt)))

module _ {M : Type 1} {𝓤 : Ura M} {𝓛 : Logic 𝓤} {K : Type 0} {Γ : List (Item 𝓤)} {G : Goal 𝓤 𝓛.H} where
  pub room_had : K → (d : Room.Denot) (vs : List Val)
      → ((b o : ℕ) → d.ptr ≡ block_ptr b o → vs ≡ room_val b o ∷ [] → Seq K 𝓛 (‵ (froom (bare (lone R.mir)) b o) ∷ ‵ (chunk (bare (lone R.mir)) (block_ptr b o)) ∷ Γ) G)
      → Seq K 𝓛 (‵ (Room.own_val d vs) ∷ Γ) G
  room_had t d vs k =
      fsplit t $ fpick t (λ vss. fsplit t $ feq_l t (λ ev. fsplit t $ feq_l t (λ ep. fsplit t $ peeks t heap.the_row (Is heap.the_row) (shows 𝓛 heap.the_row) d.alloc vss.1.0 (λ is.
      let ea = lowers.val_is d.alloc vss.1.0 is in drop t $ drop t $
      in_a_block t d.ptr (vacant (λ τ q. chunk τ q) R) (fst∗ 𝓤 (never 𝓤) (sem 𝓛 (chunk (bare (lone R.mir)) null_ptr))) (λ b o e. fsplit t $ k b o e
      (subst (λ (p : Ptr). vs ≡ vstruct (of_list (ptr_val p ∷ heap_val ∷ [])) ∷ []) e
      (subst (λ (ws : List Val). vs ≡ vstruct (of_list (ptr_val d.ptr ∷ (ws ++ []))) ∷ []) ea (subst (λ (ps : List Val). vs ≡ vstruct (of_list (ps ++ (vss.1.0 ++ []))) ∷ []) ep ev))))))))

  pub room_made : K → (a : heap.the_row.Denot) (b o : ℕ)
      → Step K 𝓛 (‵ (Room.own_val (record { ptr = block_ptr b o; alloc = a }) (room_val b o ∷ [])) ∷ Γ) G
      (‵ (froom (bare (lone R.mir)) b o) ∷ ‵ (chunk (bare (lone R.mir)) (block_ptr b o)) ∷ ‵ (heap.the_row.own_val a (heap_val ∷ [])) ∷ Γ) G
  room_made t a b o = step (λ s.
      fjoin t $ nothing t $ move t (2 ∷ 0 ∷ []) $ fjoin t $ feq_i t (List Val) (vptr b o ∷ []) (vptr b o ∷ []) refl $ fjoin t $
      feq_i t (List Val) (room_val b o ∷ []) (room_val b o ∷ []) refl $ fjoin t $
      fpack t (Valss (RawPtr ∷ heap.the_row ∷ [])) (within (shape (vacancy.the_type R heap.the_row ghosts)) (block_ptr b o, (a, tt)) (room_val b o ∷ [])) (vptr b o ∷ [], (heap_val ∷ [], tt)) $ fjoin t $ s)

module _ {M : Type 1} {𝓤 : Ura M} (𝓛 : Logic 𝓤) where
  open 𝓛 use {H}

  pub value_tells : (x : R.Denot) (vs : List Val) → Is R x vs → (v : Val) × ((vs ≡ v ∷ []) × Good (lone R.mir) v)
  value_tells x vs is = let told = one (lone R.mir) vs ((the_row_laws.lawful 𝓛).typed x vs is) in (told.0, (told.1, told.2))

  abbrev Typed' : Val → Type 0
  Typed' = Good (lone R.mir)

  pub value_out : (x : R.Denot) (b o : ℕ) → ent 𝓤 (sem 𝓛 (part_at R full_share x b o)) (ex 𝓤 (λ (v : Val). guard 𝓤 (Typed' v) (sep 𝓤 (H.at full_share (lone R.mir) b o v) (sem 𝓛 (R.own_val x (v ∷ []))))))
  value_out x b o = qed 𝓛 (‵ (part_at R full_share x b o) ∷ []) ∵
      use1 𝓛 (some (λ (v : Val). ‵ (fat full_share (lone R.mir) b o v) ⊛ ‵ (R.own_val x (v ∷ [])))) (part_out 𝓛 R refl full_share x b o) $ pick ! (λ v. split ! $ move ! (1 ∷ []) $
      peeks ! R (Is R) (shows 𝓛 R) x (v ∷ []) (λ is.
      show ! (λ (u : Val). guard 𝓤 (Typed' u) (sep 𝓤 (H.at full_share (lone R.mir) b o u) (sem 𝓛 (R.own_val x (u ∷ []))))) v $
      check ! ((the_row_laws.lawful 𝓛).typed x (v ∷ []) is).0 $ move ! (1 ∷ 0 ∷ []) $ done !))

-- ---- the address tells whether there is a session

pub ptr_good : (p : Ptr) → Good ty_ptr (ptr_val p)
ptr_good (block_ptr b o) = (tt, tt)
ptr_good null_ptr = (tt, record { fits = lit< tt })

-- what a comparison with null answers
pub record Tells (p : Ptr) (may : Option Session) : Type 0 where
  pub null : Bool
  pub is : op2_val ptr_eq (ptr_val p) vnull ≡ vbool null
  pub says : not null ≡ is_some may
  pub tested : Testable p

tells_none : (p : Ptr) → p ≡ null_ptr → Tells p None
tells_none p e = subst (λ (q : Ptr). Tells q None) (sym e) (record { null = true; is = refl; says = refl; tested = lit< tt })

module _ {M : Type 1} {𝓤 : Ura M} (𝓛 : Logic 𝓤) where
  pub tells : (p : Ptr) (may : Option Session) → ent 𝓤 (sem 𝓛 (may_own p may)) (sep 𝓤 (fact 𝓤 (Tells p may)) (sem 𝓛 (may_own p may)))
  tells p None = qed 𝓛 (‵ (may_own p None) ∷ []) ∵ feq_l ! (λ e. feq_i ! Ptr p null_ptr e $ use0 𝓛 (raw (fact 𝓤 (Tells p None))) (fact_i 𝓤 (Tells p None) (emp 𝓤) (tells_none p e)) $ done !)
  tells (block_ptr b o) (Some x) =
      fact_use 𝓤 (Testable (block_ptr b o)) (via 𝓤 (sem 𝓛 (chunk (bare (lone R.mir)) (block_ptr b o))) (snd∗ 𝓤 (sem 𝓛 (lies_at R full_share (block_ptr b o) x)) (sem 𝓛 (chunk (bare (lone R.mir)) (block_ptr b o)))) (dealloc_token-Testable 𝓛 (record { memory = record { seal = record {} } }) (bare (lone R.mir)) (block_ptr b o))) (λ t.
      qed 𝓛 (‵ (may_own (block_ptr b o) (Some x)) ∷ []) ∵ use0 𝓛 (raw (fact 𝓤 (Tells (block_ptr b o) (Some x)))) (fact_i 𝓤 (Tells (block_ptr b o) (Some x)) (emp 𝓤) (record { null = false; is = refl; says = refl; tested = t })) $ done !)
  tells null_ptr (Some x) = via 𝓤 (never 𝓤) (fst∗ 𝓤 (never 𝓤) (sem 𝓛 (chunk (bare (lone R.mir)) null_ptr))) (never_e 𝓤 _)
