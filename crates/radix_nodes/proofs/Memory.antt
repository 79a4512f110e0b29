-- What the walks over the blocks share. Assumes `Logic`.
--     id_val, id_good, id_made      a room's name as a machine value
--     room_val, room_had, room_made      an empty block as a machine value, taken apart and put together
--     value_tells, value_out      a value is one machine value, of its type, by itself and in memory
--     lent_out             of what a `&` to the blocks lends, one value
--     owns_none, take_out, laid       of what the blocks own, one block, and the way back
use Rattle.std.proofs.Common.{◌≡◌, ℕ, Bool, true, false, cond, List, [], ◌∷◌, ◌++◌, Some, None, refl, sym, ap, ◌∙◌, subst}
use seplogic.Ra.Ura.{Ura}
use lib.Dec.{lit<}
use mir.Raw.{raw as bare}
use mir.Val.{Val, vptr, vunit, vstruct, vcons, vnil, of_list}
use base.Fraction.{full_share}
use base.Logic.{ent, sep, emp, ex, guard, via, never, fst∗, snd∗, id⊢}
use base.Fml.{Lft, Fml, fat, froom}
use borrow.Table.OneValue.{part_out}
use types.Logic.{Logic, sem}
use types.Kit.{Item, Goal, Seq, Step, step, ‵, ◌⊛◌, ◌$◌, ◌∵◌, !, qed, move, drop, use1, use2, split, fsplit, fjoin, fpick, fpack, feq_l, feq_i, some, pick, show, check, done}
use denote.RattleType.{RattleType, Valss}
use denote.RawPtr.{Ptr, RawPtr, block_ptr, null_ptr, ptr_val, in_a_block}
use denote.Laws.{Is, shows}
use denote.Memory.{lone, part_at}
use denote.Param.{param, layout}
use denote.Param.Laws.{Laws, param_laws}
use denote.Steps.{nothing, peeks}
use denote.Struct.Declared as Declared
use denote.Struct.Lending.{lent_at}
use Rattle.core.proofs.cell.Inside.{Good, one}
use Rattle.radix_nodes.specs.Chunk.{chunk}
use Rattle.std_alloc.specs.Vacant.{vacant}
use Rattle.std_alloc.specs.contracts.room.vacant.Vacant as vacancy
use Rattle.std_heap.specs.contracts.Global as heap
use Rattle.std_heap.specs.contracts.GlobalAllocator.TheImpl.{ghosts}
use Rattle.std_heap.proofs.Global.TheLaws.{lowers}
use Rattle.std.specs.Ordering.{nat_cmp, eq_by_cmp}
use Rattle.std.specs.FinMap.{FinMap, find, put, entries, empty, get, insert, remove, get-entries, get-empty, entries-insert}
use Rattle.std.proofs.lemmas.Cmp.{nat_cmp_total}
use Rattle.std.specs.Ordering.{is_eq}
use Rattle.radix_nodes.proofs.Cells.{laid_back, gone, same_number}
use Rattle.std.specs.Cmp.{unsigned_tied}
use Rattle.core.specs.FinMap.Entries.{by_order}
use Rattle.std.specs.declared.cmp.Ordering.TheVariants.{Less, Equal, Greater}
use denote.Struct.Struct.{Struct, within}
use denote.Struct.Owning.{shape}
use Rattle.radix_nodes.specs.contracts.id.Id as name
use Rattle.radix_nodes.specs.contracts.blocks.Blocks as holder
use Rattle.radix_nodes.specs.Owning.{one_owns, all_own, all_lent}

abbrev pub id_val : Ptr → Val
id_val p = vstruct (vcons (ptr_val p) vnil)

pub id_good : (p : Ptr) → Good (layout name.the_row) (id_val p)
id_good (block_ptr b o) = (tt, (tt, tt))
id_good null_ptr = (tt, (record { fits = lit< tt }, tt))

module _ {M : Type 1} {𝓤 : Ura M} {𝓛 : Logic 𝓤} {K : Type 0} {Γ : List (Item 𝓤)} {G : Goal 𝓤 𝓛.H} where
  pub id_made : K → (p : Ptr) → Step K 𝓛 (‵ (name.the_row.own_val (record { block = p }) (id_val p ∷ [])) ∷ Γ) G Γ G
  id_made t p = step (λ s.
      nothing t $ feq_i t (List Val) (ptr_val p ∷ []) (ptr_val p ∷ []) refl $ fjoin t $ feq_i t (List Val) (id_val p ∷ []) (id_val p ∷ []) refl $ fjoin t $
      fpack t (Valss (RawPtr ∷ [])) (within (Declared.shape name.the_type) (p, tt) (id_val p ∷ [])) (ptr_val p ∷ [], tt) $ s)

-- an empty block whose memory comes from the heap
abbrev pub Room : RattleType → RattleType
Room R = vacancy.the_row R heap.the_row ghosts

abbrev pub heap_val : Val
heap_val = vstruct (vcons (vstruct (vcons vunit vnil)) vnil)

abbrev pub room_val : ℕ → ℕ → Val
room_val b o = vstruct (vcons (vptr b o) (vcons heap_val vnil))

pub room_good : (R : RattleType) (b o : ℕ) → Good (layout (Room R)) (room_val b o)
room_good R b o = (tt, (tt, (((tt, tt), tt), tt)))

module _ (R : RattleType) {M : Type 1} {𝓤 : Ura M} {𝓛 : Logic 𝓤} {K : Type 0} {Γ : List (Item 𝓤)} {G : Goal 𝓤 𝓛.H} where
  pub room_had : K → (d : (Room R).Denot) (vs : List Val)
      → ((b o : ℕ) → d.ptr ≡ block_ptr b o → vs ≡ room_val b o ∷ [] → Seq K 𝓛 (‵ (froom (bare (lone R.mir)) b o) ∷ ‵ (chunk (bare (lone R.mir)) (block_ptr b o)) ∷ Γ) G)
      → Seq K 𝓛 (‵ ((Room R).own_val d vs) ∷ Γ) G
  room_had t d vs k =
      fsplit t $ fpick t (λ vss. fsplit t $ feq_l t (λ ev. fsplit t $ feq_l t (λ ep. fsplit t $ peeks t heap.the_row (Is heap.the_row) (shows 𝓛 heap.the_row) d.alloc vss.1.0 (λ is.
      let ea = lowers.val_is d.alloc vss.1.0 is in drop t $ drop t $
      in_a_block t d.ptr (vacant (λ τ q. chunk τ q) R) (fst∗ 𝓤 (never 𝓤) (sem 𝓛 (chunk (bare (lone R.mir)) null_ptr))) (λ b o e. fsplit t $ k b o e
      (subst (λ (p : Ptr). vs ≡ vstruct (of_list (ptr_val p ∷ heap_val ∷ [])) ∷ []) e
      (subst (λ (ws : List Val). vs ≡ vstruct (of_list (ptr_val d.ptr ∷ (ws ++ []))) ∷ []) ea (subst (λ (ps : List Val). vs ≡ vstruct (of_list (ps ++ (vss.1.0 ++ []))) ∷ []) ep ev))))))))

  pub room_made : K → (a : heap.the_row.Denot) (b o : ℕ)
      → Step K 𝓛 (‵ ((Room R).own_val (record { ptr = block_ptr b o; alloc = a }) (room_val b o ∷ [])) ∷ Γ) G
      (‵ (froom (bare (lone R.mir)) b o) ∷ ‵ (chunk (bare (lone R.mir)) (block_ptr b o)) ∷ ‵ (heap.the_row.own_val a (heap_val ∷ [])) ∷ Γ) G
  room_made t a b o = step (λ s.
      fjoin t $ nothing t $ move t (2 ∷ 0 ∷ []) $ fjoin t $ feq_i t (List Val) (vptr b o ∷ []) (vptr b o ∷ []) refl $ fjoin t $
      feq_i t (List Val) (room_val b o ∷ []) (room_val b o ∷ []) refl $ fjoin t $
      fpack t (Valss (RawPtr ∷ heap.the_row ∷ [])) (within (shape (vacancy.the_type R heap.the_row ghosts)) (block_ptr b o, (a, tt)) (room_val b o ∷ [])) (vptr b o ∷ [], (heap_val ∷ [], tt)) $ fjoin t $ s)

pub value_tells : (T : RattleType) → Laws T → {M : Type 1} {𝓤 : Ura M} (𝓛 : Logic 𝓤) (x : T.Denot) (vs : List Val) → Is (param 0 T) x vs → (v : Val) × ((vs ≡ v ∷ []) × Good (layout T) v)
value_tells T L 𝓛 x vs is = let told = one (layout T) vs (((param_laws 0 T L).lawful 𝓛).typed x vs is) in (told.0, (told.1, told.2))

module _ (T : RattleType) (L : Laws T) {M : Type 1} {𝓤 : Ura M} (𝓛 : Logic 𝓤) where
  open 𝓛 use {H}

  abbrev Typed' : Val → Type 0
  Typed' = Good (layout T)

  pub value_out : (x : T.Denot) (b o : ℕ) → ent 𝓤 (sem 𝓛 (part_at (param 0 T) full_share x b o)) (ex 𝓤 (λ (v : Val). guard 𝓤 (Typed' v) (sep 𝓤 (H.at full_share (layout T) b o v) (sem 𝓛 (T.own_val x (v ∷ []))))))
  value_out x b o = qed 𝓛 (‵ (part_at (param 0 T) full_share x b o) ∷ []) ∵
      use1 𝓛 (some (λ (v : Val). ‵ (fat full_share (layout T) b o v) ⊛ ‵ (T.own_val x (v ∷ [])))) (part_out 𝓛 (param 0 T) refl full_share x b o) $ pick ! (λ v. split ! $ move ! (1 ∷ []) $
      peeks ! (param 0 T) (Is (param 0 T)) (shows 𝓛 (param 0 T)) x (v ∷ []) (λ is.
      show ! (λ (u : Val). guard 𝓤 (Typed' u) (sep 𝓤 (H.at full_share (layout T) b o u) (sem 𝓛 (T.own_val x (u ∷ []))))) v $
      check ! (((param_laws 0 T L).lawful 𝓛).typed x (v ∷ []) is).0 $ move ! (1 ∷ 0 ∷ []) $ done !))

inside : {A : Type 0} {x y : A} → Some x ≡ Some y → x ≡ y
inside e = cc

none_some : {A : Type 0} {x : A} → None ≡ Some x → ⊥
none_some e = cc

-- the blocks' own field, which takes no bytes
abbrev pub Mark : RattleType → RattleType
Mark R = Struct (shape (holder.the_type R))

abbrev pub mark : Val
mark = vstruct (vcons (vstruct vnil) vnil)

none_find : {X : Type 0} (e : ℕ × X) (es : List (ℕ × X)) → ((q : ℕ) → find nat_cmp q (e ∷ es) ≡ None) → ⊥
none_find e es none = none_some (sym (none e.0) ∙ ap (λ (b : Bool). cond b (Some e.1) (find nat_cmp e.0 es)) (unsigned_tied e.0 e.0 ∙ same_number e.0))

module _ (R : RattleType) {M : Type 1} {𝓤 : Ura M} (𝓛 : Logic 𝓤) where
  abbrev Cells : Type 0
  Cells = List (ℕ × (Ptr × R.Denot))

  pub lent_out : (κ : Lft) (n : ℕ) (c : Ptr × R.Denot) (es : Cells) → find nat_cmp n es ≡ Some c → ent 𝓤 (sem 𝓛 (all_lent R es κ)) (sem 𝓛 (lent_at R c.0 c.1 κ))
  lent_out κ n c [] at = absurd (none_some at)
  lent_out κ n c (e ∷ es) at =
      elim (eq_by_cmp nat_cmp n e.0) as (λ t. cond t (Some e.1) (find nat_cmp n es) ≡ Some c → ent 𝓤 (sem 𝓛 (all_lent R (e ∷ es) κ)) (sem 𝓛 (lent_at R c.0 c.1 κ))) [
        | true ↦ λ is. subst (λ (d : Ptr × R.Denot). ent 𝓤 (sem 𝓛 (all_lent R (e ∷ es) κ)) (sem 𝓛 (lent_at R d.0 d.1 κ))) (inside is) (fst∗ 𝓤 _ (sem 𝓛 (all_lent R es κ)))
        | false ↦ λ is. via 𝓤 _ (snd∗ 𝓤 (sem 𝓛 (lent_at R e.1.0 e.1.1 κ)) _) (lent_out κ n c es is)
      ] at

  pub put_in : (k : ℕ) (c : Ptr × R.Denot) (es : Cells) → ent 𝓤 (sep 𝓤 (sem 𝓛 (one_owns R c.0 c.1)) (sem 𝓛 (all_own R es))) (sem 𝓛 (all_own R (put nat_cmp k c es)))
  put_in k c [] = id⊢ 𝓤 _
  put_in k c (e ∷ es) =
      elim (nat_cmp k e.0) as (λ r. ent 𝓤 (sep 𝓤 (sem 𝓛 (one_owns R c.0 c.1)) (sem 𝓛 (all_own R (e ∷ es)))) (sem 𝓛 (all_own R (by_order r ((k, c) ∷ e ∷ es) ((e.0, c) ∷ es) (e ∷ put nat_cmp k c es))))) [
        | Less ↦ id⊢ 𝓤 _
        | Equal ↦ qed 𝓛 (‵ (one_owns R c.0 c.1) ∷ ‵ (all_own R (e ∷ es)) ∷ []) ∵ move ! (1 ∷ []) $ fsplit ! $ drop ! $ move ! (1 ∷ 0 ∷ []) $ fjoin ! $ done !
        | Greater ↦ qed 𝓛 (‵ (one_owns R c.0 c.1) ∷ ‵ (all_own R (e ∷ es)) ∷ []) ∵ move ! (1 ∷ []) $ fsplit ! $ move ! (2 ∷ 1 ∷ []) $
            use2 𝓛 (‵ (all_own R (put nat_cmp k c es))) (put_in k c es) $ move ! (1 ∷ 0 ∷ []) $ fjoin ! $ done !
      ]

  put_out : (k : ℕ) (c : Ptr × R.Denot) (es : Cells) → find nat_cmp k es ≡ None → ent 𝓤 (sem 𝓛 (all_own R (put nat_cmp k c es))) (sep 𝓤 (sem 𝓛 (one_owns R c.0 c.1)) (sem 𝓛 (all_own R es)))
  put_out k c [] free = id⊢ 𝓤 _
  put_out k c (e ∷ es) free =
      elim (nat_cmp k e.0) as (λ r. cond (is_eq r) (Some e.1) (find nat_cmp k es) ≡ None
      → ent 𝓤 (sem 𝓛 (all_own R (by_order r ((k, c) ∷ e ∷ es) ((e.0, c) ∷ es) (e ∷ put nat_cmp k c es)))) (sep 𝓤 (sem 𝓛 (one_owns R c.0 c.1)) (sem 𝓛 (all_own R (e ∷ es))))) [
        | Less ↦ λ _. id⊢ 𝓤 _
        | Equal ↦ λ none. absurd (none_some (sym none))
        | Greater ↦ λ none. qed 𝓛 (‵ (all_own R (e ∷ put nat_cmp k c es)) ∷ []) ∵ fsplit ! $ move ! (1 ∷ []) $
            use1 𝓛 (‵ (one_owns R c.0 c.1) ⊛ ‵ (all_own R es)) (put_out k c es none) $ split ! $ move ! (2 ∷ 1 ∷ []) $ fjoin ! $ move ! (1 ∷ []) $ done !
      ] free

  abbrev Held : FinMap nat_cmp (Ptr × R.Denot) → Fml
  Held m = all_own R (entries m)

  pub laid : (m : FinMap nat_cmp (Ptr × R.Denot)) (k : ℕ) (c : Ptr × R.Denot) → ent 𝓤 (sep 𝓤 (sem 𝓛 (one_owns R c.0 c.1)) (sem 𝓛 (Held m))) (sem 𝓛 (Held (insert m k c)))
  laid m k c = subst (λ (es : Cells). ent 𝓤 (sep 𝓤 (sem 𝓛 (one_owns R c.0 c.1)) (sem 𝓛 (Held m))) (sem 𝓛 (all_own R es))) (sym (entries-insert nat_cmp_total m k c)) (put_in k c (entries m))

  pub take_out : (m : FinMap nat_cmp (Ptr × R.Denot)) (k : ℕ) (c : Ptr × R.Denot) → get m k ≡ Some c → ent 𝓤 (sem 𝓛 (Held m)) (sep 𝓤 (sem 𝓛 (one_owns R c.0 c.1)) (sem 𝓛 (Held (remove m k))))
  take_out m k c at =
      subst (λ (es : Cells). ent 𝓤 (sem 𝓛 (all_own R es)) (sep 𝓤 (sem 𝓛 (one_owns R c.0 c.1)) (sem 𝓛 (Held (remove m k)))))
      (sym (ap entries (laid_back m k c at) ∙ entries-insert nat_cmp_total (remove m k) k c))
      (put_out k c (entries (remove m k)) (sym (get-entries (remove m k) k) ∙ gone m k))

  of_none : (es : Cells) → ((q : ℕ) → find nat_cmp q es ≡ None) → ent 𝓤 (emp 𝓤) (sem 𝓛 (all_own R es))
  of_none [] none = qed 𝓛 [] ∵ nothing ! $ done !
  of_none (e ∷ es) none = absurd (none_find e es none)

  pub owns_none : ent 𝓤 (emp 𝓤) (sem 𝓛 (Held empty))
  owns_none = of_none (entries empty) (λ q. sym (get-entries empty q) ∙ get-empty nat_cmp q)
