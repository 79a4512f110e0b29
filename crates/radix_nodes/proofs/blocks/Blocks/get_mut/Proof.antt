-- `get_mut` lends one value, and the blocks follow it. Assumes `Logic`.
use Rattle.std.proofs.Common.{◌≡◌, ℕ, Some, List, [], ◌∷◌, ◌++◌, refl, sym, ap, subst}
use mir.Syntax.{a_type, named}
use mir.MapTy.{inst_fn}
use mir.Raw.{raw as bare}
use mir.Val.{Val, vptr}
use seplogic.Ra.Ura.{Ura}
use base.Fraction.{full_share}
use base.Logic.{SProp, ent, sep, emp, never, id⊢}
use base.Fml.{GName, Fml, ftrue, fsep, flft}
use prog.Wp.{WpFn}
use types.Logic.{Logic, sem}
use types.Kit.{‵, raw, ◌⊛◌, some, later, at_ret, ◌$◌, ◌∵◌, !, qed, by, move, keep, drop, use0, use1, use2, split, split3, join, group, fsplit, fsplit3, fjoin, fjoin3, fpack, feq_l, pick, await, rewrite, suffices, done}
use types.Part.{whole, sub}
use types.Run.{stop, fld, of_opd, addr, first, blocks, exec, returns, enter}
use types.ByLocal.{alloc_all, pass_all, free_all, look_at, get, get_in, through, sets, sets_last, is, env}
use contract.BorrowLft.{◌⊑◌}
use contract.Monad.{fact, fact_i}
use contract.Running.{tables}
use denote.Exit.{yes, no}
use denote.Follow.{follows, Part, lends_Part}
use denote.Memory.{mem, cell_at, lone, part_of}
use denote.RattleType.{RattleType, owns}
use denote.Ref.{MutBor, MutRef}
use denote.Signature.{types_at, plain, mut_ref_to}
use denote.Param.{param, layouts}
use denote.RawPtr.{Ptr, block_ptr, ptr_val, lies_at, in_a_block}
use denote.Steps.{nothing, opens, heard}
use denote.Triple.Walked.{Stays, stay_dropped, walk_of, Goes-dropped, Goes-spent_ref}
use Rattle.radix_nodes.specs.Chunk.{chunk}
use Rattle.std.proofs.raw_atomic.Walks.{proved_at, leaves}
use Rattle.std.specs.FinMap.{FinMap, entries, get as get_cell, insert, remove}
use Rattle.std_alloc.proofs.VecSteps.Shapes.{after}
use Rattle.radix_nodes.specs.At.{IsAt}
use Rattle.radix_nodes.specs.Lending.{with_value}
use Rattle.radix_nodes.specs.Owning.{one_owns, all_own}
use Rattle.radix_nodes.proofs.Cells.{put_back}
use Rattle.radix_nodes.proofs.Memory.{id_val, id_good, Mark, take_out, laid}
use Rattle.radix_nodes.proofs.id.Id.TheLaws.{lowers}
use Rattle.radix_nodes.specs.contracts.id.Id as name
use Rattle.radix_nodes.specs.contracts.blocks.Blocks as holder
use Rattle.radix_nodes.specs.contracts.blocks.Blocks.get_mut.{ended, clauses}
use Rattle.radix_nodes.specs.contracts.blocks.Blocks.get_mut.Key.{name as #self}
use Rattle.radix_nodes.proofs.blocks.Blocks.get_mut.Statement.{statement}
use Rattle.radix_nodes.proofs.blocks.Blocks.get_mut.Code as code
use Rattle.radix_nodes.specs.Naming.{number_of}

module _ (R : RattleType) {M : Type 1} {𝓤 : Ura M} (𝓛 : Logic 𝓤) (d : (holder.the_row R).Denot) (n : ℕ) (p : Ptr) (vs : List Val) (rb ro b o : ℕ) where
  -- all but the value
  abbrev Rest : Fml
  Rest = fsep (chunk (bare (lone R.mir)) p) (fsep (all_own R (entries (remove d.cells n))) (fsep ((Mark R).own_val (tt, tt) vs) (cell_at full_share (holder.the_row R).mir vs rb ro)))

  back : p ≡ block_ptr b o → (w : R.Denot) → ent 𝓤 (sep 𝓤 (sem 𝓛 ((mem R).own_at w b o)) (sem 𝓛 Rest)) (sem 𝓛 ((mem (holder.the_row R)).own_at (with_value d n p w) rb ro))
  unfolding part_of
  back e w =
      qed 𝓛 (‵ (lies_at R full_share (block_ptr b o) w) ∷ ‵ Rest ∷ []) ∵ rewrite ! 0 (λ (q : Ptr). ‵ (lies_at R full_share q w)) (sym e) refl $
      move ! (1 ∷ []) $ fsplit3 ! $ move ! (3 ∷ 0 ∷ []) $ fjoin ! $ move ! (0 ∷ 1 ∷ []) $
      use2 𝓛 (‵ (all_own R (entries (insert (remove d.cells n) n (p, w))))) (laid R 𝓛 (remove d.cells n) n (p, w)) $
      rewrite ! 0 (λ (m : FinMap _ (Ptr × R.Denot)). ‵ (all_own R (entries m))) (put_back d.cells n (p, w)) refl $
      -- [what the field owns; the cell; the blocks]
      move ! (1 ∷ []) $ fsplit ! $ move ! (0 ∷ 2 ∷ []) $ fjoin ! $ move ! (1 ∷ 0 ∷ []) $ fjoin ! $
      fpack ! (List Val) (λ us. fsep (cell_at full_share (holder.the_row R).mir us rb ro) ((holder.the_row R).own_val (with_value d n p w) us)) vs $ done !

pub get_mut_spec : {M : Type 1} → statement M
get_mut_spec 𝓤 𝓛 𝓜 𝓡 wired T L =
    let H = 𝓛.H in let 𝓣 = tables 𝓤 H 𝓜 𝓡 𝓡.env in let R : RattleType = param 0 T in let En = ended T in let c = clauses T 𝓛 𝓜.mem 𝓡.returns in
    let at = layouts (a_type ∷ []) (T, tt) in let fn = inst_fn at code.function in let B = holder.the_row R in
    let hs : Stays En.signature.params En.kept = (stay_dropped (mut_ref_to (0 ∷ []) tt (plain (λ _. B))) no, (stay_dropped (plain (λ _. name.the_row)) yes, tt)) in
    proved_at 𝓛 En hs c 𝓜 𝓡 (Goes-spent_ref 𝓛 2 (0 ∷ []) tt (plain (λ _. B)), (Goes-dropped 𝓛 2 (plain (λ _. name.the_row)) yes (λ κs x f. refl), tt)) (#self at) fn (code.unfolded 𝓤 H 𝓜 𝓡 wired (T, tt)) (λ z are.
    let κs = z.0.0 in let qs = z.0.1 in let self = z.0.3.0 in let id = z.0.3.1.0 in let d = self.now in
    let Post : Val → SProp 𝓤 = (walk_of 𝓛 En hs c).post z in let Run : List Val → SProp 𝓤 = λ ws. WpFn 𝓤 H 𝓣.C 𝓣.Λ fn ws Post in
    let rb = self.ref_ptr.0 in let ro = self.ref_ptr.1 in let w = vptr rb ro in let v = id_val id.block in
    qed 𝓛 (((‵ (flft κs.0 qs.0) ⊛ ‵ (flft κs.1.0 qs.1.0) ⊛ ‵ ftrue) ⊛ ‵ (owns (types_at En.signature.params κs) z.0.3 z.0.4)) ∷ raw ((c κs z.0.3).requires z.1) ∷ []) ∵
    move ! (1 ∷ []) $ use1 𝓛 (raw (fact 𝓤 (κs.1.0 ⊑ T.lives)) ⊛ raw (fact 𝓤 (IsAt d.cells (number_of id) id.block))) (id⊢ 𝓤 _) $ split ! $ heard ! _ (λ _. heard ! _ (λ asked.
    let x = asked.value in let new = with_value d (number_of id) id.block in
    split ! $ move ! (1 ∷ []) $ fsplit ! $ fsplit3 ! $ feq_l ! (λ e0. move ! (2 ∷ []) $ drop ! $ move ! (2 ∷ []) $ split3 ! $
    let e1 = lowers.val_is id z.0.4.1.0 are.1.0 in
    suffices ! (Run (w ∷ v ∷ [])) (subst (λ (us : List Val). ent 𝓤 (Run (w ∷ v ∷ [])) (Run us)) (sym (λ i. e0 i ++ (e1 i ++ []))) (id⊢ 𝓤 (Run (w ∷ v ∷ [])))) $
    enter ! 𝓣.C 𝓣.Λ fn (w ∷ v ∷ []) Post $ alloc_all ! (λ l. pass_all ! refl ((tt, tt), (id_good id.block, tt)) $
    -- [a token; another; nothing; obs; the borrow]
    move ! (3 ∷ 4 ∷ 0 ∷ []) $ opens ! tt B {h = d} rb ro (λ vs. move ! (1 ∷ []) $ fsplit ! $ move ! (1 ∷ []) $
    use1 𝓛 (‵ (one_owns R id.block x) ⊛ ‵ (all_own R (entries (remove d.cells (number_of id))))) (take_out R 𝓛 d.cells (number_of id) (id.block, x) asked.at) $ split ! $ fsplit ! $
    in_a_block ! id.block (λ p. lies_at R full_share p x) (id⊢ 𝓤 (never 𝓤)) (λ b o e.
    first ! $ blocks ! $ sets ! (is ! (of_opd ! (get_in ! (fld ! refl (stop !)) (sub ! 0 refl (whole !)))) (ap ptr_val e)) refl (tt, tt) $
    sets_last ! (addr ! (through ! refl (stop !))) refl (tt, tt) $
    exec ! 𝓣.C 𝓣.Λ (env fn.locals l) (after 1 fn.body) (at_ret (env fn.locals l) Post) $ sets ! (of_opd ! (get ! refl)) refl (tt, tt) $
    -- [the value; the right to free it; the other blocks; what the field owns; the cell; the open borrow; obs; auth; a
    -- token; nothing]
    move ! (3 ∷ 4 ∷ []) $ fjoin ! $ move ! (2 ∷ 3 ∷ 0 ∷ []) $ fjoin3 ! $ move ! (2 ∷ 3 ∷ 4 ∷ 1 ∷ 0 ∷ []) $ group ! 5 $
    let rest = sem 𝓛 (Rest R 𝓛 d (number_of id) id.block vs rb ro b o) in let way = back R 𝓛 d (number_of id) id.block vs rb ro b o e in let code = B.coded.code d in
    use1 𝓛 (later (some (λ (δ : GName). raw (Part 𝓛 B R new (named 0) κs.0 qs.0 rb ro b o self.ghost_name rest way x δ))))
    (lends_Part 𝓛 B R new (named 0) κs.0 qs.0 rb ro b o self.ghost_name rest way code code x) $ await ! tt $ pick ! (λ δ.
    returns ! (look_at ! 0 refl) $ free_all ! refl $
    let lent : MutBor R.Denot = record { ref_ptr = (b, o); ghost_name = δ; now = x } in let Found = get_cell d.cells (number_of id) ≡ Some (id.block, x) in
    use1 𝓛 (‵ ((MutRef (named 0) κs.0 R).own_val lent (vptr b o ∷ [])) ⊛ ‵ (flft κs.0 qs.0) ⊛ ‵ (follows B R self.ghost_name δ new)) (id⊢ 𝓤 _) $ split3 ! $
    move ! (2 ∷ []) $ use0 𝓛 (raw (fact 𝓤 Found)) (fact_i 𝓤 Found (emp 𝓤) asked.at) $ move ! (1 ∷ 0 ∷ []) $ join ! $
    -- [the `ensures`; the result; the tokens; nothing]
    move ! (3 ∷ 4 ∷ []) $ join ! $ move ! (3 ∷ 0 ∷ []) $ join ! $ nothing ! $ nothing ! $ fjoin ! $ nothing ! $ fjoin ! $
    keep ! (1 ∷ 0 ∷ 3 ∷ 2 ∷ []) $ by ! (leaves 𝓛 En hs c z (vptr b o) lent (tt, (tt, tt)) (tt, (tt, tt)))))))))))
