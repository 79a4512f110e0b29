-- `take` moves a value out of its block, which the blocks own no longer. Assumes `Logic`.
use Rattle.std.proofs.Common.{◌≡◌, Some, List, [], ◌∷◌, ◌++◌, refl, sym, ap, subst}
use mir.Syntax.{a_type}
use mir.MapTy.{inst_fn}
use mir.Val.{Val, vptr}
use base.Fraction.{full_share}
use base.Logic.{SProp, ent, emp, never, id⊢}
use base.Fml.{ftrue, fat, froom, flft}
use prog.Wp.{WpFn}
use types.Kit.{‵, raw, ◌⊛◌, some, given, at_ret, ◌$◌, ◌∵◌, !, qed, by, move, keep, drop, use0, use1, use2, split, split3, join, fsplit, fsplit3, fjoin, fjoin3, feq_i, feq_l, pick, learn, rewrite, suffices}
use types.Part.{whole, sub, agg}
use types.Run.{look, load, stop, fld, of_opd, and_then, no_more, first, blocks, exec, returns, enter}
use types.ByLocal.{alloc_all, pass_all, free_all, look_at, get, get_in, through, sets, sets_last, is, env}
use contract.BorrowLft.{◌⊑◌}
use contract.Monad.{fact, fact_i}
use contract.Running.{tables}
use denote.Exit.{yes}
use denote.RattleType.{RattleType, owns}
use denote.Signature.{types_at, plain}
use denote.Param.{param, layout, layouts}
use denote.RawPtr.{Ptr, block_ptr, ptr_val, lies_at, in_a_block}
use denote.Steps.{nothing, opens, closes, heard}
use denote.Struct.Tuple.{Tuple}
use denote.Triple.Walked.{Stays, stay_dropped, stay_ref, walk_of, Goes-dropped, Goes-ref}
use Rattle.core.proofs.cell.Inside.{Good}
use Rattle.radix_nodes.specs.Chunk.{chunk}
use denote.Memory.{lone}
use mir.Raw.{raw as bare}
use Rattle.std.proofs.raw_atomic.Walks.{proved_at, leaves}
use Rattle.std.specs.FinMap.{entries, get as get_cell, remove}
use Rattle.std_alloc.proofs.Pairs.{pair_val, pair_Typed, pair_of}
use Rattle.std_alloc.proofs.RawLayout.{as_raw}
use Rattle.std_alloc.proofs.VecSteps.Shapes.{after}
use Rattle.std_heap.specs.contracts.Global as heap
use Rattle.std_heap.proofs.Global.TheLaws.{lowers as heap_lowers}
use Rattle.radix_nodes.specs.At.{IsAt}
use Rattle.radix_nodes.specs.Owning.{one_owns, all_own}
use Rattle.radix_nodes.proofs.Memory.{id_val, id_good, heap_val, Room, room_val, room_good, room_made, value_out, take_out}
use Rattle.radix_nodes.proofs.id.Id.TheLaws.{lowers}
use Rattle.radix_nodes.specs.contracts.id.Id as name
use Rattle.radix_nodes.specs.contracts.blocks.Blocks as holder
use Rattle.radix_nodes.specs.contracts.blocks.Blocks.take.{ended, clauses}
use Rattle.radix_nodes.specs.contracts.blocks.Blocks.take.Key.{name as #self}
use Rattle.radix_nodes.proofs.blocks.Blocks.take.Statement.{statement}
use Rattle.radix_nodes.proofs.blocks.Blocks.take.Code as code
use Rattle.radix_nodes.specs.Naming.{number_of}

pub take_spec : {M : Type 1} → statement M
take_spec 𝓤 𝓛 𝓜 𝓡 wired T L =
    let H = 𝓛.H in let 𝓣 = tables 𝓤 H 𝓜 𝓡 𝓡.env in let R : RattleType = param 0 T in let En = ended T in let c = clauses T 𝓛 𝓜.mem 𝓡.returns in
    let at = layouts (a_type ∷ []) (T, tt) in let fn = inst_fn at code.function in let B = holder.the_row R in
    let hs : Stays En.signature.params En.kept = (stay_ref (0 ∷ []) tt (plain (λ _. B)), (stay_dropped (plain (λ _. name.the_row)) yes, (stay_dropped (plain (λ _. heap.the_row)) yes, tt))) in
    proved_at 𝓛 En hs c 𝓜 𝓡 (Goes-ref 𝓛 2 0 tt (plain (λ _. B)), (Goes-dropped 𝓛 2 (plain (λ _. name.the_row)) yes (λ κs x f. refl), (Goes-dropped 𝓛 2 (plain (λ _. heap.the_row)) yes (λ κs x f. refl), tt)))
    (#self at) fn (code.unfolded 𝓤 H 𝓜 𝓡 wired (T, tt)) (λ z are.
    let κs = z.0.0 in let qs = z.0.1 in let self = z.0.3.0 in let id = z.0.3.1.0 in let a = z.0.3.1.1.0 in let d = self.now in
    let Post : Val → SProp 𝓤 = (walk_of 𝓛 En hs c).post z in let Run : List Val → SProp 𝓤 = λ ws. WpFn 𝓤 H 𝓣.C 𝓣.Λ fn ws Post in
    let rb = self.ref_ptr.0 in let ro = self.ref_ptr.1 in let w = vptr rb ro in let u = id_val id.block in
    let e1 = lowers.val_is id z.0.4.1.0 are.1.0 in let e2 = heap_lowers.val_is a z.0.4.1.1.0 are.1.1.0 in
    qed 𝓛 (((‵ (flft κs.0 qs.0) ⊛ ‵ (flft κs.1.0 qs.1.0) ⊛ ‵ ftrue) ⊛ ‵ (owns (types_at En.signature.params κs) z.0.3 z.0.4)) ∷ raw ((c κs z.0.3).requires z.1) ∷ []) ∵
    move ! (1 ∷ []) $ use1 𝓛 (raw (fact 𝓤 (κs.1.0 ⊑ T.lives)) ⊛ raw (fact 𝓤 (IsAt d.cells (number_of id) id.block))) (id⊢ 𝓤 _) $ split ! $ heard ! _ (λ _. heard ! _ (λ asked.
    let x = asked.value in let new : B.Denot = record { mark = d.mark; cells = remove d.cells (number_of id) } in
    split ! $ move ! (1 ∷ []) $ fsplit ! $ fsplit3 ! $ feq_l ! (λ e0. move ! (2 ∷ []) $ fsplit ! $ drop ! $ fsplit ! $
    rewrite ! 0 (λ (us : List Val). ‵ (heap.the_row.own_val a us)) e2 refl $ move ! (4 ∷ []) $ split3 ! $
    suffices ! (Run (w ∷ u ∷ heap_val ∷ [])) (subst (λ (us : List Val). ent 𝓤 (Run (w ∷ u ∷ heap_val ∷ [])) (Run us)) (sym (λ i. e0 i ++ (e1 i ++ (e2 i ++ [])))) (id⊢ 𝓤 _)) $
    enter ! 𝓣.C 𝓣.Λ fn (w ∷ u ∷ heap_val ∷ []) Post $ alloc_all ! (λ l. pass_all ! refl ((tt, tt), (id_good id.block, ((tt, ((tt, tt), tt)), tt))) $
    let En' = env fn.locals l in
    -- [a token; another; nothing; what the allocator owns; nothing; obs; the borrow]
    move ! (5 ∷ 6 ∷ 0 ∷ []) $ opens ! tt B {h = d} rb ro (λ vs. move ! (1 ∷ []) $ fsplit ! $ move ! (1 ∷ []) $
    use1 𝓛 (‵ (one_owns R id.block x) ⊛ ‵ (all_own R (entries new.cells))) (take_out R 𝓛 d.cells (number_of id) (id.block, x) asked.at) $ split ! $
    move ! (2 ∷ 1 ∷ []) $ fjoin ! $ move ! (2 ∷ 0 ∷ 3 ∷ 4 ∷ 5 ∷ []) $ closes ! tt B new vs rb ro $ move ! (3 ∷ []) $ fsplit ! $
    -- [the value; the right to free its block; obs; the borrow; a token; another; nothing; what the allocator owns]
    in_a_block ! id.block (λ p. lies_at R full_share p x) (id⊢ 𝓤 (never 𝓤)) (λ b o e.
    use1 𝓛 (some (λ (v : Val). given (Good (layout T) v) (‵ (fat full_share (layout T) b o v) ⊛ ‵ (T.own_val x (v ∷ []))))) (value_out T L 𝓛 x b o) $ pick ! (λ v. learn ! (λ good. split ! $
    sets ! (is ! (of_opd ! (get_in ! (fld ! refl (stop !)) (sub ! 0 refl (whole !)))) (ap ptr_val e)) refl (tt, tt) $
    first ! $ blocks ! $ sets_last ! (of_opd ! (load ! (through ! refl (stop !)) (look ! 0 refl))) refl good $ exec ! 𝓣.C 𝓣.Λ En' (after 2 fn.body) (at_ret En' Post) $
    sets ! (of_opd ! (get ! refl)) refl good $ sets ! (of_opd ! (get ! refl)) refl good $
    sets ! (agg ! (and_then ! (get ! refl) (and_then ! (get ! refl) (no_more !)))) refl (room_good R b o) $
    sets ! (agg ! (and_then ! (get ! refl) (and_then ! (get ! refl) (no_more !)))) refl (pair_Typed (layout T) (layout (Room R)) v (room_val b o) good (room_good R b o)) $
    returns ! (look_at ! 0 refl) $ free_all ! refl $
    let room : (Room R).Denot = record { ptr = block_ptr b o; alloc = a } in let Took = (get_cell d.cells (number_of id) ≡ Some (id.block, x)) × (room.ptr ≡ id.block) × (new.cells ≡ remove d.cells (number_of id)) in
    use1 𝓛 (‵ (froom (layout T) b o)) (𝓛.laws.at_room (layout T) b o v) $ as_raw ! (layout T) b o $ move ! (0 ∷ 2 ∷ 8 ∷ []) $ rewrite ! 1 (λ (p : Ptr). ‵ (chunk (bare (lone R.mir)) p)) e refl $ room_made R ! a b o $ move ! (1 ∷ 0 ∷ []) $
    use2 𝓛 (‵ ((Tuple (R ∷ Room R ∷ [])).own_val (x, room) (pair_val v (room_val b o) ∷ []))) (pair_of 𝓛 R (Room R) x room v (room_val b o)) $
    use0 𝓛 (raw (fact 𝓤 Took)) (fact_i 𝓤 Took (emp 𝓤) (asked.at, sym e, refl)) $
    -- [the `ensures`; the result; obs; the borrow; a token; another; nothing]
    move ! (5 ∷ 6 ∷ []) $ join ! $ move ! (5 ∷ 0 ∷ []) $ join ! $ move ! (3 ∷ 4 ∷ []) $ feq_i ! (List Val) z.0.4.0 (w ∷ []) e0 $ fjoin3 ! $
    nothing ! $ nothing ! $ fjoin ! $ nothing ! $ fjoin ! $ move ! (1 ∷ 0 ∷ []) $ fjoin ! $
    keep ! (1 ∷ 0 ∷ 3 ∷ 2 ∷ []) $ by ! (leaves 𝓛 En hs c z (pair_val v (room_val b o)) (x, room) (new, (tt, (tt, tt))) (tt, (tt, (tt, tt)))))))))))))
