-- `lift` moves the session out of its block, which the handle owns no longer. Assumes `Logic`.
use Rattle.std.proofs.Common.{◌≡◌, Option, Some, None, List, [], ◌∷◌, ◌++◌, refl, sym, ap, ◌∙◌, subst}
use lib.Dec.{lit<}
use mir.Raw.{raw as bare}
use mir.Val.{Val, vptr}
use base.Fraction.{full_share}
use base.Logic.{SProp, ent, emp, never, id⊢}
use base.Fml.{ftrue, fat, froom, flft}
use prog.Wp.{WpFn}
use types.Kit.{‵, raw, ◌⊛◌, some, given, at_ret, ◌$◌, ◌∵◌, !, qed, by, move, keep, drop, use0, use1, use2, split, join, fsplit, fsplit3, fjoin, fjoin3, feq_i, feq_l, pick, learn, rewrite, suffices}
use types.Part.{whole, sub, agg, look_in, store_in}
use types.Run.{look, load, stop, fld, of_opd, and_then, no_more, lit, assigns, first, blocks, exec, returns, enter}
use types.ByLocal.{alloc_all, pass_all, free_all, look_at, get, through, sets, sets_last, env}
use contract.Monad.{fact, fact_i}
use contract.Running.{tables}
use denote.Exit.{yes}
use denote.Laws.{shows}
use denote.Memory.{cell_at, lone}
use denote.RattleType.{owns}
use denote.Signature.{types_at, plain}
use denote.RawPtr.{Ptr, block_ptr, null_ptr, lies_at, in_a_block}
use denote.Steps.{nothing, opens, closes, heard, peeks}
use denote.Struct.Tuple.{Tuple}
use denote.Triple.Walked.{Stays, stay_dropped, stay_ref, walk_of, Goes-dropped, Goes-ref}
use Rattle.core.proofs.cell.Inside.{Good}
use Rattle.std.proofs.raw_atomic.Walks.{proved_at, leaves}
use Rattle.std_alloc.proofs.Pairs.{pair_val, pair_Typed, pair_of}
use Rattle.std_alloc.proofs.RawLayout.{as_raw}
use Rattle.std_alloc.proofs.VecSteps.Shapes.{after}
use Rattle.std_heap.specs.contracts.Global as heap
use Rattle.std_heap.proofs.Global.TheLaws.{lowers as heap_lowers}
use Rattle.hoiskend.specs.Sessions.{Session}
use Rattle.hoiskend.specs.contracts.held.Held.{the_row as R}
use Rattle.hoiskend.specs.Open.{IsOpen}
use Rattle.hoiskend.specs.Owning.{chunk, may_own}
use Rattle.hoiskend.proofs.Memory.{handle_val, field_made, heap_val, Room, room_val, room_good, room_made, value_out}
use Rattle.hoiskend.proofs.handle.Handle.TheLaws.{lowers}
use Rattle.hoiskend.specs.contracts.handle.Handle.{the_row as B}
use Rattle.hoiskend.specs.contracts.handle.Handle.lift.{ended, clauses}
use Rattle.hoiskend.specs.contracts.handle.Handle.lift.Key.{name as #self}
use Rattle.hoiskend.proofs.handle.Handle.lift.Statement.{statement}
use Rattle.hoiskend.proofs.handle.Handle.lift.Code as code

pub lift_spec : {M : Type 1} → statement M
lift_spec 𝓤 𝓛 𝓜 𝓡 wired =
    let H = 𝓛.H in let 𝓣 = tables 𝓤 H 𝓜 𝓡 𝓡.env in let c = clauses 𝓛 𝓜.mem 𝓡.returns in let fn = code.function in
    let hs : Stays ended.signature.params ended.kept = (stay_ref (0 ∷ []) tt (plain (λ _. B)), (stay_dropped (plain (λ _. heap.the_row)) yes, tt)) in
    proved_at 𝓛 ended hs c 𝓜 𝓡 (Goes-ref 𝓛 1 0 tt (plain (λ _. B)), (Goes-dropped 𝓛 1 (plain (λ _. heap.the_row)) yes (λ κs x f. refl), tt))
    #self fn (code.unfolded 𝓤 H 𝓜 𝓡 wired) (λ z are.
    let κs = z.0.0 in let qs = z.0.1 in let self = z.0.3.0 in let a = z.0.3.1.0 in let d = self.now in
    let Post : Val → SProp 𝓤 = (walk_of 𝓛 ended hs c).post z in let Run : List Val → SProp 𝓤 = λ ws. WpFn 𝓤 H 𝓣.C 𝓣.Λ fn ws Post in
    let rb = self.ref_ptr.0 in let ro = self.ref_ptr.1 in let w = vptr rb ro in let e2 = heap_lowers.val_is a z.0.4.1.0 are.1.0 in
    qed 𝓛 (((‵ (flft κs.0 qs.0) ⊛ ‵ ftrue) ⊛ ‵ (owns (types_at ended.signature.params κs) z.0.3 z.0.4)) ∷ raw ((c κs z.0.3).requires z.1) ∷ []) ∵
    move ! (1 ∷ []) $ use1 𝓛 (raw (fact 𝓤 (IsOpen d.session))) (id⊢ 𝓤 _) $ heard ! _ (λ asked.
    let x = asked.value in let new : B.Denot = record { at = null_ptr; session = None } in
    split ! $ move ! (1 ∷ []) $ fsplit ! $ fsplit3 ! $ feq_l ! (λ e0. move ! (2 ∷ []) $ fsplit ! $
    rewrite ! 0 (λ (us : List Val). ‵ (heap.the_row.own_val a us)) e2 refl $ move ! (4 ∷ []) $ split ! $
    suffices ! (Run (w ∷ heap_val ∷ [])) (subst (λ (us : List Val). ent 𝓤 (Run (w ∷ heap_val ∷ [])) (Run us)) (sym (λ i. e0 i ++ (e2 i ++ []))) (id⊢ 𝓤 _)) $
    enter ! 𝓣.C 𝓣.Λ fn (w ∷ heap_val ∷ []) Post $ alloc_all ! (λ l. pass_all ! refl ((tt, tt), ((tt, ((tt, tt), tt)), tt)) $
    let En' = env fn.locals l in
    -- [a token; nothing; what the allocator owns; nothing; obs; the borrow]
    move ! (4 ∷ 5 ∷ 0 ∷ []) $ opens ! tt B {h = d} rb ro (λ vs. move ! (1 ∷ []) $ peeks ! B _ (shows 𝓛 B) d vs (λ is. fsplit ! $ move ! (1 ∷ []) $
    rewrite ! 0 (λ (may : Option Session). ‵ (may_own d.at may)) asked.is refl $ fsplit ! $
    in_a_block ! d.at (λ p. lies_at R full_share p x) (id⊢ 𝓤 (never 𝓤)) (λ b o e.
    let word = lowers.val_is d vs is ∙ ap (λ (p : Ptr). lowers.lowered (record d { at = p }) ∷ []) e in
    let Cell = λ (us : List Val). ‵ (cell_at full_share B.mir us rb ro) in
    rewrite ! 3 Cell word refl $
    -- [the session; the right to free; what the field owns; the cell; the open borrow, in three entries; nothing; what
    -- the allocator owns; nothing]
    sets ! (of_opd ! (load ! (through ! refl (fld ! refl (stop !))) (look_in ! 3 (sub ! 0 refl (whole !))))) refl (tt, tt) $
    sets ! (of_opd ! (get ! refl)) refl (tt, tt) $
    use1 𝓛 (some (λ (v : Val). given (Good (lone R.mir) v) (‵ (fat full_share (lone R.mir) b o v) ⊛ ‵ (R.own_val x (v ∷ []))))) (value_out 𝓛 x b o) $ pick ! (λ v. learn ! (λ good. split ! $
    first ! $ blocks ! $ sets_last ! (of_opd ! (load ! (through ! refl (stop !)) (look ! 0 refl))) refl good $ exec ! 𝓣.C 𝓣.Λ En' (after 3 fn.body) (at_ret En' Post) $
    sets ! (of_opd ! (get ! refl)) refl good $
    assigns ! (of_opd ! (lit ! tt)) (through ! refl (fld ! refl (stop !))) (store_in ! 4 (sub ! 0 refl (whole !)) (tt, record { fits = lit< tt })) $
    -- [the block's cell; what the session owns; the right to free; what the field owned; the handle's cell; the open
    -- borrow, in three entries; ..]
    move ! (3 ∷ []) $ drop ! $ feq_i ! Ptr null_ptr null_ptr refl $ field_made ! null_ptr $ fjoin ! $ move ! (4 ∷ 0 ∷ 5 ∷ 6 ∷ 7 ∷ []) $
    closes ! tt B new (handle_val null_ptr ∷ []) rb ro $ move ! (3 ∷ 4 ∷ []) $
    sets ! (of_opd ! (get ! refl)) refl good $
    sets ! (agg ! (and_then ! (get ! refl) (and_then ! (get ! refl) (no_more !)))) refl (room_good b o) $
    sets ! (agg ! (and_then ! (get ! refl) (and_then ! (get ! refl) (no_more !)))) refl (pair_Typed (lone R.mir) (lone Room.mir) v (room_val b o) good (room_good b o)) $
    returns ! (look_at ! 0 refl) $ free_all ! refl $
    let room : Room.Denot = record { ptr = block_ptr b o; alloc = a } in let Took = (d.session ≡ Some x) × (new.session ≡ None) in
    use1 𝓛 (‵ (froom (lone R.mir) b o)) (𝓛.laws.at_room (lone R.mir) b o v) $ as_raw ! (lone R.mir) b o $ move ! (0 ∷ 5 ∷ 7 ∷ []) $
    rewrite ! 1 (λ (p : Ptr). ‵ (chunk (bare (lone R.mir)) p)) e refl $ room_made ! a b o $ move ! (1 ∷ 0 ∷ []) $
    use2 𝓛 (‵ ((Tuple (R ∷ Room ∷ [])).own_val (x, room) (pair_val v (room_val b o) ∷ []))) (pair_of 𝓛 R Room x room v (room_val b o)) $
    use0 𝓛 (raw (fact 𝓤 Took)) (fact_i 𝓤 Took (emp 𝓤) (asked.is, refl)) $
    -- [the `ensures`; the result; obs; the borrow; a token; nothing; nothing]
    move ! (4 ∷ 5 ∷ []) $ join ! $ move ! (3 ∷ 4 ∷ []) $ feq_i ! (List Val) z.0.4.0 (w ∷ []) e0 $ fjoin3 ! $
    nothing ! $ nothing ! $ fjoin ! $ move ! (1 ∷ 0 ∷ []) $ fjoin ! $
    keep ! (1 ∷ 0 ∷ 3 ∷ 2 ∷ []) $ by ! (leaves 𝓛 ended hs c z (pair_val v (room_val b o)) (x, room) (new, (tt, tt)) (tt, (tt, tt))))))))))))
