-- `lay` writes the session into its block, which the handle owns from then on. Assumes `Logic`.
use Rattle.std.proofs.Common.{◌≡◌, Some, List, [], ◌∷◌, ◌++◌, refl, sym, subst}
use mir.Val.{Val, vptr, vunit}
use base.Fraction.{full_share}
use base.Logic.{SProp, ent, emp, id⊢}
use base.Fml.{ftrue, flft}
use borrow.Table.OneValue.{part_in}
use prog.Wp.{WpFn}
use types.Kit.{‵, raw, ◌⊛◌, at_ret, ◌$◌, ◌∵◌, !, qed, by, move, keep, drop, use0, use2, split, join, fsplit, fsplit3, fjoin, fjoin3, feq_i, feq_l, rewrite, suffices}
use types.Part.{whole, sub, store_in}
use types.Run.{init, stop, fld, of_opd, unit_lit, assigns, assigns_last, first, blocks, exec, returns, enter}
use types.ByLocal.{alloc_all, pass_all, free_all, look_at, get, get_in, through, sets, env}
use contract.Monad.{fact, fact_i}
use contract.Running.{tables}
use denote.Exit.{yes, no}
use denote.Laws.{shows}
use denote.Memory.{part_at, cell_at, lone}
use denote.RattleType.{owns}
use denote.Signature.{types_at, plain}
use denote.RawPtr.{block_ptr}
use denote.Steps.{nothing, opens, closes, peeks}
use denote.Triple.Walked.{Stays, stay_dropped, stay_ref, walk_of, Goes-dropped, Goes-ref}
use Rattle.core.proofs.alloc.Calls.{Goes-blank}
use Rattle.std.proofs.raw_atomic.Walks.{proved_at, leaves}
use Rattle.std_alloc.proofs.RawLayout.{as_written}
use Rattle.std_alloc.proofs.VecSteps.Shapes.{after}
use Rattle.hoiskend.specs.contracts.held.Held.{the_row as R}
use Rattle.hoiskend.proofs.Memory.{handle_val, field_made, Room, room_val, room_had, room_good, value_tells}
use Rattle.hoiskend.proofs.handle.Handle.TheLaws.{lowers}
use Rattle.hoiskend.specs.contracts.handle.Handle.{the_row as B}
use Rattle.hoiskend.specs.contracts.handle.Handle.lay.{ended, clauses}
use Rattle.hoiskend.specs.contracts.handle.Handle.lay.Key.{name as #self}
use Rattle.hoiskend.proofs.handle.Handle.lay.Statement.{statement}
use Rattle.hoiskend.proofs.handle.Handle.lay.Code as code

pub lay_spec : {M : Type 1} → statement M
lay_spec 𝓤 𝓛 𝓜 𝓡 wired =
    let H = 𝓛.H in let 𝓣 = tables 𝓤 H 𝓜 𝓡 𝓡.env in let c = clauses 𝓛 𝓜.mem 𝓡.returns in let fn = code.function in
    let hs : Stays ended.signature.params ended.kept = (stay_ref (0 ∷ []) tt (plain (λ _. B)), (stay_dropped (plain (λ _. Room)) no, (stay_dropped (plain (λ _. R)) yes, tt))) in
    proved_at 𝓛 ended hs c 𝓜 𝓡 (Goes-ref 𝓛 1 0 tt (plain (λ _. B)), (Goes-blank 𝓛 1 (plain (λ _. Room)) no (λ κs x f. tt), (Goes-dropped 𝓛 1 (plain (λ _. R)) yes (λ κs x f. refl), tt)))
    #self fn (code.unfolded 𝓤 H 𝓜 𝓡 wired) (λ z are.
    let κs = z.0.0 in let qs = z.0.1 in let self = z.0.3.0 in let room = z.0.3.1.0 in let x = z.0.3.1.1.0 in let d = self.now in
    let Post : Val → SProp 𝓤 = (walk_of 𝓛 ended hs c).post z in let Run : List Val → SProp 𝓤 = λ ws. WpFn 𝓤 H 𝓣.C 𝓣.Λ fn ws Post in
    let rb = self.ref_ptr.0 in let ro = self.ref_ptr.1 in let told = value_tells 𝓛 x z.0.4.1.1.0 are.1.1.0 in let v = told.0 in
    qed 𝓛 (((‵ (flft κs.0 qs.0) ⊛ ‵ ftrue) ⊛ ‵ (owns (types_at ended.signature.params κs) z.0.3 z.0.4)) ∷ raw ((c κs z.0.3).requires z.1) ∷ []) ∵
    move ! (1 ∷ []) $ drop ! $ split ! $ move ! (1 ∷ []) $ fsplit ! $ fsplit3 ! $ feq_l ! (λ e0. move ! (2 ∷ []) $ fsplit ! $
    room_had ! room z.0.4.1.0 (λ b o e e2. move ! (2 ∷ []) $ fsplit ! $ rewrite ! 0 (λ (us : List Val). ‵ (R.own_val x us)) told.1.0 refl $
    let w = vptr rb ro in
    suffices ! (Run (w ∷ room_val b o ∷ v ∷ [])) (subst (λ (us : List Val). ent 𝓤 (Run (w ∷ room_val b o ∷ v ∷ [])) (Run us)) (sym (λ i. e0 i ++ (e2 i ++ (told.1.0 i ++ [])))) (id⊢ 𝓤 _)) $
    enter ! 𝓣.C 𝓣.Λ fn (w ∷ room_val b o ∷ v ∷ []) Post $ alloc_all ! (λ l. pass_all ! refl ((tt, tt), (room_good b o, (told.1.1, tt))) $
    let En' = env fn.locals l in let p = block_ptr b o in let new : B.Denot = record { at = p; session = Some x } in
    -- [what the value owns; nothing; the room; the right to free; obs; the borrow; the tokens]
    move ! (2 ∷ []) $ as_written ! (lone R.mir) b o $
    sets ! (of_opd ! (get_in ! (fld ! refl (stop !)) (sub ! 0 refl (whole !)))) refl (tt, tt) $
    first ! $ blocks ! $ sets ! (of_opd ! (get ! refl)) refl told.1.1 $ assigns_last ! (of_opd ! (get ! refl)) (through ! refl (stop !)) (init ! 0 refl told.1.1) $
    exec ! 𝓣.C 𝓣.Λ En' (after 2 fn.body) (at_ret En' Post) $ sets ! (of_opd ! (get ! refl)) refl (tt, tt) $
    -- [the cell; what the session owns; nothing; the right to free; obs; the borrow; the tokens]
    use2 𝓛 (‵ (part_at R full_share x b o)) (part_in 𝓛 R refl full_share x b o v) $ move ! (0 ∷ 2 ∷ []) $ fjoin ! $ move ! (4 ∷ []) $ split ! $ move ! (4 ∷ 5 ∷ 0 ∷ []) $
    opens ! tt B {h = d} rb ro (λ vs. move ! (1 ∷ []) $ peeks ! B _ (shows 𝓛 B) d vs (λ is. fsplit ! $
    -- [what the field owns; what the handle owned; the handle's cell; the open borrow, in three entries; nothing; what
    -- it owns now; nothing]
    let word = lowers.val_is d vs is in rewrite ! 2 (λ (us : List Val). ‵ (cell_at full_share B.mir us rb ro)) word refl $
    assigns ! (of_opd ! (get ! refl)) (through ! refl (fld ! refl (stop !))) (store_in ! 2 (sub ! 0 refl (whole !)) (tt, tt)) $
    sets ! (of_opd ! (unit_lit !)) refl (tt, tt) $
    drop ! $ drop ! $ move ! (5 ∷ []) $ field_made ! (block_ptr b o) $ fjoin ! $ move ! (1 ∷ []) $ closes ! tt B new (handle_val (block_ptr b o) ∷ []) rb ro $
    returns ! (look_at ! 0 refl) $ free_all ! refl $
    let Laid = new.session ≡ Some x in
    feq_i ! _ (vunit ∷ []) _ refl $ use0 𝓛 (raw (fact 𝓤 Laid)) (fact_i 𝓤 Laid (emp 𝓤) refl) $
    -- [the `ensures`; the result; obs; the borrow; a token; nothing]
    move ! (4 ∷ 5 ∷ []) $ join ! $ move ! (3 ∷ 4 ∷ []) $ feq_i ! (List Val) z.0.4.0 (w ∷ []) e0 $ fjoin3 ! $
    nothing ! $ nothing ! $ fjoin ! $ nothing ! $ fjoin ! $ move ! (1 ∷ 0 ∷ []) $ fjoin ! $
    keep ! (1 ∷ 0 ∷ 3 ∷ 2 ∷ []) $ by ! (leaves 𝓛 ended hs c z vunit tt (new, (tt, (tt, tt))) (tt, (tt, (tt, tt))))))))))
