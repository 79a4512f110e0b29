-- `put` writes a value into an empty block, which the blocks own from then on. Assumes `Logic`.
use Rattle.std.proofs.Common.{◌≡◌, List, [], ◌∷◌, ◌++◌, refl, sym, subst}
use mir.Syntax.{a_type}
use mir.MapTy.{inst_fn}
use mir.Val.{Val, vptr}
use base.Fraction.{full_share}
use base.Logic.{SProp, ent, emp, id⊢}
use base.Fml.{ftrue, flft}
use borrow.Table.OneValue.{part_in}
use prog.Wp.{WpFn}
use types.Kit.{‵, raw, ◌⊛◌, at_ret, ◌$◌, ◌∵◌, !, qed, by, move, keep, drop, use0, use2, split, split3, join, fsplit, fsplit3, fjoin, fjoin3, feq_i, feq_l, rewrite, suffices}
use types.Part.{whole, sub, agg}
use types.Run.{init, stop, fld, of_opd, and_then, no_more, assigns_last, first, blocks, exec, returns, enter}
use types.ByLocal.{alloc_all, pass_all, free_all, look_at, get, get_in, through, sets, env}
use contract.Monad.{fact, fact_i}
use contract.Running.{tables}
use denote.Exit.{no}
use denote.Memory.{part_at}
use denote.RattleType.{RattleType, owns}
use denote.Signature.{types_at, plain}
use denote.Param.{param, layout, layouts}
use denote.RawPtr.{block_ptr}
use denote.Steps.{nothing, opens, closes}
use denote.Triple.Walked.{Stays, stay_dropped, stay_ref, walk_of, Goes-dropped, Goes-ref}
use Rattle.core.proofs.alloc.Calls.{Goes-blank}
use Rattle.std.proofs.raw_atomic.Walks.{proved_at, leaves}
use Rattle.std.specs.FinMap.{entries, insert}
use Rattle.std_alloc.proofs.RawLayout.{as_written}
use Rattle.std_alloc.proofs.VecSteps.Shapes.{after}
use Rattle.radix_nodes.specs.Owning.{all_own}
use Rattle.radix_nodes.proofs.Memory.{id_val, id_good, id_made, Room, room_val, room_had, room_good, value_tells, laid}
use Rattle.radix_nodes.specs.contracts.id.Id as name
use Rattle.radix_nodes.specs.contracts.blocks.Blocks as holder
use Rattle.radix_nodes.specs.contracts.blocks.Blocks.put.{ended, clauses}
use Rattle.radix_nodes.specs.contracts.blocks.Blocks.put.Key.{name as #self}
use Rattle.radix_nodes.proofs.blocks.Blocks.put.Statement.{statement}
use Rattle.radix_nodes.proofs.blocks.Blocks.put.Code as code
use Rattle.radix_nodes.specs.Naming.{number_at, number_of}

pub put_spec : {M : Type 1} → statement M
put_spec 𝓤 𝓛 𝓜 𝓡 wired T L =
    let H = 𝓛.H in let 𝓣 = tables 𝓤 H 𝓜 𝓡 𝓡.env in let R : RattleType = param 0 T in let En = ended T in let c = clauses T 𝓛 𝓜.mem 𝓡.returns in
    let at = layouts (a_type ∷ []) (T, tt) in let fn = inst_fn at code.function in let B = holder.the_row R in
    let hs : Stays En.signature.params En.kept = (stay_ref (0 ∷ []) tt (plain (λ _. B)), (stay_dropped (plain (λ _. Room R)) no, (stay_dropped (plain (λ _. R)) no, tt))) in
    proved_at 𝓛 En hs c 𝓜 𝓡 (Goes-ref 𝓛 2 0 tt (plain (λ _. B)), (Goes-blank 𝓛 2 (plain (λ _. Room R)) no (λ κs x f. tt), (Goes-dropped 𝓛 2 (plain (λ _. R)) no (λ κs x f. refl), tt)))
    (#self at) fn (code.unfolded 𝓤 H 𝓜 𝓡 wired (T, tt)) (λ z are.
    let κs = z.0.0 in let qs = z.0.1 in let self = z.0.3.0 in let room = z.0.3.1.0 in let x = z.0.3.1.1.0 in let d = self.now in
    let Post : Val → SProp 𝓤 = (walk_of 𝓛 En hs c).post z in let Run : List Val → SProp 𝓤 = λ ws. WpFn 𝓤 H 𝓣.C 𝓣.Λ fn ws Post in
    let rb = self.ref_ptr.0 in let ro = self.ref_ptr.1 in let told = value_tells T L 𝓛 x z.0.4.1.1.0 are.1.1.0 in let v = told.0 in
    qed 𝓛 (((‵ (flft κs.0 qs.0) ⊛ ‵ (flft κs.1.0 qs.1.0) ⊛ ‵ ftrue) ⊛ ‵ (owns (types_at En.signature.params κs) z.0.3 z.0.4)) ∷ raw ((c κs z.0.3).requires z.1) ∷ []) ∵
    move ! (1 ∷ []) $ drop ! $ split ! $ move ! (1 ∷ []) $ fsplit ! $ fsplit3 ! $ feq_l ! (λ e0. move ! (2 ∷ []) $ fsplit ! $
    room_had R ! room z.0.4.1.0 (λ b o e e2. move ! (2 ∷ []) $ fsplit ! $ rewrite ! 0 (λ (us : List Val). ‵ (R.own_val x us)) told.1.0 refl $
    let w = vptr rb ro in
    suffices ! (Run (w ∷ room_val b o ∷ v ∷ [])) (subst (λ (us : List Val). ent 𝓤 (Run (w ∷ room_val b o ∷ v ∷ [])) (Run us)) (sym (λ i. e0 i ++ (e2 i ++ (told.1.0 i ++ [])))) (id⊢ 𝓤 _)) $
    enter ! 𝓣.C 𝓣.Λ fn (w ∷ room_val b o ∷ v ∷ []) Post $ alloc_all ! (λ l. pass_all ! refl ((tt, tt), (room_good R b o, (told.1.1, tt))) $
    let En' = env fn.locals l in let p = block_ptr b o in let n = number_at p in let new : B.Denot = record { mark = d.mark; cells = insert d.cells n (p, x) } in
    move ! (2 ∷ []) $ as_written ! (layout T) b o $
    sets ! (of_opd ! (get_in ! (fld ! refl (stop !)) (sub ! 0 refl (whole !)))) refl (tt, tt) $
    first ! $ blocks ! $ sets ! (of_opd ! (get ! refl)) refl told.1.1 $ assigns_last ! (of_opd ! (get ! refl)) (through ! refl (stop !)) (init ! 0 refl told.1.1) $
    exec ! 𝓣.C 𝓣.Λ En' (after 2 fn.body) (at_ret En' Post) $ sets ! (of_opd ! (get ! refl)) refl (tt, tt) $
    sets ! (agg ! (and_then ! (get ! refl) (no_more !))) refl (id_good p) $
    -- [the cell; what the value owns; nothing; the right to free; obs; the borrow; the tokens]
    use2 𝓛 (‵ (part_at R full_share x b o)) (part_in 𝓛 R refl full_share x b o v) $ move ! (0 ∷ 2 ∷ []) $ fjoin ! $ move ! (4 ∷ []) $ split3 ! $ move ! (5 ∷ 6 ∷ 0 ∷ []) $
    opens ! tt B {h = d} rb ro (λ vs. move ! (1 ∷ []) $ fsplit ! $ move ! (8 ∷ 1 ∷ []) $
    use2 𝓛 (‵ (all_own R (entries (insert d.cells n (p, x))))) (laid R 𝓛 d.cells n (p, x)) $ move ! (1 ∷ 0 ∷ []) $ fjoin ! $ move ! (1 ∷ 0 ∷ []) $ closes ! tt B new vs rb ro $
    returns ! (look_at ! 0 refl) $ free_all ! refl $
    let id : name.the_row.Denot = record { block = p } in let Put = (id ≡ record { block = room.ptr }) × (new.cells ≡ insert d.cells (number_of id) (id.block, x)) in
    id_made ! p $ use0 𝓛 (raw (fact 𝓤 Put)) (fact_i 𝓤 Put (emp 𝓤) (λ i. record { block = sym e i }, refl)) $
    -- [the `ensures`; the result; obs; the borrow; a token; another; nothing]
    move ! (5 ∷ 6 ∷ []) $ join ! $ move ! (5 ∷ 0 ∷ []) $ join ! $ move ! (3 ∷ 4 ∷ []) $ feq_i ! (List Val) z.0.4.0 (w ∷ []) e0 $ fjoin3 ! $
    nothing ! $ nothing ! $ fjoin ! $ nothing ! $ fjoin ! $ move ! (1 ∷ 0 ∷ []) $ fjoin ! $
    keep ! (1 ∷ 0 ∷ 3 ∷ 2 ∷ []) $ by ! (leaves 𝓛 En hs c z (id_val p) id (new, (tt, (tt, tt))) (tt, (tt, (tt, tt)))))))))
