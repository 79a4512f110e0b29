-- `apart` gives an empty block back, and what it and the blocks own tells that it is none of them. Assumes `Logic`.
use Rattle.std.proofs.Common.{◌≡◌, ◌<◌, None, List, [], ◌∷◌, ◌++◌, refl, sym, subst}
use mir.Syntax.{a_type}
use mir.MapTy.{inst_fn}
use mir.Val.{Val, vptr}
use base.Logic.{SProp, ent, emp, id⊢, guard_i}
use base.Fml.{ftrue, flft}
use prog.Wp.{WpFn}
use prog.Memory.{size}
use types.Kit.{‵, raw, ◌⊛◌, given, ◌$◌, ◌∵◌, !, qed, by, move, keep, use0, use1, use2, split, split3, join, fsplit, fsplit3, fjoin, fjoin3, feq_i, feq_l, learn, rewrite, suffices}
use types.Run.{of_opd, returns, enter}
use types.ByLocal.{alloc_all, pass_all, free_all, look_at, get, sets}
use contract.BorrowLft.{◌⊑◌}
use contract.Monad.{fact, fact_i, fact_use}
use contract.Running.{tables}
use denote.Exit.{no}
use denote.RattleType.{RattleType, owns}
use denote.Signature.{types_at, plain}
use denote.Param.{param, layout, layouts}
use denote.Steps.{nothing, opens, closes, heard}
use denote.Triple.Walked.{Stays, stay_dropped, stay_ref, walk_of, Goes-ref}
use Rattle.core.proofs.alloc.Calls.{Goes-blank}
use Rattle.std.proofs.raw_atomic.Walks.{proved_at, leaves}
use Rattle.std.specs.FinMap.{entries, get as get_cell}
use Rattle.radix_nodes.specs.At.{AreStarts, IsStart}
use Rattle.radix_nodes.specs.Owning.{all_own}
use Rattle.radix_nodes.specs.Naming.{number_at}
use Rattle.radix_nodes.proofs.Memory.{Room, room_val, room_good}
use Rattle.radix_nodes.proofs.Apart.{IsAtStart, at_start, room_free}
use Rattle.radix_nodes.specs.contracts.blocks.Blocks as holder
use Rattle.radix_nodes.specs.contracts.blocks.Blocks.apart.{ended, clauses}
use Rattle.radix_nodes.specs.contracts.blocks.Blocks.apart.Key.{name as #self}
use Rattle.radix_nodes.proofs.blocks.Blocks.apart.Statement.{statement}
use Rattle.radix_nodes.proofs.blocks.Blocks.apart.Code as code

pub apart_spec : {M : Type 1} → statement M
apart_spec 𝓤 𝓛 𝓜 𝓡 wired T L =
    let H = 𝓛.H in let 𝓣 = tables 𝓤 H 𝓜 𝓡 𝓡.env in let R : RattleType = param 0 T in let En = ended T in let c = clauses T 𝓛 𝓜.mem 𝓡.returns in
    let at = layouts (a_type ∷ []) (T, tt) in let fn = inst_fn at code.function in let B = holder.the_row R in
    let hs : Stays En.signature.params En.kept = (stay_ref (0 ∷ []) tt (plain (λ _. B)), (stay_dropped (plain (λ _. Room R)) no, tt)) in
    proved_at 𝓛 En hs c 𝓜 𝓡 (Goes-ref 𝓛 2 0 tt (plain (λ _. B)), (Goes-blank 𝓛 2 (plain (λ _. Room R)) no (λ κs x f. tt), tt))
    (#self at) fn (code.unfolded 𝓤 H 𝓜 𝓡 wired (T, tt)) (λ z are.
    let κs = z.0.0 in let qs = z.0.1 in let self = z.0.3.0 in let room = z.0.3.1.0 in let d = self.now in
    let Post : Val → SProp 𝓤 = (walk_of 𝓛 En hs c).post z in let Run : List Val → SProp 𝓤 = λ ws. WpFn 𝓤 H 𝓣.C 𝓣.Λ fn ws Post in
    let rb = self.ref_ptr.0 in let ro = self.ref_ptr.1 in let w = vptr rb ro in let us = z.0.4.1.0 in
    qed 𝓛 (((‵ (flft κs.0 qs.0) ⊛ ‵ (flft κs.1.0 qs.1.0) ⊛ ‵ ftrue) ⊛ ‵ (owns (types_at En.signature.params κs) z.0.3 z.0.4)) ∷ raw ((c κs z.0.3).requires z.1) ∷ []) ∵
    move ! (1 ∷ []) $ use1 𝓛 (raw (fact 𝓤 (κs.1.0 ⊑ T.lives)) ⊛ raw (fact 𝓤 (AreStarts d.cells × (0 < size (layout T))))) (id⊢ 𝓤 _) $ split ! $ heard ! _ (λ _. heard ! _ (λ asked.
    split ! $ move ! (1 ∷ []) $ fsplit ! $ fsplit3 ! $ feq_l ! (λ e0. move ! (2 ∷ []) $ fsplit ! $
    let Started = IsAtStart T L 𝓛 room us in
    use1 𝓛 (given Started (‵ ((Room R).own_val room us))) (fact_use 𝓤 Started (at_start T L 𝓛 room us) (λ p. guard_i 𝓤 Started _ p)) $ learn ! (λ start.
    let b = start.0 in move ! (4 ∷ []) $ split3 ! $
    suffices ! (Run (w ∷ room_val b 0 ∷ [])) (subst (λ (ws : List Val). ent 𝓤 (Run (w ∷ room_val b 0 ∷ [])) (Run ws)) (sym (λ i. e0 i ++ (start.2 i ++ []))) (id⊢ 𝓤 _)) $
    enter ! 𝓣.C 𝓣.Λ fn (w ∷ room_val b 0 ∷ []) Post $ alloc_all ! (λ l. pass_all ! refl ((tt, tt), (room_good R b 0, tt)) $
    -- [a token; another; nothing; the empty block; nothing; obs; the borrow]
    move ! (5 ∷ 6 ∷ 0 ∷ []) $ opens ! tt B {h = d} rb ro (λ vs. move ! (1 ∷ []) $ fsplit ! $ move ! (1 ∷ 8 ∷ []) $
    let Free = get_cell d.cells (number_at room.ptr) ≡ None in
    use2 𝓛 (given Free (‵ (all_own R (entries d.cells)) ⊛ ‵ ((Room R).own_val room us))) (fact_use 𝓤 Free (room_free T L 𝓛 𝓜 asked.1 d.cells room us asked.0) (λ p. guard_i 𝓤 Free _ p)) $ learn ! (λ free. split ! $
    move ! (2 ∷ 0 ∷ []) $ fjoin ! $ move ! (2 ∷ 0 ∷ 3 ∷ 4 ∷ 5 ∷ []) $ closes ! tt B d vs rb ro $
    sets ! (of_opd ! (get ! refl)) refl (room_good R b 0) $ returns ! (look_at ! 0 refl) $ free_all ! refl $ move ! (3 ∷ []) $ rewrite ! 0 (λ (ws : List Val). ‵ ((Room R).own_val room ws)) start.2 refl $
    let Apart = (room ≡ room) × IsStart room.ptr × Free × (d ≡ d) in
    use0 𝓛 (raw (fact 𝓤 Apart)) (fact_i 𝓤 Apart (emp 𝓤) (refl, (b, start.1), free, refl)) $
    -- [the `ensures`; the result; obs; the borrow; a token; another; nothing]
    move ! (5 ∷ 6 ∷ []) $ join ! $ move ! (5 ∷ 0 ∷ []) $ join ! $ move ! (3 ∷ 4 ∷ []) $ feq_i ! (List Val) z.0.4.0 (w ∷ []) e0 $ fjoin3 ! $
    nothing ! $ nothing ! $ fjoin ! $ move ! (1 ∷ 0 ∷ []) $ fjoin ! $
    keep ! (1 ∷ 0 ∷ 3 ∷ 2 ∷ []) $ by ! (leaves 𝓛 En hs c z (room_val b 0) room (d, (tt, tt)) (tt, (tt, tt)))))))))))
