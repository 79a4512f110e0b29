-- `get` shows one value that the blocks lend. Assumes `Logic`.
use Rattle.std.proofs.Common.{◌≡◌, Some, List, [], ◌∷◌, ◌++◌, refl, sym, ap, ◌∙◌, subst}
use mir.Syntax.{a_type}
use mir.MapTy.{inst_fn}
use mir.Val.{Val, vptr}
use base.Logic.{SProp, ent, emp, never, id⊢, fst∗}
use base.Fml.{ftrue, flft}
use prog.Wp.{WpFn}
use types.Logic.{sem}
use types.Kit.{‵, raw, ◌⊛◌, at_ret, ◌$◌, ◌∵◌, !, qed, by, move, keep, drop, use0, use1, split, fsplit, fjoin, feq_i, feq_l, suffices}
use types.Part.{whole, sub}
use types.Run.{stop, fld, of_opd, addr, first, blocks, exec, returns, enter}
use types.ByLocal.{alloc_all, pass_all, free_all, look_at, get, get_in, through, sets, sets_last, is, env}
use contract.Monad.{fact, fact_i}
use contract.Running.{tables}
use contract.BorrowLft.{◌⊑◌}
use Rattle.radix_nodes.specs.At.{IsAt}
use denote.Exit.{yes}
use denote.RattleType.{RattleType, owns}
use denote.Signature.{types_at, plain}
use denote.Builtin.{RefOf}
use denote.Opens.{hide, unhide}
use denote.Param.{param, layouts}
use denote.RawPtr.{ptr_val, in_a_block}
use denote.Steps.{nothing, heard}
use denote.Struct.Lending.{lent_at}
use denote.Triple.Walked.{Stays, stay_dropped, walk_of, Goes-dropped}
use Rattle.std.proofs.raw_atomic.Walks.{proved_at, leaves}
use Rattle.std.specs.FinMap.{entries, get as get_cell, get-entries}
use Rattle.std_alloc.proofs.VecSteps.Shapes.{after}
use Rattle.radix_nodes.proofs.Memory.{id_val, id_good, lent_out}
use Rattle.radix_nodes.proofs.id.Id.TheLaws.{lowers}
use Rattle.radix_nodes.specs.contracts.id.Id as name
use Rattle.radix_nodes.specs.contracts.blocks.Blocks as holder
use Rattle.radix_nodes.specs.contracts.blocks.Blocks.get.{ended, clauses}
use Rattle.radix_nodes.specs.contracts.blocks.Blocks.get.Key.{name as #self}
use Rattle.radix_nodes.proofs.blocks.Blocks.get.Statement.{statement}
use Rattle.radix_nodes.proofs.blocks.Blocks.get.Code as code
use Rattle.radix_nodes.specs.Naming.{number_of}

pub get_spec : {M : Type 1} → statement M
get_spec 𝓤 𝓛 𝓜 𝓡 wired T L =
    let H = 𝓛.H in let 𝓣 = tables 𝓤 H 𝓜 𝓡 𝓡.env in let R : RattleType = param 0 T in let En = ended T in let c = clauses T 𝓛 𝓜.mem 𝓡.returns in
    let at = layouts (a_type ∷ []) (T, tt) in let fn = inst_fn at code.function in
    let Self = RefOf (0 ∷ []) tt (plain (λ _. holder.the_row R)) (λ _. tt) in
    let hs : Stays En.signature.params En.kept = (stay_dropped Self yes, (stay_dropped (plain (λ _. name.the_row)) yes, tt)) in
    proved_at 𝓛 En hs c 𝓜 𝓡 (Goes-dropped 𝓛 2 Self yes (λ κs x f. refl), (Goes-dropped 𝓛 2 (plain (λ _. name.the_row)) yes (λ κs x f. refl), tt)) (#self at) fn (code.unfolded 𝓤 H 𝓜 𝓡 wired (T, tt)) (λ z are.
    let κs = z.0.0 in let qs = z.0.1 in let self = z.0.3.0 in let id = z.0.3.1.0 in
    let Post : Val → SProp 𝓤 = (walk_of 𝓛 En hs c).post z in let Run : List Val → SProp 𝓤 = λ ws. WpFn 𝓤 H 𝓣.C 𝓣.Λ fn ws Post in
    let toks = ‵ (flft κs.0 qs.0) ⊛ ‵ (flft κs.1.0 qs.1.0) ⊛ ‵ ftrue in let w = vptr self.ref_ptr.0 self.ref_ptr.1 in let v = id_val id.block in
    qed 𝓛 ((toks ⊛ ‵ (owns (types_at En.signature.params κs) z.0.3 z.0.4)) ∷ raw ((c κs z.0.3).requires z.1) ∷ []) ∵
    move ! (1 ∷ []) $ use1 𝓛 (raw (fact 𝓤 (κs.1.0 ⊑ T.lives)) ⊛ raw (fact 𝓤 (IsAt self.now.cells (number_of id) id.block))) (id⊢ 𝓤 _) $ split ! $ heard ! _ (λ _. heard ! _ (λ asked.
    let x = asked.value in let held = sym (get-entries self.now.cells (number_of id)) ∙ asked.at in
    split ! $ move ! (1 ∷ []) $ fsplit ! $ fsplit ! $ feq_l ! (λ e0. move ! (1 ∷ []) $ drop ! $
    let e1 = lowers.val_is id z.0.4.1.0 are.1.0 in
    suffices ! (Run (w ∷ v ∷ [])) (subst (λ (us : List Val). ent 𝓤 (Run (w ∷ v ∷ [])) (Run us)) (sym (λ i. e0 i ++ (e1 i ++ []))) (id⊢ 𝓤 (Run (w ∷ v ∷ [])))) $
    enter ! 𝓣.C 𝓣.Λ fn (w ∷ v ∷ []) Post $ alloc_all ! (λ l. pass_all ! refl ((tt, tt), (id_good id.block, tt)) $
    unhide ! $ fsplit ! $ drop ! $ use1 𝓛 (‵ (lent_at R id.block x κs.0)) (lent_out R 𝓛 κs.0 (number_of id) (id.block, x) (entries self.now.cells) held) $
    in_a_block ! id.block (λ p. lent_at R p x κs.0) (fst∗ 𝓤 (never 𝓤) (sem 𝓛 (T.shr_at x 0 0 κs.0))) (λ b o e.
    first ! $ blocks ! $ sets ! (is ! (of_opd ! (get_in ! (fld ! refl (stop !)) (sub ! 0 refl (whole !)))) (ap ptr_val e)) refl (tt, tt) $
    sets_last ! (addr ! (through ! refl (stop !))) refl (tt, tt) $
    exec ! 𝓣.C 𝓣.Λ (env fn.locals l) (after 1 fn.body) (at_ret (env fn.locals l) Post) $ sets ! (of_opd ! (get ! refl)) refl (tt, tt) $
    fsplit ! $ drop ! $ hide ! $ feq_i ! (List Val) (vptr b o ∷ []) (vptr b o ∷ []) refl $ fjoin ! $ returns ! (look_at ! 0 refl) $ free_all ! refl $
    let Found = get_cell self.now.cells (number_of id) ≡ Some (id.block, x) in
    use0 𝓛 (raw (fact 𝓤 Found)) (fact_i 𝓤 Found (emp 𝓤) asked.at) $ nothing ! $ nothing ! $ fjoin ! $ nothing ! $ fjoin ! $
    keep ! (3 ∷ 0 ∷ 2 ∷ 1 ∷ []) $ by ! (leaves 𝓛 En hs c z (vptr b o) (record { ref_ptr = (b, o); now = x }) (tt, (tt, tt)) (tt, (tt, tt)))))))))
