-- `of` makes a value of no bytes, whose ghost field is what the reference shows. Assumes `Logic`.
use Rattle.std.proofs.Common.{◌≡◌, List, [], ◌∷◌, ◌++◌, refl, sym, subst}
use mir.Val.{Val, vptr, vstruct, vnil}
use base.Logic.{SProp, ent, emp, id⊢}
use base.Fml.{ftrue, flft}
use prog.Wp.{WpFn}
use types.Kit.{‵, raw, ◌⊛◌, ◌$◌, ◌∵◌, !, qed, by, keep, use0, split, fjoin, feq_i, fpack, suffices}
use types.Part.{agg}
use types.Run.{no_more, returns, enter}
use types.ByLocal.{alloc_all, pass_all, free_all, look_at, sets}
use contract.Monad.{fact, fact_i}
use contract.Running.{tables}
use denote.Builtin.{RefOf}
use denote.Exit.{yes}
use denote.RattleType.{Valss, owns}
use denote.Signature.{types_at, plain}
use denote.Steps.{nothing}
use denote.Struct.Struct.{within}
use denote.Struct.Owning.{shape}
use denote.Triple.Walked.{Stays, stay_dropped, walk_of, Goes-dropped}
use Rattle.std.proofs.raw_atomic.Walks.{proved_at, leaves}
use Rattle.memory.specs.contracts.memory.Memory.{the_row as R}
use Rattle.hoiskend.specs.contracts.count.Count.{the_row as B}
use Rattle.hoiskend.specs.contracts.count.Count as count
use Rattle.hoiskend.specs.contracts.count.Count.of.{ended, clauses}
use Rattle.hoiskend.specs.contracts.count.Count.of.Key.{name as #self}
use Rattle.hoiskend.proofs.count.Count.of.Statement.{statement}
use Rattle.hoiskend.proofs.count.Count.of.Code as code

pub of_spec : {M : Type 1} → statement M
of_spec 𝓤 𝓛 𝓜 𝓡 wired =
    let H = 𝓛.H in let 𝓣 = tables 𝓤 H 𝓜 𝓡 𝓡.env in let c = clauses 𝓛 𝓜.mem 𝓡.returns in let fn = code.function in
    let hs : Stays ended.signature.params ended.kept = (stay_dropped (RefOf (0 ∷ []) tt (plain (λ _. R)) (λ _. tt)) yes, tt) in
    proved_at 𝓛 ended hs c 𝓜 𝓡 (Goes-dropped 𝓛 1 (RefOf (0 ∷ []) tt (plain (λ _. R)) (λ _. tt)) yes (λ κs x f. refl), tt)
    #self fn (code.unfolded 𝓤 H 𝓜 𝓡 wired) (λ z are.
    let κs = z.0.0 in let qs = z.0.1 in let memory = z.0.3.0 in
    let Post : Val → SProp 𝓤 = (walk_of 𝓛 ended hs c).post z in let Run : List Val → SProp 𝓤 = λ ws. WpFn 𝓤 H 𝓣.C 𝓣.Λ fn ws Post in
    let w = vptr memory.ref_ptr.0 memory.ref_ptr.1 in let v : Val = vstruct vnil in let new : B.Denot = record { number = memory.now } in
    qed 𝓛 (((‵ (flft κs.0 qs.0) ⊛ ‵ ftrue) ⊛ ‵ (owns (types_at ended.signature.params κs) z.0.3 z.0.4)) ∷ raw ((c κs z.0.3).requires z.1) ∷ []) ∵
    split ! $ keep ! (0 ∷ []) $
    suffices ! (Run (w ∷ [])) (subst (λ (us : List Val). ent 𝓤 (Run (w ∷ [])) (Run us)) (sym (λ i. are.0.0 i ++ [])) (id⊢ 𝓤 _)) $
    enter ! 𝓣.C 𝓣.Λ fn (w ∷ []) Post $ alloc_all ! (λ l. pass_all ! refl ((tt, tt), tt) $
    sets ! (agg ! (no_more !)) refl (tt, tt) $ returns ! (look_at ! 0 refl) $ free_all ! refl $
    let Said = new.number ≡ memory.now in
    use0 𝓛 (raw (fact 𝓤 Said)) (fact_i 𝓤 Said (emp 𝓤) refl) $
    nothing ! $ nothing ! $ feq_i ! (List Val) (v ∷ []) (v ∷ []) refl $ fjoin ! $
    fpack ! (Valss []) (within (shape count.the_type) tt (v ∷ [])) tt $ fjoin ! $
    -- [the result; the `ensures`; the tokens]
    nothing ! $ nothing ! $ fjoin ! $ keep ! (3 ∷ 0 ∷ 1 ∷ 2 ∷ []) $ by ! (leaves 𝓛 ended hs c z v new (tt, tt) (tt, tt))))
