-- `new` makes a value of no bytes. Assumes `Logic`.
use Rattle.std.proofs.Common.{◌≡◌, [], ◌∷◌, refl}
use mir.Syntax.{a_type}
use mir.MapTy.{inst_fn}
use mir.Val.{Val, vstruct, vnil}
use base.Logic.{SProp, emp}
use base.Fml.{ftrue, flft}
use types.Kit.{‵, raw, ◌⊛◌, ◌$◌, ◌∵◌, !, qed, by, keep, use0, split, fjoin}
use types.Part.{agg}
use types.Run.{and_then, no_more, returns, enter}
use types.ByLocal.{alloc_all, pass_all, free_all, look_at, get, sets}
use contract.Monad.{fact, fact_i}
use contract.Running.{tables}
use denote.RattleType.{RattleType}
use denote.Shadow.{makes_shadow}
use denote.Param.{param, layouts}
use denote.Steps.{nothing}
use denote.Triple.Walked.{Stays, walk_of}
use Rattle.std.proofs.raw_atomic.Walks.{proved_at, leaves}
use Rattle.std.specs.FinMap.{empty, entries}
use Rattle.radix_nodes.specs.Owning.{all_own}
use Rattle.radix_nodes.proofs.Memory.{Mark, mark, owns_none}
use Rattle.radix_nodes.specs.contracts.blocks.Blocks as holder
use Rattle.radix_nodes.specs.contracts.blocks.Blocks.new.{ended, clauses}
use Rattle.radix_nodes.specs.contracts.blocks.Blocks.new.Key.{name as #self}
use Rattle.radix_nodes.proofs.blocks.Blocks.new.Statement.{statement}
use Rattle.radix_nodes.proofs.blocks.Blocks.new.Code as code

pub new_spec : {M : Type 1} → statement M
new_spec 𝓤 𝓛 𝓜 𝓡 wired T L =
    let H = 𝓛.H in let 𝓣 = tables 𝓤 H 𝓜 𝓡 𝓡.env in let R : RattleType = param 0 T in let En = ended T in let c = clauses T 𝓛 𝓜.mem 𝓡.returns in
    let at = layouts (a_type ∷ []) (T, tt) in let fn = inst_fn at code.function in let hs : Stays En.signature.params En.kept = tt in
    proved_at 𝓛 En hs c 𝓜 𝓡 tt (#self at) fn (code.unfolded 𝓤 H 𝓜 𝓡 wired (T, tt)) (λ z are.
    let Post : Val → SProp 𝓤 = (walk_of 𝓛 En hs c).post z in let B = holder.the_row R in
    let made : B.Denot = record { mark = record {}; cells = empty } in let Empty = made.cells ≡ empty in
    qed 𝓛 (((‵ (flft z.0.0.0 z.0.1.0) ⊛ ‵ ftrue) ⊛ ‵ ftrue) ∷ raw ((c z.0.0 z.0.3).requires z.1) ∷ []) ∵ split ! $ keep ! (0 ∷ []) $
    enter ! 𝓣.C 𝓣.Λ fn [] Post $ alloc_all ! (λ l. pass_all ! refl tt $
    sets ! (agg ! (no_more !)) refl (tt, tt) $ sets ! (agg ! (and_then ! (get ! refl) (no_more !))) refl (tt, (tt, tt)) $
    returns ! (look_at ! 0 refl) $ free_all ! refl $
    use0 𝓛 (‵ (all_own R (entries made.cells))) (owns_none R 𝓛) $ use0 𝓛 (‵ ((Mark R).own_val (tt, tt) (mark ∷ []))) (makes_shadow 𝓛 ((Mark R).own_val (tt, tt) (mark ∷ [])) (λ vss. (tt, ((λ uss. (tt, tt)), tt))) ((vstruct vnil ∷ [], tt), (refl, ((tt, (refl, tt)), tt)))) $ fjoin ! $
    use0 𝓛 (raw (fact 𝓤 Empty)) (fact_i 𝓤 Empty (emp 𝓤) refl) $ nothing ! $ keep ! (3 ∷ 0 ∷ 2 ∷ 1 ∷ []) $ by ! (leaves 𝓛 En hs c z mark made tt tt)))
