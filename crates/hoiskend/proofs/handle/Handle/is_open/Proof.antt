-- `is_open` compares the address with null, which it is where there is no session. Assumes `Logic`.
use Rattle.std.proofs.Common.{◌≡◌, Bool, not, is_some, List, [], ◌∷◌, ◌++◌, refl, sym, subst}
use mir.Val.{Val, vptr, vbool}
use base.Fraction.{full_share}
use base.Logic.{SProp, ent, emp, id⊢}
use base.Fml.{ftrue, flft}
use prog.Wp.{WpFn}
use types.Kit.{‵, raw, ◌⊛◌, ◌$◌, ◌∵◌, !, qed, by, move, keep, drop, use0, use1, split, join, fsplit, fsplit3, fjoin, fjoin3, feq_i, feq_l, rewrite, suffices}
use types.Part.{whole, sub, look_in}
use types.Run.{load, stop, fld, of_opd, bin, un, lit, returns, enter}
use types.ByLocal.{alloc_all, pass_all, free_all, look_at, get, through, sets, is}
use contract.Monad.{fact, fact_i}
use contract.Running.{tables}
use denote.Laws.{shows}
use denote.Memory.{cell_at}
use denote.RattleType.{owns}
use denote.Signature.{types_at, plain}
use denote.RawPtr.{tests_null}
use denote.Steps.{nothing, opens, closes, heard, peeks}
use denote.Triple.Walked.{Stays, stay_ref, walk_of, Goes-ref}
use Rattle.std.proofs.raw_atomic.Walks.{proved_at, leaves}
use Rattle.hoiskend.specs.Owning.{may_own}
use Rattle.hoiskend.proofs.Memory.{Tells, tells, ptr_good}
use Rattle.hoiskend.proofs.handle.Handle.TheLaws.{lowers}
use Rattle.hoiskend.specs.contracts.handle.Handle.{the_row as B}
use Rattle.hoiskend.specs.contracts.handle.Handle.is_open.{ended, clauses}
use Rattle.hoiskend.specs.contracts.handle.Handle.is_open.Key.{name as #self}
use Rattle.hoiskend.proofs.handle.Handle.is_open.Statement.{statement}
use Rattle.hoiskend.proofs.handle.Handle.is_open.Code as code

pub is_open_spec : {M : Type 1} → statement M
is_open_spec 𝓤 𝓛 𝓜 𝓡 wired =
    let H = 𝓛.H in let 𝓣 = tables 𝓤 H 𝓜 𝓡 𝓡.env in let c = clauses 𝓛 𝓜.mem 𝓡.returns in let fn = code.function in
    let hs : Stays ended.signature.params ended.kept = (stay_ref (0 ∷ []) tt (plain (λ _. B)), tt) in
    proved_at 𝓛 ended hs c 𝓜 𝓡 (Goes-ref 𝓛 1 0 tt (plain (λ _. B)), tt) #self fn (code.unfolded 𝓤 H 𝓜 𝓡 wired) (λ z are.
    let κs = z.0.0 in let qs = z.0.1 in let self = z.0.3.0 in let d = self.now in
    let Post : Val → SProp 𝓤 = (walk_of 𝓛 ended hs c).post z in let Run : List Val → SProp 𝓤 = λ ws. WpFn 𝓤 H 𝓣.C 𝓣.Λ fn ws Post in
    let rb = self.ref_ptr.0 in let ro = self.ref_ptr.1 in let w = vptr rb ro in
    qed 𝓛 (((‵ (flft κs.0 qs.0) ⊛ ‵ ftrue) ⊛ ‵ (owns (types_at ended.signature.params κs) z.0.3 z.0.4)) ∷ raw ((c κs z.0.3).requires z.1) ∷ []) ∵
    move ! (1 ∷ []) $ drop ! $ split ! $ move ! (1 ∷ []) $ fsplit ! $ fsplit3 ! $ feq_l ! (λ e0. move ! (2 ∷ []) $ drop ! $ move ! (2 ∷ []) $ split ! $
    suffices ! (Run (w ∷ [])) (subst (λ (us : List Val). ent 𝓤 (Run (w ∷ [])) (Run us)) (sym (λ i. e0 i ++ [])) (id⊢ 𝓤 (Run (w ∷ [])))) $
    enter ! 𝓣.C 𝓣.Λ fn (w ∷ []) Post $ alloc_all ! (λ l. pass_all ! refl ((tt, tt), tt) $
    -- [the token; nothing; obs; the borrow]
    move ! (2 ∷ 3 ∷ 0 ∷ []) $ opens ! tt B {h = d} rb ro (λ vs. move ! (1 ∷ []) $ peeks ! B _ (shows 𝓛 B) d vs (λ of. fsplit ! $ move ! (1 ∷ []) $
    use1 𝓛 (raw (fact 𝓤 (Tells d.at d.session)) ⊛ ‵ (may_own d.at d.session)) (tells 𝓛 d.at d.session) $ split ! $ heard ! _ (λ told.
    let word = lowers.val_is d vs of in let Cell = λ (us : List Val). ‵ (cell_at full_share B.mir us rb ro) in
    rewrite ! 2 Cell word refl $
    -- [what the handle owns; what the field owns; the cell; the open borrow, in three entries; nothing]
    sets ! (of_opd ! (load ! (through ! refl (fld ! refl (stop !))) (look_in ! 2 (sub ! 0 refl (whole !))))) refl (ptr_good d.at) $
    sets ! (is ! (bin ! (get ! refl) (lit ! tt) (tests_null d.at told.tested)) told.is) refl (tt, tt) $
    sets ! (un ! (get ! refl) tt) refl (tt, tt) $
    rewrite ! 2 Cell (sym word) refl $ move ! (1 ∷ 0 ∷ []) $ fjoin ! $ move ! (1 ∷ []) $ closes ! tt B d vs rb ro $
    returns ! (look_at ! 0 refl) $ free_all ! refl $
    let answer : Bool = not told.null in let Same = (answer ≡ is_some d.session) × (d ≡ d) in
    feq_i ! (List Val) (vbool answer ∷ []) (vbool answer ∷ []) refl $ use0 𝓛 (raw (fact 𝓤 Same)) (fact_i 𝓤 Same (emp 𝓤) (told.says, refl)) $
    -- [the `ensures`; the result; obs; the borrow; a token; nothing]
    move ! (4 ∷ 5 ∷ []) $ join ! $ move ! (3 ∷ 4 ∷ []) $ feq_i ! (List Val) z.0.4.0 (w ∷ []) e0 $ fjoin3 ! $
    nothing ! $ move ! (1 ∷ 0 ∷ []) $ fjoin ! $
    keep ! (1 ∷ 0 ∷ 3 ∷ 2 ∷ []) $ by ! (leaves 𝓛 ended hs c z (vbool answer) answer (d, tt) (tt, tt))))))))
