-- `lend` lends the session, and the handle follows it. Assumes `Logic`.
use Rattle.std.proofs.Common.{◌≡◌, ℕ, Option, Some, List, [], ◌∷◌, ◌++◌, refl, sym, ap, ◌∙◌, subst}
use mir.Syntax.{named}
use mir.Raw.{raw as bare}
use mir.Val.{Val, vptr}
use seplogic.Ra.Ura.{Ura}
use base.Fraction.{full_share}
use base.Logic.{SProp, ent, sep, emp, never, id⊢}
use base.Fml.{GName, Fml, ftrue, fsep, flft}
use prog.Wp.{WpFn}
use types.Logic.{Logic, sem}
use types.Kit.{‵, raw, ◌⊛◌, some, later, at_ret, ◌$◌, ◌∵◌, !, qed, by, move, keep, drop, use0, use1, split, split3, join, group, fsplit, fsplit3, fjoin, fpack, feq_l, pick, await, rewrite, suffices, done}
use types.Part.{whole, sub, look_in}
use types.Run.{stop, fld, load, of_opd, addr, first, blocks, exec, returns, enter}
use types.ByLocal.{alloc_all, pass_all, free_all, look_at, get, through, sets, sets_last, env}
use contract.Monad.{fact, fact_i}
use contract.Running.{tables}
use denote.Exit.{no}
use denote.Follow.{follows, Part, lends_Part}
use denote.Laws.{shows}
use denote.Memory.{mem, cell_at, lone, part_of}
use denote.RattleType.{owns}
use denote.Ref.{MutBor, MutRef}
use denote.Signature.{types_at, plain, mut_ref_to}
use denote.RawPtr.{Ptr, block_ptr, lies_at, in_a_block}
use denote.Steps.{nothing, opens, heard, peeks}
use denote.Triple.Walked.{Stays, stay_dropped, walk_of, Goes-spent_ref}
use Rattle.std.proofs.raw_atomic.Walks.{proved_at, leaves}
use Rattle.std_alloc.proofs.VecSteps.Shapes.{after}
use Rattle.hoiskend.specs.Sessions.{Session}
use Rattle.hoiskend.specs.contracts.held.Held.{the_row as R}
use Rattle.hoiskend.specs.Open.{IsOpen}
use Rattle.hoiskend.specs.Owning.{chunk, may_own}
use Rattle.hoiskend.specs.Lending.{with_session}
use Rattle.hoiskend.proofs.Memory.{Field}
use Rattle.hoiskend.proofs.handle.Handle.TheLaws.{lowers}
use Rattle.hoiskend.specs.contracts.handle.Handle.{the_row as B}
use Rattle.hoiskend.specs.contracts.handle.Handle.lend.{ended, clauses}
use Rattle.hoiskend.specs.contracts.handle.Handle.lend.Key.{name as #self}
use Rattle.hoiskend.proofs.handle.Handle.lend.Statement.{statement}
use Rattle.hoiskend.proofs.handle.Handle.lend.Code as code

module _ {M : Type 1} {𝓤 : Ura M} (𝓛 : Logic 𝓤) (d : B.Denot) (vs : List Val) (rb ro b o : ℕ) where
  -- all but the session
  abbrev Rest : Fml
  Rest = fsep (chunk (bare (lone R.mir)) d.at) (fsep (Field.own_val (d.at, tt) vs) (cell_at full_share B.mir vs rb ro))

  back : d.at ≡ block_ptr b o → (w : Session) → ent 𝓤 (sep 𝓤 (sem 𝓛 ((mem R).own_at w b o)) (sem 𝓛 Rest)) (sem 𝓛 ((mem B).own_at (with_session d w) rb ro))
  unfolding part_of
  back e w =
      qed 𝓛 (‵ (lies_at R full_share (block_ptr b o) w) ∷ ‵ Rest ∷ []) ∵ rewrite ! 0 (λ (q : Ptr). ‵ (lies_at R full_share q w)) (sym e) refl $
      move ! (1 ∷ []) $ fsplit3 ! $ move ! (3 ∷ 0 ∷ []) $ fjoin ! $ move ! (1 ∷ 0 ∷ []) $ fjoin ! $ move ! (1 ∷ 0 ∷ []) $ fjoin ! $
      fpack ! (List Val) (λ us. fsep (cell_at full_share B.mir us rb ro) (B.own_val (with_session d w) us)) vs $ done !

pub lend_spec : {M : Type 1} → statement M
lend_spec 𝓤 𝓛 𝓜 𝓡 wired =
    let H = 𝓛.H in let 𝓣 = tables 𝓤 H 𝓜 𝓡 𝓡.env in let c = clauses 𝓛 𝓜.mem 𝓡.returns in let fn = code.function in
    let hs : Stays ended.signature.params ended.kept = (stay_dropped (mut_ref_to (0 ∷ []) tt (plain (λ _. B))) no, tt) in
    proved_at 𝓛 ended hs c 𝓜 𝓡 (Goes-spent_ref 𝓛 1 (0 ∷ []) tt (plain (λ _. B)), tt) #self fn (code.unfolded 𝓤 H 𝓜 𝓡 wired) (λ z are.
    let κs = z.0.0 in let qs = z.0.1 in let self = z.0.3.0 in let d = self.now in
    let Post : Val → SProp 𝓤 = (walk_of 𝓛 ended hs c).post z in let Run : List Val → SProp 𝓤 = λ ws. WpFn 𝓤 H 𝓣.C 𝓣.Λ fn ws Post in
    let rb = self.ref_ptr.0 in let ro = self.ref_ptr.1 in let w = vptr rb ro in
    qed 𝓛 (((‵ (flft κs.0 qs.0) ⊛ ‵ ftrue) ⊛ ‵ (owns (types_at ended.signature.params κs) z.0.3 z.0.4)) ∷ raw ((c κs z.0.3).requires z.1) ∷ []) ∵
    move ! (1 ∷ []) $ use1 𝓛 (raw (fact 𝓤 (IsOpen d.session))) (id⊢ 𝓤 _) $ heard ! _ (λ asked.
    let x = asked.value in let new = with_session d in
    split ! $ move ! (1 ∷ []) $ fsplit ! $ fsplit3 ! $ feq_l ! (λ e0. move ! (2 ∷ []) $ drop ! $ move ! (2 ∷ []) $ split ! $
    suffices ! (Run (w ∷ [])) (subst (λ (us : List Val). ent 𝓤 (Run (w ∷ [])) (Run us)) (sym (λ i. e0 i ++ [])) (id⊢ 𝓤 (Run (w ∷ [])))) $
    enter ! 𝓣.C 𝓣.Λ fn (w ∷ []) Post $ alloc_all ! (λ l. pass_all ! refl ((tt, tt), tt) $
    -- [the token; nothing; obs; the borrow]
    move ! (2 ∷ 3 ∷ 0 ∷ []) $ opens ! tt B {h = d} rb ro (λ vs. move ! (1 ∷ []) $ peeks ! B _ (shows 𝓛 B) d vs (λ is. fsplit ! $ move ! (1 ∷ []) $
    rewrite ! 0 (λ (may : Option Session). ‵ (may_own d.at may)) asked.is refl $ fsplit ! $
    in_a_block ! d.at (λ p. lies_at R full_share p x) (id⊢ 𝓤 (never 𝓤)) (λ b o e.
    let word = lowers.val_is d vs is ∙ ap (λ (p : Ptr). lowers.lowered (record d { at = p }) ∷ []) e in
    let Cell = λ (us : List Val). ‵ (cell_at full_share B.mir us rb ro) in
    rewrite ! 3 Cell word refl $
    -- [the session; the right to free it; what the field owns; the cell; the open borrow; obs; auth; nothing]
    first ! $ blocks ! $ sets ! (of_opd ! (load ! (through ! refl (fld ! refl (stop !))) (look_in ! 3 (sub ! 0 refl (whole !))))) refl (tt, tt) $
    sets ! (of_opd ! (get ! refl)) refl (tt, tt) $ sets_last ! (addr ! (through ! refl (stop !))) refl (tt, tt) $
    exec ! 𝓣.C 𝓣.Λ (env fn.locals l) (after 1 fn.body) (at_ret (env fn.locals l) Post) $ sets ! (of_opd ! (get ! refl)) refl (tt, tt) $
    rewrite ! 3 Cell (sym word) refl $
    move ! (2 ∷ 3 ∷ []) $ fjoin ! $ move ! (2 ∷ 0 ∷ []) $ fjoin ! $ move ! (2 ∷ 3 ∷ 4 ∷ 1 ∷ 0 ∷ []) $ group ! 5 $
    let rest = sem 𝓛 (Rest 𝓛 d vs rb ro b o) in let way = back 𝓛 d vs rb ro b o e in let code = B.coded.code d in
    use1 𝓛 (later (some (λ (δ : GName). raw (Part 𝓛 B R new (named 0) κs.0 qs.0 rb ro b o self.ghost_name rest way x δ))))
    (lends_Part 𝓛 B R new (named 0) κs.0 qs.0 rb ro b o self.ghost_name rest way code code x) $ await ! tt $ pick ! (λ δ.
    returns ! (look_at ! 0 refl) $ free_all ! refl $
    let lent : MutBor Session = record { ref_ptr = (b, o); ghost_name = δ; now = x } in let Found = d.session ≡ Some x in
    use1 𝓛 (‵ ((MutRef (named 0) κs.0 R).own_val lent (vptr b o ∷ [])) ⊛ ‵ (flft κs.0 qs.0) ⊛ ‵ (follows B R self.ghost_name δ new)) (id⊢ 𝓤 _) $ split3 ! $
    move ! (2 ∷ []) $ use0 𝓛 (raw (fact 𝓤 Found)) (fact_i 𝓤 Found (emp 𝓤) asked.is) $ move ! (1 ∷ 0 ∷ []) $ join ! $
    -- [the `ensures`; the result; the token; nothing]
    move ! (2 ∷ 3 ∷ []) $ join ! $ nothing ! $ nothing ! $ fjoin ! $
    keep ! (1 ∷ 0 ∷ 3 ∷ 2 ∷ []) $ by ! (leaves 𝓛 ended hs c z (vptr b o) lent (tt, tt) (tt, tt))))))))))
