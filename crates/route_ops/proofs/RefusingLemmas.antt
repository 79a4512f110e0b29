-- What holds of the values, and of the refusals, of steps of which each may be refused.
use Rattle.std.proofs.Common.{◌≡◌, refl, subst}
use Rattle.std.specs.Prelude.{Option, Some, None, ok_or, IfSome, Result, Ok, Err, IfOk, IfErr}
use Rattle.route_ops.specs.Refusing.{◌>>=◌}

-- of the value, if there is one, since it holds of each
pub each_ok : {A E : Type 0} (P : A → Type 0) (r : Result A E) → ((x : A) → r ≡ Ok x → P x) → IfOk r P
each_ok P (Ok x) each = each x refl
each_ok P (Err e) each = tt

-- of the value, since another holds of it
pub ok_weaker : {A E : Type 0} (P Q : A → Type 0) (r : Result A E) → ((x : A) → P x → Q x) → IfOk r P → IfOk r Q
ok_weaker P Q (Ok x) weaker h = weaker x h
ok_weaker P Q (Err e) weaker h = tt

-- and of the refusal
pub err_weaker : {A E : Type 0} (P Q : E → Type 0) (r : Result A E) → ((e : E) → P e → Q e) → IfErr r P → IfErr r Q
err_weaker P Q (Ok x) weaker h = tt
err_weaker P Q (Err e) weaker h = weaker e h

-- of the value that there is
pub ok_is : {A E : Type 0} (P : A → Type 0) (r : Result A E) (x : A) → IfOk r P → r ≡ Ok x → P x
ok_is P r x h is = subst (λ s. IfOk s P) is h

-- of what the second step gives
pub ok_then : {A B E : Type 0} (P : B → Type 0) (r : Result A E) (f : A → Result B E) → IfOk r (λ x. IfOk (f x) P)
    → IfOk (r >>= f) P
ok_then P (Ok x) f h = h
ok_then P (Err e) f h = tt

-- of why either step is refused
pub err_then : {A B E : Type 0} (Q : E → Type 0) (r : Result A E) (f : A → Result B E) → IfErr r Q
    → ((x : A) → IfErr (f x) Q) → IfErr (r >>= f) Q
err_then Q (Ok x) f first second = second x
err_then Q (Err e) f first second = first

-- where there is a value by which to go on
pub ok_of_some : {A E : Type 0} (P : A → Type 0) (o : Option A) (e : E) → IfSome o P → IfOk (ok_or o e) P
ok_of_some P None e h = tt
ok_of_some P (Some x) e h = h

-- and where there is none
pub err_of_none : {A E : Type 0} (Q : E → Type 0) (o : Option A) (e : E) → Q e → IfErr (ok_or o e) Q
err_of_none Q None e h = h
err_of_none Q (Some x) e h = tt
