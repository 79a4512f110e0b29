-- Of the routes that agree, by falling ranks, the first is the best.
use Rattle.std.proofs.Common.{◌≡◌, ℕ, ◌+◌, ◌-◌, ◌<◌, ◌≤◌, ◌==◌, zero, suc, nat_lt, cond, Bool, true, false, List, [], ◌∷◌, ◌++◌, map, flat_map, refl, ap, subst, ◌∙◌, sym, arith}
use Rattle.std.specs.Prelude.{filter, Option, Some, None, option_map, IfSome}
use Rattle.std.specs.List.{AllByRecursion, range_with_len, slice_get}
use Rattle.std.specs.Option.{option_or}
use Rattle.if_addrs.specs.Interfaces.{Interface}
use Rattle.mask_table.specs.Agreeing.{agrees}
use Rattle.radix_tree.specs.Table.{IsTable, agreeing, greater, greatest}
use Rattle.radix_tree.specs.declared.entry.Entry.{Entry}
use Rattle.route_core.specs.Told.{all_told, route_told}
use Rattle.route_entries.specs.declared.route.Route.{Route}
use Rattle.world_words.specs.Agreeing.{FirstIsBest, in_order, of_rank}
use borrow.Author.Tests.{eqb-true, eqb-false, ltb-true, ltb-false}

-- ---- the first by falling ranks

falling : {X : Type 0} → (ℕ → Option X) → ℕ → Option X
falling first zero = first 0
falling first (suc m) = option_or (first (suc m)) (falling first m)

or_none : {X : Type 0} (o : Option X) → option_or o None ≡ o
or_none None = refl
or_none (Some x) = refl

first_of_both : {X : Type 0} (xs ys : List X) → slice_get (xs ++ ys) 0 ≡ option_or (slice_get xs 0) (slice_get ys 0)
first_of_both [] ys = refl
first_of_both (x ∷ xs) ys = refl

first_falling : {X : Type 0} (of : ℕ → List X) (k a : ℕ) → a + k ≡ 33
    → slice_get (flat_map (λ i. of (33 - i)) (range_with_len a (suc k))) 0 ≡ falling (λ r. slice_get (of r) 0) k
unfolding falling
first_falling of zero a e =
    first_of_both (of (33 - a)) [] ∙ or_none (slice_get (of (33 - a)) 0)
    ∙ ap (λ (r : ℕ). slice_get (of r) 0) (omega arith)
first_falling of (suc k) a e =
    let here : 33 - a ≡ suc k = omega arith in
    let behind = flat_map (λ i. of (33 - i)) (range_with_len (a + 1) (suc k)) in
    first_of_both (of (33 - a)) behind
    ∙ ap (λ (r : ℕ). option_or (slice_get (of r) 0) (slice_get behind 0)) here
    ∙ ap (λ (o : Option _). option_or (slice_get (of (suc k)) 0) o) (first_falling of k (a + 1) (omega arith))

or_of_told : {X Y : Type 0} (f : X → Y) (o p : Option X) (o' p' : Option Y)
    → o' ≡ option_map f o → p' ≡ option_map f p → option_or o' p' ≡ option_map f (option_or o p)
or_of_told f None p o' p' e g = ap (λ (q : Option _). option_or q p') e ∙ g
or_of_told f (Some x) p o' p' e g = ap (λ (q : Option _). option_or q p') e

falling_of_told : {X Y : Type 0} (f : X → Y) (told : ℕ → Option Y) (first : ℕ → Option X)
    → ((r : ℕ) → told r ≡ option_map f (first r)) → (m : ℕ) → falling told m ≡ option_map f (falling first m)
unfolding falling
falling_of_told f told first same zero = same 0
falling_of_told f told first same (suc m) = or_of_told f (first (suc m)) (falling first m) (told (suc m)) (falling told m) (same (suc m)) (falling_of_told f told first same m)

-- ---- of entries

-- the first of one rank
first_of_rank : List (Entry Route) → ℕ → Option (Entry Route)
first_of_rank es r = slice_get (filter (λ e. e.rank == r) es) 0

of_rank_by : (is : Bool) (e : Entry Route) (es : List (Entry Route)) (r : ℕ) → (e.rank == r) ≡ is
    → IfSome (first_of_rank es r) (λ f. f.rank ≡ r)
    → IfSome (slice_get (cond is (e ∷ filter (λ f. f.rank == r) es) (filter (λ f. f.rank == r) es)) 0) (λ f. f.rank ≡ r)
unfolding first_of_rank
of_rank_by true e es r is behind = eqb-true e.rank r is
of_rank_by false e es r is behind = behind

first_is_of_rank : (es : List (Entry Route)) (r : ℕ) → IfSome (first_of_rank es r) (λ e. e.rank ≡ r)
unfolding first_of_rank
first_is_of_rank [] r = tt
first_is_of_rank (e ∷ es) r = of_rank_by (e.rank == r) e es r refl (first_is_of_rank es r)

within_by : (o p : Option (Entry Route)) (r m : ℕ) → m ≤ r → IfSome o (λ e. e.rank ≡ r) → IfSome p (λ e. e.rank ≤ m)
    → IfSome (option_or o p) (λ e. e.rank ≤ r)
within_by None None r m less of within = tt
within_by None (Some f) r m less of within = omega (arith, within)
within_by (Some e) p r m less of within = omega (arith, of)

-- what is first of so many ranks has one of them
falls_within : (es : List (Entry Route)) (m : ℕ) → IfSome (falling (first_of_rank es) m) (λ e. e.rank ≤ m)
unfolding falling
falls_within es zero = subst (λ (o : Option _). IfSome o (λ e. e.rank ≤ 0)) (or_none (first_of_rank es 0))
    (within_by (first_of_rank es 0) None 0 0 (omega arith) (first_is_of_rank es 0) tt)
falls_within es (suc m) =
    within_by (first_of_rank es (suc m)) (falling (first_of_rank es) m) (suc m) m (omega arith)
    (first_is_of_rank es (suc m)) (falls_within es m)

-- an entry before others: it comes first of its rank
before_by : (is : Bool) (e : Entry Route) (es : List (Entry Route)) (r : ℕ) → (e.rank == r) ≡ is
    → first_of_rank (e ∷ es) r ≡ cond is (Some e) (first_of_rank es r)
unfolding first_of_rank
before_by true e es r is = rw is refl
before_by false e es r is = rw is refl

keeps_by : (less : Bool) (e f : Entry Route) → nat_lt e.rank f.rank ≡ less → f.rank ≤ e.rank → greater e (Some f) ≡ Some e
keeps_by true e f is most = absurd (omega (arith, ltb-true e.rank f.rank is, most))
keeps_by false e f is most = rw is refl

-- one of at least as great a rank stays before what was first
keeps : (e : Entry Route) (o : Option (Entry Route)) → IfSome o (λ f. f.rank ≤ e.rank) → greater e o ≡ Some e
keeps e None most = refl
keeps e (Some f) most = keeps_by (nat_lt e.rank f.rank) e f refl most

yields_by : (less : Bool) (e f : Entry Route) → nat_lt e.rank f.rank ≡ less → e.rank < f.rank → greater e (Some f) ≡ Some f
yields_by true e f is most = rw is refl
yields_by false e f is most = absurd (omega (arith, ltb-false e.rank f.rank is, most))

-- one of a smaller rank yields to those of a greater
yields : (e : Entry Route) (o p : Option (Entry Route)) (m : ℕ) → e.rank ≤ m → IfSome o (λ f. f.rank ≡ suc m)
    → option_or o (greater e p) ≡ greater e (option_or o p)
yields e None p m less of = refl
yields e (Some f) p m less of = sym (yields_by (nat_lt e.rank f.rank) e f refl (omega (arith, less, of)))

upto : (o : Option (Entry Route)) (r most : ℕ) → r ≤ most → IfSome o (λ f. f.rank ≡ r) → IfSome o (λ f. f.rank ≤ most)
upto None r most less of = tt
upto (Some f) r most less of = omega (arith, less, of)

zero_by : (is : Bool) (e : Entry Route) (es : List (Entry Route)) → (e.rank == 0) ≡ is → e.rank ≤ 0
    → falling (first_of_rank (e ∷ es)) 0 ≡ greater e (falling (first_of_rank es) 0)
unfolding falling
zero_by true e es is most =
    before_by true e es 0 is ∙ sym (keeps e (first_of_rank es 0) (upto (first_of_rank es 0) 0 e.rank (omega arith) (first_is_of_rank es 0)))
zero_by false e es is most = absurd (eqb-false e.rank 0 is (omega (arith, most)))

more_by : (is : Bool) (e : Entry Route) (es : List (Entry Route)) (m : ℕ) → (e.rank == suc m) ≡ is → e.rank ≤ suc m
    → (e.rank ≤ m → falling (first_of_rank (e ∷ es)) m ≡ greater e (falling (first_of_rank es) m))
    → falling (first_of_rank (e ∷ es)) (suc m) ≡ greater e (falling (first_of_rank es) (suc m))
unfolding falling
more_by true e es m is most behind =
    let same : e.rank ≡ suc m = eqb-true e.rank (suc m) is in
    ap (λ (o : Option _). option_or o (falling (first_of_rank (e ∷ es)) m)) (before_by true e es (suc m) is)
    ∙ sym (keeps e (falling (first_of_rank es) (suc m)) (subst (λ (r : ℕ). IfSome (falling (first_of_rank es) (suc m)) (λ f. f.rank ≤ r)) (sym same) (falls_within es (suc m))))
more_by false e es m is most behind =
    let apart : e.rank ≡ suc m → ⊥ = eqb-false e.rank (suc m) is in
    let less : e.rank ≤ m = omega (arith, apart, most) in
    ap (λ (o : Option _). option_or o (falling (first_of_rank (e ∷ es)) m)) (before_by false e es (suc m) is)
    ∙ ap (λ (o : Option _). option_or (first_of_rank es (suc m)) o) (behind less)
    ∙ yields e (first_of_rank es (suc m)) (falling (first_of_rank es) m) m less (first_is_of_rank es (suc m))

one_before : (m : ℕ) (e : Entry Route) (es : List (Entry Route)) → e.rank ≤ m
    → falling (first_of_rank (e ∷ es)) m ≡ greater e (falling (first_of_rank es) m)
one_before zero e es most = zero_by (e.rank == 0) e es refl most
one_before (suc m) e es most = more_by (e.rank == suc m) e es m refl most (one_before m e es)

none_falls : (m : ℕ) → falling (first_of_rank []) m ≡ None
unfolding falling first_of_rank
none_falls zero = refl
none_falls (suc m) = none_falls m

-- the first by falling ranks is that of the greatest rank
first_is_greatest : (es : List (Entry Route)) (m : ℕ) → AllByRecursion (λ e. e.rank ≤ m) es
    → falling (first_of_rank es) m ≡ greatest es
first_is_greatest [] m all = none_falls m
first_is_greatest (e ∷ es) m all =
    one_before m e es all.0 ∙ ap (λ (o : Option _). greater e o) (first_is_greatest es m all.1)

-- ---- of a world

ranks_by : (is : Bool) (e : Entry Route) (es : List (Entry Route)) → e.rank ≤ 33 → AllByRecursion (λ f. f.rank ≤ 33) es
    → AllByRecursion (λ f. f.rank ≤ 33) (cond is (e ∷ es) es)
ranks_by true e es here behind = (here, behind)
ranks_by false e es here behind = behind

ranks_within : (address : ℕ) (es : List (Entry Route)) → IsTable es → AllByRecursion (λ e. e.rank ≤ 33) (agreeing address es)
ranks_within address [] table = tt
ranks_within address (e ∷ es) table =
    ranks_by (agrees e.rank e.key address) e (agreeing address es) table.0.rank (ranks_within address es table.2)

told_by : (interfaces : List Interface) (address r : ℕ) (is for : Bool) (e : Entry Route) (es : List (Entry Route))
    → (e.rank == r) ≡ is → agrees e.rank e.key address ≡ for
    → slice_get (of_rank address (map (route_told interfaces) es) r) 0
    ≡ option_map (route_told interfaces) (first_of_rank (agreeing address es) r)
    → slice_get (of_rank address (map (route_told interfaces) (e ∷ es)) r) 0
    ≡ option_map (route_told interfaces) (first_of_rank (agreeing address (e ∷ es)) r)
unfolding first_of_rank
told_by interfaces address r true true e es is for behind = simp (is, for)
told_by interfaces address r true false e es is for behind = simp (is, for) behind
told_by interfaces address r false true e es is for behind = simp (is, for) behind
told_by interfaces address r false false e es is for behind = simp (is, for) behind

first_told : (interfaces : List Interface) (address : ℕ) (es : List (Entry Route)) (r : ℕ)
    → slice_get (of_rank address (map (route_told interfaces) es) r) 0
    ≡ option_map (route_told interfaces) (first_of_rank (agreeing address es) r)
unfolding first_of_rank
first_told interfaces address [] r = refl
first_told interfaces address (e ∷ es) r =
    told_by interfaces address r (e.rank == r) (agrees e.rank e.key address) e es refl refl
    (first_told interfaces address es r)

pub first_is_best : FirstIsBest
unfolding in_order
first_is_best w address table =
    let es = agreeing address w.table in
    first_falling (of_rank address (all_told w)) 33 0 (omega arith)
    ∙ falling_of_told (route_told w.interfaces) _ (first_of_rank es) (first_told w.interfaces address w.table) 33
    ∙ ap (λ (o : Option _). option_map (route_told w.interfaces) o) (first_is_greatest es 33 (ranks_within address w.table table))
