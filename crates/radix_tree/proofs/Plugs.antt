-- A tree is a part of it beneath bit nodes: what it holds beside the part stays; and the way of a key to it.
use Rattle.radix_tree.proofs.TreeMembers.{bit_beneath}
use Rattle.radix_tree.proofs.Words.{◌≡◌, ℕ, ◌+◌, ◌<◌, ◌≤◌, ◌⊎◌, List, [], ◌∷◌, ◌++◌, None, refl, sym, inl, inr, arith, cases_lt, append_assoc, append-nil, Id}
use Rattle.radix_tree.proofs.Words.{Placed, Tree, leaf, fork, IsAmong, IsIn, IsTree, routes_of, Bits, members_at, leaves_at, forks_at, HasHome, AreIdle}
use Rattle.radix_tree.proofs.Words.{HasOneFork, HaveOneFork, Frame, on_zero, on_one, plug, low_past, Lead, Entry, number_of, ap, ◌∙◌, Part, Way, Lodged}

module _ {V : Type 0} where
  -- what the bit nodes have on their other sides
  abbrev pub Aside : List (Frame V) → Placed V → Type 0
  Aside [] y = ⊥
  Aside (on_zero room b one ∷ fs) y = IsIn y one ⊎ Aside fs y
  Aside (on_one room b zero ∷ fs) y = IsIn y zero ⊎ Aside fs y

  pub plug_leaves : (fs : List (Frame V)) (t u : Tree V) (n : ℕ) → leaves_at n (plug fs u) + leaves_at n t ≡ leaves_at n (plug fs t) + leaves_at n u
  plug_leaves [] t u n = omega arith
  plug_leaves (on_zero room b one ∷ fs) t u n = omega (arith, plug_leaves fs t u n)
  plug_leaves (on_one room b zero ∷ fs) t u n = omega (arith, plug_leaves fs t u n)

  pub plug_forks : (fs : List (Frame V)) (t u : Tree V) (n : ℕ) → forks_at n (plug fs u) + forks_at n t ≡ forks_at n (plug fs t) + forks_at n u
  plug_forks [] t u n = omega arith
  plug_forks (on_zero room b one ∷ fs) t u n = omega (arith, plug_forks fs t u n)
  plug_forks (on_one room b zero ∷ fs) t u n = omega (arith, plug_forks fs t u n)

  -- the part has no more of a room's than the whole
  pub leaves_within : (fs : List (Frame V)) (t : Tree V) (n : ℕ) → leaves_at n t ≤ leaves_at n (plug fs t)
  leaves_within [] t n = omega arith
  leaves_within (on_zero room b one ∷ fs) t n = omega (arith, leaves_within fs t n)
  leaves_within (on_one room b zero ∷ fs) t n = omega (arith, leaves_within fs t n)

  pub forks_within : (fs : List (Frame V)) (t : Tree V) (n : ℕ) → forks_at n t ≤ forks_at n (plug fs t)
  forks_within [] t n = omega arith
  forks_within (on_zero room b one ∷ fs) t n = omega (arith, forks_within fs t n)
  forks_within (on_one room b zero ∷ fs) t n = omega (arith, forks_within fs t n)

  -- a route's room is a leaf
  pub counted_member : (x : Placed V) (xs : List (Placed V)) → IsAmong x xs → 1 ≤ members_at (number_of x.room) xs
  counted_member x [] among = absurd among
  counted_member x (y ∷ ys) among = elim among [ inl e ↦ grind arith | inr behind ↦ omega (arith, counted_member x ys behind) ]

  pub counted_leaf : (x : Placed V) (t : Tree V) → IsIn x t → 1 ≤ leaves_at (number_of x.room) t
  counted_leaf x (leaf y ys) is = counted_member x (y ∷ ys) is
  counted_leaf x (fork room b zero one) is = search (arith, counted_leaf x zero, counted_leaf x one)

  pub plug_in : (fs : List (Frame V)) (t : Tree V) (y : Placed V) → IsIn y t → IsIn y (plug fs t)
  plug_in [] t y is = is
  plug_in (on_zero room b one ∷ fs) t y is = inl (plug_in fs t y is)
  plug_in (on_one room b zero ∷ fs) t y is = inr (plug_in fs t y is)

  pub aside_in : (fs : List (Frame V)) (t : Tree V) (y : Placed V) → Aside fs y → IsIn y (plug fs t)
  aside_in [] t y is = absurd is
  aside_in (on_zero room b one ∷ fs) t y is = elim is [ inl at ↦ inr at | inr at ↦ inl (aside_in fs t y at) ]
  aside_in (on_one room b zero ∷ fs) t y is = elim is [ inl at ↦ inl at | inr at ↦ inr (aside_in fs t y at) ]

  pub in_plug : (fs : List (Frame V)) (t : Tree V) (y : Placed V) → IsIn y (plug fs t) → Aside fs y ⊎ IsIn y t
  in_plug [] t y is = inr is
  in_plug (on_zero room b one ∷ fs) t y is = elim is [ inl at ↦ grind (arith, in_plug fs t y at) | inr at ↦ inl (inl at) ]
  in_plug (on_one room b zero ∷ fs) t y is = elim is [ inl at ↦ inl (inl at) | inr at ↦ grind (arith, in_plug fs t y at) ]

  -- what is aside is in rooms of its own: in none of the part
  pub aside_at : (fs : List (Frame V)) (t : Tree V) (y : Placed V) → Aside fs y → 1 + leaves_at (number_of y.room) t ≤ leaves_at (number_of y.room) (plug fs t)
  aside_at [] t y is = absurd is
  aside_at (on_zero room b one ∷ fs) t y is = search (arith, leaves_within, counted_leaf, aside_at fs t y)
  aside_at (on_one room b zero ∷ fs) t y is = search (arith, leaves_within, counted_leaf, aside_at fs t y)

  -- the routes before it and those behind
  pub record Surround (fs : List (Frame V)) : Type 0 where
    pub front : List (Entry V)
    pub back : List (Entry V)
    pub routes : (t : Tree V) → routes_of (plug fs t) ≡ front ++ routes_of t ++ back

  surround_zero : (room : Id) (b : ℕ) (one : Tree V) {fs : List (Frame V)} → Surround fs → Surround (on_zero room b one ∷ fs)
  surround_zero room b one s = record { front = s.front; back = s.back ++ routes_of one; routes = search (append_assoc, s.routes) }

  surround_one : (room : Id) (b : ℕ) (zero : Tree V) {fs : List (Frame V)} → Surround fs → Surround (on_one room b zero ∷ fs)
  surround_one room b zero s = record { front = routes_of zero ++ s.front; back = s.back; routes = search (append_assoc, s.routes) }

  pub surround : (fs : List (Frame V)) → Surround fs
  surround [] = record { front = []; back = []; routes = λ t. sym (append-nil (routes_of t)) }
  surround (on_zero room b one ∷ fs) = surround_zero room b one (surround fs)
  surround (on_one room b zero ∷ fs) = surround_one room b zero (surround fs)

  -- at most one bit node in use in each chain
  pub spare_at : (B : Bits) (fs : List (Frame V)) (t : Tree V) → HaveOneFork B (plug fs t) → HaveOneFork B t
  spare_at B [] t spare = spare
  spare_at B (on_zero room b one ∷ fs) t spare = spare_at B fs t spare.0
  spare_at B (on_one room b zero ∷ fs) t spare = spare_at B fs t spare.1

  idle_same : (B C : Bits) (xs : List (Placed V)) → ((y : Placed V) → IsAmong y xs → B (number_of y.room) ≡ None → C (number_of y.room) ≡ None) → AreIdle B xs
      → AreIdle C xs
  idle_same B C [] same idle = tt
  idle_same B C (x ∷ xs) same idle = (same x (inl refl) idle.0, idle_same B C xs (λ y among. same y (inr among)) idle.1)

  pub one_fork_same : (B C : Bits) (xs : List (Placed V)) → ((y : Placed V) → IsAmong y xs → B (number_of y.room) ≡ None → C (number_of y.room) ≡ None)
      → HasOneFork B xs
      → HasOneFork C xs
  one_fork_same B C [] same has = tt
  one_fork_same B C (x ∷ xs) same has = search (arith, idle_same, one_fork_same B C xs)

  -- where no bit node comes into use there is at most one as before
  pub spare_same : (B C : Bits) (t : Tree V) → ((y : Placed V) → IsIn y t → B (number_of y.room) ≡ None → C (number_of y.room) ≡ None) → HaveOneFork B t
      → HaveOneFork C t
  spare_same B C (leaf x xs) same spare = one_fork_same B C (x ∷ xs) same spare
  spare_same B C (fork room b zero one) same spare = search (arith, spare_same B C zero, spare_same B C one)

  pub spare_plug : (B C : Bits) (fs : List (Frame V)) (t u : Tree V) → HaveOneFork B (plug fs t) → HaveOneFork C u
      → ((y : Placed V) → Aside fs y → B (number_of y.room) ≡ None → C (number_of y.room) ≡ None) → HaveOneFork C (plug fs u)
  spare_plug B C [] t u spare own idle = own
  spare_plug B C (on_zero room b one ∷ fs) t u spare own idle =
      search (arith, spare_same, spare_plug B C fs t u spare.0 own)
  spare_plug B C (on_one room b zero ∷ fs) t u spare own idle =
      search (arith, spare_same, spare_plug B C fs t u spare.1 own)

  -- the bits of nodes above a part rise
  pub low_rises : (low : ℕ) (fs : List (Frame V)) (t : Tree V) → IsTree low (plug fs t) → low ≤ low_past low fs
  low_rises low [] t is = omega arith
  low_rises low (on_zero room b one ∷ fs) t is = grind (arith, low_rises (b + 1) fs t is.1)
  low_rises low (on_one room b zero ∷ fs) t is = grind (arith, low_rises (b + 1) fs t is.2)

  -- the node at or past a rank is one of the bit nodes above, or in the part
  pub home_plug : (low : ℕ) (fs : List (Frame V)) (t : Tree V) (y : Placed V) → IsTree low (plug fs t) → IsIn y t → HasHome y.entry.key y.entry.rank (plug fs t)
      → (y.entry.rank < low_past low fs) ⊎ HasHome y.entry.key y.entry.rank t
  home_plug low [] t y is at home = inr home
  home_plug low (on_zero room b one ∷ fs) t y is at home =
      search (arith, low_rises, bit_beneath, plug_in, home_plug (b + 1) fs t y is.1 at)
  home_plug low (on_one room b zero ∷ fs) t y is at home =
      search (arith, low_rises, bit_beneath, plug_in, home_plug (b + 1) fs t y is.2 at)

  pub plug_home : (low key rank : ℕ) (fs : List (Frame V)) (t : Tree V) → IsTree low (plug fs t) → Lead key fs → low ≤ rank
      → (rank < low_past low fs) ⊎ HasHome key rank t → HasHome key rank (plug fs t)
  plug_home low key rank [] t is lead least home = grind arith
  plug_home low key rank (on_zero room b one ∷ fs) t is lead least home =
      elim (cases_lt b rank) [ inl past ↦ inr (inl (lead.0, plug_home (b + 1) key rank fs t is.1 lead.1 (omega arith) home)) | inr here ↦ inl here ]
  plug_home low key rank (on_one room b zero ∷ fs) t is lead least home =
      elim (cases_lt b rank) [ inl past ↦ inr (inr (lead.0, plug_home (b + 1) key rank fs t is.2 lead.1 (omega arith) home)) | inr here ↦ inl here ]

  -- a route aside has a home as before
  pub aside_home : (low : ℕ) (fs : List (Frame V)) (t u : Tree V) (y : Placed V) → IsTree low (plug fs t) → Aside fs y
      → HasHome y.entry.key y.entry.rank (plug fs t) → HasHome y.entry.key y.entry.rank (plug fs u)
  aside_home low [] t u y is aside home = absurd aside
  aside_home low (on_zero room b one ∷ fs) t u y is aside home =
      search (arith, bit_beneath, aside_home (b + 1) fs t u y is.1)
  aside_home low (on_one room b zero ∷ fs) t u y is aside home =
      search (arith, bit_beneath, aside_home (b + 1) fs t u y is.2)

  -- -------- the bit nodes on the way of a key to a part, and the one leaf that is on it
  pub record OnWay (m : Lodged V) (key : ℕ) (whole at : Part m) : Type 0 where
    pub frames : List (Frame V)
    pub was : whole.tree ≡ plug frames at.tree
    pub lead : Lead key frames
    pub lowest : at.low ≡ low_past whole.low frames

  way_from : (m : Lodged V) (key : ℕ) (whole mid at : Part m) (ups : List (Part m)) → Way key whole mid ups → (fs : List (Frame V))
      → mid.tree ≡ plug fs at.tree → Lead key fs → at.low ≡ low_past mid.low fs → OnWay m key whole at
  way_from m key whole mid at [] way fs was lead lowest = grind arith
  way_from m key whole mid at (p ∷ ps) way fs was lead lowest =
      let b = way.0 in
      let f = b.at in
      let low = lowest ∙ ap (λ n. low_past n fs) b.low in
      elim b.side [
        | inl e ↦ way_from m key whole p at ps way.1 (on_zero b.room f.bit f.one ∷ fs) (f.is ∙ ap (λ t. fork b.room f.bit t f.one) (sym e.0 ∙ was)) (e.1, lead)
            low
        | inr e ↦ way_from m key whole p at ps way.1 (on_one b.room f.bit f.zero ∷ fs) (f.is ∙ ap (fork b.room f.bit f.zero) (sym e.0 ∙ was)) (e.1, lead)
            low
      ]

  pub on_way : (m : Lodged V) (key : ℕ) (whole at : Part m) (ups : List (Part m)) → Way key whole at ups → OnWay m key whole at
  on_way m key whole at ups way = way_from m key whole at at ups way [] refl tt refl

  -- ---- one leaf
  not_fork : {x : Placed V} {xs : List (Placed V)} {room : Id} {b : ℕ} {s t : Tree V} → leaf x xs ≡ fork room b s t → ⊥
  not_fork e = cc

  one_leaf : (key : ℕ) (fs gs : List (Frame V)) (x y : Placed V) (xs ys : List (Placed V)) → plug fs (leaf x xs) ≡ plug gs (leaf y ys) → Lead key fs
      → Lead key gs → leaf x xs ≡ leaf y ys
  one_leaf key [] [] x y xs ys e one other = e
  one_leaf key [] (on_zero j c v ∷ gs) x y xs ys e one other = absurd (not_fork e)
  one_leaf key [] (on_one j c u ∷ gs) x y xs ys e one other = absurd (not_fork e)
  one_leaf key (on_zero i b t ∷ fs) [] x y xs ys e one other = absurd (not_fork (sym e))
  one_leaf key (on_one i b s ∷ fs) [] x y xs ys e one other = absurd (not_fork (sym e))
  one_leaf key (on_zero i b t ∷ fs) (on_zero j c v ∷ gs) x y xs ys e one other = one_leaf key fs gs x y xs ys (search) one.1 other.1
  one_leaf key (on_zero i b t ∷ fs) (on_one j c u ∷ gs) x y xs ys e one other = search
  one_leaf key (on_one i b s ∷ fs) (on_zero j c v ∷ gs) x y xs ys e one other = search
  one_leaf key (on_one i b s ∷ fs) (on_one j c u ∷ gs) x y xs ys e one other = one_leaf key fs gs x y xs ys (search) one.1 other.1

  -- a leaf on the way of a key is the only one
  pub same_leaf : (m : Lodged V) (key : ℕ) (whole p q : Part m) (ups vps : List (Part m)) (x y : Placed V) (xs ys : List (Placed V)) → Way key whole p ups
      → Way key whole q vps → p.tree ≡ leaf x xs → q.tree ≡ leaf y ys → leaf x xs ≡ leaf y ys
  same_leaf m key whole p q ups vps x y xs ys one other left right = grind (arith, on_way, one_leaf)
