-- The lists of masks of bit nodes above a part stay where the part is exchanged and its masks listed further up stay.
use Rattle.radix_tree.proofs.{PartRooms.one_if_same, MaskLists.falls_among, MaskChanges.stand_same}
use Rattle.radix_tree.proofs.Plugs.{Aside, aside_in, in_plug, plug_in, forks_within, low_rises}
use Rattle.radix_tree.proofs.Words.{◌≡◌, ℕ, ◌+◌, ◌<◌, ◌≤◌, List, [], ◌∷◌, Option, ap, ◌∙◌, inl, inr, arith, is_some, Id, Placed, Tree, leaf, fork, IsIn, IsTree}
use Rattle.radix_tree.proofs.Words.{Heads, Masks, forks_at, Frame, on_zero, on_one, plug, low_past, IsMarked, IsMaskList, MarkedIn, MarkedLists, number_of, sym}
use Rattle.radix_tree.proofs.Words.{subst}

module _ {V : Type 0} where
  -- ---- one list
  pub marked_same : (K J : Masks) (x : Placed V) → J (number_of x.room) ≡ K (number_of x.room) → IsMarked K x → IsMarked J x
  marked_same K J x same marked = ap is_some same ∙ marked

  -- a list stays, where up to its bit the same masks are marked as before
  pub mask_list_same : (K J : Masks) {first other : Option Id} (low b : ℕ) {M : Placed V → Type 0} (N : Placed V → Type 0) → other ≡ first
      → ((x : Placed V) → M x → x.entry.rank ≤ b → N x × (J (number_of x.room) ≡ K (number_of x.room))) → ((x : Placed V) → N x → x.entry.rank ≤ b → M x)
      → IsMaskList K first low b M → IsMaskList J other low b N
  mask_list_same K J low b N same stays came list = grind (arith, falls_among, stand_same)

  -- ---- the lists of a tree
  -- they stay where its heads and its masks stay
  pub lists_same : (H G : Heads) (K J : Masks) (low : ℕ) (t : Tree V) → ((n : ℕ) → 1 ≤ forks_at n t → G n ≡ H n)
      → ((y : Placed V) → IsIn y t → J (number_of y.room) ≡ K (number_of y.room)) → MarkedLists H K low t → MarkedLists G J low t
  lists_same H G K J low (leaf x xs) heads masks lists = tt
  lists_same H G K J low (fork room b zero one) heads masks lists = (
    mask_list_same K J low b (MarkedIn J (fork room b zero one)) (grind arith)
        (grind arith)
        (grind arith) lists.0,
    lists_same H G K J (b + 1) zero (λ n some. heads n (omega arith)) (λ y at. masks y (inl at)) lists.1,
    lists_same H G K J (b + 1) one (λ n some. heads n (omega arith)) (λ y at. masks y (inr at)) lists.2,
  )

  -- the lists of a part are those of the whole
  pub lists_at : (H : Heads) (K : Masks) (low : ℕ) (fs : List (Frame V)) (t : Tree V) → MarkedLists H K low (plug fs t) → MarkedLists H K (low_past low fs) t
  lists_at H K low [] t lists = lists
  lists_at H K low (on_zero room b one ∷ fs) t lists = lists_at H K (b + 1) fs t lists.1
  lists_at H K low (on_one room b zero ∷ fs) t lists = lists_at H K (b + 1) fs t lists.2

  -- what an exchange keeps beside a part and above it: the heads of lists, the masks aside, and those of ranks below
  -- top, which are not the part's to list
  pub record KeepsAbove (H G : Heads) (K J : Masks) (top : ℕ) (fs : List (Frame V)) (t u : Tree V) : Type 0 where
    pub heads : (n : ℕ) → 1 + forks_at n t ≤ forks_at n (plug fs t) → G n ≡ H n
    pub aside : (y : Placed V) → Aside fs y → J (number_of y.room) ≡ K (number_of y.room)
    pub stays : (y : Placed V) → IsIn y t → y.entry.rank < top → IsMarked K y → IsIn y u × (J (number_of y.room) ≡ K (number_of y.room))
    pub came : (y : Placed V) → IsIn y u → y.entry.rank < top → IsMarked J y → IsIn y t × IsMarked K y

  -- what is so for a node above is so for those beneath it
  keeps_zero : {H G : Heads} {K J : Masks} {top : ℕ} (room : Id) (b : ℕ) (one : Tree V) {fs : List (Frame V)} {t u : Tree V}
      → KeepsAbove H G K J top (on_zero room b one ∷ fs) t u → KeepsAbove H G K J top fs t u
  keeps_zero room b one k = grind arith

  keeps_one : {H G : Heads} {K J : Masks} {top : ℕ} (room : Id) (b : ℕ) (zero : Tree V) {fs : List (Frame V)} {t u : Tree V}
      → KeepsAbove H G K J top (on_one room b zero ∷ fs) t u → KeepsAbove H G K J top fs t u
  keeps_one room b zero k = grind arith

  module _ {H G : Heads} {K J : Masks} {top : ℕ} {fs : List (Frame V)} {t u : Tree V} (k : KeepsAbove H G K J top fs t u) where
    -- the marked routes of ranks below top are the same
    stays_within : (y : Placed V) → IsIn y (plug fs t) → y.entry.rank < top → IsMarked K y → MarkedIn J (plug fs u) y
        × (J (number_of y.room) ≡ K (number_of y.room))
    stays_within y is below marked = grind (arith, in_plug, aside_in, marked_same, plug_in)

    came_within : (y : Placed V) → IsIn y (plug fs u) → y.entry.rank < top → IsMarked J y → IsIn y (plug fs t) × IsMarked K y
    came_within y is below marked = grind (arith, in_plug, aside_in, marked_same, plug_in)

  -- the whole's lists, once the part is exchanged
  pub plug_lists : {H G : Heads} {K J : Masks} (low : ℕ) (fs : List (Frame V)) {t u : Tree V} → IsTree low (plug fs t)
      → KeepsAbove H G K J (low_past low fs) fs t u → MarkedLists H K low (plug fs t) → MarkedLists G J (low_past low fs) u → MarkedLists G J low (plug fs u)
  plug_lists low [] is k lists own = own
  plug_lists {H = H} {G = G} {K = K} {J = J} low (on_zero room b one ∷ fs) {t = t} {u = u} is k lists own =
      let further = low_rises (b + 1) fs t is.1 in
      let within : (n : ℕ) → forks_at n t ≤ forks_at n (plug fs t) = λ n. forks_within fs t n in (
        mask_list_same K J low b (MarkedIn J (fork room b (plug fs u) one)) (k.heads (number_of room) (let own = one_if_same (number_of room) in
            omega (arith, within (number_of room)))) (λ x member most. stays_within k x member.0 (omega arith) member.1)
            (λ x member most. came_within k x member.0 (omega arith) member.1) lists.0,
        plug_lists (b + 1) fs is.1 (keeps_zero room b one k) lists.1 own,
        lists_same H G K J (b + 1) one (λ n some. k.heads n (omega (arith, within n))) (λ y at. k.aside y (inl at)) lists.2,
      )
  plug_lists {H = H} {G = G} {K = K} {J = J} low (on_one room b zero ∷ fs) {t = t} {u = u} is k lists own =
      let further = low_rises (b + 1) fs t is.2 in
      let within : (n : ℕ) → forks_at n t ≤ forks_at n (plug fs t) = λ n. forks_within fs t n in (
        mask_list_same K J low b (MarkedIn J (fork room b zero (plug fs u))) (k.heads (number_of room) (let own = one_if_same (number_of room) in
            omega (arith, within (number_of room)))) (λ x member most. stays_within k x member.0 (omega arith) member.1)
            (λ x member most. came_within k x member.0 (omega arith) member.1) lists.0,
        lists_same H G K J (b + 1) zero (λ n some. k.heads n (omega (arith, within n))) (λ y at. k.aside y (inl at)) lists.1,
        plug_lists (b + 1) fs is.2 (keeps_one room b zero k) lists.2 own,
      )

  -- -------- lists of masks that stay where the masks of their ranks do
  -- ---- one list stays where the masks of its ranks do
  pub list_stays : (K M : Masks) {first : Option Id} (low b : ℕ) (t : Tree V)
      → ((x : Placed V) → IsIn x t → low ≤ x.entry.rank → M (number_of x.room) ≡ K (number_of x.room))
      → IsMaskList K first low b (MarkedIn K t) → IsMaskList M first low b (MarkedIn M t)
  list_stays K M low b t same list = grind (arith, falls_among, stand_same, marked_same, same)

  -- and so do those of a tree
  pub lists_stay : (H J : Heads) (K M : Masks) (low : ℕ) (t : Tree V) → IsTree low t → ((n : ℕ) → 1 ≤ forks_at n t → J n ≡ H n)
      → ((y : Placed V) → IsIn y t → low ≤ y.entry.rank → M (number_of y.room) ≡ K (number_of y.room)) → MarkedLists H K low t → MarkedLists J M low t
  lists_stay H J K M low (leaf x xs) is heads masks lists = tt
  lists_stay H J K M low (fork room b zero one) is heads masks lists =
      let here = one_if_same (number_of room) in (
        subst (λ first. IsMaskList M first low b (MarkedIn M (fork room b zero one))) (sym (heads (number_of room) (omega arith)))
            (list_stays K M low b (fork room b zero one) masks lists.0),
        lists_stay H J K M (b + 1) zero is.1 (λ n some. heads n (omega arith)) (λ y at least. masks y (inl at) (omega arith)) lists.1,
        lists_stay H J K M (b + 1) one is.2 (λ n some. heads n (omega arith)) (λ y at least. masks y (inr at) (omega arith)) lists.2,
      )
