-- How many routes a table has of each rank, and the numbers of its rooms, of which it has as many as routes.
--     none_of_rank                     a rank that no route has
--     few_of_rank                      no more than there are keys
--     counted_more, counted_less       with a route more or less
use Rattle.radix_tree.proofs.{ListLemmas.all_weaker, PartRooms.one_if_same, WholeRoutes.shown_is}
use Rattle.radix_tree.proofs.Words.{◌≡◌, ℕ, ◌+◌, ◌-◌, ◌^◌, ◌<◌, ◌≤◌, ◌==◌, ◌&&◌, Bool, true, false, cond, if◌then◌else◌, IsTrue, List, [], ◌∷◌, ◌++◌, Some}
use Rattle.radix_tree.proofs.Words.{None, refl, sym, ap, ◌∙◌, arith, eqb-true, AllByRecursion, HasOneMore, precedes, IsTable, entry_at, Gains, of_rank}
use Rattle.radix_tree.proofs.Words.{AreCounted, Entry, AreGiven, rooms_in, numbers_in, nat_eq, length, is_some, eq-eqb, ne_eqb, true≢false, uses, one_if}
use Rattle.radix_tree.proofs.Words.{leaves_in, HasRoomMore, Lodged, map, Option, Node, Placed, Tree, leaf, fork, routes_of, members_at, leaves_at, shown, Holds}
use Rattle.radix_tree.proofs.Words.{number_of}
use Rattle.mask_table.specs.Counts.{count_of}
use Rattle.std.proofs.lemmas.List.Sums.{sum_by-cons, sum_by-append}
use Rattle.std.proofs.lemmas.List.{length-map, length-append}
use Rattle.radix_tree.specs.Given.{beside}

abbrev pub one_of : Bool → ℕ
one_of b = cond b 1 0

turned : (r rank : ℕ) → one_of (rank == r) ≡ (if r == rank then 1 else 0)
turned r rank = grind arith

module _ {V : Type 0} where
  pub of_rank-cons : (rank : ℕ) (e : Entry V) (es : List (Entry V)) → of_rank rank (e ∷ es) ≡ one_of (e.rank == rank) + of_rank rank es
  of_rank-cons rank e es = sum_by-cons (λ (f : Entry V). one_of (f.rank == rank)) e es

  pub of_rank-append : (rank : ℕ) (es fs : List (Entry V)) → of_rank rank (es ++ fs) ≡ of_rank rank es + of_rank rank fs
  of_rank-append rank es fs = sum_by-append (λ (f : Entry V). one_of (f.rank == rank)) es fs

  counted_here : (rank : ℕ) (e : Entry V) (es : List (Entry V)) → (e.rank == rank) ≡ true → of_rank rank (e ∷ es) ≡ 1 + of_rank rank es
  counted_here rank e es is = of_rank-cons rank e es ∙ ap (λ b. one_of b + of_rank rank es) is

  counted_behind : (rank : ℕ) (e : Entry V) (es : List (Entry V)) → (e.rank == rank) ≡ false → of_rank rank (e ∷ es) ≡ of_rank rank es
  counted_behind rank e es is = grind arith

  -- ---- a rank that no route has
  pub none_of_rank : (key rank : ℕ) (es : List (Entry V)) → of_rank rank es ≡ 0 → entry_at key rank es ≡ None
  none_of_rank key rank [] none = refl
  none_of_rank key rank (e ∷ es) none =
      elim (e.rank == rank) as (λ b. (e.rank == rank) ≡ b → cond ((e.key == key) && b) (Some e) (entry_at key rank es) ≡ None) [
        | true ↦ λ is. absurd (omega (arith, counted_here rank e es is))
        | false ↦ λ is. elim (e.key == key) as (λ c. cond (c && false) (Some e) (entry_at key rank es) ≡ None) [
          | true ↦ none_of_rank key rank es (sym (counted_behind rank e es is) ∙ none)
          | false ↦ none_of_rank key rank es (sym (counted_behind rank e es is) ∙ none)
        ]
      ] refl

  -- ---- of one rank each key stands once
  abbrev Above : ℕ → ℕ → List (Entry V) → Type 0
  Above low rank es = AllByRecursion (λ f. f.rank ≡ rank → low ≤ f.key) es

  above_next : {rank : ℕ} (e f : Entry V) → e.rank ≡ rank → IsTrue (precedes e f) → f.rank ≡ rank → e.key + 1 ≤ f.key
  above_next e f is ahead same = grind arith

  few_from : (low rank : ℕ) (es : List (Entry V)) → low ≤ 2 ^ 32 → IsTable es → Above low rank es → of_rank rank es + low ≤ 2 ^ 32
  few_from low rank [] within table above = omega arith
  few_from low rank (e ∷ es) within table above =
      elim (e.rank == rank) as (λ b. (e.rank == rank) ≡ b → of_rank rank (e ∷ es) + low ≤ 2 ^ 32) [
        | true ↦ λ is.
            let same = eqb-true e.rank rank is in
            let rest = few_from (e.key + 1) rank es (omega arith) table.2
            (all_weaker (λ f. IsTrue (precedes e f)) (λ f. f.rank ≡ rank → e.key + 1 ≤ f.key) (λ f ahead. above_next e f same ahead) es table.1) in
            omega (arith, counted_here rank e es is)
        | false ↦ λ is.
            omega (arith, counted_behind rank e es is, few_from low rank es within table.2 above.1)
      ] refl

  all_above : (rank : ℕ) (es : List (Entry V)) → Above 0 rank es
  all_above rank [] = tt
  all_above rank (e ∷ es) = (λ is. omega arith, all_above rank es)

  pub few_of_rank : (rank : ℕ) (es : List (Entry V)) → IsTable es → of_rank rank es ≤ 2 ^ 32
  few_of_rank rank es table = omega (arith, few_from 0 rank es (omega arith) table (all_above rank es))

  -- ---- a route more
  one_more : (rank : ℕ) (e : Entry V) {old new : List (Entry V)} → Gains e old new → of_rank rank new ≡ of_rank rank old + one_of (e.rank == rank)
  one_more rank e g =
      let was = ap (of_rank rank) g.was in
      omega (arith, of_rank-append rank g.front (e ∷ g.back), of_rank-append rank g.front g.back, of_rank-cons rank e g.back, ap (of_rank rank) g.now)

  pub counted_more : {e : Entry V} (old new : List (Entry V)) (was now : List ℕ) → AreCounted was old → Gains e old new → HasOneMore e.rank was now
      → AreCounted now new
  counted_more {e = e} old new was now counted g more r fits = grind (arith, one_more r e g)

  pub counted_less : {e : Entry V} (old new : List (Entry V)) (was now : List ℕ) → AreCounted was old → Gains e new old → HasOneMore e.rank now was
      → AreCounted now new
  counted_less {e = e} old new was now counted g more r fits = omega (arith, counted r fits, one_more r e g, turned r e.rank)

  -- what the counts say of a rank
  pub not_held : (counts : List ℕ) (es : List (Entry V)) (key rank : ℕ) {has : Bool} → AreCounted counts es → rank ≤ 33
      → (0 < count_of rank counts → IsTrue has) → has ≡ false → entry_at key rank es ≡ None
  not_held counts es key rank counted fits asks not = grind (arith, none_of_rank)

  pub few_held : (counts : List ℕ) (es : List (Entry V)) (rank : ℕ) → AreCounted counts es → IsTable es → rank ≤ 33 → count_of rank counts < 2 ^ 64 - 1
  few_held counts es rank counted table fits = grind (arith, few_of_rank rank es table)

-- -------- the numbers that were given to the lodged rooms, as rooms come and go
--     uses_cons         how often a number stands in a longer list
--     went              without one room, one number is used once less
--     given_none, given_more, given_less, given_same      what a map's rooms were given, after each change
--     as_many           as many numbers as a tree has rooms
one_if_cond : (b : Bool) → cond b 1 0 ≡ one_if b
one_if_cond b = search arith

pub uses_cons : (n k : ℕ) (ks : List ℕ) → uses n (k ∷ ks) ≡ one_if (k == n) + uses n ks
uses_cons n k ks = sum_by-cons (λ j. cond (nat_eq j n) 1 0) k ks ∙ ap (λ u. u + uses n ks) (one_if_cond (k == n))

one_of_test : (b : Bool) → one_if b ≡ (if b then 1 else 0)
one_of_test b = search arith

one_if_is : {b : Bool} → b ≡ true → one_if b ≡ 1
one_if_is is = ap one_if is

-- ---- one room goes
-- the pairs without a room, where the head is its own, and where it is another's
beside_own : (room : ℕ) (e : ℕ × ℕ) (es : List (ℕ × ℕ)) → (e.0 == room) ≡ true → beside room (e ∷ es) ≡ beside room es
beside_own room e es is = search

beside_other : (room : ℕ) (e : ℕ × ℕ) (es : List (ℕ × ℕ)) → (e.0 == room) ≡ false → beside room (e ∷ es) ≡ e ∷ beside room es
beside_other room e es is = search

-- a room that is not among them leaves them all
pub beside_none : (room : ℕ) (given : List (ℕ × ℕ)) → uses room (rooms_in given) ≡ 0 → beside room given ≡ given
beside_none room [] none = refl
beside_none room (e ∷ es) none = let cons = uses_cons room e.0 (rooms_in es) in grind (arith, beside_none room es (omega arith))

-- the rooms that are left
pub rooms_left : (room : ℕ) (given : List (ℕ × ℕ)) (n : ℕ) → uses n (rooms_in (beside room given)) ≡ (if n == room then 0 else uses n (rooms_in given))
rooms_left room [] n = grind arith
rooms_left room (e ∷ es) n =
    let behind = rooms_left room es n in
    let cons = uses_cons n e.0 (rooms_in es) in
    elim (e.0 == room) as (λ t. (e.0 == room) ≡ t → uses n (rooms_in (beside room (e ∷ es))) ≡ (if n == room then 0 else uses n (rooms_in (e ∷ es)))) [
      | true ↦ λ own. ap (λ r. uses n (rooms_in r)) (beside_own room e es own) ∙ behind
          ∙ elim (n == room) as (λ t. (n == room) ≡ t → (if t then 0 else uses n (rooms_in es)) ≡ (if t then 0 else uses n (rooms_in (e ∷ es)))) [
            | true ↦ λ is. refl
            | false ↦ λ is.
                let apart = ap one_if (ne_eqb e.0 n (λ (s : e.0 ≡ n). true≢false (sym (eq-eqb n room (sym s ∙ eqb-true e.0 room own)) ∙ is))) in
                omega (arith, apart)
          ] refl
      | false ↦ λ other. ap (λ r. uses n (rooms_in r)) (beside_other room e es other) ∙ uses_cons n e.0 (rooms_in (beside room es))
          ∙ elim (n == room) as (λ t. (n == room) ≡ t → (uses n (rooms_in (beside room es)) ≡ (if t then 0 else uses n (rooms_in es)))
          → one_if (e.0 == n) + uses n (rooms_in (beside room es)) ≡ (if t then 0 else uses n (rooms_in (e ∷ es)))) [
            | true ↦ λ is left.
                let apart = ap one_if (ne_eqb e.0 n (λ (s : e.0 ≡ n). true≢false (sym (eq-eqb e.0 room (s ∙ eqb-true n room is)) ∙ other))) in
                omega (arith, apart)
            | false ↦ λ is left. omega arith
          ] refl behind
    ] refl

-- where it stood once, one number is used once less
pub went : (room : ℕ) (given : List (ℕ × ℕ)) → uses room (rooms_in given) ≡ 1
    → (m : ℕ) × ((n : ℕ) → uses n (numbers_in given) ≡ uses n (numbers_in (beside room given)) + (if m == n then 1 else 0))
went room [] once = absurd (omega arith)
went room (e ∷ es) once =
    let cons = uses_cons room e.0 (rooms_in es) in
    elim (e.0 == room) as (λ t. (e.0 == room) ≡ t
    → (m : ℕ) × ((n : ℕ) → uses n (numbers_in (e ∷ es)) ≡ uses n (numbers_in (beside room (e ∷ es))) + (if m == n then 1 else 0))) [
      | true ↦ λ own. (
        e.1,
        λ n.
            let one = one_if_is own in
            let more = uses_cons n e.1 (numbers_in es) in
            let test = one_of_test (e.1 == n) in
            omega (arith, ap (λ r. uses n (numbers_in r)) (beside_own room e es own ∙ beside_none room es (omega arith))),
      )
      | false ↦ λ other.
          let none = ap one_if other in
          let behind = went room es (omega arith) in (
            behind.0,
            λ n.
                let rest = ap (λ r. uses n (numbers_in r)) (beside_other room e es other) in
                let more = uses_cons n e.1 (numbers_in es) in
                let left = uses_cons n e.1 (numbers_in (beside room es)) in
                omega arith,
          )
    ] refl

-- ---- the rooms of a map
module _ {V : Type 0} where
  -- a room more, which was not there
  room_more : (m new : Lodged V) (room : ℕ) → leaves_in m room ≡ None → HasRoomMore m new room → (n : ℕ)
      → one_if (is_some (leaves_in new n)) ≡ one_if (room == n) + one_if (is_some (leaves_in m n))
  room_more m new room free more n = grind arith

  pub given_more : (m new : Lodged V) (room number : ℕ) {given : List (ℕ × ℕ)} {last : ℕ} → AreGiven m given last → leaves_in m room ≡ None
      → HasRoomMore m new room → number < last + 1 → uses number (numbers_in given) ≡ 0 → AreGiven new ((room, number) ∷ given) last
  given_more m new room number {given = given} {last = last} are free more made unused = record {
    rooms = λ n.
        let now = room_more m new room free more n in omega (arith, uses_cons n room (rooms_in given));
    once = λ n.
        let cons = uses_cons n number (numbers_in given) in
        elim (number == n) as (λ t. (number == n) ≡ t → uses n (number ∷ numbers_in given) ≤ 1) [
          | true ↦ λ is.
              let one = ap one_if is in
              let none = ap (λ k. uses k (numbers_in given)) (sym (eqb-true number n is)) in omega arith
          | false ↦ λ is. let none = ap one_if is in omega arith
        ] refl;
    made = λ n past.
        let cons = uses_cons n number (numbers_in given) in
        let other = ap one_if (ne_eqb number n (λ (e : number ≡ n). omega arith)) in
        omega arith;
  }

  -- it goes
  pub one_there : (m new : Lodged V) (room : ℕ) {given : List (ℕ × ℕ)} {last : ℕ} → AreGiven m given last → leaves_in new room ≡ None
      → HasRoomMore new m room → uses room (rooms_in given) ≡ 1
  one_there m new room are gone more = grind arith

  pub given_less : (m new : Lodged V) (room : ℕ) {given : List (ℕ × ℕ)} {last : ℕ} → AreGiven m given last → leaves_in new room ≡ None
      → HasRoomMore new m room → AreGiven new (beside room given) last
  given_less m new room {given = given} are gone more =
      let one = went room given (one_there m new room are gone more) in
      record {
        rooms = λ n. rooms_left room given n ∙ elim (n == room) as (λ t. (n == room) ≡ t
            → (if t then 0 else uses n (rooms_in given)) ≡ one_if (is_some (leaves_in new n))) [
              | true ↦ λ is. sym (ap (λ k. one_if (is_some (leaves_in new k))) (eqb-true n room is) ∙ ap (λ o. one_if (is_some o)) gone)
              | false ↦ λ is.
                  omega (arith, room_more new m room gone more n, ap one_if (ne_eqb room n (λ (e : room ≡ n). true≢false (sym (eq-eqb n room (sym e)) ∙ is))))
            ] refl;
        once = λ n. omega (arith, one.1 n);
        made = λ n past. omega (arith, one.1 n);
      }

  -- the same rooms are in use
  pub given_same : (m new : Lodged V) {given : List (ℕ × ℕ)} {last : ℕ} → AreGiven m given last
      → ((n : ℕ) → is_some (leaves_in new n) ≡ is_some (leaves_in m n)) → AreGiven new given last
  given_same m new are same = grind arith

  -- the next number is new
  pub given_next : (m : Lodged V) {given : List (ℕ × ℕ)} {last : ℕ} → AreGiven m given last → AreGiven m given (last + 1)
  given_next m {last = last} are = record { rooms = are.rooms; once = are.once; made = λ n past. are.made n (omega arith) }

pub as_many_numbers : (given : List (ℕ × ℕ)) → length (numbers_in given) ≡ length (rooms_in given)
as_many_numbers given = length-map given (λ (e : ℕ × ℕ). e.1) ∙ sym (length-map given (λ (e : ℕ × ℕ). e.0))

-- -------- a table has as many rooms as routes
--     equally_long      two lists in which each number stands equally often
--     rooms_as_routes   as many numbers of rooms as routes that the rooms show
uses_append : (n : ℕ) (js ks : List ℕ) → uses n (js ++ ks) ≡ uses n js + uses n ks
uses_append n js ks = sum_by-append (λ j. cond (nat_eq j n) 1 0) js ks

-- ---- lists in which each number stands equally often
-- a list of numbers, and without one of them
record Without (k : ℕ) (ks : List ℕ) : Type 0 where
  others : List ℕ
  longer : length ks ≡ length others + 1
  more : (n : ℕ) → uses n ks ≡ one_if (k == n) + uses n others

take_out : (k : ℕ) (ks : List ℕ) → 1 ≤ uses k ks → Without k ks
take_out k [] some = absurd (omega arith)
take_out k (j ∷ js) some = elim (j == k) as (λ b. (j == k) ≡ b → Without k (j ∷ js)) [
  | true ↦ λ is. record { others = js; longer = omega arith; more = λ n. uses_cons n j js ∙ ap (λ i. one_if (i == n) + uses n js) (eqb-true j k is) }
  | false ↦ λ is.
      let not_here = ap one_if is in
      let behind = take_out k js (omega (arith, uses_cons k j js)) in
      let longer = behind.longer in
      record {
        others = j ∷ behind.others;
        longer = omega arith;
        more = λ n. omega (arith, uses_cons n j js, uses_cons n j behind.others, behind.more n);
      }
] refl

pub equally_long : (js ks : List ℕ) → ((n : ℕ) → uses n js ≡ uses n ks) → length js ≡ length ks
equally_long [] [] same = refl
equally_long [] (k ∷ ks) same = absurd (omega (arith, same k, uses_cons k k ks, one_if_same k))
equally_long (j ∷ js) ks same =
    let out = take_out j ks (omega (arith, same j, uses_cons j j js, one_if_same j)) in
    omega (arith, out.longer, equally_long js out.others (λ n. omega (arith, same n, uses_cons n j js, out.more n)))

module _ {V : Type 0} where
  -- ---- the rooms of a tree, from left to right
  abbrev numbers_along : List (Placed V) → List ℕ
  numbers_along c = map (λ (p : Placed V). (number_of p.room)) c

  abbrev numbers_of : Tree V → List ℕ
  numbers_of (leaf x xs) = numbers_along (x ∷ xs)
  numbers_of (fork room b left right) = numbers_of left ++ numbers_of right

  uses_chain : (n : ℕ) (c : List (Placed V)) → uses n (numbers_along c) ≡ members_at n c
  uses_chain n [] = refl
  uses_chain n (x ∷ c) = search (uses_cons, uses_chain n c)

  uses_tree : (n : ℕ) (t : Tree V) → uses n (numbers_of t) ≡ leaves_at n t
  uses_tree n (leaf x xs) = uses_chain n (x ∷ xs)
  uses_tree n (fork room b left right) = omega (arith, uses_append n (numbers_of left) (numbers_of right), uses_tree n left, uses_tree n right)

  one_each : (t : Tree V) → length (numbers_of t) ≡ length (routes_of t)
  one_each (leaf x xs) = length-map (x ∷ xs) (λ (p : Placed V). (number_of p.room)) ∙ sym (length-map (x ∷ xs) (λ (p : Placed V). p.entry))
  one_each (fork room b left right) = search (arith, length-append, one_each left, one_each right)

  -- ---- the rooms of a map
  pub rooms_as_routes : (m : Lodged V) (root : Option Node) {given : List (ℕ × ℕ)} {last : ℕ} → Holds m root → AreGiven m given last
      → length (numbers_in given) ≡ length (shown m root)
  rooms_as_routes m None {given = given} none are =
      as_many_numbers given ∙ equally_long (rooms_in given) [] (λ n. are.rooms n ∙ ap (λ o. one_if (is_some o)) (none n))
  rooms_as_routes m (Some root) {given = given} w are = as_many_numbers given
      ∙ equally_long (rooms_in given) (numbers_of w.part.tree) (λ n. omega (arith, are.rooms n, w.leaves n, uses_tree n w.part.tree)) ∙ one_each w.part.tree
      ∙ ap length (sym (shown_is w))
