-- What a write to one of the open sockets leaves of all of them.
use Rattle.std.proofs.Common.{◌≡◌, ℕ, true, false, cond, not, filter, is_some, is_none, [], ◌∷◌, refl, ◌+◌, ◌<◌, ◌≤◌, inl, inr, List, ◌++◌, Option, Some, None, option_map, length, map, take, drop, slice_index_or, slice_set, sym, ap, ◌∙◌, arith}
use Rattle.std.specs.List.{list_any, position}
use Rattle.sock_addrs.specs.First.{change_first}
use Rattle.sock_addrs.specs.Rules.{rule, first_fault}
use Rattle.sock_addrs.specs.declared.errno.Errno.TheVariants.{EBADF}
use Rattle.std.proofs.Math.ListN.{get_or-map as get_or-map-at}
use Rattle.std.proofs.lemmas.Bool.{cases_eq}
use Rattle.std.proofs.lemmas.Grind.{get_or-set_at}
use Rattle.std.proofs.lemmas.List.{map-set, length-map, get_or-set_other, get_or_default, get_or-map}
use Rattle.std.proofs.lemmas.List.Edits.{map_over_more}
use Rattle.listeners.specs.Open.{Open, seen}
use Rattle.listeners.specs.Sockets.{Socket, closed_fault, has_id, socket_of, without}
use Rattle.sock_addrs.proofs.FirstLemmas.{found, find-first, first-map, first-position, none-position, find-map, change_first-set}

-- one more of them is changed as f says
pub changed-more : (f : Socket → Socket) (before now : List Open) (i : ℕ) (s d : Open)
    → i < length before
    → i < length now
    → map seen now ≡ map f (take i (map seen before)) ++ drop i (map seen before)
    → seen s ≡ f (seen (slice_index_or now i d))
    → map seen (slice_set now i s) ≡ map f (take (i + 1) (map seen before)) ++ drop (i + 1) (map seen before)
changed-more f before now i s d there within so_far one =
    map-set seen now i s
    ∙ ap (λ (x : Socket). slice_set (map seen now) i x) one
    ∙ map_over_more f (map seen before) (map seen now) i (seen (slice_index_or now i d)) (omega (arith, there, length-map before seen)) so_far (sym (get_or-map seen now i d (seen (slice_index_or now i d)) within))

-- the socket at the place of an id is the one with that id
pub found_socket : (sockets : List Open) (id : List ℕ) (i : ℕ) (d : Open) → position (λ s. has_id id (seen s)) sockets ≡ Some i → socket_of id (map seen sockets) ≡ Some (seen (slice_index_or sockets i d))
found_socket sockets id i d h =
    find-first (has_id id) (map seen sockets) i (seen d) (first-map seen (has_id id) sockets i d (first-position (λ s. has_id id (seen s)) sockets i d h))
    ∙ ap (λ (s : Socket). Some s) (get_or-map-at seen sockets i d)

-- without a place there is none
pub no_socket : (sockets : List Open) (id : List ℕ) → position (λ s. has_id id (seen s)) sockets ≡ None → socket_of id (map seen sockets) ≡ None
no_socket sockets id h =
    find-map seen (has_id id) sockets ∙ ap (λ (o : Option Open). option_map seen o) (none-position (λ s. has_id id (seen s)) sockets h)

-- the one with the id is changed
pub changed_at : (f : Socket → Socket) (sockets : List Open) (id : List ℕ) (i : ℕ) (s d : Open) → position (λ s. has_id id (seen s)) sockets ≡ Some i → seen s ≡ f (seen (slice_index_or sockets i d)) → map seen (slice_set sockets i s) ≡ change_first (has_id id) f (map seen sockets)
changed_at f sockets id i s d h e =
    map-set seen sockets i s
    ∙ change_first-set (has_id id) f (map seen sockets) i (seen s) (seen d)
    (first-map seen (has_id id) sockets i d (first-position (λ s. has_id id (seen s)) sockets i d h))
    (e ∙ ap (λ (s : Socket). f s) (sym (get_or-map-at seen sockets i d)))

-- the fault of one that isn't open
pub is_closed : (id : List ℕ) (ss : List Socket) → list_any (has_id id) ss ≡ false → closed_fault id ss ≡ Some EBADF
is_closed id ss h = fault (socket_of id ss) (sym (found (has_id id) ss) ∙ h)
  where
    fault : (o : Option Socket) → is_some o ≡ false → first_fault (rule (is_none o) EBADF ∷ []) ≡ Some EBADF
    fault None h = refl
    fault (Some s) h = cc

pub is_not_closed : (id : List ℕ) (ss : List Socket) → list_any (has_id id) ss ≡ true → closed_fault id ss ≡ None
is_not_closed id ss h = fault (socket_of id ss) (sym (found (has_id id) ss) ∙ h)
  where
    fault : (o : Option Socket) → is_some o ≡ true → first_fault (rule (is_none o) EBADF ∷ []) ≡ None
    fault None h = cc
    fault (Some s) h = refl

-- the others are left
pub others_left : (sockets : List Open) (id : List ℕ) → map seen (filter (λ s. not (has_id id (seen s))) sockets) ≡ without id (map seen sockets)
others_left [] id = refl
others_left (s ∷ ss) id = elim (has_id id (seen s)) as (λ b. map seen (cond (not b) (s ∷ filter (λ s. not (has_id id (seen s))) ss) (filter (λ s. not (has_id id (seen s))) ss)) ≡ cond (not b) (seen s ∷ without id (map seen ss)) (without id (map seen ss)))
    [ true ↦ others_left ss id | false ↦ ap (λ xs. seen s ∷ xs) (others_left ss id) ]
