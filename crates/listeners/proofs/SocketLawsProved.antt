-- The laws of sockets.
use Rattle.std.proofs.Common.{◌≡◌, ◌≤◌, ℕ, Bool, true, false, cond, not, nat_eq, ◌&&◌, ◌||◌, List, [], ◌∷◌, ◌++◌, map, Option, Some, None, option_map, ◌⊎◌, inl, inr, bytes_eq, refl, sym, ap, ◌∙◌, arith, if◌then◌else◌}
use Rattle.std.specs.List.{find}
use Rattle.std.specs.Option.{option_or}
use Rattle.std.proofs.lemmas.Bool.Decides.{nat_tests}
use Rattle.std.proofs.lemmas.List.Folds.{find-append}
use Rattle.std.proofs.lemmas.Slice.Eq.{bytes_eq-Decides}
use Rattle.sock_addrs.proofs.FirstLemmas.{map-change_first}
use Rattle.sock_addrs.specs.First.{change_first}
use Rattle.listeners.proofs.QueueLemmas.{bounded-push}
use Rattle.listeners.specs.Queue.{fits, one_more}
use Rattle.listeners.specs.declared.limits.TheConstants.{MOST_QUEUED}
use Rattle.listeners.specs.Sockets.{AreBounded, Socket, after_delivery, after_hearing, delivered, emptied, has_id, hears, looped, opened, queued, socket_of, taken, with_loopback, without}
use Rattle.listeners.specs.SocketLaws.{ClosedIsGone, ClosingDisturbsNoOther, ClosingKeepsBound, DeliveringChangesKeptAlone, DeliveringKeepsBound, DeliversWhateverLoopback, DeliversWithoutClosed, HearsInWords, LoopbackChangesItAlone, LoopbackDisturbsNoOther, LoopbackIsSet, LoopbackKeepsBound, LoopbackLeavesOthers, LoopbackOffSilencesOwn, LossIsSeenNowhereElse, ReadingChangesMessagesAlone, ReadingDisturbsNoOther, ReadingKeepsBound, ReadingKeepsCount, ReopenedIsEmpty, bare}

apart_ids : (s id other : List ℕ) → bytes_eq id other ≡ false → bytes_eq s id ≡ true → bytes_eq s other ≡ false
apart_ids s id other h e = ap (λ (x : List ℕ). bytes_eq x other) ((bytes_eq-Decides s id).0 e) ∙ h

same_id : (id : List ℕ) → bytes_eq id id ≡ true
same_id id = (bytes_eq-Decides id id).1 refl

-- A CHANGE OF ONE SOCKET that leaves its id

module _ (f : Socket → Socket) (same : (s : Socket) → (f s).id ≡ s.id) where
  others_stay : (id other : List ℕ) (ss : List Socket) → bytes_eq id other ≡ false → socket_of other (change_first (has_id id) f ss) ≡ socket_of other ss
  others_stay id other [] h = refl
  others_stay id other (s ∷ ss) h =
      elim (has_id id s) as (λ b. has_id id s ≡ b → find (has_id other) (if b then f s ∷ ss else s ∷ change_first (has_id id) f ss) ≡ cond (has_id other s) (Some s) (socket_of other ss)) [
        | true ↦ λ e. (
            let no : has_id other s ≡ false = apart_ids s.id id other h e in
            ap (λ (t : List ℕ). cond (bytes_eq t other) (Some (f s)) (socket_of other ss)) (same s)
            ∙ ap (λ (b : Bool). cond b (Some (f s)) (socket_of other ss)) no
            ∙ sym (ap (λ (b : Bool). cond b (Some s) (socket_of other ss)) no))
        | false ↦ λ e. ap (λ (o : Option Socket). cond (has_id other s) (Some s) o) (others_stay id other ss h)
      ] refl

  it_changes : (id : List ℕ) (ss : List Socket) → socket_of id (change_first (has_id id) f ss) ≡ option_map f (socket_of id ss)
  it_changes id [] = refl
  it_changes id (s ∷ ss) =
      elim (has_id id s) as (λ b. has_id id s ≡ b → find (has_id id) (if b then f s ∷ ss else s ∷ change_first (has_id id) f ss) ≡ option_map f (cond b (Some s) (socket_of id ss))) [
        | true ↦ λ e. ap (λ (t : List ℕ). cond (bytes_eq t id) (Some (f s)) (socket_of id ss)) (same s) ∙ ap (λ (b : Bool). cond b (Some (f s)) (socket_of id ss)) e
        | false ↦ λ e. ap (λ (b : Bool). cond b (Some s) (socket_of id (change_first (has_id id) f ss))) e ∙ it_changes id ss
      ] refl

pub reading_disturbs_no_other : ReadingDisturbsNoOther
reading_disturbs_no_other = λ id other ss h. others_stay emptied (λ s. refl) id other ss h

pub reading_changes_messages_alone : ReadingChangesMessagesAlone
reading_changes_messages_alone = λ id ss. map-change_first emptied (has_id id) emptied (λ s. refl) ss

abbrev count : Option Socket → Option ℕ
count o = option_map (λ s. s.lost) o

pub reading_keeps_count : ReadingKeepsCount
reading_keeps_count id other [] = refl
reading_keeps_count id other (s ∷ ss) =
    elim (has_id id s) as (λ b. count (socket_of other (if b then emptied s ∷ ss else s ∷ taken id ss)) ≡ count (cond (has_id other s) (Some s) (socket_of other ss))) [
      | true ↦ (elim (has_id other s) as (λ b. count (cond b (Some (emptied s)) (socket_of other ss)) ≡ count (cond b (Some s) (socket_of other ss)))
          [ true ↦ refl | false ↦ refl ])
      | false ↦ (elim (has_id other s) as (λ b. count (cond b (Some s) (socket_of other (taken id ss))) ≡ count (cond b (Some s) (socket_of other ss)))
          [ true ↦ refl | false ↦ reading_keeps_count id other ss ])
    ]

pub loopback_disturbs_no_other : LoopbackDisturbsNoOther
loopback_disturbs_no_other = λ id other on ss h. others_stay (looped on) (λ s. refl) id other ss h

pub loopback_is_set : LoopbackIsSet
loopback_is_set = λ id on ss. it_changes (looped on) (λ s. refl) id ss

pub loopback_changes_it_alone : LoopbackChangesItAlone
loopback_changes_it_alone = λ id on ss. map-change_first (looped true) (has_id id) (looped on) (λ s. refl) ss

-- CLOSING

gone : (id : List ℕ) (ss : List Socket) → socket_of id (without id ss) ≡ None
gone id [] = refl
gone id (s ∷ ss) =
    elim (has_id id s) as (λ b. has_id id s ≡ b → find (has_id id) (cond (not b) (s ∷ without id ss) (without id ss)) ≡ None)
    [ true ↦ λ e. gone id ss | false ↦ λ e. ap (λ (b : Bool). cond b (Some s) (socket_of id (without id ss))) e ∙ gone id ss ] refl

pub closed_is_gone : ClosedIsGone
closed_is_gone = gone

left_others : (id other : List ℕ) (ss : List Socket) → bytes_eq id other ≡ false → socket_of other (without id ss) ≡ socket_of other ss
left_others id other [] h = refl
left_others id other (s ∷ ss) h =
    elim (has_id id s) as (λ b. has_id id s ≡ b → find (has_id other) (cond (not b) (s ∷ without id ss) (without id ss)) ≡ cond (has_id other s) (Some s) (socket_of other ss)) [
      | true ↦ λ e. left_others id other ss h ∙ sym (ap (λ (b : Bool). cond b (Some s) (socket_of other ss)) (apart_ids s.id id other h e))
      | false ↦ λ e. ap (λ (o : Option Socket). cond (has_id other s) (Some s) o) (left_others id other ss h)
    ] refl

pub closing_disturbs_no_other : ClosingDisturbsNoOther
closing_disturbs_no_other = left_others

pub reopened_is_empty : ReopenedIsEmpty
reopened_is_empty id pid protocol ss =
    find-append (has_id id) (without id ss) (opened id pid protocol ∷ [])
    ∙ ap (λ (o : Option Socket). option_or o (find (has_id id) (opened id pid protocol ∷ []))) (gone id ss)
    ∙ ap (λ (b : Bool). cond b (Some (opened id pid protocol)) None) (same_id id)

-- HEARING

pub hears_in_words : HearsInWords
hears_in_words family s = (λ h. grind (arith, nat_tests), λ h. grind (arith, nat_tests))

off : (a : Bool) → (a && (false || not true)) ≡ false
off true = refl
off false = refl

pub loopback_off_silences_own : LoopbackOffSilencesOwn
loopback_off_silences_own family s = ap (λ (b : Bool). (nat_eq s.protocol 0 || nat_eq s.protocol family) && (false || not b)) (same_id s.id) ∙ off (nat_eq s.protocol 0 || nat_eq s.protocol family)

on_or_not : (on on' : Bool) → (on || true) ≡ (on' || true)
on_or_not true true = refl
on_or_not true false = refl
on_or_not false true = refl
on_or_not false false = refl

pub loopback_leaves_others : LoopbackLeavesOthers
loopback_leaves_others family own s on h =
    ap (λ (b : Bool). (nat_eq s.protocol 0 || nat_eq s.protocol family) && (on || not b)) h
    ∙ ap (λ (b : Bool). (nat_eq s.protocol 0 || nat_eq s.protocol family) && b) (on_or_not on s.loopback)

-- DELIVERY

-- what holds of the socket as it was, with one more message and with one more loss holds after a delivery
delivery-cases : (P : Socket → Type 0) (message : List ℕ) (family : ℕ) (own : Option (List ℕ)) (s : Socket)
    → P s
    → (fits s.messages message ≡ true → P (record s { messages = s.messages ++ message ∷ [] }))
    → P (record s { lost = one_more s.lost })
    → P (after_delivery message family own s)
delivery-cases P message family own s same more lost =
    let appended : Socket = record s { messages = s.messages ++ message ∷ [] } in
    let counted : Socket = record s { lost = one_more s.lost } in
    elim (hears family own s) as (λ b. P (if b then after_hearing message s else s)) [
      | true ↦ (elim (fits s.messages message) as (λ b. fits s.messages message ≡ b → P (if b then appended else counted))
          [ true ↦ more | false ↦ λ _. lost ] refl)
      | false ↦ same
    ]

id_stays : (message : List ℕ) (family : ℕ) (own : Option (List ℕ)) (id : List ℕ) (s : Socket) → has_id id (after_delivery message family own s) ≡ has_id id s
id_stays message family own id s = delivery-cases (λ x. has_id id x ≡ has_id id s) message family own s refl (λ _. refl) refl

pub delivers_without_closed : DeliversWithoutClosed
delivers_without_closed message family own id [] = refl
delivers_without_closed message family own id (s ∷ ss) =
    let after = after_delivery message family own in
    elim (has_id id s) as (λ b. has_id id s ≡ b → delivered message family own (cond (not b) (s ∷ without id ss) (without id ss)) ≡ without id (after s ∷ delivered message family own ss)) [
      | true ↦ λ e. delivers_without_closed message family own id ss ∙ sym (ap (λ (b : Bool). cond (not b) (after s ∷ without id (delivered message family own ss)) (without id (delivered message family own ss))) (id_stays message family own id s ∙ e))
      | false ↦ λ e. ap (λ (xs : List Socket). after s ∷ xs) (delivers_without_closed message family own id ss) ∙ sym (ap (λ (b : Bool). cond (not b) (after s ∷ without id (delivered message family own ss)) (without id (delivered message family own ss))) (id_stays message family own id s ∙ e))
    ] refl

found_delivered : (message : List ℕ) (family : ℕ) (own : Option (List ℕ)) (id : List ℕ) (ss : List Socket)
    → socket_of id (delivered message family own ss) ≡ option_map (after_delivery message family own) (socket_of id ss)
found_delivered message family own id [] = refl
found_delivered message family own id (s ∷ ss) =
    let after = after_delivery message family own in
    ap (λ (b : Bool). cond b (Some (after s)) (socket_of id (delivered message family own ss))) (id_stays message family own id s)
    ∙ (elim (has_id id s) as (λ b. cond b (Some (after s)) (socket_of id (delivered message family own ss)) ≡ option_map after (cond b (Some s) (socket_of id ss)))
    [ true ↦ refl | false ↦ found_delivered message family own id ss ])

pub delivers_whatever_loopback : DeliversWhateverLoopback
delivers_whatever_loopback message family own id other on ss h =
    found_delivered message family own other (with_loopback id on ss)
    ∙ ap (λ (o : Option Socket). option_map (after_delivery message family own) o) (loopback_disturbs_no_other id other on ss h)
    ∙ sym (found_delivered message family own other ss)

pub loss_is_seen_nowhere_else : LossIsSeenNowhereElse
loss_is_seen_nowhere_else message family own id these those h =
    found_delivered message family own id these
    ∙ ap (λ (o : Option Socket). option_map (after_delivery message family own) o) h
    ∙ sym (found_delivered message family own id those)

pub bare_stays : (message : List ℕ) (family : ℕ) (own : Option (List ℕ)) (s : Socket) → bare (after_delivery message family own s) ≡ bare s
bare_stays message family own s = delivery-cases (λ x. bare x ≡ bare s) message family own s refl (λ _. refl) refl

pub delivering_changes_kept_alone : DeliveringChangesKeptAlone
delivering_changes_kept_alone message family own [] = refl
delivering_changes_kept_alone message family own (s ∷ ss) =
    ap (λ (x : Socket). x ∷ map bare (delivered message family own ss)) (bare_stays message family own s)
    ∙ ap (λ (xs : List Socket). bare s ∷ xs) (delivering_changes_kept_alone message family own ss)

-- THE BOUND

module _ (f : Socket → Socket) (step : (s : Socket) → queued s ≤ MOST_QUEUED → queued (f s) ≤ MOST_QUEUED) where
  bounded-first : (id : List ℕ) (ss : List Socket) → AreBounded ss → AreBounded (change_first (has_id id) f ss)
  bounded-first id [] h = tt
  bounded-first id (s ∷ ss) h =
      elim (has_id id s) as (λ b. AreBounded (if b then f s ∷ ss else s ∷ change_first (has_id id) f ss))
      [ true ↦ (step s h.0, h.1) | false ↦ (h.0, bounded-first id ss h.1) ]

pub closing_keeps_bound : ClosingKeepsBound
closing_keeps_bound id [] h = tt
closing_keeps_bound id (s ∷ ss) h =
    elim (has_id id s) as (λ b. AreBounded (cond (not b) (s ∷ without id ss) (without id ss)))
    [ true ↦ closing_keeps_bound id ss h.1 | false ↦ (h.0, closing_keeps_bound id ss h.1) ]

pub loopback_keeps_bound : LoopbackKeepsBound
loopback_keeps_bound id on ss h = bounded-first (looped on) (λ s few. few) id ss h

pub reading_keeps_bound : ReadingKeepsBound
reading_keeps_bound id ss h = bounded-first emptied (λ s few. omega arith) id ss h

pub delivering_keeps_bound : DeliveringKeepsBound
delivering_keeps_bound message family own [] h = tt
delivering_keeps_bound message family own (s ∷ ss) h = (
  delivery-cases (λ x. queued x ≤ MOST_QUEUED) message family own s h.0 (λ room. bounded-push s.messages message room) h.0,
  delivering_keeps_bound message family own ss h.1,
)
