-- What is the same of two lists of sockets where they are one to x: of the sockets whose ids are kept, in order, all
-- but the messages, the count of losses and the loopback of others than x.
use Rattle.std.proofs.Common.{◌≡◌, ℕ, ◌≤◌, suc, Bool, true, false, cond, not, ◌||◌, filter, List, [], ◌∷◌, ◌++◌, length, map, Option, Some, None, is_some, is_none, option_map, bytes_eq, refl, sym, ap, ◌∙◌, arith, if◌then◌else◌}
use Rattle.std.specs.List.{list_any}
use Rattle.std.proofs.lemmas.List.{append-nil, map-append}
use Rattle.std.proofs.lemmas.List.Elements.{filter-append}
use Rattle.std.proofs.lemmas.Slice.Eq.{bytes_eq-Decides}
use Rattle.sock_addrs.specs.First.{change_first}
use Rattle.sock_addrs.specs.Rules.{rule, first_fault}
use Rattle.sock_addrs.specs.declared.errno.Errno.TheVariants.{EBADF}
use Rattle.listeners.specs.Sockets.{Socket, after_delivery, closed_fault, delivered, has_id, opened, pid_of, socket_of, without}
use Rattle.listeners.proofs.SocketLawsProved.{bare_stays}
use Rattle.route_core.specs.Queues.{bare, bared, plain}
use Rattle.route_core.specs.Telling.{Told, delivered_all}

-- ---- ids

id_is : (id : List ℕ) (s : Socket) → has_id id s ≡ true → s.id ≡ id
id_is id s h = (bytes_eq-Decides s.id id).0 h

-- ---- one socket

bared-id : (b : Bool) (s : Socket) → (bared b s).id ≡ s.id
bared-id true s = refl
bared-id false s = refl

bared-pid : (b : Bool) (s : Socket) → (bared b s).pid ≡ s.pid
bared-pid true s = refl
bared-pid false s = refl

bare-has_id : (x id : List ℕ) (s : Socket) → has_id id (bare x s) ≡ has_id id s
bare-has_id x id s = ap (λ (i : List ℕ). bytes_eq i id) (bared-id (has_id x s) s)

-- ---- those that are kept

module _ (x : List ℕ) (keeps : List ℕ → Bool) where
  abbrev pub seen : List Socket → List Socket
  seen sockets = map (bare x) (filter (λ s. keeps s.id) sockets)

  -- one socket before others
  seen-first : (s : Socket) (ss : List Socket) → seen (s ∷ ss) ≡ cond (keeps s.id) (bare x s ∷ seen ss) (seen ss)
  seen-first s ss = elim (keeps s.id) as
      (λ b. map (bare x) (cond b (s ∷ filter (λ s. keeps s.id) ss) (filter (λ s. keeps s.id) ss))
      ≡ cond b (bare x s ∷ seen ss) (seen ss))
      [ true ↦ refl | false ↦ refl ]

  seen-first_as : (s : Socket) (ss : List Socket) (b : Bool) → keeps s.id ≡ b
      → seen (s ∷ ss) ≡ cond b (bare x s ∷ seen ss) (seen ss)
  seen-first_as s ss b h = seen-first s ss ∙ ap (λ (c : Bool). cond c (bare x s ∷ seen ss) (seen ss)) h

  seen-append : (ss tt : List Socket) → seen (ss ++ tt) ≡ seen ss ++ seen tt
  seen-append ss tt = ap (map (bare x)) (filter-append (λ s. keeps s.id) ss tt)
      ∙ map-append (bare x) (filter (λ s. keeps s.id) ss) (filter (λ s. keeps s.id) tt)

  -- a socket with an id that is kept is found among them
  seen-find : (id : List ℕ) → keeps id ≡ true → (ss : List Socket)
      → socket_of id (seen ss) ≡ option_map (bare x) (socket_of id ss)
  seen-find id kept [] = refl
  seen-find id kept (s ∷ ss) =
      elim (has_id id s) as (λ b. has_id id s ≡ b
      → socket_of id (seen (s ∷ ss)) ≡ option_map (bare x) (cond b (Some s) (socket_of id ss))) [
        | true ↦ λ e. (
            let here : keeps s.id ≡ true = ap keeps (id_is id s e) ∙ kept in
            ap (socket_of id) (seen-first_as s ss true here)
            ∙ ap (λ (b : Bool). cond b (Some (bare x s)) (socket_of id (seen ss))) (bare-has_id x id s ∙ e))
        | false ↦ λ e. (
            let later : (b : Bool) → keeps s.id ≡ b → socket_of id (seen (s ∷ ss)) ≡ socket_of id (seen ss) =
            λ b h. ap (socket_of id) (seen-first_as s ss b h)
            ∙ (elim b as (λ b. socket_of id (cond b (bare x s ∷ seen ss) (seen ss)) ≡ socket_of id (seen ss)) [
              | true ↦ ap (λ (b : Bool). cond b (Some (bare x s)) (socket_of id (seen ss))) (bare-has_id x id s ∙ e)
              | false ↦ refl
            ]) in
            later (keeps s.id) refl ∙ seen-find id kept ss)
      ] refl

  pub seen-pid : (id : List ℕ) → keeps id ≡ true → (ss : List Socket) → pid_of id (seen ss) ≡ pid_of id ss
  seen-pid id kept ss = ap (option_map (λ s. s.pid)) (seen-find id kept ss) ∙ same (socket_of id ss)
    where
      same : (o : Option Socket) → option_map (λ s. s.pid) (option_map (bare x) o) ≡ option_map (λ s. s.pid) o
      same None = refl
      same (Some s) = ap (λ (n : ℕ). Some n) (bared-pid (has_id x s) s)

  -- x's own is seen whole
  pub seen-own : keeps x ≡ true → (ss : List Socket) → socket_of x (seen ss) ≡ socket_of x ss
  seen-own kept ss = seen-find x kept ss ∙ whole ss
    where
      whole : (ss : List Socket) → option_map (bare x) (socket_of x ss) ≡ socket_of x ss
      whole [] = refl
      whole (s ∷ ss) = elim (has_id x s) as
          (λ b. has_id x s ≡ b → option_map (bare x) (cond b (Some s) (socket_of x ss))
          ≡ cond b (Some s) (socket_of x ss))
          [ true ↦ λ e. ap (λ (b : Bool). Some (bared b s)) e | false ↦ λ e. whole ss ] refl

  -- a change of every socket that leaves its id
  module _ (f : Socket → Socket) (same : (s : Socket) → (f s).id ≡ s.id)
      (sees : (s : Socket) → bare x (f s) ≡ bare x (f (bare x s))) where
    pub seen-map : (ss : List Socket) → seen (map f ss) ≡ map (λ s. bare x (f s)) (seen ss)
    seen-map [] = refl
    seen-map (s ∷ ss) =
        let g : Socket → Socket = λ s. bare x (f s) in
        let at : (b : Bool) → keeps s.id ≡ b → seen (map f (s ∷ ss)) ≡ map g (seen (s ∷ ss)) =
        λ b h. seen-first_as (f s) (map f ss) b (ap keeps (same s) ∙ h)
        ∙ (elim b as (λ b. cond b (bare x (f s) ∷ seen (map f ss)) (seen (map f ss))
        ≡ map g (cond b (bare x s ∷ seen ss) (seen ss))) [
          | true ↦ ap (λ (y : Socket). y ∷ seen (map f ss)) (sees s)
              ∙ ap (λ (ys : List Socket). g (bare x s) ∷ ys) (seen-map ss)
          | false ↦ seen-map ss
        ])
        ∙ sym (ap (map g) (seen-first_as s ss b h)) in
        at (keeps s.id) refl

  -- a change of x's own
  module _ (f : Socket → Socket) (same : (s : Socket) → (f s).id ≡ s.id) where
    pub seen-change_own : keeps x ≡ true → (ss : List Socket)
        → seen (change_first (has_id x) f ss) ≡ change_first (has_id x) f (seen ss)
    seen-change_own kept [] = refl
    seen-change_own kept (s ∷ ss) =
        let g : List Socket → List Socket = change_first (has_id x) f in
        elim (has_id x s) as (λ b. has_id x s ≡ b → seen (if b then f s ∷ ss else s ∷ g ss) ≡ g (seen (s ∷ ss))) [
          | true ↦ λ e. (
              let here : keeps s.id ≡ true = ap keeps (id_is x s e) ∙ kept in
              let own : has_id x (f s) ≡ true = ap (λ (i : List ℕ). bytes_eq i x) (same s) ∙ e in
              seen-first_as (f s) ss true (ap keeps (same s) ∙ here)
              ∙ ap (λ (b : Bool). bared b (f s) ∷ seen ss) own
              ∙ sym (ap g (seen-first_as s ss true here ∙ ap (λ (b : Bool). bared b s ∷ seen ss) e)
              ∙ ap (λ (b : Bool). if b then f s ∷ seen ss else s ∷ g (seen ss)) e))
          | false ↦ λ e. (
              let at : (b : Bool) → keeps s.id ≡ b → seen (s ∷ g ss) ≡ g (seen (s ∷ ss)) =
              λ b h. seen-first_as s (g ss) b h
              ∙ (elim b as (λ b. cond b (bare x s ∷ seen (g ss)) (seen (g ss))
              ≡ g (cond b (bare x s ∷ seen ss) (seen ss))) [
                | true ↦ ap (λ (ys : List Socket). bare x s ∷ ys) (seen-change_own kept ss)
                    ∙ sym (ap (λ (b : Bool). if b then f (bare x s) ∷ seen ss else bare x s ∷ g (seen ss))
                    (bare-has_id x x s ∙ e))
                | false ↦ seen-change_own kept ss
              ])
              ∙ sym (ap g (seen-first_as s ss b h)) in
              at (keeps s.id) refl)
        ] refl

    -- and one of another's that isn't seen
    pub seen-change_other : ((s : Socket) → plain (f s) ≡ plain s) → (id : List ℕ) → bytes_eq id x ≡ false
        → (ss : List Socket)
        → seen (change_first (has_id id) f ss) ≡ seen ss
    seen-change_other unseen id other [] = refl
    seen-change_other unseen id other (s ∷ ss) =
        let g : List Socket → List Socket = change_first (has_id id) f in
        elim (has_id id s) as (λ b. has_id id s ≡ b → seen (if b then f s ∷ ss else s ∷ g ss) ≡ seen (s ∷ ss)) [
          | true ↦ λ e. (
              let no : has_id x s ≡ false = ap (λ (i : List ℕ). bytes_eq i x) (id_is id s e) ∙ other in
              let no_after : has_id x (f s) ≡ false = ap (λ (i : List ℕ). bytes_eq i x) (same s) ∙ no in
              let seen_same : bare x (f s) ≡ bare x s =
              ap (λ (b : Bool). bared b (f s)) no_after ∙ unseen s ∙ sym (ap (λ (b : Bool). bared b s) no) in
              seen-first_as (f s) ss (keeps s.id) (ap keeps (same s))
              ∙ ap (λ (y : Socket). cond (keeps s.id) (y ∷ seen ss) (seen ss)) seen_same
              ∙ sym (seen-first s ss))
          | false ↦ λ e. (
              seen-first s (g ss)
              ∙ ap (λ (ys : List Socket). cond (keeps s.id) (bare x s ∷ ys) ys) (seen-change_other unseen id other ss)
              ∙ sym (seen-first s ss))
        ] refl

  -- closing
  pub seen-without : (id : List ℕ) (ss : List Socket) → seen (without id ss) ≡ without id (seen ss)
  seen-without id [] = refl
  seen-without id (s ∷ ss) =
      let first : (b c : Bool) → has_id id s ≡ b → keeps s.id ≡ c
      → seen (without id (s ∷ ss)) ≡ without id (seen (s ∷ ss)) =
      λ b c e h. ap (λ (b : Bool). seen (cond (not b) (s ∷ without id ss) (without id ss))) e
      ∙ (elim b as (λ b. has_id id s ≡ b
      → seen (cond (not b) (s ∷ without id ss) (without id ss))
      ≡ without id (cond c (bare x s ∷ seen ss) (seen ss))) [
        | true ↦ λ e. seen-without id ss
            ∙ (elim c as (λ c. without id (seen ss) ≡ without id (cond c (bare x s ∷ seen ss) (seen ss))) [
              | true ↦ sym (ap (λ (b : Bool). cond (not b) (bare x s ∷ without id (seen ss)) (without id (seen ss)))
                  (bare-has_id x id s ∙ e))
              | false ↦ refl
            ])
        | false ↦ λ e. seen-first_as s (without id ss) c h
            ∙ (elim c as (λ c. cond c (bare x s ∷ seen (without id ss)) (seen (without id ss))
            ≡ without id (cond c (bare x s ∷ seen ss) (seen ss))) [
              | true ↦ ap (λ (ys : List Socket). bare x s ∷ ys) (seen-without id ss)
                  ∙ sym (ap (λ (b : Bool). cond (not b) (bare x s ∷ without id (seen ss)) (without id (seen ss)))
                  (bare-has_id x id s ∙ e))
              | false ↦ seen-without id ss
            ])
      ] e)
      ∙ sym (ap (without id) (seen-first_as s ss c h)) in
      first (has_id id s) (keeps s.id) refl refl

  pub seen-without_other : (id : List ℕ) → keeps id ≡ false → (ss : List Socket) → seen (without id ss) ≡ seen ss
  seen-without_other id out [] = refl
  seen-without_other id out (s ∷ ss) =
      elim (has_id id s) as (λ b. has_id id s ≡ b
      → seen (cond (not b) (s ∷ without id ss) (without id ss)) ≡ seen (s ∷ ss)) [
        | true ↦ λ e. seen-without_other id out ss ∙ sym (seen-first_as s ss false (ap keeps (id_is id s e) ∙ out))
        | false ↦ λ e. seen-first s (without id ss)
            ∙ ap (λ (ys : List Socket). cond (keeps s.id) (bare x s ∷ ys) ys) (seen-without_other id out ss)
            ∙ sym (seen-first s ss)
      ] refl

  -- opening a socket with an id that isn't kept
  pub seen-opened_other : (id : List ℕ) (pid protocol : ℕ) → keeps id ≡ false → (ss : List Socket)
      → seen (ss ++ opened id pid protocol ∷ []) ≡ seen ss
  seen-opened_other id pid protocol out ss =
      seen-append ss (opened id pid protocol ∷ [])
      ∙ ap (λ (ys : List Socket). seen ss ++ ys) (seen-first_as (opened id pid protocol) [] false out)
      ∙ append-nil (seen ss)

  -- no more are seen than there are
  pub seen-few : (ss : List Socket) → length (seen ss) ≤ length ss
  seen-few [] = omega arith
  seen-few (s ∷ ss) =
      let first : (b : Bool) → keeps s.id ≡ b → length (seen (s ∷ ss)) ≤ length (s ∷ ss) =
      λ b h. rw (seen-first_as s ss b h)
      (elim b as (λ b. length (cond b (bare x s ∷ seen ss) (seen ss)) ≤ suc (length ss))
      [ true ↦ omega (arith, seen-few ss) | false ↦ omega (arith, seen-few ss) ]) in
      first (keeps s.id) refl

-- ---- where all are kept

pub seen-all : (x : List ℕ) (ss : List Socket) → length (seen x (λ id. true) ss) ≡ length ss
seen-all x [] = refl
seen-all x (s ∷ ss) = ap (λ (n : ℕ). suc n) (seen-all x ss)

-- ---- deliveries

after-id : (message : List ℕ) (family : ℕ) (own : Option (List ℕ)) (s : Socket)
    → (after_delivery message family own s).id ≡ s.id
after-id message family own s = ap (λ (t : Socket). t.id) (bare_stays message family own s)

after-plain : (message : List ℕ) (family : ℕ) (own : Option (List ℕ)) (s : Socket)
    → plain (after_delivery message family own s) ≡ plain s
after-plain message family own s = ap (λ (t : Socket). record t { loopback = true }) (bare_stays message family own s)

-- what x sees after a delivery is of what it saw before
after-bare : (x message : List ℕ) (family : ℕ) (own : Option (List ℕ)) (s : Socket)
    → let f = after_delivery message family own in bare x (f s) ≡ bare x (f (bare x s))
after-bare x message family own s =
    let f = after_delivery message family own in
    let id_stays : (t : Socket) → has_id x (f t) ≡ has_id x t =
    λ t. ap (λ (i : List ℕ). bytes_eq i x) (after-id message family own t) in
    elim (has_id x s) as (λ b. has_id x s ≡ b → bare x (f s) ≡ bare x (f (bared b s))) [
      | true ↦ λ e. refl
      | false ↦ λ e. ap (λ (b : Bool). bared b (f s)) (id_stays s ∙ e) ∙ after-plain message family own s
          ∙ sym (ap (λ (b : Bool). bared b (f (plain s))) (id_stays (plain s) ∙ e)
          ∙ after-plain message family own (plain s))
    ] refl

-- ---- lists of which the same is seen

module _ (x : List ℕ) (keeps keeps' : List ℕ → Bool) where
  alike-delivered : (message : List ℕ) (family : ℕ) (own : Option (List ℕ)) (ss tt : List Socket)
      → seen x keeps' tt ≡ seen x keeps ss
      → seen x keeps' (delivered message family own tt) ≡ seen x keeps (delivered message family own ss)
  alike-delivered message family own ss tt h =
      let f = after_delivery message family own in
      seen-map x keeps' f (after-id message family own) (after-bare x message family own) tt
      ∙ ap (map (λ s. bare x (f s))) h
      ∙ sym (seen-map x keeps f (after-id message family own) (after-bare x message family own) ss)

  pub alike-told : (ts : List Told) (ss tt : List Socket) → seen x keeps' tt ≡ seen x keeps ss
      → seen x keeps' (delivered_all ts tt) ≡ seen x keeps (delivered_all ts ss)
  alike-told [] ss tt h = h
  alike-told (t ∷ ts) ss tt h =
      alike-told ts (delivered t.message t.family t.own ss) (delivered t.message t.family t.own tt)
      (alike-delivered t.message t.family t.own ss tt h)

  pub alike-append : (more ss tt : List Socket) → seen x keeps' more ≡ seen x keeps more
      → seen x keeps' tt ≡ seen x keeps ss
      → seen x keeps' (tt ++ more) ≡ seen x keeps (ss ++ more)
  alike-append more ss tt e h =
      seen-append x keeps' tt more ∙ ap (λ (ys : List Socket). ys ++ seen x keeps' more) h
      ∙ ap (λ (ys : List Socket). seen x keeps ss ++ ys) e ∙ sym (seen-append x keeps ss more)

  pub alike-opened : (id : List ℕ) (pid protocol : ℕ) (ss tt : List Socket) → keeps id ≡ true → keeps' id ≡ true
      → seen x keeps' tt ≡ seen x keeps ss
      → seen x keeps' (tt ++ opened id pid protocol ∷ []) ≡ seen x keeps (ss ++ opened id pid protocol ∷ [])
  alike-opened id pid protocol ss tt kept kept' h = alike-append (opened id pid protocol ∷ []) ss tt
      (seen-first_as x keeps' (opened id pid protocol) [] true kept'
      ∙ sym (seen-first_as x keeps (opened id pid protocol) [] true kept))
      h

  pub alike-without : (id : List ℕ) (ss tt : List Socket) → seen x keeps' tt ≡ seen x keeps ss
      → seen x keeps' (without id tt) ≡ seen x keeps (without id ss)
  alike-without id ss tt h = seen-without x keeps' id tt ∙ ap (without id) h ∙ sym (seen-without x keeps id ss)

  pub alike-change : (f : Socket → Socket) → ((s : Socket) → (f s).id ≡ s.id) → (ss tt : List Socket) → keeps x ≡ true
      → keeps' x ≡ true
      → seen x keeps' tt ≡ seen x keeps ss
      → seen x keeps' (change_first (has_id x) f tt) ≡ seen x keeps (change_first (has_id x) f ss)
  alike-change f same ss tt kept kept' h =
      seen-change_own x keeps' f same kept' tt ∙ ap (change_first (has_id x) f) h
      ∙ sym (seen-change_own x keeps f same kept ss)

  pub alike-pid : (id : List ℕ) (ss tt : List Socket) → keeps id ≡ true → keeps' id ≡ true
      → seen x keeps' tt ≡ seen x keeps ss → pid_of id tt ≡ pid_of id ss
  alike-pid id ss tt kept kept' h = sym (seen-pid x keeps' id kept' tt) ∙ ap (pid_of id) h ∙ seen-pid x keeps id kept ss

  pub alike-own : (ss tt : List Socket) → keeps x ≡ true → keeps' x ≡ true → seen x keeps' tt ≡ seen x keeps ss
      → socket_of x tt ≡ socket_of x ss
  alike-own ss tt kept kept' h = sym (seen-own x keeps' kept' tt) ∙ ap (socket_of x) h ∙ seen-own x keeps kept ss

  pub alike-closed : (id : List ℕ) (ss tt : List Socket) → keeps id ≡ true → keeps' id ≡ true
      → seen x keeps' tt ≡ seen x keeps ss → closed_fault id tt ≡ closed_fault id ss
  alike-closed id ss tt kept kept' h =
      closed id tt ∙ ap (λ (o : Option ℕ). first_fault (rule (is_none o) EBADF ∷ [])) (alike-pid id ss tt kept kept' h)
      ∙ sym (closed id ss)
    where
      none : (o : Option Socket) → is_none o ≡ is_none (option_map (λ s. s.pid) o)
      none None = refl
      none (Some s) = refl

      closed : (id : List ℕ) (ss : List Socket)
          → closed_fault id ss ≡ first_fault (rule (is_none (pid_of id ss)) EBADF ∷ [])
      closed id ss = ap (λ (b : Bool). first_fault (rule b EBADF ∷ [])) (none (socket_of id ss))

  pub alike-open : (id : List ℕ) (ss tt : List Socket) → keeps id ≡ true → keeps' id ≡ true
      → seen x keeps' tt ≡ seen x keeps ss
      → list_any (has_id id) tt ≡ list_any (has_id id) ss
  alike-open id ss tt kept kept' h = open_by_pid id tt
      ∙ ap (λ (o : Option ℕ). is_some o) (alike-pid id ss tt kept kept' h) ∙ sym (open_by_pid id ss)
    where
      first : (b : Bool) (s : Socket) (rest : Bool) (o : Option Socket) → rest ≡ is_some (option_map (λ s. s.pid) o)
          → (b || rest) ≡ is_some (option_map (λ s. s.pid) (cond b (Some s) o))
      first true s rest o h = refl
      first false s rest o h = h

      open_by_pid : (id : List ℕ) (ss : List Socket) → list_any (has_id id) ss ≡ is_some (pid_of id ss)
      open_by_pid id [] = refl
      open_by_pid id (s ∷ ss) = first (has_id id s) s (list_any (has_id id) ss) (socket_of id ss) (open_by_pid id ss)
