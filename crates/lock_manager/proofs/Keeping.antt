-- Each call keeps the manager's rules.
use Rattle.std.proofs.Common.{◌≡◌, ◌≢◌, ℕ, suc, ◌<◌, List, [], ◌∷◌, ◌++◌, length, map, set, Option, Some, None, ◌⊎◌}
use Rattle.std.proofs.Common.{inl, inr, refl, sym, ap, ◌∙◌, subst, arith}
use Rattle.std.specs.Prelude.{slice_get}
use Rattle.std.specs.List.{All, Contains}
use Rattle.std.proofs.Math.ListN.{length-set}
use Rattle.std.proofs.lemmas.Bool.{cases_eq}
use Rattle.std.proofs.lemmas.List.Elements.{Contains-append_left, Contains-push}
use Rattle.std.proofs.lemmas.Option.{none-some}
use Rattle.core_lang.specs.declared.value.Value.{Value}
use Rattle.locks.specs.declared.lock.Lock.{Lock}
use Rattle.code.specs.Memory.{overwritten, Agrees}
use Rattle.layout.specs.declared.room.Room.{Room}
use Rattle.layout.specs.LockCells.{cells_of}
use Rattle.layout.specs.Layouts.{AreDistinct}
use Rattle.moved_cells.specs.Working.Grants.{GrantOf, IsWhole, cells_in, values_on, locks_of}
use Rattle.history.specs.Commits.{Commit, committed, IsLegal, WritesNot}
use Rattle.history.specs.Working.Laws.{WritesSpareOthers, CommittedOfOneMore, LegalOfOneMore}
use Rattle.lock_manager.specs.declared.places.LockPlace.TheVariants.{Free, Taken}
use Rattle.lock_manager.specs.declared.queue.Waiter.{Waiter}
use Rattle.lock_manager.specs.Manager.{SessionOf}
use Rattle.lock_manager.specs.Working.Sessions.{TicketOf, fresh, with_lock, with_ask}
use Rattle.lock_manager.specs.Working.Queues.{leaving, joining}
use Rattle.lock_manager.specs.Manager.{Managed, session_of, session_in}
use Rattle.lock_manager.specs.Working.Managers.{IsKept, Holds, Asks, place_of, given_back, as_committed, ComesAfter}
use Rattle.lock_manager.specs.Working.Managers.{threads}
use Rattle.lock_manager.specs.Working.Calls.{Knows, CanAsk, IsOwnWrite, Fits, AreItsGrants, with_session, after_grant}
use Rattle.lock_manager.specs.Working.Calls.{after_refusal, after_release, after_give_up}
use Rattle.locks.specs.Theory.Order.{lock_cases}
use Rattle.lock_manager.proofs.Heaps.{values_agree, values_same}
use Rattle.lock_manager.proofs.Queued.{still_waits, waited}
use Rattle.lock_manager.proofs.Slots.{slot_within, holds_cases, holds_other, holds_same, asks_cases, asks_other}
use Rattle.lock_manager.proofs.Slots.{asks_same, asks_back, as_it_asked, asked_session, session_same, once_set}
use Rattle.lock_manager.proofs.Slots.{closed_asks_nothing}
use Rattle.lock_manager.proofs.GivenBack.{put_same, put_other, length-put, length-given_back, back_cases, back_kept}
use Rattle.core_lang.specs.Theory.Items.{all_contained, some_same, push_cases, in_map, from_map}
use Rattle.layout.specs.Theory.Numbers.{distinct_none, distinct_push, cell_is_of}

never_free : {P : Type 0} (values : List Value) (t : ℕ) → Some (Free values) ≡ Some (Taken t) → P
never_free values t e = absurd (let q : Free values ≡ Taken t = some_same (Free values) (Taken t) e in cc)

free_values : (a b : List Value) → Free a ≡ Free b → a ≡ b
free_values a b e = cc

same_taker : (t u : ℕ) → Some (Taken t) ≡ Some (Taken u) → t ≡ u
same_taker t u e = let q : Taken t ≡ Taken u = some_same (Taken t) (Taken u) e in cc

none_some : {P : Type 0} {A : Type 0} (a : A) → None ≡ Some a → P
none_some a e = absurd (none-some a e)

-- ---- begin

pub keep_begin : (m : Managed) (t : ℕ) (room : Room) → IsKept m → t < threads → session_of m t ≡ None →
    IsKept (with_session m t (Some (fresh (length m.history) room)))
keep_begin m t room k lt closed =
    let s = Some (fresh (length m.history) room) in
    let within : t < length m.slots = omega (arith, lt, k.thread_count) in
    let not_its : (u : ℕ) (x : SessionOf) → session_of m u ≡ Some x → t ≢ u = λ u x is e. none_some x (sym closed ∙ ap (session_in m.slots) e ∙ is) in
    record {
      legal = k.legal;
      values = k.values;
      free = k.free;
      taken = λ lock u e. let h = k.taken lock u e in holds_other m.slots t s within u lock (not_its u h.session h.is) h;
      held = λ lock u h. elim (holds_cases m.slots t s within u lock h) [
        | inl r ↦ (let q : fresh (length m.history) room ≡ r.1 = some_same (fresh (length m.history) room) r.1 r.2 in
            let none : Contains [] lock = subst (λ (x : SessionOf). Contains x.held lock) (sym q) r.3 in absurd (omega (arith, none.1)))
        | inr r ↦ k.held lock u r.1
      ];
      once = once_set m.slots t s within k.once (λ x e. subst AreDistinct (ap (λ (y : SessionOf). y.held) (some_same (fresh (length m.history) room) x e)) distinct_none);
      rising = λ u lock a. elim (cases_eq t u) [
        | inl e ↦ none_some lock (new_asks_nothing u lock e a within)
        | inr ne ↦ as_it_asked m.slots t s within (λ (x : SessionOf). ComesAfter m.ranks x.held lock) u lock a ne (λ b. k.rising u lock b)
      ];
      waits = λ u lock a. elim (asks_cases m.slots t s within u lock a) [
        | inl r ↦ (let q : fresh (length m.history) room ≡ r.1 = some_same (fresh (length m.history) room) r.1 r.2 in none_some lock (ap (λ (x : SessionOf). x.ask) q ∙ r.3))
        | inr r ↦ k.waits u lock r.1
      ];
      asked = λ w c. let a = k.asked w c in asks_other m.slots t s within w.thread w.lock (not_its w.thread a.session a.is) a;
      distinct = k.distinct;
      lock_count = k.lock_count;
      cell_count = k.cell_count;
      thread_count = length-set m.slots t s ∙ k.thread_count;
    }
  where
    new_asks_nothing : (u : ℕ) (lock : Lock) → t ≡ u →
        (a : Asks (set m.slots t (Some (fresh (length m.history) room))) u lock) → t < length m.slots →
        None ≡ Some lock
    new_asks_nothing u lock e a within =
        let q = asked_session m.slots t (Some (fresh (length m.history) room)) within (fresh (length m.history) room) u lock e refl a in
        ap (λ (x : SessionOf). x.ask) q ∙ a.ask

-- ---- request

-- what a request relies on
pub record CanBeAsked (m : Managed) (ticket : TicketOf) (lock : Lock) : Type 0 where
  pub kept : IsKept m
  pub known : Knows m ticket
  pub asks : CanAsk m ticket lock

pub keep_grant : (m : Managed) (ticket : TicketOf) (lock : Lock) (values : List Value) → CanBeAsked m ticket lock →
    place_of m lock ≡ Some (Free values) → IsKept (after_grant m ticket lock)
keep_grant m ticket lock values c here =
    let k = c.kept in
    let t = ticket.thread in
    let s = Some (with_lock ticket.session lock) in
    let within = slot_within m.slots t ticket.session c.known in
    let locks = m.layout.locks in
    let taken_other : (other : Lock) (u : ℕ) → place_of m other ≡ Some (Taken u) → place_of (after_grant m ticket lock) other ≡ Some (Taken u) =
    λ other u e. put_other locks m.places lock other (Taken t) (λ same. never_free values u (sym here ∙ ap (place_of m) same ∙ e)) ∙ e in
    record {
      legal = k.legal;
      values = k.values;
      free = λ other vs e. elim (lock_cases lock other) [
        | inl same ↦ never_free vs t (sym e ∙ ap (place_of (after_grant m ticket lock)) (sym same.1) ∙ put_same locks m.places lock (Free values) (Taken t) here)
        | inr ne ↦ k.free other vs (sym (put_other locks m.places lock other (Taken t) ne.1) ∙ e)
      ];
      taken = λ other u e. elim (lock_cases lock other) [
        | inl same ↦ holds_same m.slots t s within (with_lock ticket.session lock) u other
            (same_taker t u (sym (put_same locks m.places lock (Free values) (Taken t) here) ∙ ap (place_of (after_grant m ticket lock)) same.1 ∙ e)) refl
            (subst (Contains (ticket.session.held ++ lock ∷ [])) same.1 (Contains-push ticket.session.held lock))
        | inr ne ↦ taken_still other u (k.taken other u (sym (put_other locks m.places lock other (Taken t) ne.1) ∙ e)) within
      ];
      held = λ other u h. elim (holds_cases m.slots t s within u other h) [
        | inl r ↦ (let q = some_same (with_lock ticket.session lock) r.1 r.2 in
            elim (push_cases ticket.session.held lock other (subst (λ (x : SessionOf). Contains x.held other) (sym q) r.3)) [
              | inl old ↦ taken_other other u (k.held other u (record { session = ticket.session; is = ap (session_in m.slots) (sym r.0) ∙ c.known; held = old }))
              | inr same ↦ ap (place_of (after_grant m ticket lock)) (sym same) ∙ put_same locks m.places lock (Free values) (Taken t) here ∙ ap (λ (x : ℕ). Some (Taken x)) r.0
            ])
        | inr r ↦ taken_other other u (k.held other u r.1)
      ];
      once = once_set m.slots t s within k.once (λ x e. subst AreDistinct (ap (λ (y : SessionOf). y.held) (some_same (with_lock ticket.session lock) x e))
          (distinct_push ticket.session.held lock (k.once t ticket.session c.known)
          (λ mine. never_free values t (sym here ∙ k.held lock t (record { session = ticket.session; is = c.known; held = mine })))));
      rising = λ u other a. elim (cases_eq t u) [
        | inl e ↦ none_some other (ap (λ (x : SessionOf). x.ask) (asked_session m.slots t s within (with_lock ticket.session lock) u other e refl a) ∙ a.ask)
        | inr ne ↦ as_it_asked m.slots t s within (λ (x : SessionOf). ComesAfter m.ranks x.held other) u other a ne (λ b. k.rising u other b)
      ];
      waits = λ u other a. elim (cases_eq t u) [
        | inl e ↦ none_some other (ap (λ (x : SessionOf). x.ask) (asked_session m.slots t s within (with_lock ticket.session lock) u other e refl a) ∙ a.ask)
        | inr ne ↦ still_waits t m.waiters (record { thread = u; lock = other }) (k.waits u other (asks_back m.slots t s within u other a ne)) (λ e. ne (sym e))
      ];
      asked = λ w there. let old = waited t m.waiters w there in asks_other m.slots t s within w.thread w.lock (λ e. old.1 (sym e)) (k.asked w old.0);
      distinct = k.distinct;
      lock_count = length-put locks m.places lock (Taken t) ∙ k.lock_count;
      cell_count = k.cell_count;
      thread_count = length-set m.slots t s ∙ k.thread_count;
    }
  where
    taken_still : (other : Lock) (u : ℕ) → Holds m.slots u other → ticket.thread < length m.slots →
        Holds (set m.slots ticket.thread (Some (with_lock ticket.session lock))) u other
    taken_still other u h within = elim (cases_eq ticket.thread u) [
      | inl e ↦ holds_same m.slots ticket.thread (Some (with_lock ticket.session lock)) within (with_lock ticket.session lock) u other e refl
          (let q = some_same ticket.session h.session (sym c.known ∙ ap (session_in m.slots) e ∙ h.is) in
          Contains-append_left ticket.session.held (lock ∷ []) other (subst (λ (x : SessionOf). Contains x.held other) (sym q) h.held))
      | inr ne ↦ holds_other m.slots ticket.thread (Some (with_lock ticket.session lock)) within u other ne h
    ]

joined : (o : Option Lock) (w x : Waiter) (ws : List Waiter) → Contains ws x → Contains (joining o w ws) x
joined None w x ws c = Contains-append_left ws (w ∷ []) x c
joined (Some l) w x ws c = c

-- the thread that asks now waits
joins : (o : Option Lock) (w : Waiter) (ws : List Waiter) → ((l : Lock) → o ≡ Some l → Contains ws w) →
    Contains (joining o w ws) w
joins None w ws f = Contains-push ws w
joins (Some l) w ws f = f l refl

joined_cases : (o : Option Lock) (w x : Waiter) (ws : List Waiter) → Contains (joining o w ws) x →
    Contains ws x ⊎ (w ≡ x)
joined_cases None w x ws c = push_cases ws w x c
joined_cases (Some l) w x ws c = inl c

pub keep_refusal : (m : Managed) (ticket : TicketOf) (lock : Lock) → CanBeAsked m ticket lock →
    IsKept (after_refusal m ticket lock)
keep_refusal m ticket lock c =
    let k = c.kept in
    let t = ticket.thread in
    let x = with_ask ticket.session lock in
    let s = Some x in
    let within = slot_within m.slots t ticket.session c.known in
    let w : Waiter = record { thread = t; lock = lock } in
    let own : (u : ℕ) (other : Lock) → t ≡ u → (a : Asks (set m.slots t s) u other) → lock ≡ other =
    λ u other e a. some_same lock other (ap (λ (y : SessionOf). y.ask) (asked_session m.slots t s within x u other e refl a) ∙ a.ask) in
    record {
      legal = k.legal;
      values = k.values;
      free = k.free;
      taken = λ other u e. still_holds other u (k.taken other u e) within;
      held = λ other u h. k.held other u (elim (holds_cases m.slots t s within u other h) [
        | inl r ↦ record { session = ticket.session; is = ap (session_in m.slots) (sym r.0) ∙ c.known; held = subst (λ (y : SessionOf). Contains y.held other) (sym (some_same x r.1 r.2)) r.3 }
        | inr r ↦ r.1
      ]);
      once = once_set m.slots t s within k.once (λ y e. subst AreDistinct (ap (λ (z : SessionOf). z.held) (some_same x y e)) (k.once t ticket.session c.known));
      rising = λ u other a. elim (cases_eq t u) [
        | inl e ↦ (let q = asked_session m.slots t s within x u other e refl a in
            subst (λ (y : SessionOf). ComesAfter m.ranks y.held other) q (subst (ComesAfter m.ranks ticket.session.held) (own u other e a) c.asks.rises))
        | inr ne ↦ as_it_asked m.slots t s within (λ (x : SessionOf). ComesAfter m.ranks x.held other) u other a ne (λ b. k.rising u other b)
      ];
      waits = λ u other a. elim (cases_eq t u) [
        | inl e ↦ subst (λ (l : Lock). Contains (joining ticket.session.ask w m.waiters) (record { thread = u; lock = l })) (own u other e a)
            (subst (λ (n : ℕ). Contains (joining ticket.session.ask w m.waiters) (record { thread = n; lock = lock })) e
            (joins ticket.session.ask w m.waiters (λ l asked. subst (λ (y : Lock). Contains m.waiters (record { thread = t; lock = y })) (c.asks.same l asked)
            (k.waits t l (record { session = ticket.session; is = c.known; ask = asked })))))
        | inr ne ↦ joined ticket.session.ask w (record { thread = u; lock = other }) m.waiters (k.waits u other (asks_back m.slots t s within u other a ne))
      ];
      asked = λ v there. elim (joined_cases ticket.session.ask w v m.waiters there) [
        | inl old ↦ elim (cases_eq t v.thread) [
          | inl e ↦ (let a = k.asked v old in
              let q = some_same ticket.session a.session (sym c.known ∙ ap (session_in m.slots) e ∙ a.is) in
              let same : v.lock ≡ lock = c.asks.same v.lock (ap (λ (y : SessionOf). y.ask) q ∙ a.ask) in
              asks_same m.slots t s within x v.thread v.lock e refl (ap Some (sym same)))
          | inr ne ↦ asks_other m.slots t s within v.thread v.lock ne (k.asked v old)
        ]
        | inr new ↦ asks_same m.slots t s within x v.thread v.lock (ap (λ (y : Waiter). y.thread) new) refl (ap (λ (y : Waiter). Some y.lock) new)
      ];
      distinct = k.distinct;
      lock_count = k.lock_count;
      cell_count = k.cell_count;
      thread_count = length-set m.slots t s ∙ k.thread_count;
    }
  where
    still_holds : (other : Lock) (u : ℕ) → Holds m.slots u other → ticket.thread < length m.slots →
        Holds (set m.slots ticket.thread (Some (with_ask ticket.session lock))) u other
    still_holds other u h within = elim (cases_eq ticket.thread u) [
      | inl e ↦ holds_same m.slots ticket.thread (Some (with_ask ticket.session lock)) within (with_ask ticket.session lock) u other e refl
          (let q = some_same ticket.session h.session (sym c.known ∙ ap (session_in m.slots) e ∙ h.is) in
          subst (λ (x : SessionOf). Contains x.held other) (sym q) h.held)
      | inr ne ↦ holds_other m.slots ticket.thread (Some (with_ask ticket.session lock)) within u other ne h
    ]

-- ---- release and give_up

-- the parts that an ended section leaves: its grants with these values, the cells of the others unchanged, and the
-- waiters without its thread
pub record Leaves (m : Managed) (t : ℕ) (s : SessionOf) (gs : List GrantOf) (values : List Value) (waiters : List Waiter) : Type 0 where
  pub known : session_of m t ≡ Some s
  pub all : (lock : Lock) → Contains s.held lock → (g : GrantOf) × Contains gs g × (g.lock ≡ lock)
  pub only : (g : GrantOf) → Contains gs g → Contains s.held g.lock
  pub own : (g : GrantOf) → Contains gs g → g.values ≡ values_on values (cells_of m.layout.cell_locks g.lock)
  pub others : (lock : Lock) → (Contains s.held lock → ⊥) →
      values_on m.values (cells_of m.layout.cell_locks lock) ≡ values_on values (cells_of m.layout.cell_locks lock)
  pub waits : (w : Waiter) → Contains m.waiters w → w.thread ≢ t → Contains waiters w
  pub waited : (w : Waiter) → Contains waiters w → Contains m.waiters w × (w.thread ≢ t)

-- the manager after the section ended
abbrev pub left_by : Managed → ℕ → List GrantOf → List Value → List Waiter → List Commit → Managed
left_by m t gs values waiters history = record m {
  places = given_back m.layout.locks m.places gs;
  waiters = waiters;
  slots = set m.slots t None;
  history = history;
  values = values;
}

pub keep_left : (m : Managed) (t : ℕ) (s : SessionOf) (gs : List GrantOf) (values : List Value) (waiters : List Waiter) (history : List Commit) → IsKept m →
    Leaves m t s gs values waiters → IsLegal m.layout.opening history → values ≡ committed m.layout.opening history → IsKept (left_by m t gs values waiters history)
keep_left m t s gs values waiters history k l legal is =
    let within = slot_within m.slots t s l.known in
    let locks = m.layout.locks in
    let not_its : (u : ℕ) (lock : Lock) → t ≢ u → place_of m lock ≡ Some (Taken u) → (g : GrantOf) → Contains gs g → g.lock ≢ lock =
    λ u lock ne e g c same.
    let mine = k.held g.lock t (record { session = s; is = l.known; held = l.only g c }) in
    ne (same_taker t u (sym mine ∙ ap (place_of m) same ∙ e)) in
    record {
      legal = legal;
      values = is;
      free = λ lock vs e. elim (back_cases locks m.places gs lock (Free vs) e) [
        | inl r ↦ free_values vs r.0.values (sym r.3) ∙ l.own r.0 r.1 ∙ ap (λ (x : Lock). values_on values (cells_of m.layout.cell_locks x)) r.2
        | inr r ↦ k.free lock vs r.1 ∙ l.others lock (λ mine. let g = l.all lock mine in r.0 g.0 g.1 g.2)
      ];
      taken = λ lock u e. elim (back_cases locks m.places gs lock (Taken u) e) [
        | inl r ↦ never_free r.0.values u (ap Some r.3)
        | inr r ↦ (let h = k.taken lock u r.1 in
            elim (cases_eq t u) [
              | inl same ↦ (let q = some_same s h.session (sym l.known ∙ ap (session_in m.slots) same ∙ h.is) in
                  let g = l.all lock (subst (λ (x : SessionOf). Contains x.held lock) (sym q) h.held) in absurd (r.0 g.0 g.1 g.2))
              | inr ne ↦ holds_other m.slots t None within u lock ne h
            ])
      ];
      held = λ lock u h. elim (holds_cases m.slots t None within u lock h) [
        | inl r ↦ none_some r.1 r.2
        | inr r ↦ (let e = k.held lock u r.1 in back_kept locks m.places gs lock (not_its u lock r.0 e) ∙ e)
      ];
      once = once_set m.slots t None within k.once (λ x e. none_some x e);
      rising = λ u lock a. elim (cases_eq t u) [
        | inl e ↦ absurd (none_asks u lock e a within)
        | inr ne ↦ as_it_asked m.slots t None within (λ (x : SessionOf). ComesAfter m.ranks x.held lock) u lock a ne (λ b. k.rising u lock b)
      ];
      waits = λ u lock a. elim (cases_eq t u) [
        | inl e ↦ absurd (none_asks u lock e a within)
        | inr ne ↦ l.waits (record { thread = u; lock = lock }) (k.waits u lock (asks_back m.slots t None within u lock a ne)) (λ e. ne (sym e))
      ];
      asked = λ w c. let old = l.waited w c in asks_other m.slots t None within w.thread w.lock (λ e. old.1 (sym e)) (k.asked w old.0);
      distinct = k.distinct;
      lock_count = length-given_back locks m.places gs ∙ k.lock_count;
      cell_count = k.cell_count;
      thread_count = length-set m.slots t None ∙ k.thread_count;
    }
  where
    none_asks : (u : ℕ) (lock : Lock) → t ≡ u → Asks (set m.slots t None) u lock → t < length m.slots → ⊥
    none_asks u lock e a within = none_some a.session (sym (ap (session_in (set m.slots t None)) (sym e) ∙ session_same m.slots t None within) ∙ a.is)

-- ---- release

-- the writes of an entry are of its own locks, so they leave the cells of the others
writes_not : (cell_locks : List Lock) (held : List Lock) (ws : List (ℕ × Value)) (lock : Lock) (cell : ℕ) →
    All (IsOwnWrite cell_locks held) ws → (Contains held lock → ⊥) →
    slice_get cell_locks cell ≡ Some lock → WritesNot cell ws
writes_not cell_locks held [] lock cell all ne at = tt
writes_not cell_locks held (w ∷ ws) lock cell all ne at =
    let o = all 0 w (omega arith) in (
      λ e. let q = some_same o.lock lock (sym o.lock_is ∙ ap (slice_get cell_locks) e ∙ at) in ne (subst (Contains held) q o.is_held),
      writes_not cell_locks held ws lock cell (λ j d lt. all (suc j) d (omega (arith, lt))) ne at,
    )

pub keep_release : (m : Managed) (ticket : TicketOf) (grants : List GrantOf) (entry : Commit) → IsKept m →
    Knows m ticket → Fits m ticket grants entry →
    WritesSpareOthers → CommittedOfOneMore → LegalOfOneMore → IsKept (after_release m ticket grants entry)
keep_release m ticket grants entry k known f spare one legal =
    let locks = m.layout.cell_locks in
    let values = overwritten m.values entry.writes in
    keep_left m ticket.thread ticket.session grants values m.waiters (m.history ++ entry ∷ []) k
    (record {
      known = known;
      all = λ lock c. (let g = from_map (λ (x : GrantOf). x.lock) grants lock (all_contained (Contains (locks_of grants)) ticket.session.held lock f.own.all c) in (g.0, g.1, g.2));
      only = λ g c. all_contained (λ (x : GrantOf). Contains ticket.session.held x.lock) grants g f.own.only c;
      own = λ g c. values_agree values (cells_of locks g.lock) g.values (all_contained (IsWhole locks) grants g f.own.whole c)
          (all_contained (λ (x : GrantOf). Agrees values (cells_in locks x)) grants g f.now c);
      others = λ lock ne. values_same m.values values (cells_of locks lock) (λ cell c.
          let i = cell_is_of 0 locks lock cell c in
          let same : i.0 ≡ cell = omega (arith, i.1) in
          sym (spare m.values entry.writes cell (writes_not locks ticket.session.held entry.writes lock cell f.writes ne (ap (slice_get locks) (sym same) ∙ i.2))));
      waits = λ w c ne. c;
      waited = λ w c. (c, λ e. closed_asks_nothing m.slots ticket.thread w.lock ticket.session known f.no_ask (subst (λ (n : ℕ). Asks m.slots n w.lock) e (k.asked w c)));
    })
    (legal m.layout.opening m.history entry k.legal (subst (λ (h : List Value). Agrees h entry.reads) k.values f.reads))
    (ap (λ (h : List Value). overwritten h entry.writes) k.values ∙ sym (one m.layout.opening m.history entry))

-- ---- give_up

pub keep_give_up : (m : Managed) (t : ℕ) (grants : List GrantOf) → IsKept m → AreItsGrants m t grants →
    IsKept (after_give_up m t grants)
keep_give_up m t grants k its =
    let back = map (as_committed m) (locks_of grants) in
    keep_left m t its.session back m.values (leaving t m.waiters) m.history k
    (record {
      known = its.is;
      all = λ lock c. (as_committed m lock, in_map (as_committed m) (locks_of grants) lock (all_contained (Contains (locks_of grants)) its.session.held lock its.own.all c), refl);
      only = λ g c. only_held g (from_map (as_committed m) (locks_of grants) g c);
      own = λ g c. (let r = from_map (as_committed m) (locks_of grants) g c in
          subst (λ (x : GrantOf). x.values ≡ values_on m.values (cells_of m.layout.cell_locks x.lock)) r.2 refl);
      others = λ lock ne. refl;
      waits = λ w c ne. still_waits t m.waiters w c ne;
      waited = λ w c. waited t m.waiters w c;
    })
    k.legal k.values
  where
    only_held : (g : GrantOf) → (lock : Lock) × Contains (locks_of grants) lock × (as_committed m lock ≡ g) →
        Contains its.session.held g.lock
    only_held g r =
        let x = from_map (λ (y : GrantOf). y.lock) grants r.0 r.1 in
        subst (Contains its.session.held) (x.2 ∙ ap (λ (y : GrantOf). y.lock) r.2) (all_contained (λ (y : GrantOf). Contains its.session.held y.lock) grants x.0 its.own.only x.1)
