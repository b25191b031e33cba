-- Consequences of the manager's rules.
use Rattle.std.proofs.Common.{◌≡◌, ◌≢◌, ℕ, zero, suc, ◌<◌, List, [], length, map, replicate, Option, Some, None, refl}
use Rattle.std.proofs.Common.{sym, ap, ◌∙◌, subst, arith}
use Rattle.std.specs.Prelude.{slice_get}
use Rattle.std.specs.List.{All, Contains}
use Rattle.std.proofs.lemmas.List.{length-map, length-replicate}
use Rattle.std.proofs.lemmas.Option.{none-some, slice_get_within}
use Rattle.core_lang.specs.declared.value.Value.{Value}
use Rattle.core_lang.specs.declared.typed.Cell.{Cell}
use Rattle.core_lang.specs.Typing.{lookup}
use Rattle.locks.specs.declared.lock.Lock.{Lock}
use Rattle.locks.specs.Order.{Precedes, PrecedesIsStrict}
use Rattle.locks.specs.Waiting.{Asker, AsksRise}
use Rattle.code.specs.Memory.{value_at}
use Rattle.layout.specs.LockCells.{cells_of}
use Rattle.layout.specs.Layouts.{LayoutOf}
use Rattle.moved_cells.specs.Working.Grants.{GrantOf, numbered, values_on}
use Rattle.history.specs.Working.Histories.{HistoryOf, nothing_promised}
use Rattle.history.specs.Working.Laws.{CommittedKeepsSize}
use Rattle.lock_manager.specs.declared.places.LockPlace.{LockPlace}
use Rattle.lock_manager.specs.declared.places.LockPlace.TheVariants.{Free, Taken}
use Rattle.lock_manager.specs.declared.queue.Waiter.{Waiter}
use Rattle.lock_manager.specs.Working.Committed.{CommittedOf, at_opening, lock_values}
use Rattle.lock_manager.specs.Manager.{SessionOf}
use Rattle.lock_manager.specs.Working.Sessions.{TicketOf}
use Rattle.lock_manager.specs.Manager.{Managed, session_of}
use Rattle.lock_manager.specs.Working.Managers.{managed, IsKept, IsLayout, Holds, place_of}
use Rattle.lock_manager.specs.Manager.{session_in}
use Rattle.lock_manager.specs.Working.Managers.{holder_of, taker, cell_of, value_in, number_from, ComesAfter, asker_of}
use Rattle.lock_manager.specs.Working.Managers.{askers_of, opened, threads}
use Rattle.lock_manager.specs.Working.Calls.{AreOf, IsOwnWrite, Knows}
use Rattle.lock_manager.specs.Working.Ties.{sum_over, one_if_open, cells_if_open}
use Rattle.lock_manager.specs.Theory.Numbers.{number_at}
use Rattle.lock_manager.proofs.Heaps.{value_among}
use Rattle.lock_manager.proofs.Members.{cells_within, within_same}
use Rattle.lock_manager.proofs.Slots.{slot_within}
use Rattle.lock_manager.proofs.GivenBack.{place_listed, place_at, numbered_place}
use Rattle.lock_manager.proofs.Sound.{Sound}
use Rattle.core_lang.specs.Theory.Items.{all_contained, all_from, map_at, map_back, some_same}
use Rattle.layout.specs.Theory.Numbers.{cell_among}

-- ---- locks

pub listed_held : (m : Managed) (t : ℕ) (s : SessionOf) → IsKept m → session_of m t ≡ Some s →
    All (Contains m.layout.locks) s.held
listed_held m t s k known =
    all_from (Contains m.layout.locks) s.held (λ lock c. place_listed m.layout.locks m.places lock (Taken t) (k.held lock t (record { session = s; is = known; held = c })))

pub listed_grants : (m : Managed) (held : List Lock) (grants : List GrantOf) → All (Contains m.layout.locks) held →
    AreOf m.layout.cell_locks held grants →
    All (λ (g : GrantOf). Contains m.layout.locks g.lock) grants
listed_grants m held grants listed own =
    all_from (λ (g : GrantOf). Contains m.layout.locks g.lock) grants (λ g c.
    all_contained (Contains m.layout.locks) held g.lock listed (all_contained (λ (x : GrantOf). Contains held x.lock) grants g own.only c))

pub thread_within : (m : Managed) (t : ℕ) (s : SessionOf) → IsKept m → session_of m t ≡ Some s → t < threads
thread_within m t s k known = omega (arith, slot_within m.slots t s known, k.thread_count)

pub place_within : (m : Managed) (n : ℕ) (lock : Lock) → IsKept m → slice_get m.layout.locks n ≡ Some lock →
    n < length m.places
place_within m n lock k at = omega (arith, slice_get_within m.layout.locks n lock at, k.lock_count)

-- ---- cells

pub as_many_values : (m : Managed) → IsKept m → CommittedKeepsSize → length m.values ≡ length m.layout.cell_locks
as_many_values m k size = ap length k.values ∙ size m.layout.opening m.history ∙ k.cell_count

pub writes_within : (m : Managed) (held : List Lock) (ws : List (ℕ × Value)) → IsKept m → CommittedKeepsSize →
    All (IsOwnWrite m.layout.cell_locks held) ws →
    All (λ (w : ℕ × Value). w.0 < length m.values) ws
writes_within m held ws k size all j d lt =
    let o = all j d lt in omega (arith, slice_get_within m.layout.cell_locks _ o.lock o.lock_is, as_many_values m k size)

pub free_cell : (m : Managed) (cell : ℕ) (lock : Lock) (n : ℕ) (values : List Value) (v : Value) → IsKept m →
    CommittedKeepsSize → slice_get m.layout.cell_locks cell ≡ Some lock →
    number_from 0 m.layout.locks lock ≡ Some n → slice_get m.places n ≡ Some (Free values) → slice_get m.values cell ≡ Some v → Some v ≡ cell_of m cell
free_cell m cell lock n values v k size at found here is =
    let cells = cells_of m.layout.cell_locks lock in
    let place : place_of m lock ≡ Some (Free values) = place_at m.layout.locks m.places lock n found ∙ here in
    let within = within_same cells (length m.layout.cell_locks) (length m.values) (sym (as_many_values m k size)) (cells_within m.layout.cell_locks lock) in
    sym (ap (λ o. lookup o (λ l. value_in m.layout.cell_locks l (place_of m l) cell)) at
    ∙ ap (λ o. value_in m.layout.cell_locks lock o cell) place
    ∙ ap (λ (vs : List Value). value_at (numbered cells vs) cell) (k.free lock values place)
    ∙ value_among m.values cells cell within (cell_among m.layout.cell_locks lock cell at)
    ∙ is)

pub taken_cell : (m : Managed) (cell : ℕ) (lock : Lock) (n t : ℕ) → slice_get m.layout.cell_locks cell ≡ Some lock →
    number_from 0 m.layout.locks lock ≡ Some n →
    slice_get m.places n ≡ Some (Taken t) → None ≡ cell_of m cell
taken_cell m cell lock n t at found here =
    sym (ap (λ o. lookup o (λ l. value_in m.layout.cell_locks l (place_of m l) cell)) at
    ∙ ap (λ o. value_in m.layout.cell_locks lock o cell) (place_at m.layout.locks m.places lock n found ∙ here))

-- ---- holders

pub held_by : (m : Managed) (lock : Lock) (t : ℕ) → IsKept m → Holds m.slots t lock → Some t ≡ holder_of m lock
held_by m lock t k h = sym (ap taker (k.held lock t h))

pub held_by_none : (m : Managed) (lock : Lock) → IsKept m → ((t : ℕ) → Holds m.slots t lock → ⊥) →
    None ≡ holder_of m lock
held_by_none m lock k none = by_place (place_of m lock) refl
  where
    by_place : (o : Option LockPlace) → place_of m lock ≡ o → None ≡ taker o
    by_place None e = refl
    by_place (Some (Free values)) e = refl
    by_place (Some (Taken t)) e = absurd (none t (k.taken lock t e))

-- the place of a lock's cells tells whether the section of a ticket holds the lock
pub taken_is_held : (m : Managed) (ticket : TicketOf) (lock : Lock) (n t : ℕ) → IsKept m → Knows m ticket →
    number_from 0 m.layout.locks lock ≡ Some n → slice_get m.places n ≡ Some (Taken t) → t ≡ ticket.thread →
    Contains ticket.session.held lock
taken_is_held m ticket lock n t k known found here e =
    let own = k.taken lock t (place_at m.layout.locks m.places lock n found ∙ here) in
    let same = some_same own.session ticket.session (sym own.is ∙ ap (session_in m.slots) e ∙ known) in
    subst (λ (s : SessionOf). Contains s.held lock) same own.held

pub held_is_taken : (m : Managed) (ticket : TicketOf) (lock : Lock) (n : ℕ) (p : LockPlace) → IsKept m → Knows m ticket →
    number_from 0 m.layout.locks lock ≡ Some n → slice_get m.places n ≡ Some p → Contains ticket.session.held lock →
    p ≡ Taken ticket.thread
held_is_taken m ticket lock n p k known found here c =
    some_same p (Taken ticket.thread)
    (sym (place_at m.layout.locks m.places lock n found ∙ here) ∙ k.held lock ticket.thread (record { session = ticket.session; is = known; held = c }))

pub free_not_held : (m : Managed) (ticket : TicketOf) (lock : Lock) (n : ℕ) (values : List Value) → IsKept m →
    Knows m ticket → number_from 0 m.layout.locks lock ≡ Some n → slice_get m.places n ≡ Some (Free values) →
    Contains ticket.session.held lock → ⊥
free_not_held m ticket lock n values k known found here c = never (held_is_taken m ticket lock n (Free values) k known found here c)
  where
    never : Free values ≡ Taken ticket.thread → ⊥
    never e = cc

pub held_by_its_thread : (m : Managed) (ticket : TicketOf) (lock : Lock) (n t : ℕ) → IsKept m → Knows m ticket →
    number_from 0 m.layout.locks lock ≡ Some n → slice_get m.places n ≡ Some (Taken t) →
    Contains ticket.session.held lock → t ≡ ticket.thread
held_by_its_thread m ticket lock n t k known found here c =
    let same : Taken t ≡ Taken ticket.thread = held_is_taken m ticket lock n (Taken t) k known found here c in cc

-- ---- no threads wait in a cycle

slot_rises : (m : Managed) → IsKept m → (t : ℕ) (lock held : Lock) (o : Option SessionOf) →
    slice_get m.slots t ≡ Some o → (asker_of o).ask ≡ Some lock → Contains (asker_of o).held held →
    Precedes m.ranks held lock
slot_rises m k t lock held None e ask c = absurd (none-some lock ask)
slot_rises m k t lock held (Some s) e ask c = k.rising t lock (record { session = s; is = ap (λ x. lookup x (λ y. y)) e; ask = ask }) held c

pub asks_rise : (m : Managed) → IsKept m → AsksRise m.ranks (askers_of m)
asks_rise m k t asker lock at ask held c =
    let r = map_back asker_of m.slots t asker at in
    slot_rises m k t lock held r.0 r.1 (ap (λ (a : Asker). a.ask) r.2 ∙ ask) (subst (λ (a : Asker). Contains a.held held) (sym r.2) c)

-- the holder of a lock is another thread than the one that may ask for it
pub held_by_another : (m : Managed) (ticket : TicketOf) (lock : Lock) (h : ℕ) → IsKept m → Knows m ticket →
    ComesAfter m.ranks ticket.session.held lock → PrecedesIsStrict →
    place_of m lock ≡ Some (Taken h) → ticket.thread ≢ h
held_by_another m ticket lock h k known rises strict here e =
    let own = k.taken lock h here in
    let same = some_same ticket.session own.session (sym known ∙ ap (session_in m.slots) e ∙ own.is) in
    strict.not_itself m.ranks lock (rises lock (subst (λ (s : SessionOf). Contains s.held lock) (sym same) own.held))

-- ---- the opening state

none_open : (n t : ℕ) (s : SessionOf) → session_in (replicate n None) t ≡ Some s → ⊥
none_open zero t s e = none-some s e
none_open (suc n) zero s e = none-some s e
none_open (suc n) (suc t) s e = none_open n t s e

sum_none : (n : ℕ) → sum_over one_if_open (replicate n None) ≡ 0
sum_none zero = refl
sum_none (suc n) = omega (arith, sum_none n)

cells_none : (n : ℕ) → sum_over cells_if_open (replicate n None) ≡ 0
cells_none zero = refl
cells_none (suc n) = omega (arith, cells_none n)

first_place : (layout : LayoutOf) (ranks : List ℕ) (lock : Lock) (p : LockPlace) →
    place_of (opened layout ranks) lock ≡ Some p →
    Free (values_on layout.opening (cells_of layout.cell_locks lock)) ≡ p
first_place layout ranks lock p e =
    let f : Lock → LockPlace = λ l. Free (values_on layout.opening (cells_of layout.cell_locks l)) in
    let n = numbered_place layout.locks (map f layout.locks) lock p e in
    let i = number_at 0 layout.locks lock n.0 n.1 in
    let same : n.0 ≡ i.0 = omega (arith, i.1) in
    some_same (f lock) p (sym (map_at f layout.locks i.0 lock i.2) ∙ ap (slice_get (map f layout.locks)) (sym same) ∙ n.2)

pub sound_opened : (layout : LayoutOf) (ranks : List ℕ) → IsLayout layout → Sound (opened layout ranks) nothing_promised
sound_opened layout ranks l = (
  record {
    legal = tt;
    values = refl;
    free = λ lock values e. free_same (values_on layout.opening (cells_of layout.cell_locks lock)) values (first_place layout ranks lock (Free values) e);
    taken = λ lock t e. absurd (never (values_on layout.opening (cells_of layout.cell_locks lock)) t (first_place layout ranks lock (Taken t) e));
    held = λ lock t h. absurd (none_open threads t h.session h.is);
    once = λ t s is. absurd (none_open threads t s is);
    rising = λ t lock a. absurd (none_open threads t a.session a.is);
    waits = λ t lock a. absurd (none_open threads t a.session a.is);
    asked = λ w c. absurd (omega (arith, c.1));
    distinct = l.1.distinct;
    lock_count = length-map layout.locks (λ (x : Lock). Free (values_on layout.opening (cells_of layout.cell_locks x)));
    cell_count = ap length l.1.opening ∙ length-map l.0.cells.items (λ (c : Cell). c.opening) ∙ sym l.1.cells;
    thread_count = length-replicate {A = Option SessionOf} threads None;
  },
  record { promised = sym (sum_none threads); cells = sym (cells_none threads); waiting = omega arith },
)
  where
    free_same : (a b : List Value) → Free a ≡ Free b → b ≡ a
    free_same a b e = let q : a ≡ b = cc in sym q

    never : (values : List Value) (t : ℕ) → Free values ≡ Taken t → ⊥
    never values t e = cc

pub opened_from : (layout : LayoutOf) (ranks : List ℕ) (committed : CommittedOf) (places : List LockPlace) (waiters : List Waiter) (slots : List (Option SessionOf)) (history : HistoryOf) →
    committed ≡ at_opening layout → places ≡ map (λ (l : Lock). Free (lock_values committed l)) committed.layout.locks → waiters ≡ [] → slots ≡ replicate threads None →
    history ≡ record { commits = []; promised = nothing_promised } → managed committed ranks places waiters slots history.commits ≡ opened layout ranks
opened_from layout ranks committed places waiters slots history is places_are none closed empty =
    let all : places ≡ (opened layout ranks).places = places_are ∙ ap (λ (c : CommittedOf). map (λ (x : Lock). Free (lock_values c x)) c.layout.locks) is in
    λ i. managed (is i) ranks (all i) (none i) (closed i) (empty i).commits

pub sound_from : (layout : LayoutOf) (ranks : List ℕ) (committed : CommittedOf) (places : List LockPlace) (waiters : List Waiter) (slots : List (Option SessionOf)) (history : HistoryOf) →
    IsLayout layout → committed ≡ at_opening layout → places ≡ map (λ (l : Lock). Free (lock_values committed l)) committed.layout.locks → waiters ≡ [] → slots ≡ replicate threads None →
    history ≡ record { commits = []; promised = nothing_promised } → Sound (managed committed ranks places waiters slots history.commits) history.promised
sound_from layout ranks committed places waiters slots history l is places_are none closed empty =
    let same = sym (opened_from layout ranks committed places waiters slots history is places_are none closed empty) in
    let promised : nothing_promised ≡ history.promised = sym (ap (λ (h : HistoryOf). h.promised) empty) in
    subst (Sound (managed committed ranks places waiters slots history.commits)) promised (subst (λ (m : Managed). Sound m nothing_promised) same (sound_opened layout ranks l))
