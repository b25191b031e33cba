-- Each call keeps the manager's rules and ties, by what its steps did.
use Rattle.std.proofs.Common.{◌≡◌, ℕ, ◌+◌, ◌<◌, ◌≤◌, List, [], ◌∷◌, ◌++◌, length, map, set, Option, Some, None, refl}
use Rattle.std.proofs.Common.{sym, ap, ◌∙◌, subst, arith, length-append}
use Rattle.std.specs.Prelude.{slice_get}
use Rattle.std.specs.List.{Contains}
use Rattle.std.proofs.Math.ListN.{length-set}
use Rattle.locks.specs.declared.lock.Lock.{Lock}
use Rattle.code.specs.Memory.{overwritten}
use Rattle.core_lang.specs.declared.value.Value.{Value}
use Rattle.layout.specs.declared.room.Room.{Room}
use Rattle.moved_cells.specs.Working.Grants.{GrantOf, locks_of}
use Rattle.history.specs.Commits.{Commit}
use Rattle.history.specs.Working.Histories.{PromisedOf, with_promise, IsPromised}
use Rattle.history.specs.Working.Laws.{WritesSpareOthers, CommittedOfOneMore, LegalOfOneMore}
use Rattle.lock_manager.specs.declared.places.LockPlace.{LockPlace}
use Rattle.lock_manager.specs.declared.places.LockPlace.TheVariants.{Free, Taken}
use Rattle.lock_manager.specs.declared.queue.Waiter.{Waiter}
use Rattle.lock_manager.specs.Manager.{SessionOf}
use Rattle.lock_manager.specs.Working.Sessions.{TicketOf, fresh, with_lock, with_ask}
use Rattle.lock_manager.specs.Working.Queues.{leaving, joining}
use Rattle.lock_manager.specs.Manager.{Managed, session_of}
use Rattle.lock_manager.specs.Working.Managers.{IsKept, given_back, as_committed, number_from, put_for, threads}
use Rattle.lock_manager.specs.Working.Calls.{Knows, CanAsk, Fits, AreItsGrants, after_grant, after_refusal}
use Rattle.lock_manager.specs.Working.Calls.{after_release, after_give_up}
use Rattle.lock_manager.specs.Working.Ties.{IsTied, sum_over, one_if_open, cells_if_open, one_if_asking, one_if_some}
use Rattle.lock_manager.proofs.Queued.{no_longer, one_less}
use Rattle.lock_manager.proofs.Slots.{slot_of, closed_slot, sum_set, few_ask}
use Rattle.lock_manager.proofs.GivenBack.{place_at, put_at}
use Rattle.lock_manager.proofs.Keeping.{keep_begin, keep_grant, keep_refusal, keep_release, keep_give_up}

abbrev pub Sound : Managed → PromisedOf → Type 0
Sound m promised = IsKept m × IsTied m promised

-- ---- begin

pub sound_begin : (m : Managed) (promised : PromisedOf) (t : ℕ) (room : Room) (slots : List (Option SessionOf)) (history : List Commit) (more : PromisedOf) → Sound m promised → t < threads → session_of m t ≡ None →
    slots ≡ set m.slots t (Some (fresh (length m.history) room)) → history ≡ m.history → more ≡ with_promise promised room.cells → Sound (record m { slots = slots; history = history }) more
sound_begin m promised t room slots history more s lt closed slots_are history_is more_is =
    let now = Some (fresh (length m.history) room) in
    let at = closed_slot m.slots t (omega (arith, lt, s.0.thread_count)) closed in
    let k : IsKept (record m { slots = slots; history = history }) =
    subst (λ (h : List Commit). IsKept (record m { slots = slots; history = h })) (sym history_is)
    (subst (λ (x : List (Option SessionOf)). IsKept (record m { slots = x })) (sym slots_are) (keep_begin m t room s.0 lt closed)) in (
      k,
      record {
        promised = let opened = ap (sum_over one_if_open) slots_are in let one = ap (λ (p : PromisedOf). p.entries) more_is in omega (arith, one, opened, sum_set one_if_open m.slots t None now at, s.1.promised);
        cells = let opened = ap (sum_over cells_if_open) slots_are in let more_cells = ap (λ (p : PromisedOf). p.cells) more_is in omega (arith, more_cells, opened, sum_set cells_if_open m.slots t None now at, s.1.cells);
        waiting = let asking = ap (sum_over one_if_asking) slots_are in omega (arith, asking, sum_set one_if_asking m.slots t None now at, s.1.waiting);
      },
    )

-- ---- request

fewer : (ws : List Waiter) (t asking after : ℕ) (o : Option Lock) → length ws ≤ asking →
    one_if_some o + after ≡ asking →
    ((l : Lock) → o ≡ Some l → Contains ws (record { thread = t; lock = l })) → length (leaving t ws) ≤ after
fewer ws t asking after None le e f = omega (arith, le, e, no_longer t ws)
fewer ws t asking after (Some l) le e f = omega (arith, le, e, one_less t ws (record { thread = t; lock = l }) (f l refl) refl)

pub sound_grant : (m : Managed) (promised : PromisedOf) (ticket : TicketOf) (lock : Lock) (values : List Value) (n : ℕ) (places : List LockPlace) (waiters : List Waiter) (slots : List (Option SessionOf)) →
    Sound m promised → Knows m ticket → CanAsk m ticket lock → number_from 0 m.layout.locks lock ≡ Some n → slice_get m.places n ≡ Some (Free values) →
    places ≡ set m.places n (Taken ticket.thread) → waiters ≡ leaving ticket.thread m.waiters → slots ≡ set m.slots ticket.thread (Some (with_lock ticket.session lock)) →
    (record m { places = places; waiters = waiters; slots = slots } ≡ after_grant m ticket lock) × Sound (record m { places = places; waiters = waiters; slots = slots }) promised
sound_grant m promised ticket lock values n places waiters slots s known asks found here places_are waiters_are slots_are =
    let t = ticket.thread in
    let put : places ≡ put_for m.layout.locks m.places lock (Taken t) = places_are ∙ sym (put_at m.layout.locks m.places lock (Taken t) n found) in
    let same : record m { places = places; waiters = waiters; slots = slots } ≡ after_grant m ticket lock =
    λ i. record m { places = put i; waiters = waiters_are i; slots = slots_are i } in
    let at = slot_of m.slots t ticket.session known in
    let now = Some (with_lock ticket.session lock) in (
      same,
      (
        subst IsKept (sym same) (keep_grant m ticket lock values (record { kept = s.0; known = known; asks = asks }) (place_at m.layout.locks m.places lock n found ∙ here)),
        record {
          promised = let open_then = ap (sum_over one_if_open) slots_are in omega (arith, open_then, sum_set one_if_open m.slots t (Some ticket.session) now at, s.1.promised);
          cells = let open_then = ap (sum_over cells_if_open) slots_are in omega (arith, open_then, sum_set cells_if_open m.slots t (Some ticket.session) now at, s.1.cells);
          waiting =
              let after : one_if_some ticket.session.ask + sum_over one_if_asking slots ≡ sum_over one_if_asking m.slots =
              (let then = ap (sum_over one_if_asking) slots_are in omega (arith, then, sum_set one_if_asking m.slots t (Some ticket.session) now at)) in
              subst (λ (ws : List Waiter). length ws ≤ sum_over one_if_asking slots) (sym waiters_are)
              (fewer m.waiters t (sum_over one_if_asking m.slots) (sum_over one_if_asking slots) ticket.session.ask s.1.waiting after
              (λ l e. s.0.waits t l (record { session = ticket.session; is = known; ask = e })));
        },
      ),
    )

-- a thread that asks for the first time has room in the queue
pub room_to_wait : (m : Managed) (promised : PromisedOf) (ticket : TicketOf) → Sound m promised → Knows m ticket →
    ticket.session.ask ≡ None → length m.waiters < threads
room_to_wait m promised ticket s known free =
    let l : Lock = record { class = 0; object = 0 } in
    let at = slot_of m.slots ticket.thread ticket.session known in
    let asks : Option SessionOf = Some (with_ask ticket.session l) in
    let none : one_if_some ticket.session.ask ≡ 0 = ap one_if_some free in
    omega (
      arith,
      none,
      s.1.waiting,
      sum_set one_if_asking m.slots ticket.thread (Some ticket.session) asks at,
      few_ask (set m.slots ticket.thread asks),
      length-set m.slots ticket.thread asks,
      s.0.thread_count,
    )

joined_few : (o : Option Lock) (w : Waiter) (ws : List Waiter) (asking after : ℕ) → length ws ≤ asking →
    one_if_some o + after ≡ 1 + asking → length (joining o w ws) ≤ after
joined_few None w ws asking after le e = omega (arith, le, e, length-append ws (w ∷ []))
joined_few (Some l) w ws asking after le e = omega (arith, le, e)

pub sound_refusal : (m : Managed) (promised : PromisedOf) (ticket : TicketOf) (lock : Lock) (places : List LockPlace) (waiters : List Waiter) (slots : List (Option SessionOf)) →
    Sound m promised → Knows m ticket → CanAsk m ticket lock → places ≡ m.places →
    waiters ≡ joining ticket.session.ask (record { thread = ticket.thread; lock = lock }) m.waiters → slots ≡ set m.slots ticket.thread (Some (with_ask ticket.session lock)) →
    (record m { places = places; waiters = waiters; slots = slots } ≡ after_refusal m ticket lock) × Sound (record m { places = places; waiters = waiters; slots = slots }) promised
sound_refusal m promised ticket lock places waiters slots s known asks places_are waiters_are slots_are =
    let t = ticket.thread in
    let same : record m { places = places; waiters = waiters; slots = slots } ≡ after_refusal m ticket lock =
    λ i. record m { places = places_are i; waiters = waiters_are i; slots = slots_are i } in
    let at = slot_of m.slots t ticket.session known in
    let now = Some (with_ask ticket.session lock) in (
      same,
      (
        subst IsKept (sym same) (keep_refusal m ticket lock (record { kept = s.0; known = known; asks = asks })),
        record {
          promised = let open_then = ap (sum_over one_if_open) slots_are in omega (arith, open_then, sum_set one_if_open m.slots t (Some ticket.session) now at, s.1.promised);
          cells = let open_then = ap (sum_over cells_if_open) slots_are in omega (arith, open_then, sum_set cells_if_open m.slots t (Some ticket.session) now at, s.1.cells);
          waiting =
              let after : one_if_some ticket.session.ask + sum_over one_if_asking slots ≡ 1 + sum_over one_if_asking m.slots =
              (let then = ap (sum_over one_if_asking) slots_are in omega (arith, then, sum_set one_if_asking m.slots t (Some ticket.session) now at)) in
              subst (λ (ws : List Waiter). length ws ≤ sum_over one_if_asking slots) (sym waiters_are)
              (joined_few ticket.session.ask (record { thread = t; lock = lock }) m.waiters (sum_over one_if_asking m.slots) (sum_over one_if_asking slots) s.1.waiting after);
        },
      ),
    )

-- ---- release and give_up

-- what was promised covers an open section
pub promised_one : (m : Managed) (promised : PromisedOf) (t cells : ℕ) (x : SessionOf) → Sound m promised →
    session_of m t ≡ Some x → cells ≡ cells_if_open (session_of m t) → IsPromised promised cells
promised_one m promised t cells x s known cells_are = record {
  entry = omega (arith, s.1.promised, sum_set one_if_open m.slots t (Some x) None (slot_of m.slots t x known));
  within =
      let its : cells ≡ x.room.cells = cells_are ∙ ap cells_if_open known in
      omega (arith, its, s.1.cells, sum_set cells_if_open m.slots t (Some x) None (slot_of m.slots t x known));
}

pub sound_release : (m : Managed) (promised : PromisedOf) (ticket : TicketOf) (grants : List GrantOf) (entry : Commit) (places : List LockPlace) (slots : List (Option SessionOf)) (history : List Commit)
    (values : List Value) (less : PromisedOf) (cells : ℕ) → Sound m promised → Knows m ticket → Fits m ticket grants entry → WritesSpareOthers → CommittedOfOneMore → LegalOfOneMore →
    places ≡ given_back m.layout.locks m.places grants → slots ≡ set m.slots ticket.thread None → history ≡ m.history ++ entry ∷ [] → values ≡ overwritten m.values entry.writes →
    promised ≡ with_promise less cells → cells ≡ cells_if_open (session_of m ticket.thread) →
    Sound (record m { places = places; slots = slots; history = history; values = values }) less
sound_release m promised ticket grants entry places slots history values less cells s known fits spare one legal places_are slots_are history_is values_are less_is cells_are =
    let same : record m { places = places; slots = slots; history = history; values = values } ≡ after_release m ticket grants entry =
    λ i. record m { places = places_are i; slots = slots_are i; history = history_is i; values = values_are i } in
    let at = slot_of m.slots ticket.thread ticket.session known in
    let none : one_if_some ticket.session.ask ≡ 0 = ap one_if_some fits.no_ask in (
      subst IsKept (sym same) (keep_release m ticket grants entry s.0 known fits spare one legal),
      record {
        promised = let open_then = ap (sum_over one_if_open) slots_are in let one_less = ap (λ (p : PromisedOf). p.entries) less_is in omega (arith, open_then, one_less, sum_set one_if_open m.slots ticket.thread (Some ticket.session) None at, s.1.promised);
        cells =
            let open_then = ap (sum_over cells_if_open) slots_are in
            let fewer_cells = ap (λ (p : PromisedOf). p.cells) less_is in
            let its : cells ≡ ticket.session.room.cells = cells_are ∙ ap cells_if_open known in
            omega (arith, open_then, fewer_cells, its, sum_set cells_if_open m.slots ticket.thread (Some ticket.session) None at, s.1.cells);
        waiting = let then = ap (sum_over one_if_asking) slots_are in omega (arith, then, none, sum_set one_if_asking m.slots ticket.thread (Some ticket.session) None at, s.1.waiting);
      },
    )

pub sound_give_up : (m : Managed) (promised : PromisedOf) (t : ℕ) (grants : List GrantOf) (places : List LockPlace) (waiters : List Waiter) (slots : List (Option SessionOf)) (history : List Commit) (less : PromisedOf) (cells : ℕ) →
    Sound m promised → AreItsGrants m t grants → places ≡ given_back m.layout.locks m.places (map (as_committed m) (locks_of grants)) → waiters ≡ leaving t m.waiters →
    slots ≡ set m.slots t None → history ≡ m.history → promised ≡ with_promise less cells → cells ≡ cells_if_open (session_of m t) →
    (record m { places = places; waiters = waiters; slots = slots; history = history } ≡ after_give_up m t grants)
    × Sound (record m { places = places; waiters = waiters; slots = slots; history = history }) less
sound_give_up m promised t grants places waiters slots history less cells s its places_are waiters_are slots_are history_is less_is cells_are =
    let same : record m { places = places; waiters = waiters; slots = slots; history = history } ≡ after_give_up m t grants =
    λ i. record m { places = places_are i; waiters = waiters_are i; slots = slots_are i; history = history_is i } in
    let at = slot_of m.slots t its.session its.is in (
      same,
      (
        subst IsKept (sym same) (keep_give_up m t grants s.0 its),
        record {
          promised = let open_then = ap (sum_over one_if_open) slots_are in let one_less = ap (λ (p : PromisedOf). p.entries) less_is in omega (arith, open_then, one_less, sum_set one_if_open m.slots t (Some its.session) None at, s.1.promised);
          cells =
              let open_then = ap (sum_over cells_if_open) slots_are in
              let fewer_cells = ap (λ (p : PromisedOf). p.cells) less_is in
              let own_cells : cells ≡ its.session.room.cells = cells_are ∙ ap cells_if_open its.is in
              omega (arith, open_then, fewer_cells, own_cells, sum_set cells_if_open m.slots t (Some its.session) None at, s.1.cells);
          waiting =
              let after : one_if_some its.session.ask + sum_over one_if_asking slots ≡ sum_over one_if_asking m.slots =
              (let then = ap (sum_over one_if_asking) slots_are in omega (arith, then, sum_set one_if_asking m.slots t (Some its.session) None at)) in
              subst (λ (ws : List Waiter). length ws ≤ sum_over one_if_asking slots) (sym waiters_are)
              (fewer m.waiters t (sum_over one_if_asking m.slots) (sum_over one_if_asking slots) its.session.ask s.1.waiting after
              (λ l e. s.0.waits t l (record { session = its.session; is = its.is; ask = e })));
        },
      ),
    )
