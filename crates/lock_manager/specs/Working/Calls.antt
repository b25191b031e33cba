-- The effect of each call of the manager.
use Rattle.std.specs.Prelude.{◌≡◌, ◌≢◌, ◌<◌, ℕ, List, [], ◌∷◌, ◌++◌, length, map, slice_get, slice_set, Option, Some}
use Rattle.std.specs.Prelude.{None}
use Rattle.std.specs.List.{Contains, All}
use Rattle.core_lang.specs.declared.value.Value.{Value}
use Rattle.locks.specs.declared.lock.Lock.{Lock}
use Rattle.layout.specs.declared.room.Room.{Room}
use Rattle.code.specs.Memory.{overwritten, Agrees}
use Rattle.moved_cells.specs.Working.Grants.{GrantOf, IsWhole, cells_in, locks_of}
use Rattle.history.specs.Commits.{Commit}
use Rattle.lock_manager.specs.declared.places.LockPlace.TheVariants.{Free, Taken}
use Rattle.lock_manager.specs.declared.queue.Waiter.{Waiter}
use Rattle.lock_manager.specs.declared.answer.Answer.{Answer}
use Rattle.lock_manager.specs.declared.answer.Answer.TheVariants.{Granted, Held}
use Rattle.lock_manager.specs.Manager.{SessionOf}
use Rattle.lock_manager.specs.Working.Sessions.{TicketOf, ReceiptOf, fresh, with_lock, with_ask}
use Rattle.lock_manager.specs.Working.Queues.{waiting_in, leaving, joining}
use Rattle.lock_manager.specs.Manager.{Managed, session_of}
use Rattle.lock_manager.specs.Working.Managers.{place_of, put_for, given_back, as_committed, ComesAfter}

-- the manager with another slot of a thread
abbrev pub with_session : Managed → ℕ → Option SessionOf → Managed
with_session m t s = record m { slots = slice_set m.slots t s }

abbrev pub ticket_with : TicketOf → SessionOf → TicketOf
ticket_with ticket s = record ticket { session = s }

-- ---- begin

-- `begin` opens a section of a thread that had none; the ticket has the length of the history
pub record Begins (m : Managed) (t : ℕ) (room : Room) (ticket : TicketOf) (m' : Managed) : Type 0 where
  pub was_closed : session_of m t ≡ None
  pub ticket_is : ticket ≡ record { thread = t; session = fresh (length m.history) room }
  pub manager : m' ≡ with_session m t (Some (fresh (length m.history) room))

-- ---- request

-- the slot of the ticket's thread equals the section of the ticket
abbrev pub Knows : Managed → TicketOf → Type 0
Knows m ticket = session_of m ticket.thread ≡ Some ticket.session

-- the section may ask for the lock: it is a lock of the program, and comes after all locks that the section holds. If
-- the section has asked for a lock already, it is that lock. The section has room for one more lock
pub record CanAsk (m : Managed) (ticket : TicketOf) (lock : Lock) : Type 0 where
  pub listed : Contains m.layout.locks lock
  pub rises : ComesAfter m.ranks ticket.session.held lock
  pub same : (other : Lock) → ticket.session.ask ≡ Some other → other ≡ lock
  pub room : length ticket.session.held < ticket.session.room.locks

-- the manager after a grant: the thread has the lock's cells, and no longer waits
abbrev pub after_grant : Managed → TicketOf → Lock → Managed
after_grant m ticket lock =
    record m {
      places = put_for m.layout.locks m.places lock (Taken ticket.thread);
      waiters = leaving ticket.thread m.waiters;
      slots = slice_set m.slots ticket.thread (Some (with_lock ticket.session lock));
    }

-- the manager after a refusal: the thread waits for the lock, after the other waiters or at the place that it had
abbrev pub after_refusal : Managed → TicketOf → Lock → Managed
after_refusal m ticket lock =
    record m {
      waiters = joining ticket.session.ask (record { thread = ticket.thread; lock = lock }) m.waiters;
      slots = slice_set m.slots ticket.thread (Some (with_ask ticket.session lock));
    }

-- the lock is free, and is granted with its cells
pub record Grants (m : Managed) (ticket : TicketOf) (lock : Lock) (grant : GrantOf) (m' : Managed) (ticket' : TicketOf)
    : Type 0 where
  pub lock_is : grant.lock ≡ lock
  pub was_free : place_of m lock ≡ Some (Free grant.values)
  pub ticket_is : ticket' ≡ ticket_with ticket (with_lock ticket.session lock)
  pub manager : m' ≡ after_grant m ticket lock

-- another thread holds the lock, and the request is noted
pub record Refuses (m : Managed) (ticket : TicketOf) (lock : Lock) (holder : ℕ) (m' : Managed) (ticket' : TicketOf)
    : Type 0 where
  pub was_taken : place_of m lock ≡ Some (Taken holder)
  pub by_another : ticket.thread ≢ holder
  pub ticket_is : ticket' ≡ ticket_with ticket (with_ask ticket.session lock)
  pub manager : m' ≡ after_refusal m ticket lock

-- the answer to a request, with its effect
abbrev pub Answers : Managed → TicketOf → Lock → Answer → Managed → TicketOf → Type 0
Answers m ticket lock (Granted grant) m' ticket' = Grants m ticket lock grant m' ticket'
Answers m ticket lock (Held holder) m' ticket' = Refuses m ticket lock holder m' ticket'

-- ---- release

-- the grants are of exactly these locks, in some order, each with all cells of its lock
pub record AreOf (cell_locks : List Lock) (held : List Lock) (grants : List GrantOf) : Type 0 where
  pub count : length grants ≡ length held
  pub all : All (Contains (locks_of grants)) held
  pub only : All (λ (g : GrantOf). Contains held g.lock) grants
  pub whole : All (IsWhole cell_locks) grants

-- one of these locks protects the written cell
pub record IsOwnWrite (cell_locks : List Lock) (held : List Lock) (w : ℕ × Value) : Type 0 where
  pub lock : Lock
  pub lock_is : slice_get cell_locks w.0 ≡ Some lock
  pub is_held : Contains held lock

-- the section may end with these grants and this entry. No request of it is pending, and the grants are exactly its
-- own. The entry has its thread and its begin. The entry's reads are what the history leaves, its writes are of cells
-- of the section's locks, and the grants have what the history leaves with these writes made
pub record Fits (m : Managed) (ticket : TicketOf) (grants : List GrantOf) (entry : Commit) : Type 0 where
  pub no_ask : ticket.session.ask ≡ None
  pub own : AreOf m.layout.cell_locks ticket.session.held grants
  pub thread : entry.thread ≡ ticket.thread
  pub begun : entry.begun ≡ ticket.session.begun
  pub reads : Agrees m.values entry.reads
  pub writes : All (IsOwnWrite m.layout.cell_locks ticket.session.held) entry.writes
  pub now : All (λ (g : GrantOf). Agrees (overwritten m.values entry.writes) (cells_in m.layout.cell_locks g)) grants

-- the ticket is known, and the section may end with these grants and this entry
abbrev pub CanRelease : Managed → TicketOf → List GrantOf → Commit → Type 0
CanRelease m ticket grants entry = Knows m ticket × Fits m ticket grants entry

-- the first item of a queue, if there is one, before the other list
abbrev pub first_and : List ℕ → List ℕ → List ℕ
first_and [] more = more
first_and (t ∷ ts) more = t ∷ more

-- the first waiter for each of these locks that has one
abbrev pub first_waiters : List Waiter → List Lock → List ℕ
first_waiters waiters [] = []
first_waiters waiters (l ∷ ls) = first_and (waiting_in waiters l) (first_waiters waiters ls)

-- the manager after a release: the cells are back, the section is closed, and its entry is last
abbrev pub after_release : Managed → TicketOf → List GrantOf → Commit → Managed
after_release m ticket grants entry =
    record m {
      places = given_back m.layout.locks m.places grants;
      slots = slice_set m.slots ticket.thread None;
      history = m.history ++ entry ∷ [];
      values = overwritten m.values entry.writes;
    }

-- the receipt has the position of the new entry, and the first waiter for each lock that is free now
pub record Releases (m : Managed) (ticket : TicketOf) (grants : List GrantOf) (entry : Commit) (receipt : ReceiptOf)
    (m' : Managed) : Type 0 where
  pub position : receipt.position ≡ length m.history
  pub wake : receipt.wake ≡ first_waiters m.waiters ticket.session.held
  pub manager : m' ≡ after_release m ticket grants entry

-- ---- give_up

-- the manager after a section was given up: the locks of the grants are free with the history's values, and the thread
-- has no open section and doesn't wait; the history is unchanged
abbrev pub after_give_up : Managed → ℕ → List GrantOf → Managed
after_give_up m t grants =
    record m {
      places = given_back m.layout.locks m.places (map (as_committed m) (locks_of grants));
      waiters = leaving t m.waiters;
      slots = slice_set m.slots t None;
    }

-- the grants are exactly those of the thread's open section
pub record AreItsGrants (m : Managed) (t : ℕ) (grants : List GrantOf) : Type 0 where
  pub session : SessionOf
  pub is : session_of m t ≡ Some session
  pub own : AreOf m.layout.cell_locks session.held grants

-- the layout, the ranks, the entries and the values that they leave are unchanged
pub record KeepsEntries (m m' : Managed) : Type 0 where
  pub layout : m'.layout ≡ m.layout
  pub ranks : m'.ranks ≡ m.ranks
  pub history : m'.history ≡ m.history
  pub values : m'.values ≡ m.values

-- the section is given up if the grants are exactly those of the thread's slot; otherwise the manager is unchanged
pub record GivesUp (m : Managed) (ticket : TicketOf) (grants : List GrantOf) (m' : Managed) : Type 0 where
  pub own : AreItsGrants m ticket.thread grants → m' ≡ after_give_up m ticket.thread grants
  pub not_own : (AreItsGrants m ticket.thread grants → ⊥) → m' ≡ m
  pub entries : KeepsEntries m m'
