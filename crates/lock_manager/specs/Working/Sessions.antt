-- Open sections, and the tickets for them.
use Rattle.std.specs.Prelude.{ℕ, List, [], ◌∷◌, ◌++◌, Some, None}
use Rattle.locks.specs.declared.lock.Lock.{Lock}
use Rattle.layout.specs.declared.room.Room.{Room}
use Rattle.lock_manager.specs.Manager.{SessionOf}

-- a section that begins
abbrev pub fresh : ℕ → Room → SessionOf
fresh begun room = record { begun = begun; held = []; ask = None; room = room }

-- the section with one more lock granted
abbrev pub with_lock : SessionOf → Lock → SessionOf
with_lock s lock = record s { held = s.held ++ lock ∷ []; ask = None }

-- the section with a lock asked for
abbrev pub with_ask : SessionOf → Lock → SessionOf
with_ask s lock = record s { ask = Some lock }

-- a ticket: the thread and its section
pub record TicketOf : Type 0 where
  pub thread : ℕ
  pub session : SessionOf

-- a receipt: the position of the entry, and the threads to wake
pub record ReceiptOf : Type 0 where
  pub position : ℕ
  pub wake : List ℕ
