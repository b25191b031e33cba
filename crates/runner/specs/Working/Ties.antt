-- The representation of an open section. Nobody has to believe this file.
use Rattle.std.specs.Prelude.{◌≡◌, ◌≤◌, ℕ, Bool, false, List, [], ◌++◌, length, Option, Some, None}
use Rattle.std.specs.List.{sum_by}
use Rattle.core_lang.specs.declared.value.Value.{Value}
use Rattle.core_lang.specs.declared.value.Outcome.{Outcome}
use Rattle.core_lang.specs.Serial.{Invocation}
use Rattle.locks.specs.declared.lock.Lock.{Lock}
use Rattle.locks.specs.Sets.{has}
use Rattle.core_lang.specs.WellFormed.{CanCall}
use Rattle.layout.specs.declared.room.Room.{Room}
use Rattle.layout.specs.LockCells.{cells_of}
use Rattle.code.specs.declared.instr.Instr.{Instr}
use Rattle.code.specs.Machine.{Effect, act}
use Rattle.code.specs.Memory.{HeldCells, load_held, store_held}
use Rattle.lock_manager.specs.Working.Sessions.{TicketOf}
use Rattle.lowering.specs.Plans.{Plan, IsCompiled}
use Rattle.worlds.specs.Worlds.{activation, locals_at}
use Rattle.worlds.specs.Working.InOrder.{SufficesFor}
use Rattle.runner_machine.specs.Working.Machines.{RunOf, at_first}
use Rattle.lock_manager.specs.Manager.{Managed}
use Rattle.moved_cells.specs.Working.Grants.{GrantOf}
use Rattle.history.specs.Commits.{Commit}
use Rattle.history.specs.Working.Histories.{IsWithin}
use Rattle.runner_machine.specs.Working.Held.{cells_granted}
use Rattle.runner.specs.declared.body.SectionFrame.{SectionFrame}
use Rattle.runner.specs.Working.Asked.{AreTaken}
use Rattle.runner.specs.Working.Opens.{OpenOf, IsOpen, AreItsGrants, Gets, Waits, ticket_of, further, moved}

-- a call
abbrev pub call_of : ℕ → List Value → Invocation
call_of section arguments = record { section = section; arguments = arguments }

-- a section without an outcome, by its ticket, call, machine and pending locks
abbrev pub open_as : Plan → TicketOf → ℕ → Invocation → RunOf → List Lock → Bool → OpenOf
open_as plan ticket step call run pending asked = record {
  plan = plan;
  thread = ticket.thread;
  step = step;
  room = ticket.session.room;
  activation = record {
    call = call;
    begun = ticket.session.begun;
    machine = run.machine;
    held = ticket.session.held;
    pending = pending;
    asked = asked;
    outcome = None;
  };
}

-- the call that a block has
abbrev pub its_call : SectionFrame → Invocation
its_call b = call_of b.section b.arguments.items

-- the open section of a frame
abbrev pub open_in : Plan → TicketOf → SectionFrame → OpenOf
open_in plan ticket b = open_as plan ticket b.step (its_call b) b.machine b.pending.locks b.asked

-- the number of cells of these locks together
abbrev pub cells_together : Plan → List Lock → ℕ
cells_together plan locks = sum_by (λ (lock : Lock). length (cells_of plan.layout.cell_locks lock)) locks

-- the ticket and the machine are those of the section, and the pending locks have room for all locks
pub record IsKeptOpen (o : OpenOf) (ticket : TicketOf) (run : RunOf) (pending_room : ℕ) : Type 0 where
  pub is_open : IsOpen o
  pub ticket_is : ticket ≡ ticket_of o
  pub layout : run.layout ≡ o.plan.layout
  pub locks : run.locks ≡ o.activation.held
  pub operands : run.operand_room ≡ o.room.operands
  pub lock_room : run.lock_room ≡ o.room.locks
  pub cell_room : run.cell_room ≡ o.room.cells
  pub pending_fits : o.room.locks ≤ pending_room
  pub cells : length o.activation.machine.memory.cells ≡ cells_together o.plan o.activation.held
  pub few_arguments : length o.activation.call.arguments ≤ 8

-- each lock that a taken path of the frame names is held or pending
abbrev pub AreTakenIn : Plan → TicketOf → SectionFrame → Type 0
AreTakenIn plan ticket b = AreTaken plan b.section (ticket.session.held ++ b.pending.locks) b.taken

-- the section with an outcome
abbrev pub over_by : OpenOf → Outcome → OpenOf
over_by o outcome = further o (record o.activation { outcome = Some outcome })

-- the effect of an instruction on the section's machine
abbrev pub effect_on : OpenOf → Instr → Effect HeldCells
effect_on o instruction = act load_held store_held o.plan.program.shape (Some instruction) o.activation.machine

-- an instruction leads on, or to an outcome
abbrev pub HasMoved : OpenOf → Option Outcome → OpenOf → Type 0
HasMoved old None new = (new ≡ moved old) × (new.activation.outcome ≡ None)
HasMoved old (Some outcome) new = (new ≡ old) × (moved old ≡ over_by old outcome)

-- ---- a section that is about to begin

-- the call fits its section, and all memory that it can need is allocated
pub record IsBeginning (plan : Plan) (b : SectionFrame) : Type 0 where
  pub compiled : IsCompiled plan
  pub fits : CanCall plan.program b.section b.arguments.items
  pub room_is : SufficesFor plan b.section b.room
  pub run_is : b.machine ≡ at_first (locals_at plan (its_call b)) plan.layout b.room
  pub none_pending : b.pending.locks ≡ []
  pub none_taken : (i : ℕ) → has b.taken i ≡ false
  pub not_asked : b.asked ≡ false
  pub pending_fits : b.room.locks ≤ b.pending.room

-- the section that begins when the history has the given length
abbrev pub begun_as : Plan → ℕ → ℕ → Room → ℕ → Invocation → OpenOf
begun_as plan thread step room begun call = record {
  plan = plan;
  thread = thread;
  step = step;
  room = room;
  activation = activation plan begun call;
}

-- ---- a section that asks

-- the lock was free and is granted, or the given other thread holds it
abbrev pub HasAsked : Managed → OpenOf → Option ℕ → OpenOf → Managed → Type 0
HasAsked m o None o' m' = Gets m o o' m'
HasAsked m o (Some holder) o' m' = Waits m o holder o' m'

-- ---- a section that has an outcome

-- an ended section, by its ticket, its call, its machine after the end, and its grants
abbrev pub ended_as : Plan → TicketOf → ℕ → Invocation → RunOf → List GrantOf → Bool → Outcome → OpenOf
ended_as plan ticket step call run grants asked outcome = record {
  plan = plan;
  thread = ticket.thread;
  step = step;
  room = ticket.session.room;
  activation = record {
    call = call;
    begun = ticket.session.begun;
    machine = record run.machine {
      memory = record run.machine.memory { cells = cells_granted plan.layout.cell_locks grants };
    };
    held = ticket.session.held;
    pending = [];
    asked = asked;
    outcome = Some outcome;
  };
}

-- the ended section of a frame
abbrev pub ended_in : Plan → TicketOf → SectionFrame → OpenOf
ended_in plan ticket b = ended_as plan ticket b.step (its_call b) b.machine b.grants.items b.asked b.outcome

-- the entry of the section
abbrev pub entry_in : TicketOf → SectionFrame → Commit
entry_in ticket b = record {
  thread = ticket.thread;
  step = b.step;
  section = b.section;
  arguments = b.arguments.items;
  begun = ticket.session.begun;
  reads = b.machine.machine.memory.reads;
  writes = b.machine.machine.memory.writes;
  outcome = b.outcome;
  prints = b.machine.machine.prints;
}

-- the ticket and the grants are those of the section, its machine has no further grants, and its entry fits its room
pub record IsKeptEnded (o : OpenOf) (ticket : TicketOf) (run : RunOf) (grants : List GrantOf) (entry : Commit) : Type 0 where
  pub is_open : IsOpen o
  pub ticket_is : ticket ≡ ticket_of o
  pub its : AreItsGrants o grants
  pub within : IsWithin ticket.session.room.cells entry
  pub no_locks : run.locks ≡ []
  pub no_room : run.cell_room ≡ 0
