-- The notes of an open section, along its own steps, as the law of `src/laws.rt` claims them. Nobody has to believe
-- this file.
use Rattle.std.specs.Prelude.{◌≡◌, ◌⊎◌, ℕ, true, List, [], ◌∷◌, ◌++◌, slice_get, Option, Some, None}
use Rattle.std.specs.List.{Contains}
use Rattle.core_lang.specs.declared.value.Value.{Value}
use Rattle.core_lang.specs.declared.value.Outcome.{Outcome}
use Rattle.core_lang.specs.declared.tree.Section.{Section}
use Rattle.core_lang.specs.Serial.{Invocation}
use Rattle.core_lang.specs.WellFormed.{CanCall}
use Rattle.flow.specs.Skeletons.{skeleton}
use Rattle.flow.specs.Flow.{Before}
use Rattle.locks.specs.declared.lock.Lock.{Lock}
use Rattle.layout.specs.LockCells.{cells_of}
use Rattle.code.specs.Machine.{Machine, Asks}
use Rattle.code.specs.Memory.{HeldCells, load_held, store_held, value_at}
use Rattle.code.specs.Lowering.{section_code, lists_at}
use Rattle.code.specs.Needs.{operand_need}
use Rattle.code.specs.Working.Ahead.{Safe}
use Rattle.lowering.specs.Plans.{Plan, IsCompiled}
use Rattle.worlds.specs.Worlds.{World, Activation, activation, section_at, granted, instructed, next_effect, taken}
use Rattle.worlds.specs.Working.States.{IsWell, IsSound}
use Rattle.worlds.specs.Working.InTurn.{RiseBehind}
use Rattle.worlds.specs.Working.Ahead.{SeesTyped, Any, IsAtPoint, IsAsking, IsReadyWorld}
use Rattle.c_threads.specs.Locking.{Acquired, acquired, NotesAre, no_notes}
use Rattle.c_threads.specs.LockClaims.{NotesFit, listed_before}

-- for a plan, the number of a section of it, and the section
module _ (plan : Plan) (k : ℕ) (section : Section) where
  -- a path is listed before a point from which control comes to this one, or before this one
  pub record WasListed (p i : ℕ) : Type 0 where
    pub at : ℕ
    pub listed : Contains (listed_before plan k at) i
    pub order : (at ≡ p) ⊎ Before (skeleton section) at p

  -- if a run is at a point, each noted lock is one that its path names, and the path was listed on the way
  pub record NotesStand (p : ℕ) (locals : List Value) (notes : List (Option Lock)) : Type 0 where
    pub fit : NotesFit plan.program section locals notes
    pub listed : (i : ℕ) (lock : Lock) → slice_get notes i ≡ Some (Some lock) → WasListed p i

  -- the machine is at the begin of a point, with these notes
  pub record IsAtNoted (held : List Lock) (notes : List (Option Lock)) (m : Machine HeldCells) : Type 0 where
    pub at : IsAtPoint plan section (lists_at plan.lists k) held m
    pub stand : NotesStand at.point.number m.locals notes

  -- an open section runs to a point at which its notes hold, or it asks for the locks of such a point, or it has an
  -- outcome
  pub data NotesGoOn (a : Activation) (notes : List (Option Lock)) : Type 0 where
    running : a.pending ≡ [] →
        Safe load_held store_held plan.program.shape (section_code (lists_at plan.lists k) section) Any
        (IsAtNoted a.held notes) (operand_need section) a.machine → NotesGoOn a notes
    asking : (f : IsAsking plan section (lists_at plan.lists k) a.held a.pending a.machine) →
        NotesStand f.point.number a.machine.locals notes → NotesGoOn a notes
    over : {outcome : Outcome} → a.pending ≡ [] → a.outcome ≡ Some outcome → NotesGoOn a notes

-- the notes of an open section are of the locks that it holds and of those that it is to be granted. At each point that
-- it comes to, each note is of a lock that its path names
pub record IsNoted (plan : Plan) (a : Activation) (notes : List (Option Lock)) : Type 0 where
  pub section : Section
  pub is : section_at plan a.call.section ≡ Some section
  pub are : NotesAre plan.program section notes (a.held ++ a.pending)
  pub goes_on : NotesGoOn plan a.call.section section a notes

-- before a point, the acquire in C calls AL_LOCK with the locks that the section is to be granted then. Each of them
-- comes after all that it holds by then, and its notes hold afterwards
pub record AcquiresNoted (plan : Plan) (a : Activation) (point : ℕ) (notes : List (Option Lock)) : Type 0 where
  pub section : Section
  pub is : section_at plan a.call.section ≡ Some section
  pub after : Acquired
  pub acquires :
      acquired plan.program section a.machine.locals (listed_before plan a.call.section point) notes ≡ Some after
  pub calls : after.calls ≡ (instructed plan a (Asks point)).pending
  pub rise : RiseBehind plan.ranks a.held after.calls
  pub noted : IsNoted plan (instructed plan a (Asks point)) after.notes

-- the claim about the notes of an open section
pub record NotesStay : Type 0 where
  -- at its begin it has no notes
  pub begins : (plan : Plan) (begun : ℕ) (call : Invocation) (section : Section) → IsCompiled plan →
      CanCall plan.program call.section call.arguments → section_at plan call.section ≡ Some section →
      IsNoted plan (activation plan begun call) (no_notes plan.program section)
  -- an instruction that asks for nothing keeps them
  pub moves : (plan : Plan) (a : Activation) (notes : List (Option Lock)) → IsCompiled plan → IsWell plan a →
      IsNoted plan a notes → a.pending ≡ [] → a.outcome ≡ None →
      ((point : ℕ) → next_effect plan a ≡ Asks point → ⊥) →
      IsNoted plan (instructed plan a (next_effect plan a)) notes
  -- an instruction that asks for locks notes them
  pub asks : (plan : Plan) (a : Activation) (notes : List (Option Lock)) (point : ℕ) → IsCompiled plan →
      IsWell plan a → IsNoted plan a notes → a.pending ≡ [] → a.outcome ≡ None → next_effect plan a ≡ Asks point →
      AcquiresNoted plan a point notes
  -- a lock that is granted, with values of its cells, keeps them, and so does one that is waited for
  pub gets : (plan : Plan) (a : Activation) (notes : List (Option Lock)) (lock : Lock) (rest : List Lock)
      (values : List (ℕ × Value)) → IsNoted plan a notes → a.pending ≡ lock ∷ rest →
      SeesTyped plan.program (λ cell. value_at values cell) → IsNoted plan (granted a lock rest values) notes
  pub waits : (plan : Plan) (a : Activation) (notes : List (Option Lock)) → IsNoted plan a notes →
      IsNoted plan (record a { asked = true }) notes
  -- in a world that is sound and ready the cells that a lock brings have values of their types
  pub typed : (plan : Plan) (w : World) (lock : Lock) → IsSound plan w → IsReadyWorld plan w →
      SeesTyped plan.program (λ cell. value_at (taken w.cells (cells_of plan.layout.cell_locks lock)) cell)
