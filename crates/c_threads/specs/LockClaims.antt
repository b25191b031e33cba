-- The claims about locks in C.
use Rattle.std.specs.Prelude.{◌≡◌, ◌≢◌, ◌↔◌, ◌⊎◌, ℕ, Bool, List, [], ◌++◌, length, slice_get, unwrap_or, Option}
use Rattle.std.specs.Prelude.{Some, None, codes}
use Rattle.std.specs.List.{AllPairs, Contains, flat_map}
use Rattle.core_lang.specs.declared.value.Value.{Value}
use Rattle.core_lang.specs.declared.tree.Section.{Section}
use Rattle.core_lang.specs.declared.typed.Typed.{Typed}
use Rattle.core_lang.specs.Typing.{local_types, HaveTypes}
use Rattle.core_lang.specs.WellFormed.{IsWellFormed}
use Rattle.flow.specs.Skeletons.{skeleton}
use Rattle.flow.specs.Flow.{Before}
use Rattle.locks.specs.declared.lock.Lock.{Lock}
use Rattle.locks.specs.LockPaths.{LockPath, lock_paths, BindsRoot}
use Rattle.inserter.specs.Placement.{IsPath}
use Rattle.code.specs.Machine.{Asks}
use Rattle.code.specs.Lowering.{lists_at}
use Rattle.lowering.specs.Plans.{Plan, IsCompiled}
use Rattle.worlds.specs.Asking.{locks_numbered}
use Rattle.worlds.specs.Worlds.{Activation, section_at, locks_before, next_effect}
use Rattle.worlds.specs.Working.InTurn.{RiseBehind}
use Rattle.worlds.specs.Working.InOrder.{IsInOrder}
use Rattle.c_statements.specs.Statements.{line}
use Rattle.c_statements.specs.Acquires.{take_text, acquire_text}
use Rattle.c_sections.specs.Sections.{ended_text, count_line, give_line, return_text, end_text}
use Rattle.c_threads.specs.Locking.{lock_statement_text, statements, unlock_statement_text, unlocks, Acquired, acquired}
use Rattle.c_threads.specs.Locking.{NotesAre, given_back}

-- ---- texts

-- the text of an acquire is that of its statements, one after another
abbrev pub AcquireTextsAreOfStatements : Type 0
AcquireTextsAreOfStatements =
    (program : Typed) (section : Section) (paths : List LockPath) (list : List ℕ) →
    acquire_text program section paths list
    ≡ take_text program section paths list
    ++ flat_map (lock_statement_text program section paths) (statements paths list)

-- after the label of the end, and what adds the call's entry if a history is kept, the text has the unlock statements,
-- before what returns the result; the section begins after it
abbrev pub EndTextsAreOfStatements : Type 0
EndTextsAreOfStatements =
    (program : Typed) (section : Section) (prints : Bool) (paths : List LockPath) →
    end_text program section prints paths
    ≡ codes "  goto begin;\nend:\n" ++ ended_text section prints
    ++ flat_map (unlock_statement_text program paths) (unlocks (length paths)) ++ count_line prints
    ++ line (codes "result.trap = trap;") ++ give_line section.result_type ++ return_text

-- ---- an acquire

-- the section has a variable h for each lock path, and each noted lock is one that its path names now
pub record NotesFit (program : Typed) (section : Section) (locals : List Value)
    (notes : List (Option Lock)) : Type 0 where
  pub long : length notes ≡ length (lock_paths program section)
  pub named : (k : ℕ) (lock : Lock) → slice_get notes k ≡ Some (Some lock) →
      Contains (locks_numbered program section locals k) lock

-- the lock paths that are listed before a point of the section of a number
abbrev pub listed_before : Plan → ℕ → ℕ → List ℕ
listed_before plan k point = unwrap_or (slice_get (lists_at plan.lists k) point) []

-- before a point, with these locks held and noted: C defines the acquire, whose calls of AL_LOCK are for the locks that
-- are asked for, in their order. Afterwards these are noted too, each by a path that names it, and each new note is by
-- a path that is listed there
pub record TakesWhatIsAsked (plan : Plan) (k point : ℕ) (section : Section) (locals : List Value) (held : List Lock)
    (notes : List (Option Lock)) : Type 0 where
  pub after : Acquired
  pub is : acquired plan.program section locals (listed_before plan k point) notes ≡ Some after
  pub calls : after.calls ≡ locks_before plan k point held locals
  pub noted : NotesAre plan.program section after.notes (held ++ after.calls)
  pub fit : NotesFit plan.program section locals after.notes
  pub new : (i : ℕ) (lock : Lock) → slice_get after.notes i ≡ Some (Some lock) →
      (slice_get notes i ≡ Some (Some lock)) ⊎ Contains (listed_before plan k point) i

-- this holds before each point of each section of a compiled plan, if the locals have their types, and the notes fit
-- and are those of the held locks
abbrev pub AcquiresTakeWhatIsAsked : Type 0
AcquiresTakeWhatIsAsked =
    (plan : Plan) (k point : ℕ) (section : Section) (locals : List Value) (held : List Lock)
    (notes : List (Option Lock)) → IsCompiled plan → section_at plan k ≡ Some section →
    HaveTypes plan.program.shape (local_types section.locals.items) locals →
    NotesAre plan.program section notes held → NotesFit plan.program section locals notes →
    TakesWhatIsAsked plan k point section locals held notes

-- ---- locks rise

-- what a section that is in order asks for before a point rises after what it holds: each lock comes after all that are
-- held by then
abbrev pub CallsRise : Type 0
CallsRise =
    (plan : Plan) (a : Activation) (point : ℕ) → IsCompiled plan → IsInOrder plan a → a.pending ≡ [] →
    a.outcome ≡ None → next_effect plan a ≡ Asks point →
    RiseBehind plan.ranks a.held (locks_before plan a.call.section point a.held a.machine.locals)

-- ---- paths keep their locks

-- if a path is listed before a point, neither that point nor one that control comes to from there binds the path's root
abbrev pub ListedRootsStay : Type 0
ListedRootsStay =
    (plan : Plan) (k point later i : ℕ) (section : Section) (path : LockPath) → IsCompiled plan →
    section_at plan k ≡ Some section → Contains (listed_before plan k point) i →
    IsPath plan.program section i path → (point ≡ later) ⊎ Before (skeleton section) point later →
    BindsRoot section later path → ⊥

-- ---- the end

-- the calls of AL_UNLOCK at the end of the section are of the locks noted, and of no lock twice
pub record GivesBackWhatIsHeld (program : Typed) (section : Section) (notes : List (Option Lock))
    (held : List Lock) : Type 0 where
  pub exactly : (lock : Lock) → Contains (given_back program section notes) lock ↔ Contains held lock
  pub once : AllPairs ◌≢◌ (given_back program section notes)

-- this holds at each end where exactly the locks that are held are noted
abbrev pub EndsGiveBackWhatIsHeld : Type 0
EndsGiveBackWhatIsHeld =
    (program : Typed) (section : Section) (notes : List (Option Lock)) (held : List Lock) → IsWellFormed program →
    NotesAre program section notes held → GivesBackWhatIsHeld program section notes held
