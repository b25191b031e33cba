-- The locks that a section of a plan asks for.
use Rattle.std.specs.Prelude.{◌≡◌, ◌⊎◌, ℕ, true, List, [], ◌++◌, map}
use Rattle.std.specs.List.{Contains, range_with_len}
use Rattle.std.specs.Option.{option_map_or}
use Rattle.core_lang.specs.declared.shape.Pool.{Pool}
use Rattle.core_lang.specs.declared.value.Value.{Value}
use Rattle.core_lang.specs.declared.tree.Section.{Section}
use Rattle.locks.specs.declared.lock.Lock.{Lock}
use Rattle.locks.specs.declared.path_set.PathSet.{PathSet}
use Rattle.locks.specs.LockPaths.{LockPath, locks_named}
use Rattle.locks.specs.Locks.{object_lock}
use Rattle.locks.specs.Sets.{has}
use Rattle.lowering.specs.Plans.{Plan}
use Rattle.worlds.specs.Asking.{insert_all, locks_numbered, to_ask}
use Rattle.worlds.specs.Worlds.{section_at, locks_before}
use Rattle.runner.specs.declared.asker.Asker.{Asker}

-- the locks that a lock path names, by the numbers of the section and of the path; the list has the section's locals
abbrev pub locks_at : Plan → ℕ → List Value → ℕ → List Lock
locks_at plan k locals i =
    option_map_or (λ (section : Section). locks_numbered plan.program section locals i) (section_at plan k) []

-- the locks that the section asks for at a list of these lock paths: those that it does not hold, in lock order
abbrev pub asked_at : Plan → ℕ → List Lock → List Value → List ℕ → List Lock
asked_at plan k held locals list =
    option_map_or (λ (section : Section). to_ask plan.program section plan.ranks held locals list) (section_at plan k) []

-- ---- of a section that comes to a point

-- the locks of a class at the members of a pool
abbrev pub pool_locks : ℕ → Pool → List Lock
pool_locks class pool = map (object_lock class) (range_with_len pool.first pool.length)

-- the pending locks with these, unless the section holds them
abbrev pub with_locks : Asker → List Lock → List Lock → List Lock
with_locks a more locks = insert_all a.program.now.ranks a.machine.now.locks more locks

-- the pending locks with those of the lock path of this number, unless the section holds them
abbrev pub with_locks_of : Asker → ℕ → List Lock → List Lock
with_locks_of a i locks = with_locks a (locks_at a.program.now a.section a.machine.now.machine.locals i) locks

-- the locks that the section asks for at a list of these lock paths
abbrev pub asked_of : Asker → List ℕ → List Lock
asked_of a list = asked_at a.program.now a.section a.machine.now.locks a.machine.now.machine.locals list

-- the locks that the section asks for before a point
abbrev pub asked_before : Asker → ℕ → List Lock
asked_before a point = locks_before a.program.now a.section point a.machine.now.locks a.machine.now.machine.locals

-- ---- whole classes

-- the section has no lock path of this number
abbrev pub NamesNothing : Plan → ℕ → ℕ → Type 0
NamesNothing plan k i = (locals : List Value) → locks_at plan k locals i ≡ []

-- the section's lock path of this number
abbrev pub IsPathAt : Plan → ℕ → ℕ → LockPath → Type 0
IsPathAt plan k i path = (locals : List Value) → locks_at plan k locals i ≡ locks_named path plan.program.shape locals

-- the lock path of this number names the same locks whatever the locals are
abbrev pub IsWholeAt : Plan → ℕ → ℕ → Type 0
IsWholeAt plan k i = (locals locals' : List Value) → locks_at plan k locals i ≡ locks_at plan k locals' i

-- the second set has the paths of the first, and maybe the path of this number, if it is a whole class
abbrev pub IsNoted : Plan → ℕ → ℕ → PathSet → PathSet → Type 0
IsNoted plan k i set set' = (p : ℕ) → has set' p ≡ true → (has set p ≡ true) ⊎ ((p ≡ i) × IsWholeAt plan k i)

-- each lock that a path of the set names is one of these, whatever the locals are
abbrev pub AreTaken : Plan → ℕ → List Lock → PathSet → Type 0
AreTaken plan k locks set =
    (p : ℕ) → has set p ≡ true → (locals : List Value) (lock : Lock) → Contains (locks_at plan k locals p) lock →
    Contains locks lock

-- each lock that a path of the set names is held or pending
abbrev pub AreKept : Asker → List Lock → PathSet → Type 0
AreKept a pending set = AreTaken a.program.now a.section (a.machine.now.locks ++ pending) set

-- this stays so
abbrev pub HasKept : Asker → List Lock → PathSet → List Lock → PathSet → Type 0
HasKept a pending set pending' set' = AreKept a pending set → AreKept a pending' set'
