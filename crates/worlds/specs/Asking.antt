-- The locks that are asked for before a point.
use Rattle.std.specs.Prelude.{ℕ, if◌then◌else◌, List, [], ◌∷◌, slice_get}
use Rattle.std.specs.Option.{option_map_or}
use Rattle.core_lang.specs.declared.value.Value.{Value}
use Rattle.core_lang.specs.declared.tree.Section.{Section}
use Rattle.core_lang.specs.declared.typed.Typed.{Typed}
use Rattle.locks.specs.declared.lock.Lock.{Lock}
use Rattle.locks.specs.LockPaths.{LockPath, lock_paths, locks_named}
use Rattle.locks.specs.Locks.{same_lock, among}
use Rattle.locks.specs.Order.{precedes}

-- the locks with one more, before those that it comes before; a lock that is there is not inserted again
abbrev pub insert : List ℕ → Lock → List Lock → List Lock
insert ranks lock [] = lock ∷ []
insert ranks lock (next ∷ rest) =
    if same_lock lock next then next ∷ rest
    else if precedes ranks lock next then lock ∷ next ∷ rest else next ∷ insert ranks lock rest

-- the locks with one more inserted, unless it is held
abbrev pub insert_new : List ℕ → List Lock → Lock → List Lock → List Lock
insert_new ranks held lock locks = if among held lock then locks else insert ranks lock locks

-- the locks with these inserted that are not held
abbrev pub insert_all : List ℕ → List Lock → List Lock → List Lock → List Lock
insert_all ranks held [] locks = locks
insert_all ranks held (lock ∷ more) locks = insert_new ranks held lock (insert_all ranks held more locks)

-- the locks that the section's lock path of this number names
abbrev pub locks_numbered : Typed → Section → List Value → ℕ → List Lock
locks_numbered program section locals i =
    option_map_or (λ (path : LockPath). locks_named path program.shape locals) (slice_get (lock_paths program section) i) []

-- the locks to ask for: those that the lock paths of these numbers name and that are not held, each once, by rank, and
-- within a class by object
abbrev pub to_ask : Typed → Section → List ℕ → List Lock → List Value → List ℕ → List Lock
to_ask program section ranks held locals [] = []
to_ask program section ranks held locals (i ∷ is) =
    insert_all ranks held (locks_numbered program section locals i) (to_ask program section ranks held locals is)
