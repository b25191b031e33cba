-- The statements of an acquire, and of the end of a section: which they are, their text, and what they do in C. The
-- variables are h, which notes the lock of each lock path of the section, by the path's number, and m, which has the
-- locks that the paths of one class ask for together. Both hold the address of a lock or NULL. A statement that C
-- leaves undefined has no value.
use Rattle.std.specs.Prelude.{◌≡◌, ℕ, zero, suc, ◌+◌, ◌-◌, ◌==◌, Bool, true, false, nat_lt, nat_le, if◌then◌else◌}
use Rattle.std.specs.Prelude.{List, [], ◌∷◌, ◌++◌, length, map, slice_get, slice_set, Option, Some, None, codes}
use Rattle.std.specs.List.{Contains, flat_map, range_with_len}
use Rattle.std.specs.Option.{option_map, option_map_or}
use Rattle.core_lang.specs.declared.value.Value.{Value}
use Rattle.core_lang.specs.declared.tree.Section.{Section}
use Rattle.core_lang.specs.declared.shape.Shape.{Shape}
use Rattle.core_lang.specs.declared.typed.Typed.{Typed}
use Rattle.core_lang.specs.Typing.{lookup}
use Rattle.locks.specs.declared.lock.Lock.{Lock}
use Rattle.locks.specs.declared.path.Root.{Root}
use Rattle.locks.specs.declared.path.Root.TheVariants.{GlobalLock, WholeClass, Local as AtLocal}
use Rattle.locks.specs.LockPaths.{LockPath, lock_paths}
use Rattle.locks.specs.Locks.{same_lock, global_lock, locks_of}
use Rattle.code.specs.Memory.{load_held, store_held}
use Rattle.c_language.specs.Meaning.{pointer_in, final_target}
use Rattle.c_statements.specs.Statements.{line}
use Rattle.c_statements.specs.Acquires.{asked, runs, of_class, ask_text, alone_text, is_held_text, or_equals_text}
use Rattle.c_statements.specs.Acquires.{keep_text, exchange_text, lock_text, call_text, drop_call_text}
use Rattle.c_sections.specs.Sections.{unlock_line}

-- ---- statements

-- the statements of an acquire
pub data LockStatement : Type 0 where
  -- m[j] is the address of the lock of path k, or NULL where its root is NULL
  Ask : ℕ → ℕ → LockStatement
  -- if m[j] is equal to one of these of h, or to one of these of m, it becomes NULL
  Drop : ℕ → List ℕ → List ℕ → LockStatement
  -- if m[j] isn't NULL, it goes into h[k]
  Note : ℕ → ℕ → LockStatement
  -- AL_ORDER puts the lesser of m[j] and m[j + 1] first
  Exchange : ℕ → LockStatement
  -- if m[j] isn't NULL, AL_LOCK is called with it
  Take : ℕ → LockStatement
  -- if h[k] is NULL and the root of path k isn't, the address of its lock goes into h[k], and AL_LOCK is called with
  -- it. If the path is a whole class, this happens with each lock of the class in turn
  TakeAlone : ℕ → LockStatement
  -- the functions autolock_drop, of the given numbers of locks of m and of h, autolock_order and autolock_lock
  DropAll : ℕ → ℕ → LockStatement
  OrderAll : ℕ → LockStatement
  TakeAll : ℕ → LockStatement

-- at the end: if h[k] isn't NULL, AL_UNLOCK is called with it, or with each lock of the class if path k is a whole class
pub data UnlockStatement : Type 0 where
  Unlock : ℕ → UnlockStatement

-- ---- which statements there are

-- the numbers from the first one up, below the second
abbrev pub up : ℕ → ℕ → List ℕ
up from to = range_with_len from (to - from)

-- the numbers below the given one, from the greatest down
abbrev pub down : ℕ → List ℕ
down zero = []
down (suc k) = k ∷ down k

-- a statement for each path, with its place in m, counted from this one
abbrev pub in_turn : (ℕ → ℕ → LockStatement) → ℕ → List ℕ → List LockStatement
in_turn statement j [] = []
in_turn statement j (k ∷ ks) = statement j k ∷ in_turn statement (j + 1) ks

-- a run of paths of one class, among at most 8 of the class
abbrev pub few : List ℕ → List ℕ → List LockStatement
few class run =
    in_turn Ask 0 run
    ++ map (λ j. Drop j class (up (j + 1) (length run))) (down (length run))
    ++ in_turn Note 0 run
    ++ flat_map (λ j. map Exchange (up j (length run - 1))) (down (length run - 1))
    ++ map Take (up 0 (length run))

-- a run among more paths of its class, where the section has the given number of lock paths
abbrev pub many : ℕ → List ℕ → List LockStatement
many count run =
    in_turn Ask 0 run ++ DropAll (length run) count ∷ in_turn Note 0 run
    ++ OrderAll (length run) ∷ TakeAll (length run) ∷ []

-- for the lock paths of a section
module _ (paths : List LockPath) where
  -- a run among the paths of its class
  abbrev pub run_among : List ℕ → List ℕ → List LockStatement
  run_among class run =
      if nat_le (length class) 1 then map TakeAlone run
      else if nat_le (length class) 8 then few class run
      else many (length paths) run

  -- a run, whose class is that of its first path
  abbrev pub run_statements : List ℕ → List LockStatement
  run_statements [] = []
  run_statements (k ∷ ks) =
      option_map_or (λ (path : LockPath). run_among (of_class path.class 0 paths) (k ∷ ks)) (slice_get paths k) []

  -- the acquire of a list of lock paths, by their numbers
  abbrev pub statements : List ℕ → List LockStatement
  statements list = flat_map run_statements (runs paths list)

-- the end of a section with the given number of lock paths
abbrev pub unlocks : ℕ → List UnlockStatement
unlocks count = map Unlock (down count)

-- ---- their text

-- for a program, a section of it, and the section's lock paths
module _ (program : Typed) (section : Section) (paths : List LockPath) where
  -- the C of a statement of an acquire
  abbrev pub lock_statement_text : LockStatement → List ℕ
  lock_statement_text (Ask j k) = ask_text program section paths j k
  lock_statement_text (Drop j class later) =
      line (codes "if (" ++ is_held_text j class ++ flat_map (λ i. or_equals_text j (asked i)) later
      ++ codes ") " ++ asked j ++ codes " = NULL;")
  lock_statement_text (Note j k) = keep_text j k
  lock_statement_text (Exchange j) = exchange_text j
  lock_statement_text (Take j) = lock_text j
  lock_statement_text (TakeAlone k) = alone_text program section paths k
  lock_statement_text (DropAll n count) = drop_call_text n count
  lock_statement_text (OrderAll n) = call_text (codes "autolock_order") n []
  lock_statement_text (TakeAll n) = call_text (codes "autolock_lock") n []

-- the C of a statement of the end
abbrev pub unlock_statement_text : Typed → List LockPath → UnlockStatement → List ℕ
unlock_statement_text program paths (Unlock k) = unlock_line program paths k

-- ---- addresses

-- the address of a lock, or NULL
abbrev pub Pointer : Type 0
Pointer = Option Lock

-- two locks have two addresses
abbrev pub same_pointer : Pointer → Pointer → Bool
same_pointer None None = true
same_pointer None (Some b) = false
same_pointer (Some a) None = false
same_pointer (Some a) (Some b) = same_lock a b

-- the first pointer is less. Within a class addresses rise with the numbers of the objects, since the members of a pool
-- lie in an array, and pools stand in the state in the order of their declarations: this is the only assumption about
-- the addresses of locks. NULL is less than each address. Of locks of two classes nothing is known
abbrev pub is_less : Pointer → Pointer → Option Bool
is_less a None = Some false
is_less None (Some b) = Some true
is_less (Some a) (Some b) = if a.class == b.class then Some (nat_lt a.object b.object) else None

-- the pointer at the end of final references: NULL can't be followed, and has no member
abbrev pub followed : Shape → Option ℕ → List ℕ → Option ℕ
followed shape None finals = None
followed shape (Some o) [] = Some o
followed shape (Some o) (f ∷ fs) =
    lookup (pointer_in (final_target load_held store_held shape (Some o) f)) (λ r. followed shape r fs)

-- the address of the lock of a path whose root has this pointer, or NULL if that is NULL
abbrev pub address_from : Shape → LockPath → Option ℕ → Option Pointer
address_from shape path None = Some None
address_from shape path (Some o) =
    lookup (followed shape (Some o) path.finals) (λ owner. Some (Some (record { class = path.class; object = owner })))

-- the address of the lock of a path, by the values of the section's locals; a whole class has no single one
abbrev pub address_by : Shape → List Value → Root → LockPath → Option Pointer
address_by shape locals GlobalLock path = Some (Some (global_lock path.class))
address_by shape locals (WholeClass s) path = None
address_by shape locals (AtLocal k) path = lookup (pointer_in (slice_get locals k)) (address_from shape path)

-- the address that a path leads to, walked from its root
abbrev pub address : Shape → List Value → LockPath → Option Pointer
address shape locals path = address_by shape locals path.root path

-- the addresses of the locks of a path, one after another. The members of a struct are gone through pool after pool, as
-- the pools are declared, and each pool from its first member to its last
abbrev pub addresses_by : Shape → List Value → Root → LockPath → Option (List Pointer)
addresses_by shape locals GlobalLock path = option_map (λ p. p ∷ []) (address shape locals path)
addresses_by shape locals (WholeClass s) path = Some (map (λ lock. Some lock) (locks_of shape path.class s))
addresses_by shape locals (AtLocal k) path = option_map (λ p. p ∷ []) (address shape locals path)

-- the addresses that a path leads to
abbrev pub addresses : Shape → List Value → LockPath → Option (List Pointer)
addresses shape locals path = addresses_by shape locals path.root path

-- ---- what statements do

-- the variables h, those of m that were set, and the calls of AL_LOCK made so far, in order
pub record Locking : Type 0 where
  pub notes : List Pointer
  pub asked : List (Option Pointer)
  pub calls : List Lock

-- h[k]; none beyond its array
abbrev pub h_at : Locking → ℕ → Option Pointer
h_at x k = slice_get x.notes k

-- m[j], if it was set
abbrev pub m_at : Locking → ℕ → Option Pointer
m_at x j = lookup (slice_get x.asked j) (λ set. set)

-- h[k] becomes this; none if k is beyond the array
abbrev pub set_h : Locking → ℕ → Pointer → Option Locking
set_h x k p = lookup (slice_get x.notes k) (λ old. Some (record x { notes = slice_set x.notes k p }))

-- m[j] becomes this; none if j is beyond the array
abbrev pub set_m : Locking → ℕ → Pointer → Option Locking
set_m x j p = lookup (slice_get x.asked j) (λ old. Some (record x { asked = slice_set x.asked j (Some p) }))

-- AL_LOCK, unless the pointer is NULL
abbrev pub call : Locking → Pointer → Locking
call x None = x
call x (Some lock) = record x { calls = x.calls ++ lock ∷ [] }

-- a loop over numbers
abbrev pub for_each : (ℕ → Locking → Option Locking) → List ℕ → Locking → Option Locking
for_each does [] x = Some x
for_each does (i ∷ is) x = lookup (does i x) (for_each does is)

-- whether a pointer is equal to one of these, which are read one after another until one is
abbrev pub equals_one : Pointer → List (Option Pointer) → Option Bool
equals_one p [] = Some false
equals_one p (None ∷ others) = None
equals_one p (Some q ∷ others) = if same_pointer p q then Some true else equals_one p others

-- m[j] becomes NULL, if it is equal to one of these of h or to one of these of m
abbrev pub drop_lock : ℕ → List ℕ → List ℕ → Locking → Option Locking
drop_lock j class later x =
    lookup (m_at x j) (λ p. lookup (equals_one p (map (h_at x) class ++ map (m_at x) later)) (λ equals.
    if equals then set_m x j None else Some x))

-- a pointer that is not NULL goes into h[k]
abbrev pub note_if : Pointer → ℕ → Locking → Option Locking
note_if None k x = Some x
note_if (Some lock) k x = set_h x k (Some lock)

-- m[j] goes into h[k], unless it is NULL
abbrev pub note_lock : ℕ → ℕ → Locking → Option Locking
note_lock j k x = lookup (m_at x j) (λ p. note_if p k x)

-- the lesser of m[j] and m[j + 1] comes first
abbrev pub exchange : ℕ → Locking → Option Locking
exchange j x =
    lookup (m_at x j) (λ p. lookup (m_at x (j + 1)) (λ q. lookup (is_less q p) (λ less.
    if less then lookup (set_m x j q) (λ y. set_m y (j + 1) p) else Some x)))

-- AL_LOCK is called with m[j], unless it is NULL
abbrev pub take_lock : ℕ → Locking → Option Locking
take_lock j x = lookup (m_at x j) (λ p. Some (call x p))

-- each address in turn goes into h[k], and AL_LOCK is called with it, unless it is NULL
abbrev pub take_each : ℕ → List Pointer → Locking → Option Locking
take_each k [] x = Some x
take_each k (p ∷ ps) x = lookup (note_if p k x) (λ y. take_each k ps (call y p))

-- this happens if h[k] holds no lock, as the second argument says
abbrev pub take_unless : Option (List Pointer) → Pointer → ℕ → Locking → Option Locking
take_unless addresses (Some noted) k x = Some x
take_unless addresses None k x = lookup addresses (λ ps. take_each k ps x)

-- the loops of autolock_drop over the first n of m and the first `count` of h, as the fixed part of the file has them
abbrev pub drop_all : ℕ → ℕ → Locking → Option Locking
drop_all n count =
    for_each (λ j x. lookup (for_each (λ i. drop_lock j (i ∷ []) []) (up 0 count) x)
    (for_each (λ i. drop_lock j [] (i ∷ [])) (up (j + 1) n))) (down n)

-- the loops of autolock_order over the first n of m
abbrev pub order_all : ℕ → Locking → Option Locking
order_all n = for_each (λ j. for_each exchange (up j (n - 1))) (down (n - 1))

-- the loop of autolock_lock over the first n of m
abbrev pub take_all : ℕ → Locking → Option Locking
take_all n = for_each take_lock (up 0 n)

-- for a program, a section of it, and the values of the section's locals
module _ (program : Typed) (section : Section) (locals : List Value) where
  -- the address that the section's lock path of a number gives
  abbrev pub address_at : ℕ → Option Pointer
  address_at k = lookup (slice_get (lock_paths program section) k) (address program.shape locals)

  -- the addresses that it gives
  abbrev pub addresses_at : ℕ → Option (List Pointer)
  addresses_at k = lookup (slice_get (lock_paths program section) k) (addresses program.shape locals)

  -- what one statement does to h, m and the calls of AL_LOCK
  abbrev pub does : LockStatement → Locking → Option Locking
  does (Ask j k) x = lookup (address_at k) (set_m x j)
  does (Drop j class later) x = drop_lock j class later x
  does (Note j k) x = note_lock j k x
  does (Exchange j) x = exchange j x
  does (Take j) x = take_lock j x
  does (TakeAlone k) x = lookup (h_at x k) (λ noted. take_unless (addresses_at k) noted k x)
  does (DropAll n count) x = drop_all n count x
  does (OrderAll n) x = order_all n x
  does (TakeAll n) x = take_all n x

  -- what statements do one after another
  abbrev pub do_all : List LockStatement → Locking → Option Locking
  do_all [] x = Some x
  do_all (s ∷ ss) x = lookup (does s x) (do_all ss)

-- ---- an acquire

-- what an acquire leaves: the variables h, and the calls of AL_LOCK that it makes, in order
pub record Acquired : Type 0 where
  pub notes : List (Option Lock)
  pub calls : List Lock

-- the state at its begin: m is not set, and no call is made
abbrev pub beginning : List LockPath → List (Option Lock) → Locking
beginning paths notes = record { notes = notes; asked = map (λ path. None) paths; calls = [] }

-- the acquire of a list of lock paths, by their numbers; none if C leaves it undefined
abbrev pub acquired : Typed → Section → List Value → List ℕ → List (Option Lock) → Option Acquired
acquired program section locals list notes =
    let paths = lock_paths program section in
    lookup (do_all program section locals (statements paths list) (beginning paths notes)) (λ x.
    Some (record { notes = x.notes; calls = x.calls }))

-- ---- notes

-- the locks that a noted lock stands for, by the root of its path: itself, or all of the class that the path is
abbrev pub stood_by : Shape → Root → ℕ → Lock → List Lock
stood_by shape GlobalLock class lock = lock ∷ []
stood_by shape (WholeClass s) class lock = locks_of shape class s
stood_by shape (AtLocal k) class lock = lock ∷ []

-- the locks that a variable h stands for, if there is one
abbrev pub had : (Lock → List Lock) → Option Pointer → List Lock
had stood (Some (Some lock)) = stood lock
had stood (Some None) = []
had stood None = []

-- for a program and a section of it
module _ (program : Typed) (section : Section) where
  -- no lock is noted, as at the begin of a section
  abbrev pub no_notes : List (Option Lock)
  no_notes = map (λ path. None) (lock_paths program section)

  -- the locks that a lock noted by path k stands for
  abbrev pub stood_for : ℕ → Lock → List Lock
  stood_for k lock =
      option_map_or (λ (path : LockPath). stood_by program.shape path.root path.class lock)
      (slice_get (lock_paths program section) k) []

  -- the locks that the variable h[k] stands for
  abbrev pub noted_at : List (Option Lock) → ℕ → List Lock
  noted_at notes k = had (stood_for k) (slice_get notes k)

  -- each of these locks is noted once, and nothing else is
  pub record NotesAre (notes : List (Option Lock)) (locks : List Lock) : Type 0 where
    pub noted : (lock : Lock) → Contains locks lock → (k : ℕ) × Contains (noted_at notes k) lock
    pub only : (k : ℕ) (lock : Lock) → Contains (noted_at notes k) lock → Contains locks lock
    pub once : (j k : ℕ) (lock : Lock) → Contains (noted_at notes j) lock → Contains (noted_at notes k) lock → j ≡ k

  -- ---- the end

  -- the locks that a statement of the end calls AL_UNLOCK with, in order
  abbrev pub gives : List (Option Lock) → UnlockStatement → List Lock
  gives notes (Unlock k) = noted_at notes k

  -- the calls of AL_UNLOCK at the end: each lock noted, those of the last lock path first
  abbrev pub given_back : List (Option Lock) → List Lock
  given_back notes = flat_map (gives notes) (unlocks (length (lock_paths program section)))
