-- The text of an acquire of the lock paths before a point, which are indexes into those of the section. Paths of one
-- class are written together. The variable h[K] has the lock that path K holds, and m[J] the lock that the J-th path of
-- a run asks for.
use Rattle.std.specs.Prelude.{ℕ, zero, suc, ◌+◌, ◌-◌, ◌==◌, Bool, false, not, if◌then◌else◌, nat_le}
use Rattle.std.specs.Prelude.{List, [], ◌∷◌, ◌++◌}
use Rattle.std.specs.Prelude.{length, slice_get, Option, Some, None, codes, string_bytes}
use Rattle.std.specs.List.{flat_map, range_with_len}
use Rattle.std.specs.Option.{option_map_or}
use Rattle.std.specs.Fmt.{decimal}
use Rattle.core_lang.specs.Typing.{final_target}
use Rattle.core_lang.specs.declared.shape.Pool.{Pool}
use Rattle.core_lang.specs.declared.tree.Local.{Local}
use Rattle.core_lang.specs.declared.tree.Section.{Section}
use Rattle.core_lang.specs.declared.typed.Typed.{Typed}
use Rattle.locks.specs.LockPaths.{LockPath}
use Rattle.locks.specs.Texts.{last_name, path_text, struct_if_reference}
use Rattle.locks.specs.declared.path.Root.{Root}
use Rattle.locks.specs.declared.path.Root.TheVariants.{GlobalLock, WholeClass, Local as AtLocal}
use Rattle.code.specs.Listing.{text_at}
use Rattle.c_language.specs.Groups.{member}
use Rattle.c_statements.specs.Names.{lock_member, local_text, variable_text, final_text}
use Rattle.c_statements.specs.Statements.{line}

-- ---- texts one after another

-- the texts of items, each with its number
abbrev pub numbered : {A : Type 0} → (ℕ → A → List ℕ) → ℕ → List A → List ℕ
numbered text k [] = []
numbered text k (x ∷ xs) = text k x ++ numbered text (k + 1) xs

-- the texts of the numbers below the given one, from the greatest down
abbrev pub downward : (ℕ → List ℕ) → ℕ → List ℕ
downward text zero = []
downward text (suc k) = text k ++ downward text k

-- the texts of the numbers from the first one up, below the second
abbrev pub upward : (ℕ → List ℕ) → ℕ → ℕ → List ℕ
upward text from to = flat_map text (range_with_len from (to - from))

-- ---- variables

-- the variable with the lock that path k holds
abbrev pub held : ℕ → List ℕ
held k = codes "h[" ++ decimal k ++ codes "]"

-- the variable with the lock that the j-th path of a run asks for
abbrev pub asked : ℕ → List ℕ
asked j = codes "m[" ++ decimal j ++ codes "]"

-- ---- runs of one class

-- a lock path of this number has the class
abbrev pub has_class : List LockPath → ℕ → ℕ → Bool
has_class paths class k = option_map_or (λ (path : LockPath). path.class == class) (slice_get paths k) false

-- the two lock paths have one class
abbrev pub same_class : List LockPath → ℕ → ℕ → Bool
same_class paths j k = option_map_or (λ (path : LockPath). has_class paths path.class k) (slice_get paths j) false

-- the run ends before a path of another class
abbrev pub is_other : List LockPath → List ℕ → ℕ → Bool
is_other paths [] k = false
is_other paths (j ∷ js) k = not (same_class paths j k)

-- the current run, and those after it
abbrev pub runs_on : List LockPath → List ℕ → List ℕ → List (List ℕ)
runs_on paths run [] = run ∷ []
runs_on paths run (k ∷ ks) =
    if is_other paths run k then run ∷ runs_on paths (k ∷ []) ks else runs_on paths (run ++ k ∷ []) ks

-- the longest runs of one class
abbrev pub runs : List LockPath → List ℕ → List (List ℕ)
runs paths list = runs_on paths [] list

-- the lock paths of a class, by their numbers, counted from this one
abbrev pub of_class : ℕ → ℕ → List LockPath → List ℕ
of_class class k [] = []
of_class class k (path ∷ paths) =
    if path.class == class then k ∷ of_class class (k + 1) paths else of_class class (k + 1) paths

-- ---- which of the locks that a run asks for are acquired

-- the test that the j-th lock is the one in this variable
abbrev pub equals_text : ℕ → List ℕ → List ℕ
equals_text j other = asked j ++ codes " == " ++ other

-- a further operand of such a test
abbrev pub or_equals_text : ℕ → List ℕ → List ℕ
or_equals_text j other = codes " || " ++ equals_text j other

-- the test that the j-th lock is one that these paths hold
abbrev pub is_held_text : ℕ → List ℕ → List ℕ
is_held_text j [] = []
is_held_text j (k ∷ ks) = equals_text j (held k) ++ flat_map (λ i. or_equals_text j (held i)) ks

-- further operands: the j-th lock is one that a later path asks for
abbrev pub is_later_text : ℕ → ℕ → List ℕ
is_later_text count j = upward (λ i. or_equals_text j (asked i)) (j + 1) count

-- the statement that drops the j-th lock, if it is held or a later path asks for it
abbrev pub drop_text : List ℕ → ℕ → ℕ → List ℕ
drop_text class count j =
    line (codes "if (" ++ is_held_text j class ++ is_later_text count j ++ codes ") " ++ asked j ++ codes " = NULL;")

-- the statement that notes the j-th lock as held by path k, unless it was dropped
abbrev pub keep_text : ℕ → ℕ → List ℕ
keep_text j k = line (codes "if (" ++ asked j ++ codes " != NULL) " ++ held k ++ codes " = " ++ asked j ++ codes ";")

-- ---- in which order they are acquired

-- the j-th lock and the next one, of which the one with the lesser address comes first
abbrev pub exchange_text : ℕ → List ℕ
exchange_text j = line (codes "AL_ORDER(" ++ asked j ++ codes ", " ++ asked (j + 1) ++ codes ");")

-- the exchanges that move the j-th lock to its position among those after it, which are in order
abbrev pub insert_text : ℕ → ℕ → List ℕ
insert_text count j = upward exchange_text j (count - 1)

-- the j-th lock is acquired, unless it is dropped
abbrev pub lock_text : ℕ → List ℕ
lock_text j = line (codes "if (" ++ asked j ++ codes " != NULL) AL_LOCK(" ++ asked j ++ codes ");")

-- a call of a function on the locks that the run asks for
abbrev pub call_text : List ℕ → ℕ → List ℕ → List ℕ
call_text name count more = line (name ++ codes "(m, " ++ decimal count ++ more ++ codes ");")

-- a call of the function that drops the held locks
abbrev pub drop_call_text : ℕ → ℕ → List ℕ
drop_call_text count held = call_text (codes "autolock_drop") count (codes ", h, " ++ decimal held)

-- ---- addresses of locks

-- final references that lead on from a struct
abbrev pub finals_text : Typed → Option ℕ → List ℕ → List ℕ
finals_text program s [] = []
finals_text program None (f ∷ fs) = []
finals_text program (Some s) (f ∷ fs) =
    final_text program (member s f) ++ finals_text program (final_target program s f) fs

-- the lock of a class at the end of final references from a local
abbrev pub lock_of_local : Typed → LockPath → ℕ → Local → List ℕ
lock_of_local program path k local =
    codes "&" ++ local_text k local ++ finals_text program (struct_if_reference local.value_type) path.finals
    ++ codes "->l_" ++ last_name program path.class

-- ---- all locks of a class

-- the loop over a pool's members: path k takes the address of each member's lock of the class, and the macro is called
-- with it
abbrev pub pool_loop : Typed → List ℕ → ℕ → ℕ → Pool → List ℕ
pool_loop program macro k class pool =
    codes " for (int64_t i = 0; i < " ++ decimal pool.length ++ codes "; i++) { " ++ held k
    ++ codes " = &s->p_" ++ string_bytes pool.name ++ codes "[i].l_" ++ last_name program class
    ++ codes "; " ++ macro ++ codes "(" ++ held k ++ codes "); }"

-- that loop, if the pool's members are of this struct
abbrev pub pool_loop_if : Typed → List ℕ → ℕ → ℕ → ℕ → Pool → List ℕ
pool_loop_if program macro k class structure pool =
    if pool.structure == structure then pool_loop program macro k class pool else []

-- the loops over all members of a struct, pool after pool
abbrev pub class_loops : Typed → List ℕ → ℕ → ℕ → ℕ → List ℕ
class_loops program macro k class structure = flat_map (pool_loop_if program macro k class structure) program.shape.pools.items

-- for a program, a section of it, and the section's lock paths
module _ (program : Typed) (section : Section) (paths : List LockPath) where
  -- the address of the lock of a path with this root; a whole class has none
  abbrev pub address_from : Root → LockPath → List ℕ
  address_from GlobalLock path = codes "&" ++ lock_member program path.class ++ codes ".lock"
  address_from (WholeClass s) path = []
  address_from (AtLocal k) path = text_at (lock_of_local program path k) section.locals.items k

  -- the address of the lock that a path names
  abbrev pub address_text : LockPath → List ℕ
  address_text path = address_from path.root path

  -- ---- the only lock path of its class

  -- the test that the root is not null; a null root names no lock
  abbrev pub root_test : Root → List ℕ
  root_test GlobalLock = []
  root_test (WholeClass s) = []
  root_test (AtLocal k) = codes " && " ++ variable_text section k ++ codes " != NULL"

  -- path k takes the address of its lock, and acquires it
  abbrev pub lock_one_text : ℕ → LockPath → List ℕ
  lock_one_text k path = codes " " ++ held k ++ codes " = " ++ address_text path ++ codes "; AL_LOCK(" ++ held k ++ codes ");"

  -- path k, which has this root, does so with its lock, or with each lock of its class
  abbrev pub locks_text : Root → ℕ → LockPath → List ℕ
  locks_text GlobalLock k path = lock_one_text k path
  locks_text (WholeClass s) k path = class_loops program (codes "AL_LOCK") k path.class s
  locks_text (AtLocal n) k path = lock_one_text k path

  -- path k does so, if it holds none and its root is not null
  abbrev pub alone_of : ℕ → LockPath → List ℕ
  alone_of k path =
      line (codes "if (AL_RARE(" ++ held k ++ codes " == NULL" ++ root_test path.root ++ codes ")) {"
      ++ locks_text path.root k path ++ codes " }")

  -- that text, for the path of this number
  abbrev pub alone_text : ℕ → List ℕ
  alone_text k = text_at (alone_of k) paths k

  -- ---- one of several paths of its class

  -- the address, or NULL if the root is null
  abbrev pub or_null : Root → List ℕ → List ℕ
  or_null GlobalLock address = address
  or_null (WholeClass s) address = address
  or_null (AtLocal k) address = variable_text section k ++ codes " != NULL ? " ++ address ++ codes " : NULL"

  -- the j-th path of a run asks for its lock
  abbrev pub ask_of : ℕ → LockPath → List ℕ
  ask_of j path = line (asked j ++ codes " = " ++ or_null path.root (address_text path) ++ codes ";")

  -- that text, for the path of this number
  abbrev pub ask_text : ℕ → ℕ → List ℕ
  ask_text j k = text_at (ask_of j) paths k

  -- a run among at most 8 paths of its class
  abbrev pub few_text : List ℕ → List ℕ → List ℕ
  few_text class run =
      numbered ask_text 0 run
      ++ downward (drop_text class (length run)) (length run)
      ++ numbered keep_text 0 run
      ++ downward (insert_text (length run)) (length run - 1)
      ++ upward lock_text 0 (length run)

  -- a run among more paths of its class
  abbrev pub many_text : List ℕ → List ℕ
  many_text run =
      numbered ask_text 0 run
      ++ drop_call_text (length run) (length paths)
      ++ numbered keep_text 0 run
      ++ call_text (codes "autolock_order") (length run) []
      ++ call_text (codes "autolock_lock") (length run) []

  -- ---- an acquire

  -- a run of a class that has these lock paths
  abbrev pub run_among : List ℕ → List ℕ → List ℕ
  run_among class run =
      if nat_le (length class) 1 then flat_map alone_text run
      else if nat_le (length class) 8 then few_text class run
      else many_text run

  -- a run of the class of the path with this number
  abbrev pub run_at : List ℕ → ℕ → List ℕ
  run_at run k = text_at (λ (path : LockPath). run_among (of_class path.class 0 paths) run) paths k

  -- a run, whose class is that of its first path
  abbrev pub run_text : List ℕ → List ℕ
  run_text [] = []
  run_text (j ∷ js) = run_at (j ∷ js) j

  -- paths as the program's text has them, a space before each
  abbrev pub paths_text : List ℕ → List ℕ
  paths_text list = flat_map (λ k. codes " " ++ text_at (path_text program section) paths k) list

  -- a comment with the paths that are acquired
  abbrev pub take_text : List ℕ → List ℕ
  take_text list =
      line (codes "/* take" ++ paths_text list ++ codes " */")

  -- the text of an acquire
  abbrev pub acquire_text : List ℕ → List ℕ
  acquire_text list = take_text list ++ flat_map run_text (runs paths list)
