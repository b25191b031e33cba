-- The texts of acquires, as values of the code have them. Nobody has to believe these.
use Rattle.std.specs.Prelude.{◌≡◌, ℕ, Bool, List, ◌∷◌, ◌++◌, map, String, string_bytes}
use Rattle.std.specs.List.{flat_map}
use Rattle.core_lang.specs.declared.tree.Local.{Local}
use Rattle.locks.specs.declared.path.Root.{Root}
use Rattle.locks.specs.declared.path.LockPath as written
use Rattle.locks.specs.LockPaths.{LockPath, lock_path_of}
use Rattle.locks.specs.Texts.{path_text}
use Rattle.code.specs.Listing.{text_at}
use Rattle.c_statements.specs.declared.acquires.Acquires.{Acquires}
use Rattle.c_statements.specs.Acquires as text

-- the section's lock paths
abbrev pub paths_in : Acquires → List LockPath
paths_in x = map lock_path_of x.paths.now

abbrev pub lock_of : Acquires → written.LockPath → ℕ → Local → List ℕ
lock_of x path k local = text.lock_of_local x.scope.program.now (lock_path_of path) k local

abbrev pub address_of : Acquires → written.LockPath → List ℕ
address_of x path = text.address_text x.scope.program.now x.scope.section.now (paths_in x) (lock_path_of path)

abbrev pub tested_of : Acquires → Root → List ℕ
tested_of x root = text.root_test x.scope.program.now x.scope.section.now (paths_in x) root

abbrev pub lock_one_of : Acquires → ℕ → written.LockPath → List ℕ
lock_one_of x k path = text.lock_one_text x.scope.program.now x.scope.section.now (paths_in x) k (lock_path_of path)

abbrev pub locks_of : Acquires → ℕ → written.LockPath → List ℕ
locks_of x k path = text.locks_text x.scope.program.now x.scope.section.now (paths_in x) path.root k (lock_path_of path)

abbrev pub alone_of : Acquires → ℕ → written.LockPath → List ℕ
alone_of x k path = text.alone_of x.scope.program.now x.scope.section.now (paths_in x) k (lock_path_of path)

abbrev pub alone_at : Acquires → ℕ → List ℕ
alone_at x k = text.alone_text x.scope.program.now x.scope.section.now (paths_in x) k

abbrev pub or_null_of : Acquires → written.LockPath → List ℕ
or_null_of x path = text.or_null x.scope.program.now x.scope.section.now (paths_in x) path.root (address_of x path)

abbrev pub ask_of : Acquires → ℕ → written.LockPath → List ℕ
ask_of x j path = text.ask_of x.scope.program.now x.scope.section.now (paths_in x) j (lock_path_of path)

abbrev pub ask_at : Acquires → ℕ → ℕ → List ℕ
ask_at x j k = text.ask_text x.scope.program.now x.scope.section.now (paths_in x) j k

abbrev pub asked_of : Acquires → List ℕ → List ℕ
asked_of x run = text.numbered (ask_at x) 0 run

abbrev pub few_of : Acquires → List ℕ → List ℕ → List ℕ
few_of x class run = text.few_text x.scope.program.now x.scope.section.now (paths_in x) class run

abbrev pub many_of : Acquires → List ℕ → List ℕ
many_of x run = text.many_text x.scope.program.now x.scope.section.now (paths_in x) run

abbrev pub among_of : Acquires → List ℕ → List ℕ → List ℕ
among_of x class run = text.run_among x.scope.program.now x.scope.section.now (paths_in x) class run

abbrev pub class_of : Acquires → ℕ → List ℕ
class_of x class = text.of_class class 0 (paths_in x)

abbrev pub same_class_of : Acquires → ℕ → ℕ → Bool
same_class_of x j k = text.same_class (paths_in x) j k

abbrev pub run_of : Acquires → List ℕ → List ℕ
run_of x run = text.run_text x.scope.program.now x.scope.section.now (paths_in x) run

abbrev pub run_at : Acquires → List ℕ → ℕ → List ℕ
run_at x run k = text.run_at x.scope.program.now x.scope.section.now (paths_in x) run k

-- the text of the current run and of those after it
abbrev pub left_of : Acquires → List ℕ → List ℕ → List ℕ
left_of x run list = flat_map (run_of x) (text.runs_on (paths_in x) run list)

-- a path was added to the current run, whatever follows it
abbrev pub Goes : {Z : Type 0} → Acquires → ℕ → String Z → String Z → List ℕ → List ℕ → Type 0
Goes x k old new run longer =
    (rest : List ℕ) → string_bytes new ++ left_of x longer rest ≡ string_bytes old ++ left_of x run (k ∷ rest)

abbrev pub path_at : Acquires → ℕ → List ℕ
path_at x k = text_at (path_text x.scope.program.now x.scope.section.now) (paths_in x) k

abbrev pub paths_of : Acquires → List ℕ → List ℕ
paths_of x list = text.paths_text x.scope.program.now x.scope.section.now (paths_in x) list

abbrev pub take_of : Acquires → List ℕ → List ℕ
take_of x list = text.take_text x.scope.program.now x.scope.section.now (paths_in x) list

abbrev pub acquire_of : Acquires → List ℕ → List ℕ
acquire_of x list = text.acquire_text x.scope.program.now x.scope.section.now (paths_in x) list
