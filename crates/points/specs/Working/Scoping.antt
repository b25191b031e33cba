-- The scopes of the roots of lock paths, as the code visits statements. Nobody has to believe these: `locks` defines
-- when a path is in scope and where its root is bound.
use Rattle.std.specs.Prelude.{◌≡◌, ℕ, ◌==◌, Bool, true, false, List, ◌++◌, map, slice_get, Option, Some, None}
use Rattle.std.proofs.Common.{Vec, Global}
use Rattle.core_lang.specs.declared.tree.Action.{Action}
use Rattle.core_lang.specs.declared.tree.Stmt.{Stmt}
use Rattle.core_lang.specs.Scopes.{scope_after, scope_after_all}
use Rattle.flow.specs.Points.{Point, bound_at, inner_scopes, scopes_of_all}
use Rattle.flow.specs.Theory.TreeScopes.{names}
use Rattle.locks.specs.declared.path.Root.{Root}
use Rattle.locks.specs.declared.path.Root.TheVariants.{GlobalLock, WholeClass, Local as AtLocal}
use Rattle.locks.specs.declared.path.LockPath as written
use Rattle.locks.specs.declared.path_set.PathSet.{PathSet}
use Rattle.locks.specs.Sets.{has}
use Rattle.points.specs.Working.Dataflow.{column}

abbrev pub is_at : ℕ → Root → Bool
is_at k GlobalLock = false
is_at k (WholeClass s) = false
is_at k (AtLocal j) = k == j

abbrev pub is_among : List ℕ → Root → Bool
is_among scope GlobalLock = true
is_among scope (WholeClass s) = true
is_among scope (AtLocal k) = names k scope

-- the result of a test of a path's root; false without a path
abbrev pub test_at : (Root → Bool) → Option written.LockPath → Bool
test_at test None = false
test_at test (Some path) = test path.root

abbrev pub test_root : List written.LockPath → (Root → Bool) → ℕ → Bool
test_root paths test i = test_at test (slice_get paths i)

-- the set of the paths whose root passes a test
abbrev pub AreThose : List written.LockPath → (Root → Bool) → PathSet → Type 0
AreThose paths test set = (i : ℕ) → has set i ≡ test_root paths test i

-- whether path i is in scope if these locals are
abbrev pub in_scope : List written.LockPath → ℕ → List ℕ → Bool
in_scope paths i scope = test_root paths (is_among scope) i

-- whether a point binds the root of path i
abbrev pub binds_at : List written.LockPath → ℕ → Option ℕ → Bool
binds_at paths i None = false
binds_at paths i (Some k) = test_root paths (is_at k) i

abbrev pub binds : List written.LockPath → ℕ → Point → Bool
binds paths i point = binds_at paths i (bound_at point)

-- the set is that of the scope after statements, if the other is that of the scope before
abbrev pub IsAfter : List written.LockPath → PathSet → (List ℕ → List ℕ) → PathSet → Type 0
IsAfter paths scope after set = (locals : List ℕ) → AreThose paths (is_among locals) scope → AreThose paths (is_among (after locals)) set

-- the sets of the scopes of points were appended, of which this set is that of the first
abbrev pub AreScopes : List written.LockPath → PathSet → (List ℕ → List (List ℕ)) → Vec PathSet Global →
    Vec PathSet Global → Type 0
AreScopes paths scope scopes was sets =
    (locals : List ℕ) → AreThose paths (is_among locals) scope → (i : ℕ) →
    column i sets.items ≡ column i was.items ++ map (in_scope paths i) (scopes locals)

abbrev pub of_block : List Stmt → List ℕ → List (List ℕ)
of_block ss locals = scopes_of_all locals ss

abbrev pub of_inner : Action → List ℕ → List (List ℕ)
of_inner action locals = inner_scopes locals action

abbrev pub behind_block : List Stmt → List ℕ → List ℕ
behind_block ss locals = scope_after_all locals ss

abbrev pub behind_action : Action → List ℕ → List ℕ
behind_action action locals = scope_after locals action
