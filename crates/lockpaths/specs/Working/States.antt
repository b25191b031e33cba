-- States of a walk along a stable path, and the normal forms that are read from them. Nobody has to believe these.
use Rattle.std.specs.Prelude.{◌≡◌, ℕ, ◌+◌, ◌<◌, ◌==◌, Bool, false, List, [], ◌∷◌, ◌++◌, map, length, take, get_or}
use Rattle.std.specs.Prelude.{slice_get, Option, Some, None, ⊤}
use Rattle.std.specs.Option.{option_map}
use Rattle.core_lang.specs.declared.tree.FieldStep.{FieldStep}
use Rattle.core_lang.specs.declared.tree.Section.{Section}
use Rattle.locks.specs.LockPaths.{StablePath, stable}
use Rattle.lockpaths.specs.declared.form.Form.{Form}
use Rattle.lockpaths.specs.declared.form.OwnerBranch.{OwnerBranch}
use Rattle.lockpaths.specs.declared.form.WalkState.{WalkState}
use Rattle.lockpaths.specs.declared.form.WalkState.TheVariants.{Node, Where}
use Rattle.lockpaths.specs.declared.form.Branch.{Branch}
use Rattle.lockpaths.specs.declared.forms.Bound.{Bound}
use Rattle.lockpaths.specs.Working.Forms.{Replacement, stable_path_of, replacement_of, all_replaced_by, form_by}
use Rattle.lockpaths.specs.Working.Nodes.{local_path, nowhere, onto, IsGrown, IsNodeOf}

-- the replacements of the locals that are bound so far, how walks from them go on, and the numbered paths
pub record Known : Type 0 where
  pub table : List Replacement
  pub branches : List (Option Branch)
  pub paths : List StablePath

abbrev pub known : List Bound → List StablePath → Known
known bounds paths = record { table = map replacement_of bounds; branches = map (λ (b : Bound). b.branch) bounds; paths = paths }

abbrev pub nothing_bound : Replacement
nothing_bound = record { local = 0; owner = None; value = None }

-- the normal form to which final references lead from a state; from a binding, only the replacements up to it are made
abbrev pub reads : Known → WalkState → List ℕ → StablePath
reads f (Node n) ns = onto (get_or f.paths n nowhere) ns
reads f (Where k) ns = all_replaced_by (take (k + 1) f.table) (record { root = (get_or f.table k nothing_bound).local; finals = ns })

abbrev pub IsState : Known → WalkState → Type 0
IsState f (Node n) = n < length f.paths
IsState f (Where k) = (t : Branch) × (slice_get f.branches k ≡ Some (Some t))

abbrev pub IsBefore : ℕ → WalkState → Type 0
IsBefore k (Node n) = ⊤
IsBefore k (Where j) = j < k

-- the list begins with this number
abbrev pub begins : ℕ → List ℕ → Bool
begins n [] = false
begins n (m ∷ ms) = n == m

-- the two ways in which a walk goes on from a binding: by the final reference of its `where`, and by any other
pub record IsBranch (f : Known) (k : ℕ) (t : Branch) : Type 0 where
  pub past : IsState f t.past
  pub other : IsState f t.other
  pub earlier : IsBefore k t.other
  pub node : IsNodeOf f.paths (reads f (Where k) []) t.node
  pub leads : (ns : List ℕ) → reads f t.past ns ≡ reads f (Where k) (t.number ∷ ns)
  pub stays : (ns : List ℕ) → begins t.number ns ≡ false → reads f t.other ns ≡ reads f (Where k) ns

-- a state belongs to a path: read with further final references, it is the normal form of the path followed by these
pub record IsReadAs (f : Known) (s : WalkState) (path : StablePath) : Type 0 where
  pub is : IsState f s
  pub same : (ns : List ℕ) → reads f s ns ≡ all_replaced_by f.table (onto path ns)

-- a local has this state if it is bound, and otherwise is its own normal form
abbrev pub IsOfLocal : Known → ℕ → Option WalkState → Type 0
IsOfLocal f local None = (ns : List ℕ) → onto (local_path local) ns ≡ all_replaced_by f.table (onto (local_path local) ns)
IsOfLocal f local (Some s) = IsReadAs f s (local_path local)

pub record AreForms (f : Known) (states : ℕ → Option WalkState) : Type 0 where
  pub even : length f.branches ≡ length f.table
  pub branches : (k : ℕ) (t : Branch) → slice_get f.branches k ≡ Some (Some t) → IsBranch f k t
  pub locals : (local : ℕ) → IsOfLocal f local (states local)

-- no further local was bound, and the numbered paths only grew
pub record IsKept (old new : Known) : Type 0 where
  pub table : new.table ≡ old.table
  pub branches : new.branches ≡ old.branches
  pub paths : IsGrown old.paths new.paths

-- final references lead from one state to another
pub record IsReached (old : Known) (s : WalkState) (ms : List ℕ) (new : Known) (t : WalkState) : Type 0 where
  pub is : IsState new t
  pub same : (ns : List ℕ) → reads new t ns ≡ reads old s (ms ++ ns)

-- the stable path that a local is bound to, or the local itself
abbrev pub or_local : ℕ → Option Form → StablePath
or_local local None = local_path local
or_local local (Some form) = stable_path_of form

-- how a walk goes on by a `where`, if there is one; by any other final reference it goes on from this state
abbrev pub IsBranchOf : Known → Option OwnerBranch → WalkState → Option Branch → Type 0
IsBranchOf f None other branch = branch ≡ None
IsBranchOf f (Some owner) other branch =
    (t : Branch) × (branch ≡ Some t) × (t.number ≡ owner.number) × (t.other ≡ other) × IsNodeOf f.paths (reads f other []) t.node × IsReadAs f t.past (local_path owner.local)

-- the state of the next binding: that of its branch, if it has one, else the given state
abbrev pub IsStateOf : Known → WalkState → WalkState → Option Branch → Type 0
IsStateOf f other state None = state ≡ other
IsStateOf f other state (Some t) = state ≡ Where (length f.table)

abbrev pub IsBoundIn : Known → Bound → WalkState → Type 0
IsBoundIn f b state = (other : WalkState) × IsReadAs f other (or_local b.local b.value) × IsBranchOf f b.owner other b.branch × IsStateOf f other state b.branch

-- the normal form of a local followed by fields and final references has this number, if it is a stable path
abbrev pub IsFormOf : Section → Known → ℕ → List FieldStep → List ℕ → Option ℕ → Type 0
IsFormOf section f local fields through node =
    option_map (slice_get f.paths) node ≡ option_map (λ base. Some (form_by f.table through base)) (stable section local fields)
