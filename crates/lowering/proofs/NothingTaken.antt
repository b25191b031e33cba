-- A section without accesses acquires nothing.
use Rattle.std.specs.Prelude.{◌≡◌, ℕ, zero, suc, List, [], ◌∷◌, ◌++◌, slice_get, Some, None}
use Rattle.std.proofs.Common.{refl, sym, ap, ◌∙◌, subst}
use Rattle.std.specs.List.{Contains, flat_map}
use Rattle.core_lang.specs.declared.tree.Section.{Section}
use Rattle.core_lang.specs.declared.typed.Typed.{Typed}
use Rattle.flow.specs.Points.{points}
use Rattle.locks.specs.Accesses.{accesses, accesses_at}
use Rattle.locks.specs.LockPaths.{LockPath, Uses, paths_of}
use Rattle.inserter.specs.Placement.{IsDue}
use Rattle.lowering.specs.Plans.{Plan, IsCompiled}
use Rattle.lowering.specs.Working.PlanLaws.{HasLists, NothingIsTaken}
use Rattle.core_lang.specs.Theory.Items.{in_first, not_in_none, some_same}

-- ---- lists

none_is_some : {P : Type 0} {A : Type 0} (a : A) → None ≡ Some a → P
none_is_some a e = absurd (let f : ⊥ = cc in f)

left_none : {X : Type 0} (xs ys : List X) → xs ++ ys ≡ [] → xs ≡ []
left_none [] ys e = refl
left_none (x ∷ xs) ys e = absurd (let f : ⊥ = cc in f)

right_none : {X : Type 0} (xs ys : List X) → xs ++ ys ≡ [] → ys ≡ []
right_none [] ys e = e
right_none (x ∷ xs) ys e = absurd (let f : ⊥ = cc in f)

-- if the joined list is empty, that of each item is
nothing_of_each : {X Y : Type 0} (f : X → List Y) (xs : List X) (k : ℕ) (x : X) → flat_map f xs ≡ [] →
    slice_get xs k ≡ Some x →
    f x ≡ []
nothing_of_each f [] k x e is = none_is_some x is
nothing_of_each f (y ∷ ys) zero x e is = ap f (sym (some_same y x is)) ∙ left_none (f y) (flat_map f ys) e
nothing_of_each f (y ∷ ys) (suc k) x e is = nothing_of_each f ys k x (right_none (f y) (flat_map f ys) e) is

-- ---- lists before points

-- a point of a section without accesses has none, and so uses no lock path
uses_nothing : (program : Typed) (section : Section) (p : ℕ) (path : LockPath) → accesses section ≡ [] →
    Uses program section p path → ⊥
uses_nothing program section p path e (point, here, c) =
    let none = nothing_of_each accesses_at (points section) p point e here in
    not_in_none path (subst (λ xs. Contains (paths_of program section xs) path) none c)

due_is_used : (program : Typed) (section : Section) (ranks : List ℕ) (p : ℕ) (path : LockPath) →
    IsDue program section ranks p path →
    (other : LockPath) × Uses program section p other
due_is_used program section ranks p path due = let below = due.wanted.below in (below.0, below.1)

none_taken : (plan : Plan) (k p : ℕ) (section : Section) (lists : List (List ℕ)) → IsCompiled plan →
    HasLists plan k section lists →
    accesses section ≡ [] → (list : List ℕ) → slice_get lists p ≡ Some list → list ≡ []
none_taken plan k p section lists compiled has e [] is = refl
none_taken plan k p section lists compiled has e (i ∷ rest) is =
    let listed = (compiled.placed.each k section lists has.here has.lists_are).each p (i ∷ rest) is in
    let due = (listed.only i (in_first i rest)).2 in
    let used = due_is_used plan.program section plan.ranks p _ due in
    absurd (uses_nothing plan.program section p used.0 e used.1)

pub nothing_is_taken : NothingIsTaken
nothing_is_taken plan k p section lists list compiled has e is = none_taken plan k p section lists compiled has e list is
