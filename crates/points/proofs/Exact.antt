-- From sets, path by path, to the sets of a section's points.
use Rattle.std.specs.Prelude.{◌≡◌, ℕ, ◌<◌, ◌≤◌, ◌==◌, Bool, false, List, [], ◌∷◌, map, slice_get, Option, Some, None}
use Rattle.std.specs.Bool.{Decides}
use Rattle.std.specs.List.{Contains}
use Rattle.std.proofs.Common.{refl, sym, ap, ◌∙◌, subst, arith, length, get_or, inl, inr}
use Rattle.std.proofs.lemmas.Bool.{eq-eqb, eqb-true, false≢true}
use Rattle.std.proofs.lemmas.List.{length-map, get_or-map}
use Rattle.std.proofs.lemmas.List.Folds.{list_any_at}
use Rattle.std.proofs.lemmas.Map.Views.{Contains-from_any}
use Rattle.std.proofs.lemmas.Option.{none-some, same_Some, slice_get-map, slice_get_within, slice_get_cases}
use Rattle.std.proofs.lemmas.Option.{get_or_from_slice_get}
use Rattle.core_lang.specs.declared.tree.Section.{Section}
use Rattle.core_lang.specs.declared.typed.Typed.{Typed}
use Rattle.flow.specs.Skeletons.{Skeleton, skeleton, count}
use Rattle.flow.specs.Points.{Point, points, scopes, bound_at, IsScopeAt}
use Rattle.flow.specs.Working.Laws.{PointsAreCounted, ScopesAreCounted}
use Rattle.flow.specs.Theory.TreeScopes.{names}
use Rattle.locks.specs.declared.path.Root.{Root}
use Rattle.locks.specs.declared.path.Root.TheVariants.{GlobalLock, WholeClass, Local as AtLocal}
use Rattle.locks.specs.declared.path.LockPath as written
use Rattle.locks.specs.declared.path_set.PathSet.{PathSet}
use Rattle.locks.specs.LockPaths.{LockPath, Uses, IsRootInScope, IsInScope, BindsRoot, lock_path_of, lock_paths}
use Rattle.locks.specs.Sets.{has, AreSets}
use Rattle.points.specs.declared.table.Points.{Points}
use Rattle.points.specs.Working.Points.{ArePoints}
use Rattle.points.specs.Used.{IsUsedBefore, IsUsedLater}
use Rattle.points.specs.Working.Dataflow.{column, marks, AreForwardMay, AreBackwardMay}
use Rattle.points.specs.Working.Scoping.{is_at, is_among, test_at, test_root, in_scope, binds_at, binds}
use Rattle.points.proofs.Sets.{marks_at, marks_past}

-- a test that is false of what does not hold
decides_not : (b : Bool) (P : Type 0) → b ≡ false → (P → ⊥) → Decides b P
decides_not b P e n = ((λ t. absurd (false≢true (sym e ∙ t))), (λ p. absurd (n p)))

-- ---- roots

named : (k : ℕ) (scope : List ℕ) → Decides (names k scope) (Contains scope k)
named k scope = (
  (λ t. Contains-from_any {eq = λ x y. y == x} (λ x y e. sym (eqb-true y x e)) k scope t),
  (λ c. list_any_at (λ j. j == k) scope c.0 k c.1 (eq-eqb (get_or scope c.0 k) k c.2)),
)

bound_root : (o : Option ℕ) (root : Root) →
    Decides (elim o [ None ↦ false | Some k ↦ is_at k root ]) ((k : ℕ) × (root ≡ AtLocal k) × (o ≡ Some k))
bound_root None root = decides_not false _ refl (λ h. none-some h.0 h.2)
bound_root (Some k) GlobalLock = decides_not false _ refl (λ h. absurd cc)
bound_root (Some k) (WholeClass s) = decides_not false _ refl (λ h. absurd cc)
bound_root (Some k) (AtLocal j) = (
  (λ t. (k, ap AtLocal (sym (eqb-true k j t)), refl)),
  (λ h. let a : j ≡ h.0 = cc in let b : k ≡ h.0 = cc in eq-eqb k j (b ∙ sym a)),
)

module _ (program : Typed) (section : Section) (counted : PointsAreCounted) where
  -- sets whose tests decide a relation
  pub sets_by : (R : ℕ → LockPath → Type 0) (sets : List PathSet) → length sets ≡ length (points section) →
      ((p i : ℕ) (path : LockPath) → p < length (points section) → slice_get (lock_paths program section) i ≡ Some path → Decides (marks i sets p) (R p path)) →
      AreSets program section R sets
  sets_by R sets len tell = (
    len,
    λ p i set path at is. subst (λ b. Decides b (R p path)) (marks_at i sets p set at) (tell p i path (omega (arith, slice_get_within sets p set at, len)) is),
  )

  -- and back: at any number, where the relation holds of points alone
  pub tell_all : (R : ℕ → LockPath → Type 0) (sets : List PathSet) → AreSets program section R sets →
      (i : ℕ) (path : LockPath) →
      slice_get (lock_paths program section) i ≡ Some path → ((q : ℕ) → R q path → q < length (points section)) → (q : ℕ) → Decides (marks i sets q) (R q path)
  tell_all R sets are i path is within q =
      elim ((slice_get_cases sets q).1) [
        | inl h ↦ subst (λ b. Decides b (R q path)) (sym (marks_at i sets q h.0 h.2)) (are.1 q i h.0 path h.2 is)
        | inr h ↦ decides_not (marks i sets q) (R q path) (marks_past i sets q h.0) (λ x. absurd (omega (arith, h.0, are.0, within q x)))
      ]

  -- ---- what is used

  module _ (gens : List PathSet) (used : AreSets program section (Uses program section) gens) where
    uses_tell : (i : ℕ) (path : LockPath) → slice_get (lock_paths program section) i ≡ Some path → (q : ℕ) →
        Decides (marks i gens q) (Uses program section q path)
    uses_tell i path is q = tell_all (Uses program section) gens used i path is (λ q x. slice_get_within (points section) q x.0 x.1) q

    pub before_sets : (c : Skeleton) (sets : List PathSet) → c ≡ skeleton section → length sets ≡ count c →
        AreForwardMay gens c sets →
        AreSets program section (IsUsedBefore program section) sets
    before_sets c sets same len exact =
        sets_by (IsUsedBefore program section) sets (len ∙ ap count same ∙ counted section)
        (λ p i path lt is.
        let tell = uses_tell i path is in
        let d = subst (λ s. AreForwardMay gens s sets) same exact i p (omega (arith, lt, counted section)) in
        ((λ t. let h = d.0 t in (h.0, h.1, (tell h.0).0 h.2)), (λ h. d.1 (h.0, h.1, (tell h.0).1 h.2))))

    pub later_sets : (c : Skeleton) (sets : List PathSet) → c ≡ skeleton section → length sets ≡ count c →
        AreBackwardMay gens c sets →
        AreSets program section (IsUsedLater program section) sets
    later_sets c sets same len exact =
        sets_by (IsUsedLater program section) sets (len ∙ ap count same ∙ counted section)
        (λ p i path lt is.
        let tell = uses_tell i path is in
        let d = subst (λ s. AreBackwardMay gens s sets) same exact i p (omega (arith, lt, counted section)) in
        ((λ t. let h = d.0 t in (h.0, h.1, (tell h.0).0 h.2)), (λ h. d.1 (h.0, h.1, (tell h.0).1 h.2))))

  -- ---- what is bound, and what is in scope

  module _ (r : List written.LockPath) (same : map lock_path_of r ≡ lock_paths program section) where
    root_of : (test : Root → Bool) (i : ℕ) (path : LockPath) → slice_get (lock_paths program section) i ≡ Some path →
        test_root r test i ≡ test path.root
    root_of test i path is =
        elim ((slice_get_cases r i).1) [
          | inl h ↦
              let viewed : slice_get (map lock_path_of r) i ≡ Some (lock_path_of h.0) = slice_get-map lock_path_of r i ∙ ap (λ o. elim o [ None ↦ None | Some x ↦ Some (lock_path_of x) ]) h.2 in
              let path_is : lock_path_of h.0 ≡ path = same_Some (lock_path_of h.0) path (sym viewed ∙ ap (λ l. slice_get l i) same ∙ is) in
              ap (test_at test) h.2 ∙ ap (λ (x : LockPath). test x.root) path_is
          | inr h ↦
              let short : length (lock_paths program section) ≤ i = omega (arith, h.0, sym (ap length same), length-map r lock_path_of) in
              absurd (omega (arith, short, slice_get_within (lock_paths program section) i path is))
        ]

    -- the column of a list of tests
    column_at : {A : Type 0} (f : A → Bool) (xs : List A) (i : ℕ) (sets : List PathSet) (p : ℕ) (x : A) →
        column i sets ≡ map f xs → slice_get xs p ≡ Some x → marks i sets p ≡ f x
    column_at f xs i sets p x e at =
        ap (λ l. get_or l p false) e ∙ get_or-map f xs p x false (slice_get_within xs p x at) ∙ ap f (get_or_from_slice_get xs p x x at)

    column_length : {A : Type 0} (f : A → Bool) (xs : List A) (sets : List PathSet) → column 0 sets ≡ map f xs →
        length sets ≡ length xs
    column_length f xs sets e = sym (length-map sets (λ (s : PathSet). has s 0)) ∙ ap length e ∙ length-map xs f

    binds_tells : (i : ℕ) (path : LockPath) → slice_get (lock_paths program section) i ≡ Some path →
        (p : ℕ) (point : Point) → slice_get (points section) p ≡ Some point →
        Decides (binds r i point) (BindsRoot section p path)
    binds_tells i path is p point at =
        let d = bound_root (bound_at point) path.root in
        let b = by_bound (bound_at point) in (
          (λ t. let h = d.0 (sym b ∙ t) in (h.0, h.1, (point, at, h.2))),
          (λ h. b ∙ d.1 (h.0, h.1, ap bound_at (same_Some point h.2.0 (sym at ∙ h.2.1)) ∙ h.2.2)),
        )
      where
        by_bound : (o : Option ℕ) → binds_at r i o ≡ elim o [ None ↦ false | Some k ↦ is_at k path.root ]
        by_bound None = refl
        by_bound (Some k) = root_of (is_at k) i path is

    pub bound_sets : (sets : List PathSet) (ps : List Point) → ps ≡ points section →
        ((i : ℕ) → column i sets ≡ map (binds r i) ps) → AreSets program section (BindsRoot section) sets
    bound_sets sets ps listed columns =
        let all = λ (i : ℕ). columns i ∙ ap (map (binds r i)) listed in
        sets_by (BindsRoot section) sets (column_length (binds r 0) (points section) sets (all 0))
        (λ p i path lt is.
        elim ((slice_get_cases (points section) p).1) [
          | inl h ↦ subst (λ b. Decides b (BindsRoot section p path)) (sym (column_at (binds r i) (points section) i sets p h.0 (all i) h.2)) (binds_tells i path is p h.0 h.2)
          | inr h ↦ absurd (omega (arith, lt, h.0))
        ])

    among_tells : (root : Root) (p : ℕ) (scope : List ℕ) → IsScopeAt section p scope →
        Decides (is_among scope root) (IsRootInScope section p root)
    among_tells GlobalLock p scope at = ((λ t. tt), (λ h. refl))
    among_tells (WholeClass s) p scope at = ((λ t. tt), (λ h. refl))
    among_tells (AtLocal k) p scope at =
        let d = named k scope in
        ((λ t. (scope, at, d.0 t)), (λ h. d.1 (subst (λ s. Contains s k) (same_Some h.0 scope (sym h.1 ∙ at)) h.2)))

    pub scope_sets : (sets : List PathSet) → ScopesAreCounted →
        ((i : ℕ) → column i sets ≡ map (in_scope r i) (scopes section)) →
        AreSets program section (IsInScope section) sets
    scope_sets sets each columns =
        sets_by (IsInScope section) sets (column_length (in_scope r 0) (scopes section) sets (columns 0) ∙ each section)
        (λ p i path lt is.
        elim ((slice_get_cases (scopes section) p).1) [
          | inl h ↦
              let here = column_at (in_scope r i) (scopes section) i sets p h.0 (columns i) h.2 ∙ root_of (is_among h.0) i path is in
              subst (λ b. Decides b (IsInScope section p path)) (sym here) (among_tells path.root p h.0 h.2)
          | inr h ↦ absurd (omega (arith, lt, h.0, each section))
        ])

-- ---- the whole

pub classes_are : (ws : List written.LockPath) →
    map (λ (w : written.LockPath). w.class) ws ≡ map (λ (path : LockPath). path.class) (map lock_path_of ws)
classes_are [] = refl
classes_are (w ∷ ws) = ap (λ l. w.class ∷ l) (classes_are ws)

pub points_of_same : (program : Typed) (section s : Section) (x : Points) → section ≡ s →
    ArePoints program section x → ArePoints program s x
points_of_same program section s x e h = subst (λ (t : Section). ArePoints program t x) e h
