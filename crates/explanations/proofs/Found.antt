-- A path that a point uses, or whose root a point binds, is a path of the section.
use Rattle.std.proofs.Common.{◌≡◌, ◌∙◌, ◌<◌, ◌≤◌, ℕ, true, List, length, Option, Some, None, refl, sym, ap, subst, map}
use Rattle.std.proofs.Common.{get_or, arith, eqb-true, eq-eqb}
use Rattle.std.specs.Prelude.{◌==◌, slice_get}
use Rattle.std.specs.Option.{option_map}
use Rattle.std.specs.Bool.{Decides}
use Rattle.std.proofs.lemmas.List.{length-map}
use Rattle.std.proofs.lemmas.Option.{same_Some, slice_get_within, slice_get_read, slice_get-map, slice_get-get_or}
use Rattle.std.proofs.lemmas.Option.{get_or_from_slice_get}
use Rattle.core_lang.specs.declared.tree.Section.{Section}
use Rattle.core_lang.specs.declared.typed.Typed.{Typed}
use Rattle.core_lang.specs.Theory.Items.{map_some}
use Rattle.flow.specs.declared.points.PointRef.{PointRef}
use Rattle.flow.specs.Working.PointList.{point_at}
use Rattle.flow.specs.Points.{Point, points, bound_at}
use Rattle.locks.specs.declared.path.LockPath as written
use Rattle.locks.specs.declared.path.Root.{Root}
use Rattle.locks.specs.declared.path.Root.TheVariants.{GlobalLock, WholeClass, Local as AtLocal}
use Rattle.locks.specs.declared.path_set.PathSet.{PathSet}
use Rattle.locks.specs.LockPaths.{LockPath, Uses, BindsRoot, lock_path_of, lock_paths}
use Rattle.locks.specs.Working.Laws.{UsedAreListed}
use Rattle.locks.specs.Sets.{has}
use Rattle.lockorder.specs.Edges.{UsesClass, BindsClass}
use Rattle.lockpaths.specs.declared.table.SectionPaths.{SectionPaths}
use Rattle.lockpaths.specs.Paths.{AreSectionPaths}
use Rattle.explanations.specs.Working.Tellers.{HasClass, BeginsAt, IsBoundPath, begins}

begins_bound : (root : Root) (o : Option ℕ) → begins root o ≡ true → (k : ℕ) × (root ≡ AtLocal k) × (o ≡ Some k)
begins_bound GlobalLock o e = absurd cc
begins_bound (WholeClass s) o e = absurd cc
begins_bound (AtLocal k) None e = absurd cc
begins_bound (AtLocal k) (Some local) e = (k, refl, ap Some (sym (eqb-true k local e)))

bound_begins : (root : Root) (o : Option ℕ) (k : ℕ) → root ≡ AtLocal k → o ≡ Some k → begins root o ≡ true
bound_begins root o k r e = rw (r, e) (eq-eqb k k refl)

module _ (program : Typed) (section : Section) (x : SectionPaths) (are : AreSectionPaths program section x) where
  abbrev paths : List LockPath
  paths = lock_paths program section

  pub listed_at : (i : ℕ) (w : written.LockPath) → slice_get x.paths.items i ≡ Some w →
      slice_get paths i ≡ Some (lock_path_of w)
  listed_at i w e =
      ap (λ l. slice_get l i) (sym are.paths) ∙ slice_get-map lock_path_of x.paths.items i ∙ ap (option_map lock_path_of) e

  pub written_at : (i : ℕ) (path : LockPath) → slice_get paths i ≡ Some path →
      (w : written.LockPath) × (slice_get x.paths.items i ≡ Some w) × (lock_path_of w ≡ path)
  written_at i path e =
      map_some lock_path_of (slice_get x.paths.items i) path
      (sym (slice_get-map lock_path_of x.paths.items i) ∙ ap (λ l. slice_get l i) are.paths ∙ e)

  pub listed_within : (i : ℕ) (path : LockPath) → slice_get paths i ≡ Some path → i < length x.paths.items
  listed_within i path e = let w = written_at i path e in slice_get_within x.paths.items i w.0 w.1

  module _ (listed : UsedAreListed) where
    pub number_of : (p : ℕ) (path : LockPath) → Uses program section p path → (i : ℕ) × (slice_get paths i ≡ Some path)
    number_of p path u =
        let c = (listed program section path).1 (p, u) in
        (c.0, slice_get-get_or paths c.0 path c.1 ∙ ap Some c.2)

    pub used_within : (p : ℕ) (path : LockPath) → Uses program section p path → p < length x.used.items
    used_within p path u = rw are.used.0 (slice_get_within (points section) p u.0 u.1)

  -- ---- single paths

  module _ (i class : ℕ) (w : written.LockPath) (there : slice_get x.paths.items i ≡ Some w) where
    pub same_path : (path : LockPath) → slice_get paths i ≡ Some path → path ≡ lock_path_of w
    same_path path e = same_Some path (lock_path_of w) (sym e ∙ listed_at i w there)

    pub class_decides : Decides (w.class == class) (HasClass program section class i)
    class_decides = (
      λ e. record { path = lock_path_of w; listed = listed_at i w there; of_class = eqb-true w.class class e },
      λ h. eq-eqb w.class class (ap (λ (p : LockPath). p.class) (sym (same_path h.path h.listed)) ∙ h.of_class),
    )

    pub root_decides : (local : Option ℕ) → w.class ≡ class →
        Decides (begins w.root local) (BeginsAt program section local class i)
    root_decides local same = (
      λ e. record { path = lock_path_of w; listed = listed_at i w there; begins = e; of_class = same },
      λ h. subst (λ (p : LockPath). begins p.root local ≡ true) (same_path h.path h.listed) h.begins,
    )

    pub other_class : (local : Option ℕ) → (w.class ≡ class → ⊥) → BeginsAt program section local class i → ⊥
    other_class local other h = other (ap (λ (p : LockPath). p.class) (sym (same_path h.path h.listed)) ∙ h.of_class)

  -- a path of the class that the set of a point has is used there
  pub used_at : (p class i : ℕ) (set : PathSet) → slice_get x.used.items p ≡ Some set →
      HasClass program section class i →
      has set i ≡ true → UsesClass program section p class
  used_at p class i set there h e = (h.path, (are.used.1 p i set h.path there h.listed).0 e, h.of_class)

  pub binds_its_root : (p class i : ℕ) (point : Point) → slice_get (points section) p ≡ Some point →
      BeginsAt program section (bound_at point) class i → IsBoundPath program section p class i
  binds_its_root p class i point at h =
      let b = begins_bound h.path.root (bound_at point) h.begins in
      record { path = h.path; listed = h.listed; binds = (b.0, b.1, (point, at, b.2)); of_class = h.of_class }

  pub begins_at_bound : (p class : ℕ) (point : Point) (i : ℕ) (path : LockPath) →
      slice_get (points section) p ≡ Some point →
      slice_get paths i ≡ Some path → BindsRoot section p path → path.class ≡ class → BeginsAt program section (bound_at point) class i
  begins_at_bound p class point i path at e b of_class =
      let same = same_Some b.2.0 point (sym b.2.1 ∙ at) in
      record {
        path = path;
        listed = e;
        begins = bound_begins path.root (bound_at point) b.0 b.1 (ap bound_at (sym same) ∙ b.2.2);
        of_class = of_class;
      }

  module _ (listed : UsedAreListed) where
    pub used_found : (p class : ℕ) → UsesClass program section p class → (set : PathSet) →
        slice_get x.used.items p ≡ Some set → (n : ℕ) →
        length x.paths.items ≤ n → ((k : ℕ) → k < n → HasClass program section class k → has set k ≡ true → ⊥) → ⊥
    used_found p class (path, uses, of_class) set there n many none =
        let i = number_of listed p path uses in
        let within : i.0 < n = omega (arith, listed_within i.0 path i.1) in
        none i.0 within (record { path = path; listed = i.1; of_class = of_class }) ((are.used.1 p i.0 set path there i.1).1 uses)

    pub bound_found : (p class : ℕ) → BindsClass program section p class → (point : Point) →
        slice_get (points section) p ≡ Some point →
        (n : ℕ) → length x.paths.items ≤ n → ((k : ℕ) → k < n → BeginsAt program section (bound_at point) class k → ⊥) → ⊥
    bound_found p class (path, user, uses, binds, of_class) point at n many none =
        let i = number_of listed user path uses in
        let within : i.0 < n = omega (arith, listed_within i.0 path i.1) in
        none i.0 within (begins_at_bound p class point i.0 path at i.1 binds of_class)

    pub used_somewhere : (i : ℕ) (path : LockPath) → slice_get paths i ≡ Some path →
        (p : ℕ) × Uses program section p path
    used_somewhere i path e =
        (listed program section path).0 (i, slice_get_within paths i path e, get_or_from_slice_get paths i path path e)

-- a point in the list of the section's points
pub point_there : (section : Section) (ps : List PointRef) (p : ℕ) (q : PointRef) → map point_at ps ≡ points section →
    p < length (points section) → q ≡ get_or ps p q → slice_get (points section) p ≡ Some (point_at q)
point_there section ps p q same lt is =
    let few : p < length ps = omega (arith, lt, ap length same, length-map ps point_at) in
    ap (λ l. slice_get l p) (sym same) ∙ slice_get-map point_at ps p
    ∙ ap (option_map point_at) (slice_get_read ps (length ps) p q refl few is)

-- a point that binds is one of the section's
pub bound_within : (program : Typed) (section : Section) (p class : ℕ) → BindsClass program section p class →
    p < length (points section)
bound_within program section p class (path, user, uses, binds, of_class) = slice_get_within (points section) p binds.2.0 binds.2.1
