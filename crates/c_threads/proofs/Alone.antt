-- A whole class is the only lock path of its class in a section: each path of a listed class is the class itself.
use Rattle.std.proofs.Common.{◌≡◌, ℕ, Option, Some, Bool, true, false, slice_get, refl, sym, ap, ◌∙◌, subst}
use Rattle.std.proofs.Common.{if◌then◌else◌}
use Rattle.std.specs.Option.{option_map}
use Rattle.std.proofs.lemmas.Bool.{true≢false}
use Rattle.std.proofs.lemmas.Option.{same_Some}
use Rattle.core_lang.specs.declared.tree.Section.{Section}
use Rattle.core_lang.specs.declared.typed.LockClass.{LockClass}
use Rattle.core_lang.specs.declared.typed.LockClass.TheVariants as class
use Rattle.core_lang.specs.declared.typed.Protection.{Protection}
use Rattle.core_lang.specs.declared.typed.Cell.{Cell}
use Rattle.core_lang.specs.declared.typed.Typed.{Typed}
use Rattle.core_lang.specs.declared.shape.Array.{Array}
use Rattle.core_lang.specs.Typing.{lookup}
use Rattle.core_lang.specs.WellFormed.{IsWellFormed}
use Rattle.core_lang.specs.Theory.Items.{lookup_some, map_some, contains_at}
use Rattle.locks.specs.declared.path.Root.{Root}
use Rattle.locks.specs.declared.path.Root.TheVariants.{GlobalLock, WholeClass, Local as AtLocal}
use Rattle.locks.specs.Accesses.{Target, global, element, field, accesses_at}
use Rattle.locks.specs.Locks.{protection_of}
use Rattle.locks.specs.LockPaths.{LockPath, StablePath, lock_path, lock_paths, target_path, global_path, whole_class, is_listed}
use Rattle.locks.specs.LockPaths.{class_if_global, protected_path, stable, normal_base, under, Uses}
use Rattle.locks.specs.Working.Laws.{PathsHaveClasses, UsedAreListed, EachPathOnce, IsClassFor}
use Rattle.locks.proofs.Lists.{from_filter_map}
use Rattle.c_threads.proofs.Whole.{IsWhole}

pub record AloneLaws : Type 0 where
  pub classes : PathsHaveClasses
  pub listed : UsedAreListed
  pub once : EachPathOnce

module _ (program : Typed) (section : Section) where
  -- where a path comes from
  data Origin (path : LockPath) : Type 0 where
    of_global : path.root ≡ GlobalLock → Origin path
    of_listed : (s l : ℕ) → slice_get program.classes.items path.class ≡ Some (class.Field s l) →
        is_listed section path.class ≡ true → path ≡ whole_class path.class s → Origin path
    of_other : is_listed section path.class ≡ false → (IsWhole path.root → ⊥) → Origin path

  not_whole : (k : ℕ) → IsWhole (AtLocal k) → ⊥
  not_whole k w = (let bad : AtLocal k ≡ WholeClass w.0 = w.1 in cc bad)

  by_class : (c : LockClass) (p : Protection) (base : Option StablePath) (path : LockPath) →
      slice_get program.classes.items p.class ≡ Some c → under section c p base ≡ Some path → Origin path
  by_class (class.Global name) p base path is e =
      subst Origin (same_Some (global_path p.class) path e) (of_global refl)
  by_class (class.Field s l) p base path is e = by (is_listed section p.class) refl e where
    by : (b : Bool) → is_listed section p.class ≡ b →
        (if b then Some (whole_class p.class s) else option_map (protected_path p) base) ≡ Some path → Origin path
    by true listed e = subst Origin (same_Some (whole_class p.class s) path e) (of_listed s l is listed refl)
    by false other e =
        let r = map_some (protected_path p) base path e in
        subst Origin r.2 (of_other other (not_whole r.0.root))

  by_target : (target : Target) (path : LockPath) → target_path program section target ≡ Some path → Origin path
  by_target (global cell) path e =
      let x = lookup_some (slice_get program.cells.items cell) (λ (y : Cell). option_map global_path (class_if_global program y.owner)) path e in
      let y = map_some global_path (class_if_global program x.0.owner) path x.2 in
      subst Origin y.2 (of_global refl)
  by_target (element array) path e =
      let x = lookup_some (slice_get program.shape.arrays.items array) (λ (y : Array). Some (global_path y.class)) path e in
      subst Origin (same_Some (global_path x.0.class) path x.2) (of_global refl)
  by_target (field local base s f) path e =
      let normal : Protection → Option StablePath = λ p. option_map (normal_base section p) (stable section local base) in
      let x = lookup_some (protection_of program s f) (λ (p : Protection). lookup (slice_get program.classes.items p.class) (λ (c : LockClass). under section c p (normal p))) path e in
      let y = lookup_some (slice_get program.classes.items x.0.class) (λ (c : LockClass). under section c x.0 (normal x.0)) path x.2 in
      by_class y.0 x.0 (normal x.0) path y.1 y.2

  origin : (path : LockPath) (p : ℕ) → Uses program section p path → Origin path
  origin path p (point, here, c) =
      let a = from_filter_map (lock_path program section) (accesses_at point) path c in by_target a.0.target path a.2

  module _ (laws : AloneLaws) (well : IsWellFormed program) where
    -- the listed class of a whole path
    record Listed (path : LockPath) : Type 0 where
      structure : ℕ
      lock : ℕ
      here : slice_get program.classes.items path.class ≡ Some (class.Field structure lock)
      listed : is_listed section path.class ≡ true
      is : path ≡ whole_class path.class structure

    is_whole_listed : (path : LockPath) → Origin path → IsWhole path.root → Listed path
    is_whole_listed path (of_global e) w = (let bad : GlobalLock ≡ WholeClass w.0 = sym e ∙ w.1 in absurd (cc bad))
    is_whole_listed path (of_listed s l here listed is) w =
        record { structure = s; lock = l; here = here; listed = listed; is = is }
    is_whole_listed path (of_other other none) w = absurd (none w)

    used : (k : ℕ) (path : LockPath) → slice_get (lock_paths program section) k ≡ Some path → (p : ℕ) × Uses program section p path
    used k path e = (laws.listed program section path).0 (contains_at (lock_paths program section) k path e)

    -- another path of the class is the same
    same_path : (a b : LockPath) (p : ℕ) → Uses program section p a → Origin a → a.class ≡ b.class → Listed b → a ≡ b
    same_path a b p uses (of_global e) same whole =
        let c = laws.classes program section p a well uses in
        let is : Some c.0 ≡ Some (class.Field whole.structure whole.lock) =
        sym c.1 ∙ (ap (slice_get program.classes.items) same ∙ whole.here) in
        let single : IsClassFor a.root (class.Field whole.structure whole.lock) =
        subst (IsClassFor a.root) (same_Some c.0 (class.Field whole.structure whole.lock) is) c.2 in
        absurd (subst (λ (r : Root). IsClassFor r (class.Field whole.structure whole.lock)) e single)
    same_path a b p uses (of_listed s l here listed is) same whole =
        let both : Some (class.Field s l) ≡ Some (class.Field whole.structure whole.lock) =
        sym here ∙ (ap (slice_get program.classes.items) same ∙ whole.here) in
        let structure : s ≡ whole.structure = cc both in
        is ∙ ap (λ c. whole_class c s) same ∙ ap (whole_class b.class) structure ∙ sym whole.is
    same_path a b p uses (of_other other none) same whole =
        absurd (true≢false (sym whole.listed ∙ (ap (is_listed section) (sym same) ∙ other)))

    pub whole_alone : (i k : ℕ) (a b : LockPath) → slice_get (lock_paths program section) i ≡ Some a →
        slice_get (lock_paths program section) k ≡ Some b → a.class ≡ b.class → IsWhole b.root → i ≡ k
    whole_alone i k a b ha hb same whole =
        let ua = used i a ha in
        let ub = used k b hb in
        let is = same_path a b ua.0 ua.1 (origin a ua.0 ua.1) same (is_whole_listed b (origin b ub.0 ub.1) whole) in
        laws.once program section i k b (ha ∙ ap (λ (p : LockPath). Some p) is) hb
