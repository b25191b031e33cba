-- A path that a point uses is in scope there.
use Rattle.std.proofs.Common.{◌≡◌, ℕ, Bool, true, false, if◌then◌else◌, List, Some, ◌⊎◌, Option, inl, inr, refl, sym, ap}
use Rattle.std.proofs.Common.{◌∙◌, subst}
use Rattle.std.specs.Prelude.{slice_get}
use Rattle.std.specs.Option.{option_map}
use Rattle.std.specs.List.{Contains}
use Rattle.core_lang.specs.declared.tree.FieldStep.{FieldStep}
use Rattle.core_lang.specs.declared.tree.Section.{Section}
use Rattle.core_lang.specs.declared.typed.LockClass.{LockClass}
use Rattle.core_lang.specs.declared.typed.LockClass.TheVariants as class
use Rattle.core_lang.specs.declared.typed.Protection.{Protection}
use Rattle.core_lang.specs.declared.typed.Cell.{Cell}
use Rattle.core_lang.specs.declared.typed.Typed.{Typed}
use Rattle.core_lang.specs.Typing.{lookup}
use Rattle.core_lang.specs.WellFormed.{IsGlobalLock}
use Rattle.core_lang.specs.Scopes.{NamesOnly, IsWellScoped}
use Rattle.flow.specs.Points.{Binds, IsScopeAt}
use Rattle.flow.specs.Working.Laws.{ScopeGoesBack}
use Rattle.flow.specs.Skeletons.{skeleton}
use Rattle.flow.specs.Flow.{Follows}
use Rattle.core_lang.specs.declared.shape.Array.{Array}
use Rattle.locks.specs.declared.path.Root.{Root}
use Rattle.locks.specs.declared.path.Root.TheVariants.{GlobalLock, WholeClass, Local as AtLocal}
use Rattle.locks.specs.Accesses.{Target, global, element, field, accesses_at}
use Rattle.locks.specs.Locks.{protection_of}
use Rattle.locks.specs.LockPaths.{LockPath, StablePath, Binding, stable, normal_base, extended, bindings, under}
use Rattle.locks.specs.LockPaths.{global_path, whole_class, is_listed, protected_path, class_if_global, target_path}
use Rattle.locks.specs.LockPaths.{lock_path, IsRootInScope}
use Rattle.locks.specs.Working.Laws.{UsedAreInScope, ScopeOfPathsGoesBack}
use Rattle.locks.proofs.Lists.{each_at, from_filter_map}
use Rattle.locks.proofs.Scoped.{sound_point}
use Rattle.locks.proofs.Named.{IsTargetNamed, IsNamed, accesses_named}
use Rattle.locks.proofs.Normal.{stable_parts, IsFixed, IsRoot, all_roots}
use Rattle.core_lang.specs.Theory.Items.{lookup_some, map_some}

-- ---- where a path comes from

-- the path of a field: the global lock of its protection, its whole class, or its protection after the normal form of
-- its base
pub data IsFieldPath (program : Typed) (section : Section) (local : ℕ) (base : List FieldStep) (p : Protection) (path : LockPath) : Type 0 where
  of_global : (c : LockClass) → slice_get program.classes.items p.class ≡ Some c → IsGlobalLock c →
      path ≡ global_path p.class →
      IsFieldPath program section local base p path
  of_whole : (s l : ℕ) → slice_get program.classes.items p.class ≡ Some (class.Field s l) →
      is_listed section p.class ≡ true →
      path ≡ whole_class p.class s → IsFieldPath program section local base p path
  of_object : (s l : ℕ) (q : StablePath) → slice_get program.classes.items p.class ≡ Some (class.Field s l) →
      stable section local base ≡ Some q →
      path ≡ protected_path p (normal_base section p q) → IsFieldPath program section local base p path

module _ (program : Typed) (section : Section) where
  by_class : (local : ℕ) (base : List FieldStep) (p : Protection) (path : LockPath) (c : LockClass) →
      slice_get program.classes.items p.class ≡ Some c →
      under section c p (option_map (normal_base section p) (stable section local base)) ≡ Some path → IsFieldPath program section local base p path
  by_class local base p path (class.Global name) is e =
      of_global (class.Global name) is tt (let same : global_path p.class ≡ path = cc in sym same)
  by_class local base p path (class.Field s l) is e = by_list (is_listed section p.class) refl e
    where
      by_list : (b : Bool) → is_listed section p.class ≡ b →
          (if b then Some (whole_class p.class s) else option_map (protected_path p) (option_map (normal_base section p) (stable section local base))) ≡ Some path →
          IsFieldPath program section local base p path
      by_list true listed e = of_whole s l is listed (let same : whole_class p.class s ≡ path = cc in sym same)
      by_list false other e =
          let o = map_some (protected_path p) (option_map (normal_base section p) (stable section local base)) path e in
          let q = map_some (normal_base section p) (stable section local base) o.0 o.1 in
          of_object s l q.0 is q.1 (sym o.2 ∙ ap (protected_path p) (sym q.2))

  pub field_path : (local s f : ℕ) (base : List FieldStep) (path : LockPath) →
      target_path program section (field local base s f) ≡ Some path →
      (p : Protection) × (protection_of program s f ≡ Some p) × IsFieldPath program section local base p path
  field_path local s f base path e =
      let normal : Protection → Option StablePath = λ p. option_map (normal_base section p) (stable section local base) in
      let x = lookup_some (protection_of program s f) (λ (p : Protection). lookup (slice_get program.classes.items p.class) (λ (c : LockClass). under section c p (normal p))) path e in
      let y = lookup_some (slice_get program.classes.items x.0.class) (λ (c : LockClass). under section c x.0 (normal x.0)) path x.2 in
      (x.0, x.1, by_class local base x.0 path y.0 y.1 y.2)

  -- ---- law

  module _ (well : IsWellScoped section) (i : ℕ) (scope : List ℕ) (at : IsScopeAt section i scope)
      (closed : (b : Binding) → Contains (bindings section) b → Contains scope b.local → NamesOnly scope b.value) where
    global_root : (path : LockPath) (number : ℕ) → path ≡ global_path number → IsRootInScope section i path.root
    global_root path number e = subst (λ (x : LockPath). IsRootInScope section i x.root) (sym e) tt

    field_root : (local : ℕ) (base : List FieldStep) (p : Protection) (path : LockPath) → Contains scope local →
        IsFieldPath program section local base p path →
        IsRootInScope section i path.root
    field_root local base p path c (of_global g is single e) = global_root path p.class e
    field_root local base p path c (of_whole s l is listed e) =
        subst (λ (x : LockPath). IsRootInScope section i x.root) (sym e) tt
    field_root local base p path c (of_object s l q is stable_is e) =
        let parts = stable_parts section local base q stable_is in
        let first : IsRoot section scope q.root = record {
          in_scope = subst (λ k. Contains scope k) (sym parts.root) c;
          fixed = subst (IsFixed section) (sym parts.root) parts.fixed;
        } in
        let last = all_roots section scope (bindings section) closed (bindings section) (extended q p) (λ b d. d) first in
        subst (λ (x : LockPath). IsRootInScope section i x.root) (sym e) (scope, at, last.in_scope)

    pub target_root : (target : Target) (path : LockPath) → IsTargetNamed scope target →
        target_path program section target ≡ Some path →
        IsRootInScope section i path.root
    target_root (global cell) path c e =
        let x = lookup_some (slice_get program.cells.items cell) (λ (y : Cell). option_map global_path (class_if_global program y.owner)) path e in
        let y = map_some global_path (class_if_global program x.0.owner) path x.2 in
        global_root path y.0 (sym y.2)
    target_root (element array) path c e =
        let x = lookup_some (slice_get program.shape.arrays.items array) (λ (y : Array). Some (global_path y.class)) path e in
        global_root path x.0.class (let same : Some (global_path x.0.class) ≡ Some path = x.2 in cc)
    target_root (field local base s f) path c e =
        let x = field_path local s f base path e in field_root local base x.0 path c x.2

pub used_are_in_scope : UsedAreInScope
used_are_in_scope program section p path well has (point, here, c) =
    let scoped = well.scopes has.0 section has.1 in
    let sound = sound_point section scoped p point here in
    let a = from_filter_map (lock_path program section) (accesses_at point) path c in
    let named = each_at (IsNamed sound.0) (accesses_at point) a.0 (accesses_named sound.0 point sound.2.scoped) a.1 in
    target_root program section scoped p sound.0 sound.1 sound.2.closed a.0.target path named a.2

root_back : ScopeGoesBack → (section : Section) (p q : ℕ) (root : Root) → Follows (skeleton section) p q →
    IsRootInScope section q root →
    IsRootInScope section p root ⊎ ((k : ℕ) × (root ≡ AtLocal k) × Binds section p k)
root_back law section p q GlobalLock f s = inl tt
root_back law section p q (WholeClass k) f s = inl tt
root_back law section p q (AtLocal k) f s = elim (law section p q k f s) [ inl x ↦ inl x | inr y ↦ inr (k, refl, y) ]

pub scope_of_paths_goes_back : ScopeGoesBack → ScopeOfPathsGoesBack
scope_of_paths_goes_back law section p q path f s = root_back law section p q path.root f s
