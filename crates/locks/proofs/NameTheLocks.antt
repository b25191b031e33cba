-- The lock that protects the cell which an access reaches is among those that the path of the access names.
use Rattle.std.proofs.Common.{◌≡◌, ℕ, ◌+◌, List, [], Option, Some, Ok, refl, sym, ap, ◌∙◌, subst}
use Rattle.std.specs.Prelude.{slice_get}
use Rattle.std.specs.Option.{option_map}
use Rattle.std.specs.List.{Contains}
use Rattle.std.proofs.lemmas.Option.{none-some}
use Rattle.core_lang.specs.declared.value.Value.{Value}
use Rattle.core_lang.specs.declared.value.Value.TheVariants.{Ref}
use Rattle.core_lang.specs.declared.value.ValueType.TheVariants.{Reference}
use Rattle.core_lang.specs.declared.shape.Array.{Array}
use Rattle.core_lang.specs.declared.tree.FieldStep.{FieldStep}
use Rattle.core_lang.specs.declared.tree.Section.{Section}
use Rattle.core_lang.specs.declared.typed.LockClass.{LockClass}
use Rattle.core_lang.specs.declared.typed.LockClass.TheVariants as class
use Rattle.core_lang.specs.declared.typed.Protection.{Protection}
use Rattle.core_lang.specs.declared.typed.Field.{Field}
use Rattle.core_lang.specs.declared.typed.Struct.{Struct}
use Rattle.core_lang.specs.declared.typed.GlobalVariable.{GlobalVariable}
use Rattle.core_lang.specs.declared.typed.CellOwner.{CellOwner}
use Rattle.core_lang.specs.declared.typed.CellOwner.TheVariants as owner
use Rattle.core_lang.specs.declared.typed.Cell.{Cell}
use Rattle.core_lang.specs.declared.typed.Typed.{Typed}
use Rattle.core_lang.specs.Cells.{with, found, at_index, element_cell, field_cell}
use Rattle.core_lang.specs.Meaning.{along}
use Rattle.core_lang.specs.Typing.{lookup, struct_of, local_types, HasType, HaveTypes, IsHeap}
use Rattle.core_lang.specs.Working.Soundness.{Gives}
use Rattle.core_lang.specs.Scopes.{IsWellScoped}
use Rattle.core_lang.specs.WellFormed.{IsWellFormed, EndsAt, IsGlobalLock}
use Rattle.flow.specs.Points.{points}
use Rattle.locks.specs.declared.lock.Lock.{Lock}
use Rattle.locks.specs.Accesses.{Target, global, element, field, accesses_at}
use Rattle.locks.specs.Locks.{led_to, global_lock, object_lock, members_of, lock_of, protection_of, walked, protecting}
use Rattle.locks.specs.Locks.{lock_of_cell}
use Rattle.locks.specs.LockPaths.{LockPath, bindings, normal_form, extended, global_path, class_if_global}
use Rattle.locks.specs.LockPaths.{target_path, object_at, one_or_none, Names, LetsAgree}
use Rattle.locks.specs.Working.Reached.{Reaches, to_global, to_element, to_field}
use Rattle.locks.specs.Working.Laws.{PathsNameTheLocks}
use Rattle.locks.specs.Theory.Members.{is_member}
use Rattle.flow.specs.Theory.Each.{each_there}
use Rattle.flow.specs.Theory.PointTypes.{IsTypedPoint, points_typed}
use Rattle.locks.proofs.Lists.{each_at}
use Rattle.locks.proofs.Scoped.{Closed, IsSoundPoint, bound_once, sound_point}
use Rattle.locks.proofs.Named.{IsTargetNamed, IsNamed, accesses_named}
use Rattle.locks.proofs.Normal.{stable_parts, IsFixed, IsRoot}
use Rattle.locks.proofs.InScope.{IsFieldPath, of_global, of_whole, of_object, field_path}
use Rattle.locks.proofs.TypedAccesses.{IsTypedTarget, IsTyped, accesses_typed}
use Rattle.locks.proofs.Finals.{with_ok, found_ok, field_at, led_from, along_named, object_append, value_there}
use Rattle.locks.proofs.Finals.{along_sound, led_there, index_at}
use Rattle.locks.proofs.Agreeing.{normal_same}
use Rattle.core_lang.specs.Theory.Items.{in_first, in_map, lookup_some, map_some}

-- the path names the lock that protects the cell
abbrev NamesLockOf : Typed → List Value → LockPath → ℕ → Type 0
NamesLockOf program locals path cell = (lock : Lock) × Names path program.shape locals lock × (lock_of_cell program cell ≡ Some lock)

module _ (program : Typed) (section : Section) (locals heap : List Value) where
  cell_lock : (cell : ℕ) (c : Cell) (o : CellOwner) (lock : Lock) → slice_get program.cells.items cell ≡ Some c →
      c.owner ≡ o → protecting program o ≡ Some lock →
      lock_of_cell program cell ≡ Some lock
  cell_lock cell c o lock here is e =
      ap (λ (r : Option Cell). lookup r (λ (x : Cell). protecting program x.owner)) here ∙ ap (protecting program) is ∙ e

  at_cell : (cell place : ℕ) (c : Cell) → cell ≡ place → slice_get program.cells.items place ≡ Some c →
      slice_get program.cells.items cell ≡ Some c
  at_cell cell place c e here = ap (slice_get program.cells.items) e ∙ here

  named_global : (path : LockPath) (number : ℕ) → path ≡ global_path number →
      Names path program.shape locals (global_lock number)
  named_global path number e =
      subst (λ (x : LockPath). Names x program.shape locals (global_lock number)) (sym e) (in_first (global_lock number) [])

  -- ---- globals and elements

  global_protected : (o : CellOwner) (number : ℕ) → class_if_global program o ≡ Some number →
      protecting program o ≡ Some (global_lock number)
  global_protected (owner.Global g) number e =
      let x = lookup_some (slice_get program.globals.items g) (λ (y : GlobalVariable). Some y.class) number e in
      let same : x.0.class ≡ number = let s : Some x.0.class ≡ Some number = x.2 in cc in
      ap (λ (r : Option GlobalVariable). lookup r (λ (y : GlobalVariable). Some (global_lock y.class))) x.1 ∙ ap (λ n. Some (global_lock n)) same
  global_protected (owner.Element array index) number e = absurd (none-some number e)
  global_protected (owner.Field o f) number e = absurd (none-some number e)

  global_named : (cell : ℕ) (path : LockPath) → target_path program section (global cell) ≡ Some path →
      NamesLockOf program locals path cell
  global_named cell path e =
      let x = lookup_some (slice_get program.cells.items cell) (λ (y : Cell). option_map global_path (class_if_global program y.owner)) path e in
      let y = map_some global_path (class_if_global program x.0.owner) path x.2 in
      (global_lock y.0, named_global path y.0 (sym y.2), cell_lock cell x.0 x.0.owner (global_lock y.0) x.1 refl (global_protected x.0.owner y.0 y.1))

  element_named : IsWellFormed program → (array cell : ℕ) (index : Value) (path : LockPath) →
      element_cell program.shape array index ≡ Ok cell →
      target_path program section (element array) ≡ Some path → NamesLockOf program locals path cell
  element_named well array cell index path at e =
      let x = lookup_some (slice_get program.shape.arrays.items array) (λ (y : Array). Some (global_path y.class)) path e in
      let is : path ≡ global_path x.0.class = let s : Some (global_path x.0.class) ≡ Some path = x.2 in cc in
      let reached : at_index x.0.first x.0.length index ≡ Ok cell =
      ap (λ (r : Option Array). with (found r) (λ (a : Array). at_index a.first a.length index)) (sym x.1) ∙ at in
      let i = index_at x.0.first x.0.length index cell reached in
      let c = well.laid_out.array array x.0 x.1 i.0 i.1 in
      let here : slice_get program.cells.items cell ≡ Some c.cell = ap (slice_get program.cells.items) i.2 ∙ c.here in
      let protected : protecting program (owner.Element array i.0) ≡ Some (global_lock x.0.class) =
      ap (λ (r : Option Array). lookup r (λ (a : Array). Some (global_lock a.class))) x.1 in
      (global_lock x.0.class, named_global path x.0.class is, cell_lock cell c.cell (owner.Element array i.0) (global_lock x.0.class) here c.owned protected)

  -- ---- fields

  global_of : (c : LockClass) (number : ℕ) (object : Option ℕ) → IsGlobalLock c →
      lock_of c number object ≡ Some (global_lock number)
  global_of (class.Global name) number object g = refl
  global_of (class.Field s l) number object g = absurd g

  -- the lock of a protection, walked from the object
  of_class : (p : Protection) (o : ℕ) (c : LockClass) → slice_get program.classes.items p.class ≡ Some c →
      walked program p o ≡ lock_of c p.class (led_to program.shape o p.through.items)
  of_class p o c is = ap (λ (r : Option LockClass). lookup r (λ (x : LockClass). lock_of x p.class (led_to program.shape o p.through.items))) is

  field_protected : (s f o : ℕ) (p : Protection) (lock : Lock) → struct_of program.shape o ≡ Some s →
      protection_of program s f ≡ Some p →
      walked program p o ≡ Some lock → protecting program (owner.Field o f) ≡ Some lock
  field_protected s f o p lock struct_is has e =
      ap (λ (r : Option ℕ). lookup r (λ n. lookup (protection_of program n f) (λ (q : Protection). walked program q o))) struct_is
      ∙ ap (λ (r : Option Protection). lookup r (λ (q : Protection). walked program q o)) has ∙ e

  -- a field's protection leads from its object to one with the lock
  ends_there : IsWellFormed program → (s f o : ℕ) (p : Protection) (s' l : ℕ) → protection_of program s f ≡ Some p →
      struct_of program.shape o ≡ Some s →
      slice_get program.classes.items p.class ≡ Some (class.Field s' l) →
      (n : ℕ) × (led_to program.shape o p.through.items ≡ Some n) × (struct_of program.shape n ≡ Some s')
  ends_there well s f o p s' l has struct_is is =
      let x = lookup_some (slice_get program.structs.items s) (λ (y : Struct). lookup (slice_get y.fields.items f) (λ (z : Field). Some z.protection)) p has in
      let y = lookup_some (slice_get x.0.fields.items f) (λ (z : Field). Some z.protection) p x.2 in
      let same : y.0.protection ≡ p = let e : Some y.0.protection ≡ Some p = y.2 in cc in
      let protects = well.protected.field s f x.0 y.0 x.1 y.1 in
      let class_is : Some protects.0 ≡ Some (class.Field s' l) =
      sym protects.1 ∙ ap (λ (q : Protection). slice_get program.classes.items q.class) same ∙ is in
      let one : protects.0 ≡ class.Field s' l = cc in
      let ends : EndsAt program s p.through.items (class.Field s' l) =
      subst (λ (q : Protection). EndsAt program s q.through.items (class.Field s' l)) same (subst (λ c. EndsAt program s y.0.protection.through.items c) one protects.2) in
      led_there program well.laid_out p.through.items o s s' struct_is ends.1

  module _ (well : IsWellFormed program) (scoped : IsWellScoped section) (scope : List ℕ) (agree : LetsAgree section scope program.shape locals)
      (closed : Closed (bindings section) (bound_once section scoped) scope) where
    -- the lock that the path of a field names, if its base leads to the object
    field_path_named : (local s f o : ℕ) (base : List FieldStep) (v : Value) (p : Protection) (path : LockPath) →
        Contains scope local →
        slice_get locals local ≡ Some v → along program.shape heap v base ≡ Ok (Ref (Some o)) → struct_of program.shape o ≡ Some s →
        protection_of program s f ≡ Some p → IsFieldPath program section local base p path →
        (lock : Lock) × Names path program.shape locals lock × (walked program p o ≡ Some lock)
    field_path_named local s f o base v p path c here leads struct_is has (of_global g is single e) =
        (global_lock p.class, named_global path p.class e, of_class p o g is ∙ global_of g p.class (led_to program.shape o p.through.items) single)
    field_path_named local s f o base v p path c here leads struct_is has (of_whole s' l is listed e) =
        let made : ℕ → Lock = object_lock p.class in
        let end = ends_there well s f o p s' l has struct_is is in (
          made end.0,
          subst (λ (x : LockPath). Names x program.shape locals (made end.0)) (sym e)
              (in_map made (members_of program.shape s') end.0 (is_member program well.laid_out end.0 s' end.2)),
          of_class p o (class.Field s' l) is ∙ ap (option_map made) end.1,
        )
    field_path_named local s f o base v p path c here leads struct_is has (of_object s' l q is stable_is e) =
        let made : ℕ → Lock = object_lock p.class in
        let whole = extended q p in
        let normal = normal_form section whole in
        let parts = stable_parts section local base q stable_is in
        let root : IsRoot section scope q.root = record {
          in_scope = subst (λ k. Contains scope k) (sym parts.root) c;
          fixed = subst (IsFixed section) (sym parts.root) parts.fixed;
        } in
        let end = ends_there well s f o p s' l has struct_is is in
        let base_ends : object_at program.shape locals q.root q.finals ≡ Some o =
        ap (λ k. object_at program.shape locals k q.finals) parts.root
        ∙ ap (λ (r : Option Value). lookup r (λ (w : Value). led_from program.shape w q.finals)) here
        ∙ along_named program.shape heap base q.finals v (Ref (Some o)) parts.finals leads in
        let whole_ends : object_at program.shape locals whole.root whole.finals ≡ Some end.0 =
        object_append program.shape locals q.root q.finals p.through.items
        ∙ ap (λ r. lookup r (λ n. led_to program.shape n p.through.items)) base_ends ∙ end.1 in
        let path_ends : object_at program.shape locals normal.root normal.finals ≡ Some end.0 =
        normal_same section scoped scope program.shape locals closed agree whole end.0 root whole_ends in (
          made end.0,
          subst (λ (x : LockPath). Names x program.shape locals (made end.0)) (sym e)
              (subst (λ (n : Option ℕ). Contains (one_or_none (option_map made n)) (made end.0)) (sym path_ends) (in_first (made end.0) [])),
          of_class p o (class.Field s' l) is ∙ ap (option_map made) end.1,
        )

    field_named : (local s f cell : ℕ) (base : List FieldStep) (path : LockPath) →
        HaveTypes program.shape (local_types section.locals.items) locals → IsHeap program heap →
        Contains scope local → IsTypedTarget program (local_types section.locals.items) (field local base s f) →
        target_path program section (field local base s f) ≡ Some path →
        with (found (slice_get locals local)) (λ v. with (along program.shape heap v base) (λ o. field_cell program.shape o f)) ≡ Ok cell →
        NamesLockOf program locals path cell
    field_named local s f cell base path types is_heap c typed e reached =
        let x = with_ok (found (slice_get locals local)) (λ v. with (along program.shape heap v base) (λ o. field_cell program.shape o f)) cell reached in
        let y = with_ok (along program.shape heap x.0 base) (λ o. field_cell program.shape o f) cell x.2 in
        let at = field_at program.shape y.0 f cell y.2 in
        let from = typed.0.0 in
        let all = local_types section.locals.items in
        let first : HasType program.shape from x.0 = subst (Gives (HasType program.shape from)) x.1 (value_there program.shape all locals local from types typed.0.1) in
        let last : HasType program.shape (Reference s) y.0 =
        subst (Gives (HasType program.shape (Reference s))) y.1 (along_sound program well.laid_out all heap is_heap from (Reference s) x.0 base first typed.0.2) in
        let struct_is : struct_of program.shape at.number ≡ Some s = subst (HasType program.shape (Reference s)) at.value last in
        let owned = well.laid_out.field at.number at.object at.here s f typed.1.0 struct_is typed.1.1 in
        let here = at_cell cell (at.object.cells + f) owned.cell at.cell_is owned.here in
        let p = field_path program section local s f base path e in
        let leads : along program.shape heap x.0 base ≡ Ok (Ref (Some at.number)) = y.1 ∙ ap Ok at.value in
        let named = field_path_named local s f at.number base x.0 p.0 path c (found_ok (slice_get locals local) x.0 x.1) leads struct_is p.1 p.2 in
        let protected = field_protected s f at.number p.0 named.0 struct_is p.1 named.2 in
        (named.0, named.1, cell_lock cell owned.cell (owner.Field at.number f) named.0 here owned.owned protected)

    target_named : (target : Target) (cell : ℕ) (path : LockPath) →
        HaveTypes program.shape (local_types section.locals.items) locals → IsHeap program heap →
        IsTargetNamed scope target → IsTypedTarget program (local_types section.locals.items) target → target_path program section target ≡ Some path →
        Reaches program.shape locals heap target cell → NamesLockOf program locals path cell
    target_named (global cell) cell' path types is_heap c typed e to_global = global_named cell path e
    target_named (element array) cell path types is_heap c typed e (to_element index at) = element_named well array cell index path at e
    target_named (field local base s f) cell path types is_heap c typed e (to_field reached) = field_named local s f cell base path types is_heap c typed e reached

pub paths_name_the_locks : PathsNameTheLocks
paths_name_the_locks program section p point scope locals heap a path cell well has here at types is_heap agree among e reaches =
    let scoped = well.scopes has.0 section has.1 in
    let sound = sound_point section scoped p point here in
    let both : Some sound.0 ≡ Some scope = sym sound.1 ∙ at in
    let same : sound.0 ≡ scope = cc in
    let here_sound : IsSoundPoint section scoped scope point = subst (λ s. IsSoundPoint section scoped s point) same sound.2 in
    let named = each_at (IsNamed scope) (accesses_at point) a (accesses_named scope point here_sound.scoped) among in
    let all = points_typed program section (well.sections has.0 section has.1) in
    let types_of = local_types section.locals.items in
    let point_typed = each_there (IsTypedPoint program types_of) (points section) p point all here in
    let typed = each_at (IsTyped program types_of) (accesses_at point) a (accesses_typed program types_of point point_typed) among in
    target_named program section locals heap well scoped scope agree here_sound.closed a.target cell path types is_heap named typed e reaches
