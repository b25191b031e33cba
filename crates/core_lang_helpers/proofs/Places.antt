-- An expansion has the same cells, objects and locks, and so the same types.
use Rattle.std.proofs.Common.{◌≡◌, ℕ, zero, suc, ◌+◌, List, [], ◌∷◌, map, Some, None, Option, refl, sym, ap, ◌∙◌}
use Rattle.std.proofs.Common.{subst, arith}
use Rattle.std.specs.Prelude.{slice_get}
use Rattle.core_lang.specs.declared.value.Value.{Value}
use Rattle.core_lang.specs.declared.value.Value.TheVariants.{Int, Ref}
use Rattle.core_lang.specs.declared.value.ValueType.{ValueType}
use Rattle.core_lang.specs.declared.value.ValueType.TheVariants.{Integer, Reference}
use Rattle.core_lang.specs.declared.shape.Array.{Array}
use Rattle.core_lang.specs.declared.shape.Pool.{Pool}
use Rattle.core_lang.specs.declared.shape.Object.{Object}
use Rattle.core_lang.specs.declared.typed.LockClass.{LockClass}
use Rattle.core_lang.specs.declared.typed.LockClass.TheVariants as class
use Rattle.core_lang.specs.declared.typed.FinalField.{FinalField}
use Rattle.core_lang.specs.declared.typed.Protection.{Protection}
use Rattle.core_lang.specs.declared.typed.Field.{Field}
use Rattle.core_lang.specs.declared.typed.Struct.{Struct}
use Rattle.core_lang.specs.declared.typed.CellOwner.{CellOwner}
use Rattle.core_lang.specs.declared.typed.CellOwner.TheVariants as owner
use Rattle.core_lang.specs.declared.typed.Cell.{Cell}
use Rattle.core_lang.specs.declared.typed.Typed.{Typed}
use Rattle.core_lang.specs.Serial.{opening_heap}
use Rattle.core_lang.specs.Expansion.{ArrayData, array_data, PoolData, pool_data, IsExpansion}
use Rattle.core_lang.specs.Typing.{lookup, struct_of, HasType, HaveTypes, cell_types, IsHeap, final_target}
use Rattle.core_lang.specs.Typing.{field_type, if_global, global_type, array_type, pool_struct}
use Rattle.core_lang.specs.WellFormed.{IsCell, IsCellOf, IsLaidOut, FinalsLead, EndsAt, Protects, IsGlobalLock}
use Rattle.core_lang.specs.WellFormed.{IsGlobalClass, IsClassOf, IsProtected}
use Rattle.core_lang_helpers.specs.Data.{Numbered, lock_field_data, final_data, ClassData, class_data, FieldData}
use Rattle.core_lang_helpers.specs.Data.{field_data, StructData, struct_data, GlobalData, global_data}
use Rattle.core_lang_helpers.specs.Data.{IsSameBesides}
use Rattle.core_lang_helpers.proofs.Limits.{as_long, data_there}

-- ---- what is found in lists that are the same as data

-- the other way round
pub data_back : {X D : Type 0} (f : X → D) (xs ys : List X) (k : ℕ) (x : X) → map f ys ≡ map f xs →
    slice_get xs k ≡ Some x →
    (y : X) × (slice_get ys k ≡ Some y) × (f x ≡ f y)
data_back f xs ys k x e is = data_there f ys xs k x (sym e) is

pub lookup_alike : {X D B : Type 0} (f : X → D) (g : X → Option B) (xs ys : List X) (k : ℕ) → map f ys ≡ map f xs →
    ((x y : X) → f y ≡ f x → g y ≡ g x) → lookup (slice_get ys k) g ≡ lookup (slice_get xs k) g
lookup_alike f g [] [] k e same = refl
lookup_alike f g [] (y ∷ ys) k e same = absurd cc
lookup_alike f g (x ∷ xs) [] k e same = absurd cc
lookup_alike f g (x ∷ xs) (y ∷ ys) zero e same = let head : f y ≡ f x = cc in same x y head
lookup_alike f g (x ∷ xs) (y ∷ ys) (suc k) e same = let tail : map f ys ≡ map f xs = cc in lookup_alike f g xs ys k tail same

lookup_each : {A B : Type 0} (o : Option A) (g h : A → Option B) → ((a : A) → g a ≡ h a) → lookup o g ≡ lookup o h
lookup_each (Some a) g h same = same a
lookup_each None g h same = refl

-- a lock class that is the same as data
class_same : (c c' : LockClass) → class_data c' ≡ class_data c → (P : ClassData → Type 0) → P (class_data c) →
    P (class_data c')
class_same c c' e P p = subst P (sym e) p

field_class : (s l : ℕ) (c : LockClass) → class_data (class.Field s l) ≡ class_data c → c ≡ class.Field s l
field_class s l (class.Global name) e = absurd cc
field_class s l (class.Field t m) e =
    let first : s ≡ t = cc in
    let second : l ≡ m = cc in
    ap (λ x. class.Field x m) (sym first) ∙ ap (class.Field s) (sym second)

global_lock : (c c' : LockClass) → class_data c' ≡ class_data c → IsGlobalLock c → IsGlobalLock c'
global_lock (class.Global n) (class.Global m) e is = tt
global_lock (class.Global n) (class.Field s l) e is = absurd cc
global_lock (class.Field s l) c' e is = absurd is

module _ (program program' : Typed) (expands : IsExpansion program program') (same : IsSameBesides program program') where
  -- ---- types

  pub struct_same : (o : ℕ) → struct_of program'.shape o ≡ struct_of program.shape o
  struct_same o =
      ap (λ (xs : List Object). lookup (slice_get xs o) (λ (object : Object). lookup (slice_get program'.shape.pools.items object.pool) (λ (pool : Pool). Some pool.structure)))
      expands.places.objects
      ∙ lookup_each (slice_get program.shape.objects.items o) _ _ (λ (object : Object).
      lookup_alike pool_data (λ (pool : Pool). Some pool.structure) program.shape.pools.items program'.shape.pools.items object.pool expands.places.pools
      (λ x y e. ap (λ (d : PoolData). Some d.structure) e))

  pub final_same : (s f : ℕ) → final_target program' s f ≡ final_target program s f
  final_same s f =
      lookup_alike struct_data (λ (x : Struct). lookup (slice_get x.finals.items f) (λ (final : FinalField). Some final.target)) program.structs.items program'.structs.items s same.structs
      (λ x y e. lookup_alike final_data (λ (final : FinalField). Some final.target) x.finals.items y.finals.items f (ap (λ (d : StructData). d.finals) e)
      (λ a b e'. ap (λ (d : Numbered). Some d.number) e'))

  pub field_same : (s f : ℕ) → field_type program' s f ≡ field_type program s f
  field_same s f =
      lookup_alike struct_data (λ (x : Struct). lookup (slice_get x.fields.items f) (λ (field : Field). Some field.value_type)) program.structs.items program'.structs.items s same.structs
      (λ x y e. lookup_alike field_data (λ (field : Field). Some field.value_type) x.fields.items y.fields.items f (ap (λ (d : StructData). d.fields) e)
      (λ a b e'. ap (λ (d : FieldData). Some d.value_type) e'))

  pub global_same : (cell : ℕ) → global_type program' cell ≡ global_type program cell
  global_same cell = ap (λ (xs : List Cell). lookup (slice_get xs cell) (λ (c : Cell). if_global c.owner c.value_type)) expands.cells

  pub array_same : (array : ℕ) → array_type program' array ≡ array_type program array
  array_same array =
      lookup_alike array_data (λ (a : Array). Some a.element) program.shape.arrays.items program'.shape.arrays.items array expands.places.arrays
      (λ x y e. ap (λ (d : ArrayData). Some d.element) e)

  pub pool_same : (pool : ℕ) → pool_struct program' pool ≡ pool_struct program pool
  pool_same pool =
      lookup_alike pool_data (λ (p : Pool). Some p.structure) program.shape.pools.items program'.shape.pools.items pool expands.places.pools
      (λ x y e. ap (λ (d : PoolData). Some d.structure) e)

  has_type : (t : ValueType) (v : Value) → HasType program.shape t v → HasType program'.shape t v
  has_type Integer (Int n) h = tt
  has_type Integer (Ref r) h = absurd h
  has_type (Reference s) (Int n) h = absurd h
  has_type (Reference s) (Ref None) h = tt
  has_type (Reference s) (Ref (Some o)) h = struct_same o ∙ h

  pub have_types : (ts : List ValueType) (vs : List Value) → HaveTypes program.shape ts vs →
      HaveTypes program'.shape ts vs
  have_types [] [] h = tt
  have_types [] (v ∷ vs) h = absurd h
  have_types (t ∷ ts) [] h = absurd h
  have_types (t ∷ ts) (v ∷ vs) h = (has_type t v h.0, have_types ts vs h.1)

  pub opens_typed : IsHeap program (opening_heap program) → IsHeap program' (opening_heap program')
  opens_typed h =
      subst (λ (xs : List Cell). HaveTypes program'.shape (map (λ (cell : Cell). cell.value_type) xs) (map (λ (cell : Cell). cell.opening) xs)) (sym expands.cells)
      (have_types (cell_types program) (opening_heap program) h)

  -- ---- places of cells, objects and members

  is_cell : (place : ℕ) (o : CellOwner) (t : ValueType) → IsCell program place o t → IsCell program' place o t
  is_cell place o t is = record {
    cell = is.cell;
    here = ap (λ (xs : List Cell). slice_get xs place) expands.cells ∙ is.here;
    owned = is.owned;
    typed = is.typed;
  }

  cell_of : (place : ℕ) (o : CellOwner) → IsCellOf program place o → IsCellOf program' place o
  cell_of place (owner.Global g) (x, is, e) =
      let found = data_back global_data program.globals.items program'.globals.items g x same.globals is in
      (found.0, found.1, e ∙ ap (λ (d : GlobalData). d.cell) found.2)
  cell_of place (owner.Element array index) (x, is, lt, e) =
      let found = data_back array_data program.shape.arrays.items program'.shape.arrays.items array x expands.places.arrays is in
      let many = ap (λ (d : ArrayData). d.count) found.2 in
      (found.0, found.1, omega (arith, lt, many), e ∙ ap (λ (d : ArrayData). d.first + index) found.2)
  cell_of place (owner.Field object field) (x, is, e, (s, t, struct, typed)) =
      (x, ap (λ (xs : List Object). slice_get xs object) expands.places.objects ∙ is, e, (s, t, struct_same object ∙ struct, field_same s field ∙ typed))

  pub laid_out : IsLaidOut program → IsLaidOut program'
  laid_out laid = record {
    global = λ g x is.
        let found = data_there global_data program.globals.items program'.globals.items g x same.globals is in
        let cell = laid.global g found.0 found.1 in
        (cell.0, subst (λ place. IsCell program' place (owner.Global g) cell.0) (sym (ap (λ (d : GlobalData). d.cell) found.2)) (is_cell found.0.cell (owner.Global g) cell.0 cell.1));
    array = λ a x is i lt.
        let found = data_there array_data program.shape.arrays.items program'.shape.arrays.items a x expands.places.arrays is in
        let y = found.0 in
        let many = ap (λ (d : ArrayData). d.count) found.2 in
        let cell = is_cell (y.first + i) (owner.Element a i) y.element (laid.array a y found.1 i (omega (arith, lt, many))) in
        subst (λ place. IsCell program' place (owner.Element a i) x.element) (sym (ap (λ (d : ArrayData). d.first + i) found.2))
        (subst (λ t. IsCell program' (y.first + i) (owner.Element a i) t) (sym (ap (λ (d : ArrayData). d.element) found.2)) cell);
    pool = λ p x is i lt.
        let found = data_there pool_data program.shape.pools.items program'.shape.pools.items p x expands.places.pools is in
        let y = found.0 in
        let many = ap (λ (d : PoolData). d.count) found.2 in
        let object = laid.pool p y found.1 i (omega (arith, lt, many)) in
        let at : x.first + i ≡ y.first + i = ap (λ (d : PoolData). d.first + i) found.2 in
        (object.0, ap (λ place. slice_get program'.shape.objects.items place) at ∙ ap (λ (xs : List Object). slice_get xs (y.first + i)) expands.places.objects ∙ object.1, object.2);
    rise = λ p q x y less ex ey.
        let one = data_there pool_data program.shape.pools.items program'.shape.pools.items p x expands.places.pools ex in
        let two = data_there pool_data program.shape.pools.items program'.shape.pools.items q y expands.places.pools ey in
        let low = laid.rise p q one.0 two.0 less one.1 two.1 in
        let ends = ap (λ (d : PoolData). d.first + d.count) one.2 in
        let begins = ap (λ (d : PoolData). d.first) two.2 in
        omega (arith, low, ends, begins);
    structure = λ p x is.
        let found = data_there pool_data program.shape.pools.items program'.shape.pools.items p x expands.places.pools is in
        let named = ap (λ (d : PoolData). d.structure) found.2 in
        let many = as_long struct_data program.structs.items program'.structs.items same.structs in
        let lt = laid.structure p found.0 found.1 in
        omega (arith, named, many, lt);
    object = λ o x is.
        let here = ap (λ (xs : List Object). slice_get xs o) (sym expands.places.objects) ∙ is in
        let pool = laid.object o x here in
        let found = data_back pool_data program.shape.pools.items program'.shape.pools.items x.pool pool.0 expands.places.pools pool.1 in
        let first = ap (λ (d : PoolData). d.first) found.2 in
        let many = ap (λ (d : PoolData). d.count) found.2 in
        (found.0, found.1, omega (arith, first, pool.2), omega (arith, first, many, pool.3));
    field = λ o x is s f t struct typed.
        let here = ap (λ (xs : List Object). slice_get xs o) (sym expands.places.objects) ∙ is in
        is_cell (x.cells + f) (owner.Field o f) t (laid.field o x here s f t (sym (struct_same o) ∙ struct) (sym (field_same s f) ∙ typed));
    final = λ o x is s f target struct leads.
        let here = ap (λ (xs : List Object). slice_get xs o) (sym expands.places.objects) ∙ is in
        let named = laid.final o x here s f target (sym (struct_same o) ∙ struct) (sym (final_same s f) ∙ leads) in
        (named.0, ap (λ (xs : List ℕ). slice_get xs (x.finals + f)) expands.places.finals ∙ named.1, struct_same named.0 ∙ named.2);
    owner = λ place cell is.
        let here = ap (λ (xs : List Cell). slice_get xs place) (sym expands.cells) ∙ is in
        cell_of place cell.owner (laid.owner place cell here);
  }

  -- ---- the protection of the cells

  finals_lead : (from : ℕ) (fs : List ℕ) (to : ℕ) → FinalsLead program from fs to → FinalsLead program' from fs to
  finals_lead from [] to h = h
  finals_lead from (f ∷ fs) to (next, leads, rest) = (next, final_same from f ∙ leads, finals_lead next fs to rest)

  ends_at : (s : ℕ) (through : List ℕ) (c c' : LockClass) → class_data c ≡ class_data c' →
      EndsAt program s through c → EndsAt program' s through c'
  ends_at s through (class.Global n) (class.Global m) e h = h
  ends_at s through (class.Global n) (class.Field t l) e h = absurd cc
  ends_at s through (class.Field t l) (class.Global m) e h = absurd cc
  ends_at s through (class.Field t l) (class.Field u m) e h =
      let to : t ≡ u = cc in
      (h.0, subst (λ z. FinalsLead program' s through z) to (finals_lead s through t h.1))

  class_back : (number : ℕ) (c : LockClass) → slice_get program.classes.items number ≡ Some c →
      (c' : LockClass) × (slice_get program'.classes.items number ≡ Some c') × (class_data c ≡ class_data c')
  class_back number c is = data_back class_data program.classes.items program'.classes.items number c same.classes is

  global_class : (number : ℕ) → IsGlobalClass program number → IsGlobalClass program' number
  global_class number (c, is, global) = let found = class_back number c is in (found.0, found.1, global_lock c found.0 (sym found.2) global)

  protects : (s : ℕ) (p p' : Protection) → p'.through.items ≡ p.through.items → p'.class ≡ p.class →
      Protects program s p → Protects program' s p'
  protects s p p' e f (c, is, ends) =
      let found = class_back p.class c is in (
        found.0,
        ap (slice_get program'.classes.items) f ∙ found.1,
        subst (λ through. EndsAt program' s through found.0) (sym e) (ends_at s p.through.items c found.0 found.2 ends),
      )

  class_of : (number : ℕ) (c c' : LockClass) → class_data c' ≡ class_data c → IsClassOf program number c →
      IsClassOf program' number c'
  class_of number (class.Global n) (class.Global m) e h = tt
  class_of number (class.Global n) (class.Field t l) e h = absurd cc
  class_of number (class.Field t l) (class.Global m) e h = tt
  class_of number (class.Field t l) (class.Field u m) e (x, is, (field, has, numbered)) =
      let s : t ≡ u = cc in
      let k : l ≡ m = cc in
      let found = data_back struct_data program.structs.items program'.structs.items t x same.structs is in
      let locks : map lock_field_data x.locks.items ≡ map lock_field_data found.0.locks.items = ap (λ (d : StructData). d.locks) found.2 in
      let lock = data_there lock_field_data found.0.locks.items x.locks.items l field locks has in (
        found.0,
        ap (slice_get program'.structs.items) (sym s) ∙ found.1,
        (lock.0, ap (slice_get found.0.locks.items) (sym k) ∙ lock.1, sym (ap (λ (d : Numbered). d.number) lock.2) ∙ numbered),
      )

  pub protected : IsProtected program → IsProtected program'
  protected p = record {
    global = λ g x is.
        let found = data_there global_data program.globals.items program'.globals.items g x same.globals is in
        subst (IsGlobalClass program') (sym (ap (λ (d : GlobalData). d.class) found.2)) (global_class found.0.class (p.global g found.0 found.1));
    array = λ a x is.
        let found = data_there array_data program.shape.arrays.items program'.shape.arrays.items a x expands.places.arrays is in
        subst (IsGlobalClass program') (sym (ap (λ (d : ArrayData). d.class) found.2)) (global_class found.0.class (p.array a found.0 found.1));
    field = λ s f x field is has.
        let found = data_there struct_data program.structs.items program'.structs.items s x same.structs is in
        let fields = ap (λ (d : StructData). d.fields) found.2 in
        let own = data_there field_data found.0.fields.items x.fields.items f field fields has in
        protects s own.0.protection field.protection (ap (λ (d : FieldData). d.through) own.2) (ap (λ (d : FieldData). d.class) own.2)
        (p.field s f found.0 own.0 found.1 own.1);
    lock_field = λ s l x lock is has.
        let found = data_there struct_data program.structs.items program'.structs.items s x same.structs is in
        let locks = ap (λ (d : StructData). d.locks) found.2 in
        let own = data_there lock_field_data found.0.locks.items x.locks.items l lock locks has in
        let numbered = ap (λ (d : Numbered). d.number) own.2 in
        let named = class_back own.0.class (class.Field s l) (p.lock_field s l found.0 own.0 found.1 own.1) in
        ap (slice_get program'.classes.items) numbered ∙ named.1 ∙ ap Some (field_class s l named.0 named.2);
    class_field = λ number c is.
        let found = data_there class_data program.classes.items program'.classes.items number c same.classes is in
        class_of number found.0 c found.2 (p.class_field number found.0 found.1);
  }
