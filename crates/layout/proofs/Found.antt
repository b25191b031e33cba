-- The results of looking up locks, structs and fields in the lists of a program.
use Rattle.std.proofs.Common.{◌≡◌, ◌∙◌, ℕ, ◌<◌, ◌≤◌, List, length, get_or, Option, Some, None, sym, ap, arith}
use Rattle.std.specs.Prelude.{slice_get}
use Rattle.std.specs.Option.{option_map}
use Rattle.std.proofs.lemmas.List.{length-map}
use Rattle.std.proofs.lemmas.Option.{slice_get_within}
use Rattle.core_lang.specs.declared.shape.Array.{Array}
use Rattle.core_lang.specs.declared.shape.Object.{Object}
use Rattle.core_lang.specs.declared.shape.Pool.{Pool}
use Rattle.core_lang.specs.declared.shape.Shape.{Shape}
use Rattle.core_lang.specs.declared.typed.Field.{Field}
use Rattle.core_lang.specs.declared.typed.GlobalVariable.{GlobalVariable}
use Rattle.core_lang.specs.declared.typed.LockClass.{LockClass}
use Rattle.core_lang.specs.declared.typed.LockClass.TheVariants as class
use Rattle.core_lang.specs.declared.typed.CellOwner.{CellOwner}
use Rattle.core_lang.specs.declared.typed.CellOwner.TheVariants as owner
use Rattle.core_lang.specs.declared.typed.Protection.{Protection}
use Rattle.core_lang.specs.declared.typed.Struct.{Struct}
use Rattle.core_lang.specs.declared.typed.Typed.{Typed}
use Rattle.core_lang.specs.Typing.{lookup, struct_of}
use Rattle.core_lang.specs.WellFormed.{IsLaidOut}
use Rattle.locks.specs.Locks.{led_to, global_lock, lock_of, protection_of, walked, protecting}
use Rattle.layout.specs.declared.places.CellPlace.{CellPlace}
use Rattle.layout.specs.Layouts.{lock_fields, object_struct}
use Rattle.layout.specs.Working.Numbers.{locks_in, openings_in}
use Rattle.core_lang.specs.Theory.Items.{lookup_none, lookup_at, read_at, map_at}

-- ---- numbers below a bound that several terms denote

pub below_same : (n a b : ℕ) → n < a → a ≡ b → n < b
below_same n a b lt e = omega arith

pub below_end : (n a b c : ℕ) → n < a → a ≡ b → b ≡ c → n < c
below_end n a b c lt e d = omega arith

pub below_bound : (n a b : ℕ) → n < a → a < b → n < b
below_bound n a b lt below = omega arith

pub few_objects : (n m a : ℕ) → n ≡ m → m < a → a ≤ 65536 → n < 4294967296
few_objects n m a e lt le = omega arith

pub at_end : (n a b : ℕ) → n ≤ a → a ≡ b → a ≤ n → n ≡ b
at_end n a b le e ge = omega arith

pub all_taken : (k a b d n : ℕ) → k ≡ a → b ≡ a → d ≡ b → d ≤ n → k ≤ n
all_taken k a b d n e f g le = omega arith

-- ---- the lock of an annotation

module _ (program : Typed) (p : Protection) (o : ℕ) where
  pub no_class : slice_get program.classes.items p.class ≡ None → walked program p o ≡ None
  no_class e = lookup_none (slice_get program.classes.items p.class) (λ (c : LockClass). lock_of c p.class (led_to program.shape o p.through.items)) e

  pub of_class : (c : LockClass) → slice_get program.classes.items p.class ≡ Some c →
      walked program p o ≡ lock_of c p.class (led_to program.shape o p.through.items)
  of_class c at = lookup_at (slice_get program.classes.items p.class) c (λ (x : LockClass). lock_of x p.class (led_to program.shape o p.through.items)) at

  pub of_global_class : (c : LockClass) (name : _) → slice_get program.classes.items p.class ≡ Some c →
      c ≡ class.Global name → walked program p o ≡ Some (global_lock p.class)
  of_global_class c name at is = of_class c at ∙ ap (λ (x : LockClass). lock_of x p.class (led_to program.shape o p.through.items)) is

  pub of_field_class : (c : LockClass) (s l : ℕ) (end : Option ℕ) → slice_get program.classes.items p.class ≡ Some c →
      c ≡ class.Field s l →
      led_to program.shape o p.through.items ≡ end → walked program p o ≡ option_map (λ (x : ℕ). record { class = p.class; object = x }) end
  of_field_class c s l end at is ends =
      of_class c at ∙ ap (λ (x : LockClass). lock_of x p.class (led_to program.shape o p.through.items)) is
      ∙ ap (λ (x : Option ℕ). lock_of (class.Field s l) p.class x) ends

-- ---- the struct of an object

module _ (shape : Shape) (o : ℕ) where
  pub no_object : slice_get shape.objects.items o ≡ None → struct_of shape o ≡ None
  no_object e = lookup_none (slice_get shape.objects.items o) (λ (x : Object). lookup (slice_get shape.pools.items x.pool) (λ (pool : Pool). Some pool.structure)) e

  pub of_object : (x : Object) → slice_get shape.objects.items o ≡ Some x →
      struct_of shape o ≡ lookup (slice_get shape.pools.items x.pool) (λ (pool : Pool). Some pool.structure)
  of_object x at = lookup_at (slice_get shape.objects.items o) x (λ (y : Object). lookup (slice_get shape.pools.items y.pool) (λ (pool : Pool). Some pool.structure)) at

  pub no_pool : (x : Object) → slice_get shape.objects.items o ≡ Some x → slice_get shape.pools.items x.pool ≡ None →
      struct_of shape o ≡ None
  no_pool x at e = of_object x at ∙ lookup_none (slice_get shape.pools.items x.pool) (λ (pool : Pool). Some pool.structure) e

  pub of_pool : (x : Object) (p : Pool) → slice_get shape.objects.items o ≡ Some x →
      slice_get shape.pools.items x.pool ≡ Some p → struct_of shape o ≡ Some p.structure
  of_pool x p at there = of_object x at ∙ lookup_at (slice_get shape.pools.items x.pool) p (λ (pool : Pool). Some pool.structure) there

-- ---- the lock of a field

module _ (program : Typed) (o f : ℕ) where
  pub no_struct : struct_of program.shape o ≡ None → protecting program (owner.Field o f) ≡ None
  no_struct e = lookup_none (struct_of program.shape o) (λ (s : ℕ). lookup (protection_of program s f) (λ (p : Protection). walked program p o)) e

  pub of_struct : (s : ℕ) → struct_of program.shape o ≡ Some s →
      protecting program (owner.Field o f) ≡ lookup (protection_of program s f) (λ (p : Protection). walked program p o)
  of_struct s is = lookup_at (struct_of program.shape o) s (λ (k : ℕ). lookup (protection_of program k f) (λ (p : Protection). walked program p o)) is

  pub struct_missing : (s : ℕ) → struct_of program.shape o ≡ Some s → slice_get program.structs.items s ≡ None →
      protecting program (owner.Field o f) ≡ None
  struct_missing s is e =
      of_struct s is
      ∙ lookup_none (protection_of program s f) (λ (p : Protection). walked program p o)
      (lookup_none (slice_get program.structs.items s) (λ (x : Struct). lookup (slice_get x.fields.items f) (λ (field : Field). Some field.protection)) e)

  pub of_fields : (s : ℕ) (x : Struct) → struct_of program.shape o ≡ Some s →
      slice_get program.structs.items s ≡ Some x →
      protecting program (owner.Field o f) ≡ lookup (lookup (slice_get x.fields.items f) (λ (field : Field). Some field.protection)) (λ (p : Protection). walked program p o)
  of_fields s x is at =
      of_struct s is
      ∙ ap (λ (r : Option Protection). lookup r (λ (p : Protection). walked program p o))
      (lookup_at (slice_get program.structs.items s) x (λ (y : Struct). lookup (slice_get y.fields.items f) (λ (field : Field). Some field.protection)) at)

  pub field_missing : (s : ℕ) (x : Struct) → struct_of program.shape o ≡ Some s →
      slice_get program.structs.items s ≡ Some x → slice_get x.fields.items f ≡ None →
      protecting program (owner.Field o f) ≡ None
  field_missing s x is at e =
      of_fields s x is at ∙ ap (λ (r : Option Field). lookup (lookup r (λ (field : Field). Some field.protection)) (λ (p : Protection). walked program p o)) e

  pub field_here : (s : ℕ) (x : Struct) (field : Field) → struct_of program.shape o ≡ Some s →
      slice_get program.structs.items s ≡ Some x →
      slice_get x.fields.items f ≡ Some field → protecting program (owner.Field o f) ≡ walked program field.protection o
  field_here s x field is at e =
      of_fields s x is at ∙ ap (λ (r : Option Field). lookup (lookup r (λ (y : Field). Some y.protection)) (λ (p : Protection). walked program p o)) e

-- ---- the lock of a global or an element

module _ (program : Typed) (whose : CellOwner) where
  pub of_global : (g : ℕ) (found : Option GlobalVariable) → whose ≡ owner.Global g →
      slice_get program.globals.items g ≡ found →
      protecting program whose ≡ lookup found (λ (x : GlobalVariable). Some (global_lock x.class))
  of_global g found is e = ap (protecting program) is ∙ ap (λ (r : Option GlobalVariable). lookup r (λ (x : GlobalVariable). Some (global_lock x.class))) e

  pub of_element : (array index : ℕ) (found : Option Array) → whose ≡ owner.Element array index →
      slice_get program.shape.arrays.items array ≡ found →
      protecting program whose ≡ lookup found (λ (x : Array). Some (global_lock x.class))
  of_element array index found is e = ap (protecting program) is ∙ ap (λ (r : Option Array). lookup r (λ (x : Array). Some (global_lock x.class))) e

-- ---- what the places of objects read

module _ (program : Typed) (laid : IsLaidOut program) (o : ℕ) (x : Object) (at : slice_get program.shape.objects.items o ≡ Some x) where
  pub pool_within : x.pool < length program.shape.pools.items
  pool_within = let p = laid.object o x at in slice_get_within program.shape.pools.items x.pool p.0 p.1

  module _ (p : Pool) (there : slice_get program.shape.pools.items x.pool ≡ Some p) where
    pub structure_within : p.structure < length program.structs.items
    structure_within = laid.structure x.pool p there

    pub fields_read : (s : Struct) → slice_get program.structs.items p.structure ≡ Some s →
        s.locks.items ≡ lock_fields (object_struct program o)
    fields_read s is =
        sym (ap lock_fields (lookup_at (struct_of program.shape o) p.structure (λ (k : ℕ). slice_get program.structs.items k) (of_pool program.shape o x p at there) ∙ is))

-- ---- what the places of a layout read

module _ (cells : List CellPlace) (cell n : ℕ) (x : CellPlace) (lt : cell < n) (is : x ≡ get_or cells cell x) where
  pub lock_read : length (locks_in cells) ≡ n → slice_get (locks_in cells) cell ≡ Some x.lock
  lock_read e = map_at (λ (y : CellPlace). y.lock) cells cell x (read_at cells cell x (omega (arith, lt, e, length-map cells (λ (y : CellPlace). y.lock))) is)

  pub opening_read : length (openings_in cells) ≡ n → slice_get (openings_in cells) cell ≡ Some x.opening
  opening_read e = map_at (λ (y : CellPlace). y.opening) cells cell x (read_at cells cell x (omega (arith, lt, e, length-map cells (λ (y : CellPlace). y.opening))) is)
