-- Each cell has a lock, which is one of the program's.
use Rattle.std.proofs.Common.{◌≡◌, ℕ, ◌+◌, List, [], ◌∷◌, Option, Some, refl, sym, ap, ◌∙◌, subst}
use Rattle.std.specs.Prelude.{slice_get}
use Rattle.std.specs.Option.{option_map}
use Rattle.core_lang.specs.declared.shape.Array.{Array}
use Rattle.core_lang.specs.declared.shape.Object.{Object}
use Rattle.core_lang.specs.declared.shape.Pool.{Pool}
use Rattle.core_lang.specs.declared.typed.LockClass.{LockClass}
use Rattle.core_lang.specs.declared.typed.LockClass.TheVariants as class
use Rattle.core_lang.specs.declared.typed.Protection.{Protection}
use Rattle.core_lang.specs.declared.typed.Field.{Field}
use Rattle.core_lang.specs.declared.typed.Struct.{Struct}
use Rattle.core_lang.specs.declared.typed.GlobalVariable.{GlobalVariable}
use Rattle.core_lang.specs.declared.typed.CellOwner.{CellOwner}
use Rattle.core_lang.specs.declared.typed.CellOwner.TheVariants as owner
use Rattle.core_lang.specs.declared.typed.Cell.{Cell}
use Rattle.core_lang.specs.declared.typed.Typed.{Typed}
use Rattle.core_lang.specs.Typing.{lookup, struct_of}
use Rattle.core_lang.specs.WellFormed.{IsWellFormed, IsLaidOut, IsCellOf, IsGlobalLock, FinalsLead, EndsAt}
use Rattle.locks.specs.declared.lock.Lock.{Lock}
use Rattle.locks.specs.Locks.{final_of, led_to, global_lock, IsLockOfClass, IsLock, lock_of, protection_of, walked}
use Rattle.locks.specs.Locks.{protecting, lock_of_cell}
use Rattle.core_lang.specs.Theory.Items.{lookup_some, lookup_at}

-- what an object's struct shows
pub object_there : (program : Typed) (o s : ℕ) → struct_of program.shape o ≡ Some s →
    (x : Object) × (slice_get program.shape.objects.items o ≡ Some x)
object_there program o s e =
    let x = lookup_some (slice_get program.shape.objects.items o) (λ (object : Object). lookup (slice_get program.shape.pools.items object.pool) (λ (pool : Pool). Some pool.structure)) s e in
    (x.0, x.1)

-- final references that lead from one struct to another lead from each object of the first to one of the other
pub finals_lead : (program : Typed) → IsLaidOut program → (fs : List ℕ) (from to o : ℕ) →
    struct_of program.shape o ≡ Some from → FinalsLead program from fs to →
    (end : ℕ) × (led_to program.shape o fs ≡ Some end) × (struct_of program.shape end ≡ Some to)
finals_lead program laid [] from to o is lead = (o, refl, is ∙ ap Some lead)
finals_lead program laid (f ∷ fs) from to o is (next, target, lead) =
    let x = object_there program o from is in
    let named = laid.final o x.0 x.1 from f next is target in
    let step : final_of program.shape o f ≡ Some named.0 =
    lookup_at (slice_get program.shape.objects.items o) x.0 (λ (y : Object). slice_get program.shape.finals.items (y.finals + f)) x.1 ∙ named.1 in
    let end = finals_lead program laid fs next to named.0 named.2 lead in
    (end.0, lookup_at (final_of program.shape o f) named.0 (λ (n : ℕ). led_to program.shape n fs) step ∙ end.1, end.2)

-- a lock that a global, an element or a field has, which is one of the program's
pub record IsLocked (program : Typed) (found : Option Lock) : Type 0 where
  pub lock : Lock
  pub is : found ≡ Some lock
  pub listed : IsLock program lock

-- the lock of a class
of_class : (program : Typed) (lock : Lock) (c : LockClass) → slice_get program.classes.items lock.class ≡ Some c →
    IsLockOfClass program lock (Some c) → IsLock program lock
of_class program lock c e h = subst (IsLockOfClass program lock) (sym e) h

of_global : (program : Typed) (number : ℕ) (c : LockClass) → slice_get program.classes.items number ≡ Some c →
    IsGlobalLock c → IsLock program (global_lock number)
of_global program number (class.Global name) e h = of_class program (global_lock number) (class.Global name) e refl
of_global program number (class.Field s l) e h = absurd h

-- the lock of an annotation
walked_to : (program : Typed) (p : Protection) (s o : ℕ) (c : LockClass) → IsLaidOut program →
    slice_get program.classes.items p.class ≡ Some c →
    EndsAt program s p.through.items c → struct_of program.shape o ≡ Some s → IsLocked program (walked program p o)
walked_to program p s o (class.Global name) laid at ends is = record {
  lock = global_lock p.class;
  is = lookup_at (slice_get program.classes.items p.class) (class.Global name) (λ (c : LockClass). lock_of c p.class (led_to program.shape o p.through.items)) at;
  listed = of_class program (global_lock p.class) (class.Global name) at refl;
}
walked_to program p s o (class.Field structure l) laid at ends is =
    let end = finals_lead program laid p.through.items s structure o is ends.1 in
    let lock : Lock = record { class = p.class; object = end.0 } in
    let made : ℕ → Lock = λ (x : ℕ). record { class = p.class; object = x } in
    record {
      lock = lock;
      is = lookup_at (slice_get program.classes.items p.class) (class.Field structure l) (λ (c : LockClass). lock_of c p.class (led_to program.shape o p.through.items)) at
          ∙ ap (option_map made) end.1;
      listed = of_class program lock (class.Field structure l) at end.2;
    }

-- the lock of a field whose annotation is this
of_field : (program : Typed) (s o f : ℕ) (p : Protection) → struct_of program.shape o ≡ Some s →
    protection_of program s f ≡ Some p →
    IsLocked program (walked program p o) → IsLocked program (protecting program (owner.Field o f))
of_field program s o f p is annotated w = record {
  lock = w.lock;
  is = lookup_at (struct_of program.shape o) s (λ (k : ℕ). lookup (protection_of program k f) (λ (q : Protection). walked program q o)) is
      ∙ lookup_at (protection_of program s f) p (λ (q : Protection). walked program q o) annotated ∙ w.is;
  listed = w.listed;
}

annotation : (program : Typed) (s f : ℕ) (x : Struct) (field : Field) → slice_get program.structs.items s ≡ Some x →
    slice_get x.fields.items f ≡ Some field →
    protection_of program s f ≡ Some field.protection
annotation program s f x field at_s at_f =
    lookup_at (slice_get program.structs.items s) x (λ (z : Struct). lookup (slice_get z.fields.items f) (λ (y : Field). Some y.protection)) at_s
    ∙ lookup_at (slice_get x.fields.items f) field (λ (y : Field). Some y.protection) at_f

locked : (program : Typed) (place : ℕ) (x : CellOwner) → IsWellFormed program → IsCellOf program place x →
    IsLocked program (protecting program x)
locked program place (owner.Global g) well (global, at, e) =
    let c = well.protected.global g global at in
    record {
      lock = global_lock global.class;
      is = lookup_at (slice_get program.globals.items g) global (λ (y : GlobalVariable). Some (global_lock y.class)) at;
      listed = of_global program global.class c.0 c.1 c.2;
    }
locked program place (owner.Element array index) well (a, at, lt, e) =
    let c = well.protected.array array a at in
    record {
      lock = global_lock a.class;
      is = lookup_at (slice_get program.shape.arrays.items array) a (λ (y : Array). Some (global_lock y.class)) at;
      listed = of_global program a.class c.0 c.1 c.2;
    }
locked program place (owner.Field o f) well (object, at, e, (s, t, is, type)) =
    let x = lookup_some (slice_get program.structs.items s) (λ (y : Struct). lookup (slice_get y.fields.items f) (λ (field : Field). Some field.value_type)) t type in
    let y = lookup_some (slice_get x.0.fields.items f) (λ (field : Field). Some field.value_type) t x.2 in
    let p = y.0.protection in
    let c = well.protected.field s f x.0 y.0 x.1 y.1 in
    of_field program s o f p is (annotation program s f x.0 y.0 x.1 y.1) (walked_to program p s o c.0 well.laid_out c.1 c.2 is)

pub cell_locked : (program : Typed) (cell : ℕ) (x : Cell) → IsWellFormed program →
    slice_get program.cells.items cell ≡ Some x → IsLocked program (protecting program x.owner)
cell_locked program cell x well at = locked program cell x.owner well (well.laid_out.owner cell x at)

pub of_cell : (program : Typed) (cell : ℕ) (x : Cell) → slice_get program.cells.items cell ≡ Some x →
    lock_of_cell program cell ≡ protecting program x.owner
of_cell program cell x at = lookup_at (slice_get program.cells.items cell) x (λ (c : Cell). protecting program c.owner) at
