-- Programs within the limits, whose numbers are all valid, and whose sections and helpers are well typed.
use Rattle.std.specs.Prelude.{◌≡◌, ℕ, ◌+◌, ◌<◌, ◌≤◌, List, [], ◌∷◌, length, slice_get, Some, ⊤}
use Rattle.source.specs.Limits.{PARAMETER_LIMIT, LOCAL_LIMIT, POINT_LIMIT, CALL_LIMIT}
use Rattle.source.specs.Limits.{STRUCT_LIMIT, MEMBER_LIMIT, FINAL_LIMIT, CLASS_LIMIT, OBJECT_LIMIT, CELL_LIMIT, SECTION_LIMIT, THREAD_LIMIT}
use Rattle.core_lang.specs.declared.value.Value.{Value}
use Rattle.core_lang.specs.declared.value.ValueType.{ValueType}
use Rattle.core_lang.specs.declared.shape.Array.{Array}
use Rattle.core_lang.specs.declared.shape.Pool.{Pool}
use Rattle.core_lang.specs.declared.shape.Object.{Object}
use Rattle.core_lang.specs.declared.tree.Section.{Section}
use Rattle.core_lang.specs.declared.typed.LockClass.{LockClass}
use Rattle.core_lang.specs.declared.typed.LockClass.TheVariants as class
use Rattle.core_lang.specs.declared.typed.LockField.{LockField}
use Rattle.core_lang.specs.declared.typed.Protection.{Protection}
use Rattle.core_lang.specs.declared.typed.Field.{Field}
use Rattle.core_lang.specs.declared.typed.Struct.{Struct}
use Rattle.core_lang.specs.declared.typed.GlobalVariable.{GlobalVariable}
use Rattle.core_lang.specs.declared.typed.CellOwner.{CellOwner}
use Rattle.core_lang.specs.declared.typed.CellOwner.TheVariants as owner
use Rattle.core_lang.specs.declared.typed.Call.{Call}
use Rattle.core_lang.specs.declared.typed.Cell.{Cell}
use Rattle.core_lang.specs.declared.typed.Thread.{Thread}
use Rattle.core_lang.specs.declared.typed.Typed.{Typed}
use Rattle.core_lang.specs.Serial.{opening_heap}
use Rattle.core_lang.specs.Scopes.{IsWellScoped}
use Rattle.core_lang.specs.Meaning.{deepest}
use Rattle.core_lang.specs.Helpers.{IsAtMostDeep}
use Rattle.core_lang.specs.WrittenLocals.{written_locals}
use Rattle.core_lang.specs.WrittenPoints.{helper_points}
use Rattle.core_lang.specs.Typing.{struct_of, final_target, field_type, IsHeap, Fit, IsWellTypedSection}

-- ---- where things lie

-- the cell at this place has this owner and this type
pub record IsCell (program : Typed) (place : ℕ) (owner : CellOwner) (t : ValueType) : Type 0 where
  pub cell : Cell
  pub here : slice_get program.cells.items place ≡ Some cell
  pub owned : cell.owner ≡ owner
  pub typed : cell.value_type ≡ t

-- the owner of a cell has it at this place
abbrev pub IsCellOf : Typed → ℕ → CellOwner → Type 0
IsCellOf program place (owner.Global g) =
    (global : GlobalVariable) × (slice_get program.globals.items g ≡ Some global) × (place ≡ global.cell)
IsCellOf program place (owner.Element array index) =
    (a : Array) × (slice_get program.shape.arrays.items array ≡ Some a) × (index < a.length) × (place ≡ a.first + index)
IsCellOf program place (owner.Field object field) =
    (o : Object) × (slice_get program.shape.objects.items object ≡ Some o) × (place ≡ o.cells + field) ×
    ((s : ℕ) × (t : ValueType) × (struct_of program.shape object ≡ Some s) × (field_type program s field ≡ Some t))

-- each global, array, pool and object has its cells, its members and its final references, each cell belongs to a
-- global, an array or an object, and the members of a pool come before those of later pools
pub record IsLaidOut (program : Typed) : Type 0 where
  pub global : (g : ℕ) (x : GlobalVariable) → slice_get program.globals.items g ≡ Some x →
      (t : ValueType) × IsCell program x.cell (owner.Global g) t
  pub array : (a : ℕ) (x : Array) → slice_get program.shape.arrays.items a ≡ Some x →
      (i : ℕ) → i < x.length → IsCell program (x.first + i) (owner.Element a i) x.element
  pub pool : (p : ℕ) (x : Pool) → slice_get program.shape.pools.items p ≡ Some x →
      (i : ℕ) → i < x.length → (o : Object) × (slice_get program.shape.objects.items (x.first + i) ≡ Some o) × (o.pool ≡ p)
  pub rise : (p q : ℕ) (x y : Pool) → p < q → slice_get program.shape.pools.items p ≡ Some x →
      slice_get program.shape.pools.items q ≡ Some y → x.first + x.length ≤ y.first
  pub structure : (p : ℕ) (x : Pool) → slice_get program.shape.pools.items p ≡ Some x →
      x.structure < length program.structs.items
  pub object : (o : ℕ) (x : Object) → slice_get program.shape.objects.items o ≡ Some x →
      (p : Pool) × (slice_get program.shape.pools.items x.pool ≡ Some p) × (p.first ≤ o) × (o < p.first + p.length)
  pub field : (o : ℕ) (x : Object) → slice_get program.shape.objects.items o ≡ Some x →
      (s f : ℕ) (t : ValueType) → struct_of program.shape o ≡ Some s → field_type program s f ≡ Some t →
      IsCell program (x.cells + f) (owner.Field o f) t
  pub final : (o : ℕ) (x : Object) → slice_get program.shape.objects.items o ≡ Some x →
      (s f target : ℕ) → struct_of program.shape o ≡ Some s → final_target program s f ≡ Some target →
      (named : ℕ) × (slice_get program.shape.finals.items (x.finals + f) ≡ Some named) × (struct_of program.shape named ≡ Some target)
  pub owner : (place : ℕ) (cell : Cell) → slice_get program.cells.items place ≡ Some cell →
      IsCellOf program place cell.owner

-- ---- what protects the cells

-- the final references lead from one struct to another
abbrev pub FinalsLead : Typed → ℕ → List ℕ → ℕ → Type 0
FinalsLead program from [] to = from ≡ to
FinalsLead program from (f ∷ fs) to = (next : ℕ) × (final_target program from f ≡ Some next) × FinalsLead program next fs to

-- the final references, at most three, lead from a struct to one with the lock; a global lock needs none
abbrev pub EndsAt : Typed → ℕ → List ℕ → LockClass → Type 0
EndsAt program s through (class.Global name) = through ≡ []
EndsAt program s through (class.Field structure lock) = (length through ≤ FINAL_LIMIT) × FinalsLead program s through structure

-- an annotation that a field of the struct may have
abbrev pub Protects : Typed → ℕ → Protection → Type 0
Protects program s protection =
    (c : LockClass) × (slice_get program.classes.items protection.class ≡ Some c) × EndsAt program s protection.through.items c

-- a global lock
abbrev pub IsGlobalLock : LockClass → Type 0
IsGlobalLock (class.Global name) = ⊤
IsGlobalLock (class.Field structure lock) = ⊥

-- the number of a global lock's class
abbrev pub IsGlobalClass : Typed → ℕ → Type 0
IsGlobalClass program number = (c : LockClass) × (slice_get program.classes.items number ≡ Some c) × IsGlobalLock c

-- the class of a lock field: the struct has the field, and the field has this class
abbrev pub IsClassOf : Typed → ℕ → LockClass → Type 0
IsClassOf program number (class.Global name) = ⊤
IsClassOf program number (class.Field structure lock) =
    (s : Struct) × (slice_get program.structs.items structure ≡ Some s) ×
    ((field : LockField) × (slice_get s.locks.items lock ≡ Some field) × (field.class ≡ number))

-- each global, array and field has a lock that may protect it
pub record IsProtected (program : Typed) : Type 0 where
  pub global : (g : ℕ) (x : GlobalVariable) → slice_get program.globals.items g ≡ Some x → IsGlobalClass program x.class
  pub array : (a : ℕ) (x : Array) → slice_get program.shape.arrays.items a ≡ Some x → IsGlobalClass program x.class
  pub field : (s f : ℕ) (x : Struct) (field : Field) → slice_get program.structs.items s ≡ Some x →
      slice_get x.fields.items f ≡ Some field →
      Protects program s field.protection
  pub lock_field : (s l : ℕ) (x : Struct) (lock : LockField) → slice_get program.structs.items s ≡ Some x →
      slice_get x.locks.items l ≡ Some lock →
      slice_get program.classes.items lock.class ≡ Some (class.Field s l)
  pub class_field : (number : ℕ) (c : LockClass) → slice_get program.classes.items number ≡ Some c →
      IsClassOf program number c

-- ---- the whole

-- a section of this number may be called with these arguments: the program has it, and the arguments fit its parameters
unfoldable pub CanCall : Typed → ℕ → List Value → Type 0
CanCall program number arguments =
    (section : Section) × (slice_get program.sections.items number ≡ Some section) × Fit program section arguments

-- the number of calls of all threads together
abbrev pub calls_together : List Thread → ℕ
calls_together [] = 0
calls_together (thread ∷ threads) = length thread.calls.items + calls_together threads

-- the program keeps the limits of the language
pub record IsWithinLimits (program : Typed) : Type 0 where
  pub classes : length program.classes.items ≤ CLASS_LIMIT
  pub structs : length program.structs.items ≤ STRUCT_LIMIT
  -- a struct's members, of all three kinds together
  pub members : (s : ℕ) (x : Struct) → slice_get program.structs.items s ≡ Some x →
      length x.locks.items + length x.finals.items + length x.fields.items ≤ MEMBER_LIMIT
  pub objects : length program.shape.objects.items ≤ OBJECT_LIMIT
  pub cells : length program.cells.items ≤ CELL_LIMIT
  -- sections and helpers together
  pub sections : length program.sections.items + length program.shape.helpers.items ≤ SECTION_LIMIT
  pub parameters : (k : ℕ) (x : Section) → slice_get program.sections.items k ≡ Some x → x.parameters ≤ PARAMETER_LIMIT
  -- the parameters are among the locals
  pub locals : (k : ℕ) (x : Section) → slice_get program.sections.items k ≡ Some x → length x.locals.items ≤ LOCAL_LIMIT
  pub threads : length program.threads.items ≤ THREAD_LIMIT
  pub calls : calls_together program.threads.items ≤ CALL_LIMIT

-- each part of the program is well formed, with the helpers not expanded: such a program may be accepted
pub record IsChecked (program : Typed) : Type 0 where
  pub within : IsWithinLimits program
  pub laid_out : IsLaidOut program
  pub protected : IsProtected program
  pub opens : IsHeap program (opening_heap program)
  pub sections : (k : ℕ) (section : Section) → slice_get program.sections.items k ≡ Some section →
      IsWellTypedSection program section
  pub scopes : (k : ℕ) (section : Section) → slice_get program.sections.items k ≡ Some section → IsWellScoped section
  pub helpers : (k : ℕ) (helper : Section) → slice_get program.shape.helpers.items k ≡ Some helper →
      IsWellTypedSection program helper
  pub helper_scopes : (k : ℕ) (helper : Section) → slice_get program.shape.helpers.items k ≡ Some helper →
      IsWellScoped helper
  pub helper_depths : (k : ℕ) (helper : Section) → slice_get program.shape.helpers.items k ≡ Some helper →
      IsAtMostDeep program.shape deepest k
  -- with the locals and points that its helpers bring
  pub written_locals : (k : ℕ) (section : Section) → slice_get program.sections.items k ≡ Some section →
      length (written_locals program.shape section) ≤ LOCAL_LIMIT
  pub helper_points : (k : ℕ) (section : Section) → slice_get program.sections.items k ≡ Some section →
      helper_points program.shape section ≤ POINT_LIMIT
  pub scripts : (t k : ℕ) (thread : Thread) (call : Call) → slice_get program.threads.items t ≡ Some thread →
      slice_get thread.calls.items k ≡ Some call →
      CanCall program call.section call.arguments.items

-- a program of that kind whose helpers are expanded, so that it has no helpers
pub record IsWellFormed (program : Typed) : Type 0 where
  pub within : IsWithinLimits program
  pub laid_out : IsLaidOut program
  pub protected : IsProtected program
  pub opens : IsHeap program (opening_heap program)
  pub sections : (k : ℕ) (section : Section) → slice_get program.sections.items k ≡ Some section →
      IsWellTypedSection program section
  pub scopes : (k : ℕ) (section : Section) → slice_get program.sections.items k ≡ Some section → IsWellScoped section
  pub helpers : program.shape.helpers.items ≡ []
  pub scripts : (t k : ℕ) (thread : Thread) (call : Call) → slice_get program.threads.items t ≡ Some thread →
      slice_get thread.calls.items k ≡ Some call →
      CanCall program call.section call.arguments.items
