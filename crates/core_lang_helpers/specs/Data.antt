-- Parts of a program as plain data, and which parts an expansion keeps.
use Rattle.std.specs.Prelude.{◌≡◌, ℕ, List, map, Option, string_bytes}
use Rattle.std.specs.List.{AllZip}
use Rattle.core_lang.specs.declared.value.Value.{Value}
use Rattle.core_lang.specs.declared.value.ValueType.{ValueType}
use Rattle.core_lang.specs.declared.tree.Section.{Section}
use Rattle.core_lang.specs.declared.typed.LockClass.{LockClass}
use Rattle.core_lang.specs.declared.typed.LockClass.TheVariants as class
use Rattle.core_lang.specs.declared.typed.LockField.{LockField}
use Rattle.core_lang.specs.declared.typed.FinalField.{FinalField}
use Rattle.core_lang.specs.declared.typed.Field.{Field}
use Rattle.core_lang.specs.declared.typed.Struct.{Struct}
use Rattle.core_lang.specs.declared.typed.GlobalVariable.{GlobalVariable}
use Rattle.core_lang.specs.declared.typed.Call.{Call}
use Rattle.core_lang.specs.declared.typed.Thread.{Thread}
use Rattle.core_lang.specs.declared.typed.Typed.{Typed}
use Rattle.core_lang.specs.Expansion.{IsExpansion}
use Rattle.core_lang.specs.WrittenLocals.{AreWrittenLocals}

-- a name with a number: a lock field with its class, or a final reference with its struct
pub record Numbered : Type 0 where
  pub name : List ℕ
  pub number : ℕ

-- a lock field as data
abbrev pub lock_field_data : LockField → Numbered
lock_field_data x = record { name = string_bytes x.name; number = x.class }

-- a final reference as data
abbrev pub final_data : FinalField → Numbered
final_data x = record { name = string_bytes x.name; number = x.target }

-- a lock class
pub data ClassData : Type 0 where
  NamedLock : List ℕ → ClassData
  FieldLock : ℕ → ℕ → ClassData

-- a lock class as data
abbrev pub class_data : LockClass → ClassData
class_data (class.Global name) = NamedLock (string_bytes name)
class_data (class.Field structure lock) = FieldLock structure lock

-- a field with its protection
pub record FieldData : Type 0 where
  pub name : List ℕ
  pub value_type : ValueType
  pub through : List ℕ
  pub class : ℕ

-- a field as data
abbrev pub field_data : Field → FieldData
field_data x = record { name = string_bytes x.name; value_type = x.value_type; through = x.protection.through.items; class = x.protection.class }

-- a struct as data
pub record StructData : Type 0 where
  pub name : List ℕ
  pub locks : List Numbered
  pub finals : List Numbered
  pub fields : List FieldData

-- the data of a struct
abbrev pub struct_data : Struct → StructData
struct_data x = record {
  name = string_bytes x.name;
  locks = map lock_field_data x.locks.items;
  finals = map final_data x.finals.items;
  fields = map field_data x.fields.items;
}

-- a global variable as data
pub record GlobalData : Type 0 where
  pub name : List ℕ
  pub cell : ℕ
  pub class : ℕ

-- the data of a global variable
abbrev pub global_data : GlobalVariable → GlobalData
global_data x = record { name = string_bytes x.name; cell = x.cell; class = x.class }

-- a call as data
pub record CallData : Type 0 where
  pub section : ℕ
  pub arguments : List Value

-- the data of a call
abbrev pub call_data : Call → CallData
call_data x = record { section = x.section; arguments = x.arguments.items }

-- a thread as data
pub record ThreadData : Type 0 where
  pub name : List ℕ
  pub calls : List CallData

-- the data of a thread
abbrev pub thread_data : Thread → ThreadData
thread_data x = record { name = string_bytes x.name; calls = map call_data x.calls.items }

-- a section's head: what its callers see, and the lock classes that it takes whole
pub record HeadData : Type 0 where
  pub name : List ℕ
  pub parameters : ℕ
  pub result_type : Option ValueType
  pub listed : List ℕ

-- the data of a section's head
abbrev pub head_data : Section → HeadData
head_data x = record { name = string_bytes x.name; parameters = x.parameters; result_type = x.result_type; listed = x.listed.items }

-- what an expansion keeps beside its layout: the same classes, structs, globals and threads, and sections with the same
-- heads, as data
pub record IsSameBesides (program program' : Typed) : Type 0 where
  pub classes : map class_data program'.classes.items ≡ map class_data program.classes.items
  pub structs : map struct_data program'.structs.items ≡ map struct_data program.structs.items
  pub globals : map global_data program'.globals.items ≡ map global_data program.globals.items
  pub heads : map head_data program'.sections.items ≡ map head_data program.sections.items
  pub threads : map thread_data program'.threads.items ≡ map thread_data program.threads.items

-- the second program is the first with the helpers of all sections expanded; each section has the locals that it had,
-- and those that its calls bring
pub record IsExpanded (program written : Typed) : Type 0 where
  pub expansion : IsExpansion program written
  pub locals : AllZip (AreWrittenLocals program.shape) program.sections.items written.sections.items
  pub besides : IsSameBesides program written
