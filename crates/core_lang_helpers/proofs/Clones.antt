-- A clone of a part of a program is the same as data.
use Rattle.std.proofs.Common.{◌≡◌, List, map, refl, ap}
use Rattle.std.specs.Prelude.{string_bytes}
use Rattle.std.specs.List.{AllZip}
use Rattle.core_lang.specs.declared.shape.Array.{Array}
use Rattle.core_lang.specs.declared.shape.Pool.{Pool}
use Rattle.core_lang.specs.declared.typed.LockClass.{LockClass}
use Rattle.core_lang.specs.declared.typed.LockClass.TheVariants as class
use Rattle.core_lang.specs.declared.typed.LockField.{LockField}
use Rattle.core_lang.specs.declared.typed.FinalField.{FinalField}
use Rattle.core_lang.specs.declared.typed.Field.{Field}
use Rattle.core_lang.specs.declared.typed.Struct.{Struct}
use Rattle.core_lang.specs.declared.typed.GlobalVariable.{GlobalVariable}
use Rattle.core_lang.specs.declared.typed.Call.{Call}
use Rattle.core_lang.specs.declared.typed.Thread.{Thread}
use Rattle.core_lang.specs.contracts.shape.ArrayClone.TheImpl as arrays
use Rattle.core_lang.specs.contracts.shape.PoolClone.TheImpl as pools
use Rattle.core_lang.specs.contracts.typed.LockClassClone.TheImpl as classes
use Rattle.core_lang.specs.contracts.typed.LockFieldClone.TheImpl as locks
use Rattle.core_lang.specs.contracts.typed.FinalFieldClone.TheImpl as finals
use Rattle.core_lang.specs.contracts.typed.FieldClone.TheImpl as fields
use Rattle.core_lang.specs.contracts.typed.StructClone.TheImpl as structs
use Rattle.core_lang.specs.contracts.typed.GlobalVariableClone.TheImpl as globals
use Rattle.core_lang.specs.contracts.typed.CallClone.TheImpl as calls
use Rattle.core_lang.specs.contracts.typed.ThreadClone.TheImpl as threads
use Rattle.core_lang.specs.Expansion.{array_data, pool_data}
use Rattle.core_lang.specs.Theory.Items.{zip_same, zip_map}
use Rattle.core_lang_helpers.specs.Data.{NamedLock, lock_field_data, final_data, class_data, field_data, struct_data}
use Rattle.core_lang_helpers.specs.Data.{global_data, call_data, thread_data}

-- ---- places

array_same : (x y : Array) → (arrays.is_clone-value).it x y → array_data y ≡ array_data x
array_same x y h =
    let name : string_bytes y.name ≡ string_bytes x.name = h.0 in
    rw (name, h.1.0, h.1.1.0, h.1.1.1.0, h.1.1.1.1) refl

pub same_arrays : (xs ys : List Array) → AllZip ((arrays.is_clone-value).it) xs ys →
    map array_data ys ≡ map array_data xs
same_arrays = zip_map ((arrays.is_clone-value).it) array_data array_same

pool_same : (x y : Pool) → (pools.is_clone-value).it x y → pool_data y ≡ pool_data x
pool_same x y h =
    let name : string_bytes y.name ≡ string_bytes x.name = h.0 in
    rw (name, h.1.0, h.1.1.0, h.1.1.1) refl

pub same_pools : (xs ys : List Pool) → AllZip ((pools.is_clone-value).it) xs ys → map pool_data ys ≡ map pool_data xs
same_pools = zip_map ((pools.is_clone-value).it) pool_data pool_same

-- ---- lock classes, structs and globals

class_same : (x y : LockClass) → (classes.is_clone-value).it x y → class_data y ≡ class_data x
class_same (class.Global n) (class.Global m) h =
    let name : string_bytes m ≡ string_bytes n = h in ap NamedLock name
class_same (class.Global n) (class.Field s l) h = absurd h
class_same (class.Field s l) (class.Global m) h = absurd h
class_same (class.Field s l) (class.Field t m) h = rw (h.0, h.1) refl

pub same_classes : (xs ys : List LockClass) → AllZip ((classes.is_clone-value).it) xs ys →
    map class_data ys ≡ map class_data xs
same_classes = zip_map ((classes.is_clone-value).it) class_data class_same

lock_same : (x y : LockField) → (locks.is_clone-value).it x y → lock_field_data y ≡ lock_field_data x
lock_same x y h = let name : string_bytes y.name ≡ string_bytes x.name = h.0 in rw (name, h.1) refl

final_same : (x y : FinalField) → (finals.is_clone-value).it x y → final_data y ≡ final_data x
final_same x y h = let name : string_bytes y.name ≡ string_bytes x.name = h.0 in rw (name, h.1) refl

field_same : (x y : Field) → (fields.is_clone-value).it x y → field_data y ≡ field_data x
field_same x y h =
    let name : string_bytes y.name ≡ string_bytes x.name = h.0 in
    let through : y.protection.through.items ≡ x.protection.through.items = zip_same _ (λ x y e. e) x.protection.through.items y.protection.through.items h.1.1.0.0 in
    rw (name, h.1.0, through, h.1.1.1) refl

struct_same : (x y : Struct) → (structs.is_clone-value).it x y → struct_data y ≡ struct_data x
struct_same x y h =
    let name : string_bytes y.name ≡ string_bytes x.name = h.0 in
    let of_locks = zip_map ((locks.is_clone-value).it) lock_field_data lock_same x.locks.items y.locks.items h.1.0.0 in
    let of_finals = zip_map ((finals.is_clone-value).it) final_data final_same x.finals.items y.finals.items h.1.1.0.0 in
    let of_fields = zip_map ((fields.is_clone-value).it) field_data field_same x.fields.items y.fields.items h.1.1.1.0 in
    rw (name, of_locks, of_finals, of_fields) refl

pub same_structs : (xs ys : List Struct) → AllZip ((structs.is_clone-value).it) xs ys →
    map struct_data ys ≡ map struct_data xs
same_structs = zip_map ((structs.is_clone-value).it) struct_data struct_same

global_same : (x y : GlobalVariable) → (globals.is_clone-value).it x y → global_data y ≡ global_data x
global_same x y h =
    let name : string_bytes y.name ≡ string_bytes x.name = h.0 in rw (name, h.1.0, h.1.1) refl

pub same_globals : (xs ys : List GlobalVariable) → AllZip ((globals.is_clone-value).it) xs ys →
    map global_data ys ≡ map global_data xs
same_globals = zip_map ((globals.is_clone-value).it) global_data global_same

-- ---- threads

call_same : (x y : Call) → (calls.is_clone-value).it x y → call_data y ≡ call_data x
call_same x y h =
    let arguments : y.arguments.items ≡ x.arguments.items = zip_same _ (λ x y e. e) x.arguments.items y.arguments.items h.1.0 in
    rw (h.0, arguments) refl

thread_same : (x y : Thread) → (threads.is_clone-value).it x y → thread_data y ≡ thread_data x
thread_same x y h =
    let name : string_bytes y.name ≡ string_bytes x.name = h.0 in
    let of_calls = zip_map ((calls.is_clone-value).it) call_data call_same x.calls.items y.calls.items h.1.0 in
    rw (name, of_calls) refl

pub same_threads : (xs ys : List Thread) → AllZip ((threads.is_clone-value).it) xs ys →
    map thread_data ys ≡ map thread_data xs
same_threads = zip_map ((threads.is_clone-value).it) thread_data thread_same
