-- The parts of the texts, as bytes. Numbers are decimal, without leading zeros.
use Rattle.std.specs.Prelude.{ℕ, ◌-◌, List, [], ◌∷◌, ◌++◌, Option, Some, None, codes, slice_get, string_bytes}
use Rattle.std.specs.Prelude.{option_and_then}
use Rattle.std.specs.Option.{option_map_or}
use Rattle.std.specs.List.{flat_map}
use Rattle.std.specs.Fmt.{decimal, signed_decimal}
use Rattle.core_lang.specs.declared.value.Value.{Value}
use Rattle.core_lang.specs.declared.value.Value.TheVariants.{Int, Ref}
use Rattle.core_lang.specs.declared.value.Outcome.{Outcome}
use Rattle.core_lang.specs.declared.value.Outcome.TheVariants.{Ends, Returns, Traps}
use Rattle.core_lang.specs.declared.shape.Shape.{Shape}
use Rattle.core_lang.specs.declared.shape.Pool.{Pool}
use Rattle.core_lang.specs.declared.typed.Typed.{Typed}
use Rattle.core_lang.specs.declared.typed.CellOwner.{CellOwner}
use Rattle.core_lang.specs.declared.typed.CellOwner.TheVariants.{Global, Element, Field}
use Rattle.core_lang.specs.declared.typed.LockClass.{LockClass}
use Rattle.core_lang.specs.declared.typed.LockClass.TheVariants as class
use Rattle.core_lang.specs.Traps.{trap_number}
use Rattle.locks.specs.declared.lock.Lock.{Lock}
use Rattle.locks.specs.Texts.{last_name}

-- an index in brackets
abbrev pub index_text : ℕ → List ℕ
index_text index = codes "[" ++ decimal index ++ codes "]"

-- the name of a section
abbrev pub section_name : Typed → ℕ → List ℕ
section_name program section = option_map_or (λ s. string_bytes s.name) (slice_get program.sections.items section) []

-- the pool that has an object
abbrev pub pool_of : Shape → ℕ → Option Pool
pool_of shape object = option_and_then (λ o. slice_get shape.pools.items o.pool) (slice_get shape.objects.items object)

-- an object as p[0], by its index in its pool
abbrev pub object_text : Shape → ℕ → List ℕ
object_text shape object = option_map_or (λ pool. string_bytes pool.name ++ index_text (object - pool.first)) (pool_of shape object) []

-- what precedes the name of a lock: for an object's lock, the object and a dot
abbrev pub owner_of_lock : Typed → ℕ → Option LockClass → List ℕ
owner_of_lock program object (Some (class.Field s l)) = object_text program.shape object ++ codes "."
owner_of_lock program object (Some (class.Global name)) = []
owner_of_lock program object None = []

-- what precedes the name of a lock, by its class
abbrev pub lock_owner : Typed → Lock → List ℕ
lock_owner program lock = owner_of_lock program lock.object (slice_get program.classes.items lock.class)

-- a lock, as G or p[0].l
abbrev pub lock_text : Typed → Lock → List ℕ
lock_text program lock = lock_owner program lock ++ last_name program lock.class

-- a number, null, or an object
abbrev pub value_text : Shape → Value → List ℕ
value_text shape (Int number) = signed_decimal number
value_text shape (Ref None) = codes "null"
value_text shape (Ref (Some object)) = object_text shape object

-- the values with a comma and a space between
abbrev pub values_text : Shape → List Value → List ℕ
values_text shape [] = []
values_text shape (first ∷ rest) = value_text shape first ++ flat_map (λ value. codes ", " ++ value_text shape value) rest

-- a call's thread and its number there
abbrev pub place_text : ℕ → ℕ → List ℕ
place_text thread step = decimal thread ++ codes " " ++ decimal step

-- a call with its arguments
abbrev pub invocation_text : Typed → ℕ → List Value → List ℕ
invocation_text program section arguments = section_name program section ++ codes "(" ++ values_text program.shape arguments ++ codes ")"

-- how a call ended
abbrev pub outcome_text : Shape → Outcome → List ℕ
outcome_text shape Ends = codes "ends"
outcome_text shape (Returns value) = codes "returns " ++ value_text shape value
outcome_text shape (Traps trap) = codes "traps " ++ decimal (trap_number trap)

-- the name of a global that is not an array
abbrev pub global_name : Typed → ℕ → List ℕ
global_name program global = option_map_or (λ g. string_bytes g.name) (slice_get program.globals.items global) []

-- the name of an array
abbrev pub array_name : Shape → ℕ → List ℕ
array_name shape array = option_map_or (λ a. string_bytes a.name) (slice_get shape.arrays.items array) []

-- the name of a field of an object
abbrev pub field_name : Typed → ℕ → ℕ → List ℕ
field_name program object field =
    option_map_or (λ f. string_bytes f.name)
    (option_and_then (λ s. slice_get s.fields.items field)
    (option_and_then (λ pool. slice_get program.structs.items pool.structure) (pool_of program.shape object))) []

-- a cell as n, a[0] or p[0].x
abbrev pub owner_text : Typed → CellOwner → List ℕ
owner_text program (Global global) = global_name program global
owner_text program (Element array index) = array_name program.shape array ++ index_text index
owner_text program (Field object field) = object_text program.shape object ++ codes "." ++ field_name program object field
