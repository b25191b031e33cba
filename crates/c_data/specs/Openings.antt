-- The functions of a program's C text that open and close the state, and return the members of its pools.
use Rattle.std.specs.Prelude.{ℕ, ◌-◌, ℤ, pos, not, List, [], ◌∷◌, ◌++◌, codes, string_bytes, slice_get}
use Rattle.std.specs.Prelude.{Option, Some, None, option_and_then}
use Rattle.std.specs.Option.{option_map_or}
use Rattle.std.specs.List.{flat_map}
use Rattle.std.specs.Ordering.{int_eq}
use Rattle.std.specs.Fmt.{decimal}
use Rattle.core_lang.specs.declared.shape.Array.{Array}
use Rattle.core_lang.specs.declared.shape.Object.{Object}
use Rattle.core_lang.specs.declared.shape.Pool.{Pool}
use Rattle.core_lang.specs.declared.typed.Cell.{Cell}
use Rattle.core_lang.specs.declared.typed.Field.{Field}
use Rattle.core_lang.specs.declared.typed.FinalField.{FinalField}
use Rattle.core_lang.specs.declared.typed.GlobalVariable.{GlobalVariable}
use Rattle.core_lang.specs.declared.typed.LockClass.{LockClass}
use Rattle.core_lang.specs.declared.typed.LockClass.TheVariants as class
use Rattle.core_lang.specs.declared.typed.LockField.{LockField}
use Rattle.core_lang.specs.declared.typed.CellOwner.{CellOwner}
use Rattle.core_lang.specs.declared.typed.CellOwner.TheVariants as owner
use Rattle.core_lang.specs.declared.typed.Struct.{Struct}
use Rattle.core_lang.specs.declared.typed.Typed.{Typed}
use Rattle.core_lang.specs.declared.value.Value.{Value}
use Rattle.core_lang.specs.declared.value.Value.TheVariants.{Int, Ref}
use Rattle.code.specs.Listing.{text_at}
use Rattle.c_data.specs.Joined.{joined}
use Rattle.c_statements.specs.Acquires.{numbered}
use Rattle.c_sections.specs.Instructions.{where_true}
use Rattle.c_statements.specs.Names.{zero_text, number_text, under_lock, variable_of, array_text}
use Rattle.c_data.specs.Types.{member_prototype}

-- ---- places

-- [INDEX]
abbrev pub index_text : ℕ → List ℕ
index_text index = codes "[" ++ decimal index ++ codes "]"

-- the pool that an object is a member of
abbrev pub pool_of : Typed → ℕ → Option Pool
pool_of program object =
    option_and_then (λ (o : Object). slice_get program.shape.pools.items o.pool)
    (slice_get program.shape.objects.items object)

-- the struct of an object
abbrev pub struct_of : Typed → ℕ → Option Struct
struct_of program object =
    option_and_then (λ (pool : Pool). slice_get program.structs.items pool.structure) (pool_of program object)

-- an object
abbrev pub member_place : ℕ → Pool → List ℕ
member_place object pool = codes "s->p_" ++ string_bytes pool.name ++ index_text (object - pool.first)

-- an object, by its number
abbrev pub object_place : Typed → ℕ → List ℕ
object_place program object = option_map_or (member_place object) (pool_of program object) []

-- a field of an object
abbrev pub field_name : ℕ → Struct → List ℕ
field_name field x = text_at (λ (y : Field). string_bytes y.name) x.fields.items field

-- the name of a field of an object
abbrev pub field_of : Typed → ℕ → ℕ → List ℕ
field_of program object field = option_map_or (field_name field) (struct_of program object) []

-- a global that is not an array, by its number
abbrev pub global_place : Typed → ℕ → List ℕ
global_place program g = text_at (variable_of program) program.globals.items g

-- what a cell is part of
abbrev pub owner_place : Typed → CellOwner → List ℕ
owner_place program (owner.Global g) = global_place program g
owner_place program (owner.Element array index) = array_text program array ++ index_text index
owner_place program (owner.Field object field) =
    object_place program object ++ codes ".f_" ++ field_of program object field

-- ---- the first values of each object and each global: its locks, and 0 or NULL

-- the statements for the member of a pool at index i
unfoldable pub lock_opened : Pool → LockField → List ℕ
lock_opened pool lock =
    joined (codes "    AL_MUTEX_OPEN(&s->p_" ∷ string_bytes pool.name ∷ codes "[i].l_" ∷ string_bytes lock.name
    ∷ codes ");\n" ∷ [])

-- a final reference becomes NULL
unfoldable pub final_opened : Pool → FinalField → List ℕ
final_opened pool final =
    joined (codes "    s->p_" ∷ string_bytes pool.name ∷ codes "[i].f_" ∷ string_bytes final.name ∷ codes " = NULL;\n"
    ∷ [])

-- a field becomes 0 or NULL
unfoldable pub field_opened : Pool → Field → List ℕ
field_opened pool field =
    joined (codes "    s->p_" ∷ string_bytes pool.name ∷ codes "[i].f_" ∷ string_bytes field.name ∷ codes " = " ∷ [])
    ++ zero_text field.value_type ++ codes ";\n"

-- all lock fields are opened
abbrev pub locks_opened : Pool → Struct → List ℕ
locks_opened pool x = flat_map (lock_opened pool) x.locks.items

-- all final references and fields become 0 or NULL
abbrev pub fields_opened : Pool → Struct → List ℕ
fields_opened pool x = flat_map (final_opened pool) x.finals.items ++ flat_map (field_opened pool) x.fields.items

-- the statements for the member at index i, which has this struct
abbrev pub member_opened : Pool → Struct → List ℕ
member_opened pool x = locks_opened pool x ++ fields_opened pool x

-- the statements for the member at index i, by the pool's struct
abbrev pub members_opened : Typed → Pool → List ℕ
members_opened program pool = text_at (member_opened pool) program.structs.items pool.structure

-- the loop over a pool's members
unfoldable pub pool_opened : Typed → Pool → List ℕ
pool_opened program pool =
    codes "  for (i = 0; i < " ++ decimal pool.length ++ codes "; i++) {\n" ++ members_opened program pool
    ++ codes "  }\n"

-- a global lock is opened; a lock field is opened with its object
abbrev pub class_opened : LockClass → List ℕ
class_opened (class.Global name) = codes "  AL_MUTEX_OPEN(&s->g_" ++ string_bytes name ++ codes ".lock);\n"
class_opened (class.Field structure lock) = []

-- the first value of a cell
abbrev pub cell_zero : Typed → ℕ → List ℕ
cell_zero program cell = text_at (λ (c : Cell). zero_text c.value_type) program.cells.items cell

-- a global becomes 0 or NULL
abbrev pub global_opened : Typed → GlobalVariable → List ℕ
global_opened program x =
    codes "  " ++ variable_of program x ++ codes " = " ++ cell_zero program x.cell ++ codes ";\n"

-- all elements of an array become 0 or NULL
unfoldable pub array_opened : Typed → Array → List ℕ
array_opened program x =
    codes "  for (i = 0; i < " ++ decimal x.length ++ codes "; i++) "
    ++ under_lock program x.class (string_bytes x.name)
    ++ codes "[i] = " ++ zero_text x.element ++ codes ";\n"

-- ---- opening values, and the objects that final references name

-- the statement that sets a cell to a value
abbrev pub assigned : Typed → CellOwner → List ℕ → List ℕ
assigned program owner value = codes "  " ++ owner_place program owner ++ codes " = " ++ value ++ codes ";\n"

-- nothing is written for 0
abbrev pub number_opened : Typed → CellOwner → ℤ → List ℕ
number_opened program owner n = where_true (not (int_eq n (pos 0))) (assigned program owner (number_text n))

-- a cell is set to the address of an object
abbrev pub reference_opened : Typed → CellOwner → ℕ → List ℕ
reference_opened program owner object = assigned program owner (codes "&" ++ object_place program object)

-- nothing is written for null
abbrev pub value_opened : Typed → CellOwner → Value → List ℕ
value_opened program owner (Int n) = number_opened program owner n
value_opened program owner (Ref None) = []
value_opened program owner (Ref (Some object)) = reference_opened program owner object

-- a cell is set to its opening value
abbrev pub cell_opened : Typed → Cell → List ℕ
cell_opened program cell = value_opened program cell.owner cell.opening

-- the object that a final reference names, given its place among those of all objects
abbrev pub named_object : Typed → ℕ → List ℕ
named_object program place = text_at (object_place program) program.shape.finals.items place

-- the final reference of an object is set to the object that it names
abbrev pub final_named : Typed → ℕ → ℕ → FinalField → List ℕ
final_named program object place final =
    codes "  " ++ object_place program object ++ (codes ".f_" ++ string_bytes final.name ++ codes " = &")
    ++ named_object program place
    ++ codes ";\n"

-- the statements for the final references of an object, from the one at a place on
abbrev pub finals_named : Typed → ℕ → ℕ → List FinalField → List ℕ
finals_named program object place finals = numbered (final_named program object) place finals

-- all final references of an object are set
unfoldable pub object_named : Typed → ℕ → Object → List ℕ
object_named program object x =
    option_map_or (λ (y : Struct). finals_named program object x.finals y.finals.items) (struct_of program object) []

-- ---- the functions

-- the first values of all objects, locks, globals and arrays
abbrev pub zeros_text : Typed → List ℕ
zeros_text program =
    flat_map (pool_opened program) program.shape.pools.items ++ flat_map class_opened program.classes.items
    ++ flat_map (global_opened program) program.globals.items
    ++ flat_map (array_opened program) program.shape.arrays.items

-- the final references of all objects are set
abbrev pub all_named : Typed → List ℕ
all_named program = numbered (object_named program) 0 program.shape.objects.items

-- the opening values of all cells, and all final references
abbrev pub values_text : Typed → List ℕ
values_text program = flat_map (cell_opened program) program.cells.items ++ all_named program

-- the function that opens the state
abbrev pub open_text : List ℕ → Typed → List ℕ
open_text prefix program =
    joined (codes "void " ∷ prefix ∷ codes "Open(struct " ∷ prefix ∷ codes "State *s)\n{\n  int64_t i;\n" ∷ [])
    ++ zeros_text program ++ values_text program
    ++ codes "  s->history = NULL;\n  (void)i;\n}\n"

-- the function that returns the size of the state
abbrev pub size_text : List ℕ → List ℕ
size_text prefix =
    joined (codes "size_t " ∷ prefix ∷ codes "Size(void)\n{\n  return sizeof(struct " ∷ prefix ∷ codes "State);\n}\n"
    ∷ [])

-- the function that returns a pool's member, or NULL where the pool does not have this index
unfoldable pub member_text : List ℕ → Typed → Pool → List ℕ
member_text prefix program pool =
    member_prototype prefix program pool ++ (codes "\n{\n  return i >= 0 && i < " ++ decimal pool.length)
    ++ (codes " ? &s->p_" ++ string_bytes pool.name ++ codes "[i] : NULL;\n}\n")

-- the loop that closes a lock field of all members of a pool
unfoldable pub lock_closed : Pool → LockField → List ℕ
lock_closed pool lock =
    (codes "  for (i = 0; i < " ++ decimal pool.length ++ codes "; i++) ")
    ++ joined (codes "AL_MUTEX_CLOSE(&s->p_" ∷ string_bytes pool.name ∷ codes "[i].l_" ∷ string_bytes lock.name
    ∷ codes ");\n" ∷ [])

-- the loops for all lock fields of a pool's struct
abbrev pub locks_closed : Pool → Struct → List ℕ
locks_closed pool x = flat_map (lock_closed pool) x.locks.items

-- the locks of a pool's members are closed
abbrev pub pool_closed : Typed → Pool → List ℕ
pool_closed program pool = text_at (locks_closed pool) program.structs.items pool.structure

-- a global lock is closed; a lock field is closed with its pool
abbrev pub class_closed : LockClass → List ℕ
class_closed (class.Global name) = codes "  AL_MUTEX_CLOSE(&s->g_" ++ string_bytes name ++ codes ".lock);\n"
class_closed (class.Field structure lock) = []

-- all locks are closed
abbrev pub all_closed : Typed → List ℕ
all_closed program =
    flat_map (pool_closed program) program.shape.pools.items ++ flat_map class_closed program.classes.items

-- the function that closes the state
abbrev pub close_text : List ℕ → Typed → List ℕ
close_text prefix program =
    joined (codes "void " ∷ prefix ∷ codes "Close(struct " ∷ prefix ∷ codes "State *s)\n{\n  int64_t i;\n" ∷ [])
    ++ all_closed program
    ++ codes "  (void)i;\n  (void)s;\n}\n"

-- the functions that return the members of all pools
abbrev pub members_text : List ℕ → Typed → List ℕ
members_text prefix program = flat_map (member_text prefix program) program.shape.pools.items

-- all these functions
unfoldable pub openings_text : List ℕ → Typed → List ℕ
openings_text prefix program =
    open_text prefix program ++ size_text prefix ++ members_text prefix program
    ++ close_text prefix program
