-- The names in the C text of a program. A number that names nothing in the program leaves no text.
use Rattle.std.specs.Prelude.{ℕ, ℤ, pos, negsuc, List, [], ◌++◌, codes, string_bytes}
use Rattle.std.specs.Fmt.{decimal}
use Rattle.core_lang.specs.declared.shape.Array.{Array}
use Rattle.core_lang.specs.declared.shape.Pool.{Pool}
use Rattle.core_lang.specs.declared.tree.Local.{Local}
use Rattle.core_lang.specs.declared.tree.Section.{Section}
use Rattle.core_lang.specs.declared.typed.Cell.{Cell}
use Rattle.core_lang.specs.declared.typed.Field.{Field}
use Rattle.core_lang.specs.declared.typed.FinalField.{FinalField}
use Rattle.core_lang.specs.declared.typed.GlobalVariable.{GlobalVariable}
use Rattle.core_lang.specs.declared.typed.CellOwner.{CellOwner}
use Rattle.core_lang.specs.declared.typed.CellOwner.TheVariants as owner
use Rattle.core_lang.specs.declared.typed.Struct.{Struct}
use Rattle.core_lang.specs.declared.typed.Typed.{Typed}
use Rattle.core_lang.specs.declared.value.ValueType.{ValueType}
use Rattle.core_lang.specs.declared.value.ValueType.TheVariants.{Integer, Reference}
use Rattle.c_language.specs.declared.statement.StructMember.{StructMember}
use Rattle.c_language.specs.declared.statement.Temporary.{Temporary}
use Rattle.locks.specs.Texts.{class_name, struct_name}
use Rattle.code.specs.Listing.{text_at}

-- ---- after the prefix

-- a name of the program
abbrev pub named : List ℕ → List ℕ → List ℕ
named prefix name = prefix ++ codes "_" ++ name

-- a word of the file's own. It begins with a capital, so that it differs from all names of the program
abbrev pub own : List ℕ → List ℕ → List ℕ
own prefix word = prefix ++ word

-- ---- types and values

-- the type of a struct
abbrev pub struct_type : List ℕ → Typed → ℕ → List ℕ
struct_type prefix program s = codes "struct " ++ named prefix (struct_name program s)

-- what precedes a variable of a type
abbrev pub type_text : List ℕ → Typed → ValueType → List ℕ
type_text prefix program Integer = codes "int64_t "
type_text prefix program (Reference s) = struct_type prefix program s ++ codes " *"

-- the initial value of a variable of a type
abbrev pub zero_text : ValueType → List ℕ
zero_text Integer = codes "0"
zero_text (Reference s) = codes "NULL"

-- a number. C has no negative ones: -(m + 1) is written by m, since m + 1 may not fit into 64 bits
abbrev pub number_text : ℤ → List ℕ
number_text (pos n) = codes "INT64_C(" ++ decimal n ++ codes ")"
number_text (negsuc m) = codes "(-INT64_C(" ++ decimal m ++ codes ") - 1)"

-- ---- variables

-- a parameter or local, by its number
abbrev pub local_text : ℕ → Local → List ℕ
local_text k local = codes "v" ++ decimal k ++ codes "_" ++ string_bytes local.name

-- the parameter or local of this number
abbrev pub variable_text : Section → ℕ → List ℕ
variable_text section k = text_at (local_text k) section.locals.items k

-- a temporary, by its height and its type
abbrev pub height_text : Typed → ℕ → ValueType → List ℕ
height_text program height Integer = codes "n" ++ decimal height
height_text program height (Reference s) = codes "p" ++ decimal height ++ codes "_" ++ struct_name program s

-- a temporary
abbrev pub temporary_text : Typed → Temporary → List ℕ
temporary_text program t = height_text program t.height t.holds

-- ---- the members of the state

-- the member of the state for a global lock
abbrev pub lock_member : Typed → ℕ → List ℕ
lock_member program class = codes "s->g_" ++ class_name program class

-- a global that a global lock protects, by its name
abbrev pub under_lock : Typed → ℕ → List ℕ → List ℕ
under_lock program class name = lock_member program class ++ codes ".x_" ++ name

-- a global that is not an array
abbrev pub variable_of : Typed → GlobalVariable → List ℕ
variable_of program x = under_lock program x.class (string_bytes x.name)

-- the global that owns a cell
abbrev pub owner_text : Typed → CellOwner → List ℕ
owner_text program (owner.Global g) = text_at (variable_of program) program.globals.items g
owner_text program (owner.Element array index) = []
owner_text program (owner.Field object field) = []

-- the global that has a cell
abbrev pub global_text : Typed → ℕ → List ℕ
global_text program cell = text_at (λ (c : Cell). owner_text program c.owner) program.cells.items cell

-- an array
abbrev pub array_text : Typed → ℕ → List ℕ
array_text program k =
    text_at (λ (x : Array). under_lock program x.class (string_bytes x.name)) program.shape.arrays.items k

-- a pool
abbrev pub pool_text : Typed → ℕ → List ℕ
pool_text program k = codes "s->p_" ++ text_at (λ (x : Pool). string_bytes x.name) program.shape.pools.items k

-- the length of an array
abbrev pub array_length : Typed → ℕ → List ℕ
array_length program k = text_at (λ (x : Array). decimal x.length) program.shape.arrays.items k

-- the length of a pool
abbrev pub pool_length : Typed → ℕ → List ℕ
pool_length program k = text_at (λ (x : Pool). decimal x.length) program.shape.pools.items k

-- ---- members of structs

-- a field of a struct
abbrev pub field_of : Struct → ℕ → List ℕ
field_of x f = text_at (λ (y : Field). string_bytes y.name) x.fields.items f

-- a final reference of a struct
abbrev pub final_of : Struct → ℕ → List ℕ
final_of x f = text_at (λ (y : FinalField). string_bytes y.name) x.finals.items f

-- a field, after the pointer to an object
abbrev pub field_text : Typed → StructMember → List ℕ
field_text program x = codes "->f_" ++ text_at (λ (y : Struct). field_of y x.number) program.structs.items x.structure

-- a final reference, after the pointer to an object
abbrev pub final_text : Typed → StructMember → List ℕ
final_text program x = codes "->f_" ++ text_at (λ (y : Struct). final_of y x.number) program.structs.items x.structure
