-- The types of a program's C text: a struct for each struct, and the state with all that sections read and write.
use Rattle.std.specs.Prelude.{ℕ, ◌==◌, Bool, not, ◌&&◌, max, List, [], ◌∷◌, ◌++◌, length, codes, string_bytes}
use Rattle.std.specs.List.{flat_map, list_any}
use Rattle.std.specs.Fmt.{decimal}
use Rattle.core_lang.specs.declared.shape.Array.{Array}
use Rattle.core_lang.specs.declared.shape.Pool.{Pool}
use Rattle.core_lang.specs.declared.typed.Cell.{Cell}
use Rattle.core_lang.specs.declared.typed.Field.{Field}
use Rattle.core_lang.specs.declared.typed.FinalField.{FinalField}
use Rattle.core_lang.specs.declared.typed.GlobalVariable.{GlobalVariable}
use Rattle.core_lang.specs.declared.typed.LockClass.{LockClass}
use Rattle.core_lang.specs.declared.typed.LockClass.TheVariants as class
use Rattle.core_lang.specs.declared.typed.LockField.{LockField}
use Rattle.core_lang.specs.declared.typed.Struct.{Struct}
use Rattle.core_lang.specs.declared.typed.Typed.{Typed}
use Rattle.code.specs.Listing.{text_at}
use Rattle.c_data.specs.Joined.{joined}
use Rattle.c_statements.specs.Acquires.{numbered}
use Rattle.c_sections.specs.Instructions.{where_true}
use Rattle.c_statements.specs.Names.{struct_type, type_text}

-- ---- the locks beside which fields stand

-- a lock field of the object itself protects a field: no final references lead to it, and it has the class
abbrev pub is_under : LockField → Field → Bool
is_under lock field = (length field.protection.through.items == 0) && (field.protection.class == lock.class)

-- some lock field of the struct protects the field
abbrev pub is_beside : Struct → Field → Bool
is_beside x field = list_any (λ (lock : LockField). is_under lock field) x.locks.items

-- a struct is without members
abbrev pub is_bare : Struct → Bool
is_bare x = (length x.locks.items == 0) && (length x.finals.items == 0) && (length x.fields.items == 0)

-- an array in C has at least one element
abbrev pub room : ℕ → ℕ
room many = max many 1

-- a struct in C has at least one member
abbrev pub filler_text : Struct → List ℕ
filler_text x = where_true (is_bare x) (codes "  char empty;\n")

-- the declaration of a struct's name, and the struct that a section with a reference as its result returns
unfoldable pub announced_text : List ℕ → Struct → List ℕ
announced_text prefix x =
    joined (codes "struct " ∷ prefix ∷ codes "_" ∷ string_bytes x.name ∷ codes ";\nstruct " ∷ prefix ∷ codes "Ref_"
    ∷ string_bytes x.name ∷ [])
    ++ joined (codes " { int trap; struct " ∷ prefix ∷ codes "_" ∷ string_bytes x.name ∷ codes " *value; };\n" ∷ [])

-- over the prefix and the program
module _ (prefix : List ℕ) (program : Typed) where
  -- ---- structs

  -- the member of a struct for a field
  abbrev pub field_text : Field → List ℕ
  field_text field =
      codes "  " ++ type_text prefix program field.value_type ++ codes "f_" ++ string_bytes field.name ++ codes ";\n"

  -- the member of a struct for a final reference
  abbrev pub final_text : FinalField → List ℕ
  final_text final =
      codes "  " ++ struct_type prefix program final.target ++ codes " *f_" ++ string_bytes final.name ++ codes ";\n"

  -- a field that this lock field protects; other fields stand elsewhere
  abbrev pub under_text : LockField → Field → List ℕ
  under_text lock field = where_true (is_under lock field) (field_text field)

  -- the fields that this lock field protects
  abbrev pub all_under_text : Struct → LockField → List ℕ
  all_under_text x lock = flat_map (under_text lock) x.fields.items

  -- a lock field, and after it the fields that it protects
  unfoldable pub locked_text : Struct → LockField → List ℕ
  locked_text x lock =
      codes "  AL_ALIGNED AL_MUTEX l_" ++ string_bytes lock.name ++ codes ";\n" ++ all_under_text x lock

  -- a field that no lock field of the struct protects
  abbrev pub other_text : Struct → Field → List ℕ
  other_text x field = where_true (not (is_beside x field)) (field_text field)

  -- the members of a struct: lock fields with what they protect, final references, other fields
  abbrev pub members_text : Struct → List ℕ
  members_text x =
      flat_map (locked_text x) x.locks.items ++ flat_map final_text x.finals.items
      ++ flat_map (other_text x) x.fields.items
      ++ filler_text x

  -- a struct
  abbrev pub struct_text : Struct → List ℕ
  struct_text x =
      joined (codes "struct " ∷ prefix ∷ codes "_" ∷ string_bytes x.name ∷ codes " {\n" ∷ []) ++ members_text x
      ++ codes "};\n"

  -- ---- the state

  -- a pool
  abbrev pub pool_text : Pool → List ℕ
  pool_text pool =
      codes "  " ++ struct_type prefix program pool.structure
      ++ joined (codes " p_" ∷ string_bytes pool.name ∷ codes "[" ∷ decimal (room pool.length) ∷ codes "];\n" ∷ [])

  -- the type of a cell
  abbrev pub cell_type : ℕ → List ℕ
  cell_type cell = text_at (λ (c : Cell). type_text prefix program c.value_type) program.cells.items cell

  -- a global, if the lock of a class protects it
  abbrev pub global_text : ℕ → GlobalVariable → List ℕ
  global_text k x =
      where_true (x.class == k) (codes "    " ++ cell_type x.cell ++ codes "x_" ++ string_bytes x.name ++ codes ";\n")

  -- an array, if the lock of a class protects it
  abbrev pub array_text : ℕ → Array → List ℕ
  array_text k x =
      where_true (x.class == k) (codes "    " ++ type_text prefix program x.element
      ++ joined (codes "x_" ∷ string_bytes x.name ∷ codes "[" ∷ decimal (room x.length) ∷ codes "];\n" ∷ []))

  -- the globals and arrays that the lock of a class protects
  abbrev pub protected_text : ℕ → List ℕ
  protected_text k =
      flat_map (global_text k) program.globals.items ++ flat_map (array_text k) program.shape.arrays.items

  -- a global lock whose class has this number, and what it protects
  abbrev pub lock_text : ℕ → List ℕ → List ℕ
  lock_text k name =
      codes "  struct {\n    AL_ALIGNED AL_MUTEX lock;\n" ++ protected_text k ++ (codes "  } g_" ++ name
      ++ codes ";\n")

  -- the class with this number; a lock field is a member of its struct
  abbrev pub class_text : ℕ → LockClass → List ℕ
  class_text k (class.Global name) = lock_text k (string_bytes name)
  class_text k (class.Field structure lock) = []

  -- the members of the state: pools, and global locks with what they protect
  abbrev pub state_members : List ℕ
  state_members = flat_map pool_text program.shape.pools.items ++ numbered class_text 0 program.classes.items

  -- the struct of the state
  abbrev pub state_text : List ℕ
  state_text =
      codes "struct " ++ prefix ++ codes "State {\n" ++ state_members
      ++ codes "  struct autolock_history *history;\n};\n"

  -- ---- what the file offers besides the sections

  -- the function that returns a pool's members
  abbrev pub member_prototype : Pool → List ℕ
  member_prototype pool =
      struct_type prefix program pool.structure
      ++ joined (codes " *" ∷ prefix ∷ codes "_" ∷ string_bytes pool.name ∷ codes "(struct " ∷ prefix
      ∷ codes "State *s, int64_t i)" ∷ [])

  -- the prototype of that function
  abbrev pub member_declared : Pool → List ℕ
  member_declared pool = member_prototype pool ++ codes ";\n"

  -- the prototypes for all pools
  abbrev pub members_declared : List ℕ
  members_declared = flat_map member_declared program.shape.pools.items

  -- the functions of a history
  unfoldable pub histories_declared : List ℕ
  histories_declared =
      joined (codes "#ifdef AL_HISTORY\nint " ∷ prefix ∷ codes "HistoryOpen(struct " ∷ prefix
      ∷ codes "State *s);\n" ∷ [])
      ++ joined (codes "int64_t " ∷ prefix ∷ codes "Seat(struct " ∷ prefix ∷ codes "State *s);\n" ∷ [])
      ++ joined (codes "int " ∷ prefix ∷ codes "HistoryWrite(FILE *f, struct " ∷ prefix ∷ codes "State *s);\n" ∷ [])
      ++ joined (codes "void " ∷ prefix ∷ codes "HistoryClose(struct " ∷ prefix ∷ codes "State *s);\n#endif\n" ∷ [])

  -- the prototypes of the functions for the state, histories and pools
  abbrev pub functions_text : List ℕ
  functions_text =
      joined (codes "void " ∷ prefix ∷ codes "Open(struct " ∷ prefix ∷ codes "State *s);\n" ∷ [])
      ++ joined (codes "void " ∷ prefix ∷ codes "Close(struct " ∷ prefix ∷ codes "State *s);\n" ∷ [])
      ++ (codes "size_t " ++ prefix ++ codes "Size(void);\n") ++ histories_declared ++ members_declared

  -- all types, and these functions
  unfoldable pub types_text : List ℕ
  types_text =
      flat_map (announced_text prefix) program.structs.items ++ flat_map struct_text program.structs.items
      ++ state_text ++ functions_text
