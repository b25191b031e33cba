-- The function of a program's C text that writes the cells as the history has them: a global by itself, an array and a
-- pool by a loop over the index i.
use Rattle.std.specs.Prelude.{ℕ, ◌==◌, List, [], ◌++◌, codes, string_bytes}
use Rattle.std.specs.List.{flat_map}
use Rattle.std.specs.Option.{option_map_or}
use Rattle.std.specs.Fmt.{decimal}
use Rattle.core_lang.specs.declared.shape.Array.{Array}
use Rattle.core_lang.specs.declared.shape.Pool.{Pool}
use Rattle.core_lang.specs.declared.typed.Cell.{Cell}
use Rattle.core_lang.specs.declared.typed.Field.{Field}
use Rattle.core_lang.specs.declared.typed.GlobalVariable.{GlobalVariable}
use Rattle.core_lang.specs.declared.typed.CellOwner.{CellOwner}
use Rattle.core_lang.specs.declared.typed.CellOwner.TheVariants as owner
use Rattle.core_lang.specs.declared.typed.Struct.{Struct}
use Rattle.core_lang.specs.declared.typed.Typed.{Typed}
use Rattle.core_lang.specs.declared.value.ValueType.{ValueType}
use Rattle.core_lang.specs.declared.value.ValueType.TheVariants.{Integer, Reference}
use Rattle.locks.specs.Texts.{struct_name}
use Rattle.code.specs.Listing.{text_at}
use Rattle.c_sections.specs.Instructions.{where_true}
use Rattle.c_statements.specs.Names.{under_lock, variable_of}
use Rattle.c_data.specs.Openings.{pool_of}
use Rattle.c_data.specs.Pools.{state_pointer}

-- the start of a loop over the index i
abbrev pub loop_text : ℕ → List ℕ
loop_text count = codes "  for (i = 0; i < " ++ decimal count ++ codes "; i++) {\n"

-- the place of a field of a pool's member at index i
abbrev pub field_place : Pool → Field → List ℕ
field_place pool y = codes "s->p_" ++ string_bytes pool.name ++ codes "[i].f_" ++ string_bytes y.name

-- the label of a field of a pool's member at index i
abbrev pub field_label : Pool → Field → List ℕ
field_label pool y =
    codes "    fprintf(f, \"" ++ string_bytes pool.name ++ codes "[%\" PRId64 \"]." ++ string_bytes y.name ++ codes " \", i);\n"

-- the label of an array's element at index i
abbrev pub array_label : Array → List ℕ
array_label x = codes "    fprintf(f, \"" ++ string_bytes x.name ++ codes "[%\" PRId64 \"] \", i);\n"

-- the label of a global
abbrev pub global_label : GlobalVariable → List ℕ
global_label x = codes "  fputs(\"" ++ string_bytes x.name ++ codes " \", f);\n"

-- over the prefix and the program
module _ (prefix : List ℕ) (program : Typed) where
  -- the statement that writes the value at a place, and ends the line
  abbrev pub value_text : ValueType → List ℕ → List ℕ
  value_text Integer place = codes "    fprintf(f, \"%\" PRId64 \"\\n\", " ++ place ++ codes ");\n"
  value_text (Reference s) place =
      codes "    " ++ prefix ++ codes "Write_" ++ struct_name program s ++ codes "(f, s, " ++ place
      ++ codes ");\n    fputs(\"\\n\", f);\n"

  -- the statements that write a global
  unfoldable pub global_shown : ValueType → GlobalVariable → List ℕ
  global_shown t x = global_label x ++ value_text t (variable_of program x)

  -- the place of an array's element at index i
  abbrev pub array_place : Array → List ℕ
  array_place x = under_lock program x.class (string_bytes x.name) ++ codes "[i]"

  -- the statements that write an array's element at index i
  unfoldable pub element_shown : Array → List ℕ
  element_shown x = array_label x ++ value_text x.element (array_place x)

  -- the loop that writes an array
  unfoldable pub array_shown : Array → List ℕ
  array_shown x = loop_text x.length ++ element_shown x ++ codes "  }\n"

  -- the statements that write a field of a pool's member at index i
  unfoldable pub field_shown : Pool → Field → List ℕ
  field_shown pool y = field_label pool y ++ value_text y.value_type (field_place pool y)

  -- the statements that write all fields of a pool's member at index i
  abbrev pub fields_shown : Pool → Struct → List ℕ
  fields_shown pool x = flat_map (field_shown pool) x.fields.items

  -- the same, by the pool's struct
  abbrev pub members_shown : Pool → List ℕ
  members_shown pool = text_at (fields_shown pool) program.structs.items pool.structure

  -- the loop that writes a pool
  unfoldable pub pool_shown : Pool → List ℕ
  pool_shown pool = loop_text pool.length ++ members_shown pool ++ codes "  }\n"

  -- the loop for an object's pool, where the object is its first member
  abbrev pub shown_from : ℕ → Pool → List ℕ
  shown_from object pool = where_true (pool.first == object) (pool_shown pool)

  -- the loop for an object's pool, where the object is the first of the pool
  abbrev pub object_shown : ℕ → List ℕ
  object_shown object = option_map_or (shown_from object) (pool_of program object) []

  -- a cell's global; or its array or pool, where the cell is its first one
  abbrev pub owner_shown : ValueType → CellOwner → List ℕ
  owner_shown t (owner.Global g) = text_at (global_shown t) program.globals.items g
  owner_shown t (owner.Element array index) = where_true (index == 0) (text_at array_shown program.shape.arrays.items array)
  owner_shown t (owner.Field object field) = where_true (field == 0) (object_shown object)

  -- the statements that begin at this cell, if some do
  abbrev pub cell_shown : Cell → List ℕ
  cell_shown cell = owner_shown cell.value_type cell.owner

  -- the statements for all cells
  abbrev pub all_cells : List ℕ
  all_cells = flat_map cell_shown program.cells.items

  -- the start of the function's head
  unfoldable pub cells_name : List ℕ
  cells_name = codes "static void " ++ prefix ++ codes "Cells(FILE *f, "

  -- the head of the function, and its first statements
  unfoldable pub cells_head : List ℕ
  cells_head =
      cells_name ++ state_pointer prefix
      ++ codes ")\n{\n  int64_t i = 0;\n  (void)s;\n  (void)i;\n  fputs(\"cells\\n\", f);\n"

  -- the function that writes the cells
  unfoldable pub cells_text : List ℕ
  cells_text = cells_head ++ all_cells ++ codes "  fputs(\"end\\n\", f);\n}\n"
