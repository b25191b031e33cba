-- What the code writes of cells, in the words of `Cells`. Nobody has to believe these.
use Rattle.std.specs.Prelude.{ℕ, List, ◌++◌, codes}
use Rattle.core_lang.specs.declared.shape.Array.{Array}
use Rattle.core_lang.specs.declared.shape.Pool.{Pool}
use Rattle.core_lang.specs.declared.typed.Cell.{Cell}
use Rattle.core_lang.specs.declared.typed.Field.{Field}
use Rattle.core_lang.specs.declared.typed.GlobalVariable.{GlobalVariable}
use Rattle.core_lang.specs.declared.typed.CellOwner.{CellOwner}
use Rattle.core_lang.specs.declared.typed.Struct.{Struct}
use Rattle.core_lang.specs.declared.value.ValueType.{ValueType}
use Rattle.core_lang.specs.declared.value.ValueType.TheVariants.{Integer, Reference}
use Rattle.code.specs.Listing.{text_at}
use Rattle.locks.specs.Texts.{struct_name}
use Rattle.c_data.specs.declared.writer.DataWriter.{DataWriter}
use Rattle.c_data.specs.Cells as text

-- the line that writes a value: the text before the value's place, the place, and the text after it
abbrev pub before_of : DataWriter → ValueType → List ℕ
before_of x Integer = codes "    fprintf(f, \"%\" PRId64 \"\\n\", "
before_of x (Reference s) =
    codes "    " ++ x.names.prefix.now ++ codes "Write_" ++ struct_name x.names.program.now s ++ codes "(f, s, "

abbrev pub behind_of : ValueType → List ℕ
behind_of Integer = codes ");\n"
behind_of (Reference s) = codes ");\n    fputs(\"\\n\", f);\n"

abbrev pub global_of : DataWriter → ValueType → GlobalVariable → List ℕ
global_of x t g = text.global_shown x.names.prefix.now x.names.program.now t g

abbrev pub array_place_of : DataWriter → Array → List ℕ
array_place_of x array = text.array_place x.names.prefix.now x.names.program.now array

abbrev pub element_of : DataWriter → Array → List ℕ
element_of x array = text.element_shown x.names.prefix.now x.names.program.now array

abbrev pub array_of : DataWriter → Array → List ℕ
array_of x array = text.array_shown x.names.prefix.now x.names.program.now array

abbrev pub field_of : DataWriter → Pool → Field → List ℕ
field_of x pool field = text.field_shown x.names.prefix.now x.names.program.now pool field

abbrev pub fields_of : DataWriter → Pool → Struct → List ℕ
fields_of x pool structure = text.fields_shown x.names.prefix.now x.names.program.now pool structure

abbrev pub members_of : DataWriter → Pool → List ℕ
members_of x pool = text.members_shown x.names.prefix.now x.names.program.now pool

abbrev pub pool_shown_of : DataWriter → Pool → List ℕ
pool_shown_of x pool = text.pool_shown x.names.prefix.now x.names.program.now pool

abbrev pub from_of : DataWriter → ℕ → Pool → List ℕ
from_of x object pool = text.shown_from x.names.prefix.now x.names.program.now object pool

abbrev pub object_of : DataWriter → ℕ → List ℕ
object_of x object = text.object_shown x.names.prefix.now x.names.program.now object

abbrev pub global_at : DataWriter → ValueType → ℕ → List ℕ
global_at x t g = text_at (global_of x t) x.names.program.now.globals.items g

abbrev pub array_at : DataWriter → ℕ → List ℕ
array_at x array = text_at (array_of x) x.names.program.now.shape.arrays.items array

abbrev pub owner_of : DataWriter → ValueType → CellOwner → List ℕ
owner_of x t o = text.owner_shown x.names.prefix.now x.names.program.now t o

abbrev pub cell_of : DataWriter → Cell → List ℕ
cell_of x cell = text.cell_shown x.names.prefix.now x.names.program.now cell

abbrev pub cells_of : DataWriter → List ℕ
cells_of x = text.all_cells x.names.prefix.now x.names.program.now

abbrev pub name_of : DataWriter → List ℕ
name_of x = text.cells_name x.names.prefix.now x.names.program.now

abbrev pub head_of : DataWriter → List ℕ
head_of x = text.cells_head x.names.prefix.now x.names.program.now
