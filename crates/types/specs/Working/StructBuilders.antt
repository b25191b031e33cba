-- Structs, as values of the code stand for them.
use Rattle.std.specs.Prelude.{map}
use Rattle.resolution.specs.CoreViews.{core_struct, core_class}
use Rattle.resolution.specs.Working.Building.{StructBuilder}
use Rattle.types.specs.declared.struct_builder.StructBuilder as s

abbrev pub builder_of : s.StructBuilder → StructBuilder
builder_of s = record { structure = core_struct s.structure; classes = map core_class s.classes.items }
