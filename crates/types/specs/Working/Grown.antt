-- A program that grows in place.
use Rattle.std.specs.Prelude.{Bool, true, false, Option, Some, None}
use Rattle.core_lang.specs.declared.typed.Typed.{Typed}
use Rattle.resolution.specs.Core as core
use Rattle.resolution.specs.CoreViews.{core_of}
use Rattle.resolution.specs.Working.Building as resolution
use Rattle.types.specs.Working.StructBuilders.{builder_of}
use Rattle.types.specs.declared.grown.ProgramBuilder as the_grown
use Rattle.types.specs.declared.struct_builder.StructBuilder as s

-- the data of what was built, if it has no fault
abbrev pub if_right : Bool → Typed → Option core.Program
if_right true t = Some (core_of t)
if_right false t = None

abbrev pub built : the_grown.ProgramBuilder → Option core.Program
built g = if_right g.is_right g.program

-- the data of a struct that was built, if it has no fault
abbrev pub shaped : Bool → s.StructBuilder → Option resolution.StructBuilder
shaped true st = Some (builder_of st)
shaped false st = None
