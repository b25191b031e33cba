-- Declarations, as values of the code stand for them.
use Rattle.std.specs.Prelude.{ℕ, List, map, Option, Some, option_map}
use Rattle.resolution.specs.declared.finding.Finding.{Finding}
use Rattle.syntax.specs.declared.tree.Member.{Member}
use Rattle.syntax.specs.declared.tree.Name.{Name}
use Rattle.syntax.specs.declared.tree.Pool.{Pool}
use Rattle.syntax.specs.Trees.{Decl}
use Rattle.syntax.specs.Views.{ident, member_of, pool_of}
use Rattle.core_lang.specs.declared.value.ValueType.{ValueType}
use Rattle.core_lang.specs.declared.typed.Protection.{Protection}
use Rattle.core_lang.specs.declared.typed.Typed.{Typed}
use Rattle.resolution.specs.Core as core
use Rattle.resolution.specs.CoreViews.{core_of, core_protection}
use Rattle.resolution.specs.Constants.{members_of}
use Rattle.resolution.specs.Working.Building.{extended, with_members, with_object, with_objects, StructBuilder}
use Rattle.resolution.specs.Working.Building.{field_added}
use Rattle.resolution.specs.Working.Building.{member_added, members_added}
use Rattle.resolution.specs.Working.FaultLists.{member_faults, members_faults, missing_faults}
use Rattle.types_symbols.specs.declared.members.Structure.{Structure}
use Rattle.types_symbols.specs.declared.table.SymbolTable.{SymbolTable}
use Rattle.types_symbols.specs.Working.Views.{decls_of, members_seen}
use Rattle.types.specs.declared.grown.Builder.{Builder}
use Rattle.types.specs.declared.pool.MemberPlace.{MemberPlace}
use Rattle.types.specs.declared.pool.PoolPlace.{PoolPlace}
use Rattle.types.specs.declared.pool.Slot.{Slot}
use Rattle.types.specs.declared.struct_builder.StructBuilder as s
use Rattle.types.specs.declared.struct_builder.StructPlace.{StructPlace}
use Rattle.types.specs.Working.Slots.{slot_of, member_with}
use Rattle.types.specs.Working.StructBuilders.{builder_of}

-- the declarations, as a builder knows them
abbrev pub known : Builder → List Decl
known b = decls_of b.symbols.now

-- ---- the program so far

-- the program with one more declaration, which has this place
abbrev pub extended_of : Builder → ℕ → Typed → Decl → Option core.Program
extended_of b place program d = extended (known b) place (core_of program) d

-- the program with one more member of an object
abbrev pub with_member_of : Builder → Slot → MemberPlace → Typed → Member → Option core.Program
with_member_of b slot at program m = member_with (known b) (slot_of slot) at.place at.fields (Some (core_of program)) (member_of m)

-- the program with all members of an object
abbrev pub with_members_of : Builder → Slot → Typed → List Member → Option core.Program
with_members_of b slot program ms = with_members (known b) (slot_of slot) 0 0 (Some (core_of program)) (map member_of ms)

-- the program with the object of this index in a pool
abbrev pub with_object_of : Builder → PoolPlace → Typed → ℕ → Option core.Program
with_object_of b p program index = with_object (known b) p.place p.number (map member_of p.members.now) index (core_of program)

-- the program with the given number of objects of a pool
abbrev pub with_objects_of : Builder → PoolPlace → Typed → ℕ → Option core.Program
with_objects_of b p program n = with_objects (known b) p.place p.number (map member_of p.members.now) (Some (core_of program)) n

-- ---- the struct so far

-- the struct with one more field, if its type and its annotation have no fault
abbrev pub field_added_of : s.StructBuilder → Name → Option ValueType → Option Protection → Option StructBuilder
field_added_of st name t p = field_added (builder_of st) (ident name).text t (option_map core_protection p)

-- the struct with one more member
abbrev pub member_added_of : Builder → StructPlace → s.StructBuilder → Member → Option StructBuilder
member_added_of b here st m = member_added (known b) here.number here.place (members_seen here.table.now) (Some (builder_of st)) (member_of m)

-- the struct with further members, one after another
abbrev pub members_added_of : Builder → StructPlace → s.StructBuilder → List Member → Option StructBuilder
members_added_of b here st ms = members_added (known b) here.number here.place (members_seen here.table.now) (Some (builder_of st)) (map member_of ms)

-- ---- faults

-- the faults of a member of the struct at a place
abbrev pub member_faults_of : Builder → ℕ → Structure → Member → List Finding
member_faults_of b place structure m = member_faults (known b) place (members_seen structure) (member_of m)

-- the faults of members of the struct at a place
abbrev pub members_faults_of : Builder → ℕ → Structure → List Member → List Finding
members_faults_of b place structure ms = members_faults (known b) place (members_seen structure) (map member_of ms)

-- the fault of the pool at a place, if a final reference has no `init`
abbrev pub missing_faults_of : SymbolTable → ℕ → Pool → List Finding
missing_faults_of symbols place p = missing_faults (decls_of symbols) place (pool_of p) (members_of (decls_of symbols) (pool_of p).target)
