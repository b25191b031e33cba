-- Objects, as values of the code stand for them.
use Rattle.std.specs.Prelude.{ℕ, List, Option}
use Rattle.syntax.specs.Trees.{Decl, Member, lock_member, final_member, field_member}
use Rattle.core_lang.specs.declared.typed.CellOwner.TheVariants as owner
use Rattle.resolution.specs.Core as core
use Rattle.resolution.specs.Scopes.{◌>>=◌, outside, type_of, struct_named}
use Rattle.resolution.specs.Working.TypedConstants.{referred}
use Rattle.resolution.specs.Working.Building.{Slot, slot_given, final_cell, field_cell, opening_of}
use Rattle.types.specs.declared.pool.Slot as s

abbrev pub slot_of : s.Slot → Slot
slot_of s = record { pool = s.pool; index = s.index; object = s.object }

-- the program with one more member of an object
abbrev pub member_with : List Decl → Slot → ℕ → ℕ → Option core.Program → Member → Option core.Program
member_with decls slot place fields p (lock_member x) = p
member_with decls slot place fields p (final_member f) = p >>= λ q. final_cell q (referred decls (struct_named decls f.target) (slot_given decls slot place))
member_with decls slot place fields p (field_member f) =
    p >>= λ q. field_cell q (owner.Field slot.object fields) (type_of (outside decls) f.value_type) (opening_of decls (type_of (outside decls) f.value_type) (slot_given decls slot place))
