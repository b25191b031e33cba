-- The program that a tree stands for, as it is built: one declaration after another, until one has no type. `Tables`
-- defines the program; `resolved_by_rules` of src/laws.rt ties the two together.
use Rattle.std.specs.Prelude.{ℕ, zero, suc, ◌+◌, List, [], ◌∷◌, ◌++◌, length, nat_le, Bool, Option, Some, None}
use Rattle.std.specs.Prelude.{if◌then◌else◌}
use Rattle.syntax.specs.Trees.{Item, call, repeat, Items, no_items, item}
use Rattle.syntax.specs.Trees.{Const, Variable, Array, Member, lock_member, final_member, field_member, Decl, lock}
use Rattle.syntax.specs.Trees.{struct, global, array, pool, init, atomic, helper, thread}
use Rattle.core_lang.specs.declared.value.Value.{Value}
use Rattle.core_lang.specs.declared.value.ValueType as core_type
use Rattle.core_lang.specs.declared.typed.CellOwner.{CellOwner}
use Rattle.core_lang.specs.declared.typed.CellOwner.TheVariants as owner
use Rattle.resolution.specs.Core as core
use Rattle.resolution.specs.Limits.{CALL_LIMIT, section_limits, helper_limits, object_at, cell_at, final_at}
use Rattle.resolution.specs.Scopes.{◌>>=◌, outside, the_decl, number_at, type_of, struct_named}
use Rattle.resolution.specs.Numbers.{total, calls_of}
use Rattle.resolution.specs.Constants.{members_of, given, default_of}
use Rattle.resolution.specs.Working.TypedConstants.{typed_arguments, opened, referred}
use Rattle.resolution.specs.Annotations.{class_of, protection_of}
use Rattle.resolution.specs.Working.TypedSections.{typed_section}
use Rattle.resolution.specs.Tables.{nothing_yet, copies}

-- ---- threads

-- a call of a section, with a fitting argument for each of its parameters
abbrev pub call_of : List Decl → Option (ℕ × Decl) → List Const → Option core.Call
call_of decls (Some (i, atomic s)) cs = typed_arguments decls s.params cs >>= λ vs. Some (record { section = number_at decls i (atomic s); arguments = vs })
call_of decls _ cs = None

abbrev pub joined : {A : Type 0} → Option (List A) → Option (List A) → Option (List A)
joined (Some xs) (Some ys) = Some (xs ++ ys)
joined (Some xs) None = None
joined None ys = None

abbrev pub one_call : Option core.Call → Option (List core.Call)
one_call (Some c) = Some (c ∷ [])
one_call None = None

-- the calls of a thread's items, with each `repeat` expanded
abbrev mutual
  pub typed_item : List Decl → Item → Option (List core.Call)
  typed_item decls (call c) = one_call (call_of decls (the_decl decls c.section.text) c.arguments)
  typed_item decls (repeat n is) = typed_items decls is >>= λ calls. Some (copies n.value calls)

  pub typed_items : List Decl → Items → Option (List core.Call)
  typed_items decls no_items = Some []
  typed_items decls (item i is) = joined (typed_item decls i) (typed_items decls is)

-- all threads together keep the limit of calls
abbrev pub few_calls : List Decl → Bool
few_calls decls = nat_le (total calls_of decls) CALL_LIMIT

-- a thread's calls, if all threads together keep the limit of calls
abbrev pub typed_calls : List Decl → Items → Option (List core.Call)
typed_calls decls is = if few_calls decls then typed_items decls is else None

-- ---- structs

-- a struct with some of its members, and the lock classes so far
pub record StructBuilder : Type 0 where
  pub structure : core.Struct
  pub classes : List core.LockClass

-- the struct with number k and a further lock field, which has the next class
abbrev pub lock_added : ℕ → StructBuilder → List ℕ → StructBuilder
lock_added k st name = record {
  structure = record (st.structure) { locks = st.structure.locks ++ record { name = name; class = length st.classes } ∷ [] };
  classes = st.classes ++ core.lock_field k (length st.structure.locks) ∷ [];
}

abbrev pub final_added : StructBuilder → List ℕ → Option ℕ → Option StructBuilder
final_added st name (Some target) = Some (record st { structure = record (st.structure) { finals = st.structure.finals ++ record { name = name; target = target } ∷ [] } })
final_added st name None = None

abbrev pub field_added : StructBuilder → List ℕ → Option core_type.ValueType → Option core.Protection →
    Option StructBuilder
field_added st name (Some t) (Some p) = Some (record st { structure = record (st.structure) { fields = st.structure.fields ++ record { name = name; value_type = t; protection = p } ∷ [] } })
field_added st name (Some t) None = None
field_added st name None p = None

-- the struct with one more member; it has number k, this place and these members
abbrev pub member_added : List Decl → ℕ → ℕ → List Member → Option StructBuilder → Member → Option StructBuilder
member_added decls k i ms (Some st) (lock_member x) = Some (lock_added k st x.text)
member_added decls k i ms (Some st) (final_member f) = final_added st f.name.text (struct_named decls f.target)
member_added decls k i ms (Some st) (field_member f) = field_added st f.name.text (type_of (outside decls) f.value_type) (protection_of decls i ms f.protection)
member_added decls k i ms None m = None

-- the struct with further members, one after another
abbrev pub members_added : List Decl → ℕ → ℕ → List Member → Option StructBuilder → List Member → Option StructBuilder
members_added decls k i all st [] = st
members_added decls k i all st (m ∷ ms) = members_added decls k i all (member_added decls k i all st m) ms

abbrev pub empty_struct : List ℕ → core.Struct
empty_struct name = record { name = name; locks = []; finals = []; fields = [] }

-- ---- programs

abbrev pub with_class : core.Program → core.LockClass → core.Program
with_class p c = record p { classes = p.classes ++ c ∷ [] }

abbrev pub with_struct : core.Program → Option StructBuilder → Option core.Program
with_struct p (Some st) = Some (record p { classes = st.classes; structs = p.structs ++ st.structure ∷ [] })
with_struct p None = None

abbrev pub with_cell : core.Program → CellOwner → core_type.ValueType → Value → core.Program
with_cell p o t v = record p { cells = p.cells ++ record { owner = o; value_type = t; opening = v } ∷ [] }

abbrev pub with_section : core.Program → Option core.Section → Option core.Program
with_section p (Some s) = Some (record p { sections = p.sections ++ s ∷ [] })
with_section p None = None

abbrev pub with_helper : core.Program → Option core.Section → Option core.Program
with_helper p (Some s) = Some (record p { helpers = p.helpers ++ s ∷ [] })
with_helper p None = None

abbrev pub with_thread : core.Program → List ℕ → Option (List core.Call) → Option core.Program
with_thread p name (Some calls) = Some (record p { threads = p.threads ++ record { name = name; calls = calls } ∷ [] })
with_thread p name None = None

-- the program with a further global, which has the next cell
abbrev pub global_added : core.Program → List ℕ → ℕ → ℕ → core_type.ValueType → Value → core.Program
global_added p name cell class t v = with_cell (record p { globals = p.globals ++ record { name = name; cell = cell; class = class } ∷ [] }) (owner.Global (length p.globals)) t v

abbrev pub with_global : core.Program → List ℕ → Option ℕ → Option core_type.ValueType → Option Value →
    Option core.Program
with_global p name (Some class) (Some t) (Some v) = cell_at (length p.cells) >>= λ cell. Some (global_added p name cell class t v)
with_global p name (Some class) (Some t) None = None
with_global p name (Some class) None v = None
with_global p name None t v = None

-- the initial value of a global, if its type has no fault
abbrev pub opening_of : List Decl → Option core_type.ValueType → Option Const → Option Value
opening_of decls (Some t) c = opened decls t c
opening_of decls None c = None

abbrev pub global_with : List Decl → core.Program → Variable → Option core.Program
global_with decls p v = with_global p v.name.text (class_of decls v.protection) (type_of (outside decls) v.value_type) (opening_of decls (type_of (outside decls) v.value_type) v.value)

-- the program with further elements of the array of number a
abbrev pub with_elements : core.Program → ℕ → core_type.ValueType → ℕ → core.Program
with_elements p a t zero = p
with_elements p a t (suc n) = with_cell (with_elements p a t n) (owner.Element a n) t (default_of t)

-- the program with a further array, which has the next cells
abbrev pub array_added : core.Program → List ℕ → ℕ → ℕ → core_type.ValueType → ℕ → core.Program
array_added p name first length element class = record p { arrays = p.arrays ++ record { name = name; first = first; length = length; element_type = element; class = class } ∷ [] }

abbrev pub with_array : core.Program → List ℕ → Option ℕ → Option core_type.ValueType → ℕ → Option core.Program
with_array p name (Some class) (Some t) n = cell_at (length p.cells) >>= λ first. cell_at n >>= λ count. Some (with_elements (array_added p name first count t class) (length p.arrays) t count)
with_array p name (Some class) None n = None
with_array p name None t n = None

abbrev pub array_with : List Decl → core.Program → Array → Option core.Program
array_with decls p a = with_array p a.name.text (class_of decls a.protection) (type_of (outside decls) a.value_type) a.length.value

-- a member of the pool at a place, and the object that it is
pub record Slot : Type 0 where
  pub pool : ℕ
  pub index : ℕ
  pub object : ℕ

-- the constant that the declarations give the member at this place of its struct
abbrev pub slot_given : List Decl → Slot → ℕ → Option Const
slot_given decls slot place = given decls (record { pool = slot.pool; index = slot.index; member = place })

abbrev pub final_cell : core.Program → Option ℕ → Option core.Program
final_cell p (Some o) = Some (record p { finals = p.finals ++ o ∷ [] })
final_cell p None = None

abbrev pub field_cell : core.Program → CellOwner → Option core_type.ValueType → Option Value → Option core.Program
field_cell p o (Some t) (Some v) = Some (with_cell p o t v)
field_cell p o (Some t) None = None
field_cell p o None v = None

-- the program with the members of an object added, the first of them at this place of its struct, after this number of
-- the struct's fields
abbrev pub with_members : List Decl → Slot → ℕ → ℕ → Option core.Program → List Member → Option core.Program
with_members decls slot place fields p [] = p
with_members decls slot place fields p (lock_member x ∷ ms) = with_members decls slot (place + 1) fields p ms
with_members decls slot place fields p (final_member f ∷ ms) =
    with_members decls slot (place + 1) fields (p >>= λ q. final_cell q (referred decls (struct_named decls f.target) (slot_given decls slot place))) ms
with_members decls slot place fields p (field_member f ∷ ms) =
    with_members decls slot (place + 1) (fields + 1)
    (p >>= λ q. field_cell q (owner.Field slot.object fields) (type_of (outside decls) f.value_type) (opening_of decls (type_of (outside decls) f.value_type) (slot_given decls slot place))) ms

-- the program with a further object, which has the next cells and the next final references
abbrev pub object_added : core.Program → ℕ → ℕ → ℕ → core.Program
object_added p number cells finals = record p { objects = p.objects ++ record { pool = number; cells = cells; finals = finals } ∷ [] }

abbrev pub with_object : List Decl → ℕ → ℕ → List Member → ℕ → core.Program → Option core.Program
with_object decls place number ms index p =
    cell_at (length p.cells) >>= λ cells. final_at (length p.finals) >>= λ finals.
    with_members decls (record { pool = place; index = index; object = length p.objects }) 0 0 (Some (object_added p number cells finals)) ms

-- the program with further objects of the pool with this place and this number
abbrev pub with_objects : List Decl → ℕ → ℕ → List Member → Option core.Program → ℕ → Option core.Program
with_objects decls place number ms p zero = p
with_objects decls place number ms p (suc n) = with_objects decls place number ms p n >>= λ q. with_object decls place number ms n q

abbrev pub pool_added : core.Program → List ℕ → ℕ → ℕ → ℕ → core.Program
pool_added p name first length structure = record p { pools = p.pools ++ record { name = name; first = first; length = length; structure = structure } ∷ [] }

-- the program with a further pool, which has the next objects
abbrev pub with_pool : List Decl → ℕ → core.Program → List ℕ → Option ℕ → Option (List Member) → ℕ → Option core.Program
with_pool decls place p name (Some s) (Some ms) n =
    object_at (length p.objects) >>= λ first. object_at n >>= λ count.
    with_objects decls place (length p.pools) ms (Some (pool_added p name first count s)) count
with_pool decls place p name (Some s) None n = None
with_pool decls place p name None ms n = None

-- the program with one more declaration, which has this place
abbrev pub extended : List Decl → ℕ → core.Program → Decl → Option core.Program
extended decls i p (lock x) = Some (with_class p (core.global_lock x.text))
extended decls i p (struct s) = with_struct p (members_added decls (length p.structs) i s.members (Some (record { structure = empty_struct s.name.text; classes = p.classes })) s.members)
extended decls i p (global v) = global_with decls p v
extended decls i p (array a) = array_with decls p a
extended decls i p (pool q) = with_pool decls i p q.name.text (struct_named decls q.target) (members_of decls q.target) q.length.value
extended decls i p (init j) = Some p
extended decls i p (atomic s) = with_section p (typed_section decls section_limits s)
extended decls i p (helper s) = with_helper p (typed_section decls helper_limits s)
extended decls i p (thread t) = with_thread p t.name.text (typed_calls decls t.items)

-- the program with the declarations from a place on, one after another
abbrev pub resolved_from : List Decl → ℕ → Option core.Program → List Decl → Option core.Program
resolved_from decls i p [] = p
resolved_from decls i p (d ∷ ds) = resolved_from decls (i + 1) (p >>= λ q. extended decls i q d) ds

-- the program that a tree stands for, if everything in it has a type
abbrev pub resolved : List Decl → Option core.Program
resolved decls = resolved_from decls 0 (Some nothing_yet) decls
