-- The tables of the program that a tree stands for, and what each declaration adds to them. An added item stands at the
-- end of its table, and its number is the number of items before it.
use Rattle.std.specs.Prelude.{◌≡◌, ℕ, zero, suc, ◌+◌, ◌≤◌, List, [], ◌∷◌, ◌++◌, length, Some}
use Rattle.source.specs.declared.token.Number.{Number}
use Rattle.syntax.specs.Trees.{Ident, Const, Member, lock_member, final_member, field_member, Final, Field, Struct}
use Rattle.syntax.specs.Trees.{Variable}
use Rattle.syntax.specs.Trees.{Array, Pool, Init, Section, Thread, Decl, lock, struct, global, array, pool, init}
use Rattle.syntax.specs.Trees.{atomic, helper, thread, Call, Items, no_items, item, call, repeat}
use Rattle.core_lang.specs.declared.value.Value.{Value}
use Rattle.core_lang.specs.declared.value.Value.TheVariants.{Ref}
use Rattle.core_lang.specs.declared.value.ValueType.{ValueType}
use Rattle.core_lang.specs.declared.value.ValueType.TheVariants.{Reference}
use Rattle.core_lang.specs.declared.typed.Cell.{Cell}
use Rattle.core_lang.specs.declared.typed.CellOwner.TheVariants as owner
use Rattle.resolution.specs.declared.init_target.InitTarget.{InitTarget}
use Rattle.resolution.specs.declared.wanted.Want.TheVariants as wanted
use Rattle.resolution.specs.Core as core
use Rattle.resolution.specs.Limits.{CALL_LIMIT, section_limits, helper_limits, object_at, cell_at, final_at}
use Rattle.resolution.specs.Scopes.{outside, the_decl, number_at, type_of, struct_named}
use Rattle.resolution.specs.Numbers.{total, calls_of}
use Rattle.resolution.specs.Constants.{Yields, AreArguments, members_of, given, default_of, Opens}
use Rattle.resolution.specs.Annotations.{class_of, protection_of}
use Rattle.resolution.specs.Typing.{TypesSection}

-- the empty tables, before the first declaration
abbrev pub nothing_yet : core.Program
nothing_yet = record {
  classes = [];
  structs = [];
  globals = [];
  arrays = [];
  pools = [];
  objects = [];
  finals = [];
  cells = [];
  helpers = [];
  sections = [];
  threads = [];
}

-- ---- structs

-- the members of the struct s at this place, resolved; its lock fields have the classes from this number on
pub data Makes (decls : List Decl) (place : ℕ) (s : Struct) : ℕ → List Member → core.Struct → Type 0 where
  no_member : {class : ℕ} →
      Makes decls place s class [] (record { name = s.name.text; locks = []; finals = []; fields = [] })
  lock_field : {class : ℕ} {x : Ident} {ms : List Member} {t : core.Struct} → Makes decls place s (class + 1) ms t →
      Makes decls place s class (lock_member x ∷ ms)
      (record t { locks = record { name = x.text; class = class } ∷ t.locks })
  final_field : {class target : ℕ} {f : Final} {ms : List Member} {t : core.Struct} →
      struct_named decls f.target ≡ Some target → Makes decls place s class ms t →
      Makes decls place s class (final_member f ∷ ms)
      (record t { finals = record { name = f.name.text; target = target } ∷ t.finals })
  field : {class : ℕ} {f : Field} {ms : List Member} {t : core.Struct} {v : ValueType} {p : core.Protection} →
      type_of (outside decls) f.value_type ≡ Some v → protection_of decls place s.members f.protection ≡ Some p →
      Makes decls place s class ms t →
      Makes decls place s class (field_member f ∷ ms)
      (record t { fields = record { name = f.name.text; value_type = v; protection = p } ∷ t.fields })

-- the lock classes of the fields of struct k, the first of which is its lock field n
abbrev pub lock_classes : ℕ → ℕ → List core.LockField → List core.LockClass
lock_classes k n [] = []
lock_classes k n (l ∷ ls) = core.lock_field k n ∷ lock_classes k (n + 1) ls

-- ---- arrays and pools

-- the cells of the array with number a
abbrev pub elements : ℕ → ValueType → ℕ → List Cell
elements a t zero = []
elements a t (suc n) =
    elements a t n ++ record { owner = owner.Element a n; value_type = t; opening = default_of t } ∷ []

-- the next member of the same object
abbrev pub next : InitTarget → InitTarget
next at = record at { member = at.member + 1 }

-- the initial values of an object, from a member of its struct on: an object for each final reference, and a cell for
-- each field; n fields come before
pub data OpensWith (decls : List Decl) (object : ℕ) : InitTarget → ℕ → List Member → List ℕ → List Cell → Type 0 where
  with_nothing : {at : InitTarget} {n : ℕ} → OpensWith decls object at n [] [] []
  past_lock : {at : InitTarget} {n : ℕ} {x : Ident} {ms : List Member} {os : List ℕ} {cs : List Cell} →
      OpensWith decls object (next at) n ms os cs → OpensWith decls object at n (lock_member x ∷ ms) os cs
  final_opened : {at : InitTarget} {n s o : ℕ} {f : Final} {c : Const} {ms : List Member} {os : List ℕ}
      {cs : List Cell} →
      struct_named decls f.target ≡ Some s → given decls at ≡ Some c →
      Yields decls (wanted.Value (Reference s)) c (Ref (Some o)) →
      OpensWith decls object (next at) n ms os cs →
      OpensWith decls object at n (final_member f ∷ ms) (o ∷ os) cs
  field_opened : {at : InitTarget} {n : ℕ} {f : Field} {ms : List Member} {os : List ℕ} {cs : List Cell}
      {t : ValueType} {v : Value} →
      type_of (outside decls) f.value_type ≡ Some t → Opens decls t (given decls at) v →
      OpensWith decls object (next at) (n + 1) ms os cs →
      OpensWith decls object at n (field_member f ∷ ms) os
      (record { owner = owner.Field object n; value_type = t; opening = v } ∷ cs)

-- the given number of objects of the pool at `place` with this `number`, whose struct has the members `ms`: the tables
-- before and after they are added
pub data AddObjects (decls : List Decl) (place number : ℕ) (ms : List Member) :
    ℕ → core.Program → core.Program → Type 0 where
  no_object : {p : core.Program} → AddObjects decls place number ms zero p p
  one_object_more : {n first_cell first_final : ℕ} {p q : core.Program} {os : List ℕ} {cs : List Cell} →
      AddObjects decls place number ms n p q → cell_at (length q.cells) ≡ Some first_cell →
      final_at (length q.finals) ≡ Some first_final →
      OpensWith decls (length q.objects) (record { pool = place; index = n; member = 0 }) 0 ms os cs →
      AddObjects decls place number ms (suc n) p (record q {
        objects = q.objects ++ record { pool = number; cells = first_cell; finals = first_final } ∷ [];
        finals = q.finals ++ os;
        cells = q.cells ++ cs;
      })

-- ---- threads

-- a list repeated the given number of times
abbrev pub copies : {A : Type 0} → ℕ → List A → List A
copies zero xs = []
copies (suc n) xs = xs ++ copies n xs

-- the calls of a thread's items, with each `repeat` expanded; each is a call of a section, with a fitting argument for
-- each parameter
pub data AreCalls (decls : List Decl) : Items → List core.Call → Type 0 where
  no_call : AreCalls decls no_items []
  one_call : {c : Call} {i : ℕ} {s : Section} {vs : List Value} {is : Items} {cs : List core.Call} →
      the_decl decls c.section.text ≡ Some (i, atomic s) → AreArguments decls s.params c.arguments vs →
      AreCalls decls is cs →
      AreCalls decls (item (call c) is) (record { section = number_at decls i (atomic s); arguments = vs } ∷ cs)
  repeated : {n : Number} {js is : Items} {bs cs : List core.Call} → AreCalls decls js bs → AreCalls decls is cs →
      AreCalls decls (item (repeat n js) is) (copies n.value bs ++ cs)

-- ---- declarations

-- what the declaration at this place adds: the tables before and after it
pub data Adds (decls : List Decl) (i : ℕ) : Decl → core.Program → core.Program → Type 0 where
  adds_class : {x : Ident} {p : core.Program} →
      Adds decls i (lock x) p (record p { classes = p.classes ++ core.global_lock x.text ∷ [] })
  adds_struct : {s : Struct} {p : core.Program} {t : core.Struct} → Makes decls i s (length p.classes) s.members t →
      Adds decls i (struct s) p (record p {
        classes = p.classes ++ lock_classes (length p.structs) 0 t.locks;
        structs = p.structs ++ t ∷ [];
      })
  adds_global : {x : Variable} {p : core.Program} {class cell : ℕ} {t : ValueType} {v : Value} →
      class_of decls x.protection ≡ Some class → type_of (outside decls) x.value_type ≡ Some t →
      Opens decls t x.value v → cell_at (length p.cells) ≡ Some cell →
      Adds decls i (global x) p (record p {
        globals = p.globals ++ record { name = x.name.text; cell = cell; class = class } ∷ [];
        cells = p.cells ++ record { owner = owner.Global (length p.globals); value_type = t; opening = v } ∷ [];
      })
  adds_array : {a : Array} {p : core.Program} {class first count : ℕ} {t : ValueType} →
      class_of decls a.protection ≡ Some class → type_of (outside decls) a.value_type ≡ Some t →
      cell_at (length p.cells) ≡ Some first → cell_at a.length.value ≡ Some count →
      Adds decls i (array a) p (record p {
        arrays = p.arrays ++
            record { name = a.name.text; first = first; length = count; element_type = t; class = class } ∷ [];
        cells = p.cells ++ elements (length p.arrays) t count;
      })
  adds_pool : {x : Pool} {p q : core.Program} {structure first count : ℕ} {ms : List Member} →
      struct_named decls x.target ≡ Some structure → members_of decls x.target ≡ Some ms →
      object_at (length p.objects) ≡ Some first → object_at x.length.value ≡ Some count →
      AddObjects decls i (length p.pools) ms count (record p {
        pools = p.pools ++
            record { name = x.name.text; first = first; length = count; structure = structure } ∷ [];
      }) q → Adds decls i (pool x) p q
  adds_nothing : {j : Init} {p : core.Program} → Adds decls i (init j) p p
  adds_section : {s : Section} {p : core.Program} {t : core.Section} → TypesSection decls section_limits s t →
      Adds decls i (atomic s) p (record p { sections = p.sections ++ t ∷ [] })
  adds_helper : {s : Section} {p : core.Program} {t : core.Section} → TypesSection decls helper_limits s t →
      Adds decls i (helper s) p (record p { helpers = p.helpers ++ t ∷ [] })
  adds_thread : {x : Thread} {p : core.Program} {calls : List core.Call} →
      total calls_of decls ≤ CALL_LIMIT → AreCalls decls x.items calls →
      Adds decls i (thread x) p (record p { threads = p.threads ++ record { name = x.name.text; calls = calls } ∷ [] })

-- what the declarations from this place on add, one after another
pub data AddAll (decls : List Decl) : ℕ → List Decl → core.Program → core.Program → Type 0 where
  no_declaration : {i : ℕ} {p : core.Program} → AddAll decls i [] p p
  first_and_rest : {i : ℕ} {d : Decl} {ds : List Decl} {p q r : core.Program} →
      Adds decls i d p q → AddAll decls (i + 1) ds q r → AddAll decls i (d ∷ ds) p r

-- the tables that the declarations build from empty ones
abbrev pub AreTables : List Decl → core.Program → Type 0
AreTables decls p = AddAll decls 0 decls nothing_yet p
