-- The parts that each step of resolution adds to a program.
use Rattle.std.proofs.Common.{◌≡◌, ℕ, zero, suc, ◌+◌, ◌≤◌, List, [], ◌∷◌, ◌++◌, length, Option, Some, refl, sym, ap}
use Rattle.std.proofs.Common.{◌∙◌, subst, arith, append-nil, append_assoc}
use Rattle.std.specs.Prelude.{slice_get}
use Rattle.syntax.specs.Trees.{Ident, Const, Member, lock_member, final_member, field_member, Final, Field, Decl}
use Rattle.syntax.specs.Trees.{lock, struct, global, array, pool, init, atomic, helper, thread, Array, Pool, Variable}
use Rattle.core_lang.specs.declared.value.Value.{Value}
use Rattle.core_lang.specs.declared.value.Value.TheVariants.{Ref}
use Rattle.core_lang.specs.declared.value.ValueType as core_type
use Rattle.core_lang.specs.declared.value.ValueType.TheVariants.{Reference}
use Rattle.core_lang.specs.declared.typed.CellOwner.TheVariants as owner
use Rattle.core_lang.specs.declared.typed.Cell.{Cell}
use Rattle.core_lang.specs.declared.shape.Object.{Object}
use Rattle.resolution.specs.declared.init_target.InitTarget.{InitTarget}
use Rattle.resolution.specs.declared.wanted.Want.TheVariants as wanted
use Rattle.resolution.specs.Core as core
use Rattle.resolution.specs.Limits.{OBJECT_LIMIT, CELL_LIMIT, section_limits, helper_limits}
use Rattle.resolution.specs.Scopes.{outside, type_of, struct_named, number_in}
use Rattle.resolution.specs.Constants.{Yields, members_of, given, Opens}
use Rattle.resolution.specs.Annotations.{class_of}
use Rattle.resolution.specs.Typing.{TypesSection}
use Rattle.resolution.specs.Tables.{Makes, lock_classes, elements, next, OpensWith, with_nothing, past_lock}
use Rattle.resolution.specs.Tables.{final_opened, field_opened, AddObjects, no_object, one_object_more, AreCalls}
use Rattle.resolution.specs.Tables.{nothing_yet, Adds, adds_class, adds_struct, adds_global, adds_array, adds_pool}
use Rattle.resolution.specs.Tables.{adds_nothing, adds_section, adds_helper, adds_thread}
use Rattle.resolution.proofs.LaidLists.{Rows, Grows, up_got, grows_more}

-- ---- members by kind

abbrev pub fields_in : List Member → List Field
fields_in [] = []
fields_in (field_member f ∷ ms) = f ∷ fields_in ms
fields_in (m ∷ ms) = fields_in ms

abbrev pub finals_in : List Member → List Final
finals_in [] = []
finals_in (final_member f ∷ ms) = f ∷ finals_in ms
finals_in (m ∷ ms) = finals_in ms

abbrev pub locks_in : List Member → List Ident
locks_in [] = []
locks_in (lock_member x ∷ ms) = x ∷ locks_in ms
locks_in (m ∷ ms) = locks_in ms

pub field_numbered : (ms : List Member) (m : ℕ) (f : Field) → slice_get ms m ≡ Some (field_member f) →
    slice_get (fields_in ms) (number_in ms m (field_member f)) ≡ Some f
field_numbered [] m f e = cc
field_numbered (field_member x ∷ ms) zero f e = let s : x ≡ f = cc in ap Some s
field_numbered (x ∷ ms) zero f e = cc
field_numbered (field_member x ∷ ms) (suc m) f e = field_numbered ms m f e
field_numbered (x ∷ ms) (suc m) f e = field_numbered ms m f e

pub final_numbered : (ms : List Member) (m : ℕ) (f : Final) → slice_get ms m ≡ Some (final_member f) →
    slice_get (finals_in ms) (number_in ms m (final_member f)) ≡ Some f
final_numbered [] m f e = cc
final_numbered (final_member x ∷ ms) zero f e = let s : x ≡ f = cc in ap Some s
final_numbered (x ∷ ms) zero f e = cc
final_numbered (final_member x ∷ ms) (suc m) f e = final_numbered ms m f e
final_numbered (x ∷ ms) (suc m) f e = final_numbered ms m f e

pub lock_numbered : (ms : List Member) (m : ℕ) (f : Ident) → slice_get ms m ≡ Some (lock_member f) →
    slice_get (locks_in ms) (number_in ms m (lock_member f)) ≡ Some f
lock_numbered [] m f e = cc
lock_numbered (lock_member x ∷ ms) zero f e = let s : x ≡ f = cc in ap Some s
lock_numbered (x ∷ ms) zero f e = cc
lock_numbered (lock_member x ∷ ms) (suc m) f e = lock_numbered ms m f e
lock_numbered (x ∷ ms) (suc m) f e = lock_numbered ms m f e

-- ---- the members of an object

-- a field's cell
abbrev pub CellOf : List Decl → ℕ → ℕ → Field → Cell → Type 0
CellOf decls o k f c =
    (t : core_type.ValueType) × (v : Value) × (g : Option Const) × (type_of (outside decls) f.value_type ≡ Some t) ×
    Opens decls t g v × (c ≡ record { owner = owner.Field o k; value_type = t; opening = v })

-- a final reference's object
abbrev pub FinalOf : List Decl → ℕ → Final → ℕ → Type 0
FinalOf decls k f n =
    (s : ℕ) × (c : Const) × (struct_named decls f.target ≡ Some s) ×
    Yields decls (wanted.Value (Reference s)) c (Ref (Some n))

-- the initial values of an object, row by row
opened_rows : (decls : List Decl) (object : ℕ) (at : InitTarget) (fields n : ℕ) (ms : List Member) (os : List ℕ)
    (cs : List Cell) → OpensWith decls object at fields ms os cs →
    Rows (CellOf decls object) fields (fields_in ms) cs × Rows (FinalOf decls) n (finals_in ms) os
opened_rows decls object at fields n ms os cs with_nothing = (tt, tt)
opened_rows decls object at fields n ms os cs (past_lock {ms = rest} h) =
    opened_rows decls object (next at) fields n rest os cs h
opened_rows decls object at fields n ms os cs (final_opened {s = s} {c = c} {ms = rest} {os = fs} e g y h) =
    let r = opened_rows decls object (next at) fields (suc n) rest fs cs h in
    (r.0, ((s, c, e, y), r.1))
opened_rows decls object at fields n ms os cs (field_opened {f = f} {ms = rest} {cs = ds} {t = t} {v = v} e g h) =
    let r = opened_rows decls object (next at) (fields + 1) n rest os ds h in
    let one : fields + 1 ≡ suc fields = omega arith in (
      (
        (t, v, given decls at, e, g, refl),
        subst
            (λ (j : ℕ). Rows (CellOf decls object) j (fields_in rest) ds) one r.0,
      ),
      r.1,
    )

-- ---- tables that grow

-- the tables with more at the end of each
abbrev pub plus : core.Program → core.Program → core.Program
plus p a = record {
  classes = p.classes ++ a.classes;
  structs = p.structs ++ a.structs;
  globals = p.globals ++ a.globals;
  arrays = p.arrays ++ a.arrays;
  pools = p.pools ++ a.pools;
  objects = p.objects ++ a.objects;
  finals = p.finals ++ a.finals;
  cells = p.cells ++ a.cells;
  helpers = p.helpers ++ a.helpers;
  sections = p.sections ++ a.sections;
  threads = p.threads ++ a.threads;
}

pub plus_nothing : (p : core.Program) → plus p nothing_yet ≡ p
plus_nothing p = simp append-nil

plus_both : (p a b : core.Program) → plus (plus p a) b ≡ plus p (plus a b)
plus_both p a b = simp append_assoc

-- it begins the whole: there is more after each table
pub record Begins (p whole : core.Program) : Type 0 where
  pub behind : core.Program
  pub is : plus p behind ≡ whole

pub begins_same : (p : core.Program) → Begins p p
begins_same p = record { behind = nothing_yet; is = plus_nothing p }

-- a program that, with an addition, begins a whole one, begins it by itself
pub begins_on : (p a whole : core.Program) → Begins (plus p a) whole → Begins p whole
begins_on p a whole b = record { behind = plus a b.behind; is = sym (plus_both p a b.behind) ∙ b.is }

-- a row of a table is in the whole table
pub stands : {A : Type 0} (table : core.Program → List A) →
    ((p a : core.Program) → table (plus p a) ≡ table p ++ table a) → {p whole : core.Program} → Begins p whole →
    Grows (table p) (table whole)
stands {A = A} table grows {p = p} b k x e =
    ap (λ (z : core.Program). slice_get (table z) k) (sym b.is)
    ∙ ap (λ (xs : List A). slice_get xs k) (grows p b.behind) ∙ grows_more (table p) (table b.behind) k x e

-- ---- objects

-- objects, with their final references and their cells
abbrev pub held : List Object → List ℕ → List Cell → core.Program
held os fs cs = record nothing_yet { objects = os; finals = fs; cells = cs }

-- the next object of a pool
abbrev pub next_object : ℕ → core.Program → Object
next_object number p = record { pool = number; cells = length p.cells; finals = length p.finals }

pub record Objected (decls : List Decl) (number : ℕ) (ms : List Member) (p q : core.Program) : Type 0 where
  pub cells : List Cell
  pub finals : List ℕ
  pub is : q ≡ plus p (held (next_object number p ∷ []) finals cells)
  pub own : Rows (CellOf decls (length p.objects)) 0 (fields_in ms) cells
  pub refs : Rows (FinalOf decls) 0 (finals_in ms) finals

-- the given number of objects, one after another
abbrev pub Chain : List Decl → ℕ → List Member → ℕ → core.Program → core.Program → Type 0
Chain decls number ms zero p q = p ≡ q
Chain decls number ms (suc n) p q = (m : core.Program) × Chain decls number ms n p m × Objected decls number ms m q

chain_is : (decls : List Decl) (i number : ℕ) (ms : List Member) (n : ℕ) (p q : core.Program) →
    AddObjects decls i number ms n p q → Chain decls number ms n p q
chain_is decls i number ms n p q no_object = refl
chain_is decls i number ms n p q
    (one_object_more {n = k} {first_cell = c} {first_final = f} {q = m} {os = os} {cs = cs} before e g h) =
    let rows = opened_rows decls (length m.objects) (record { pool = i; index = k; member = 0 }) 0 0 ms os cs h in (
      m,
      chain_is decls i number ms k p m before,
      record {
        cells = cs;
        finals = os;
        is = rw (← (up_got CELL_LIMIT (length m.cells) c e).0, ← (up_got 2097152 (length m.finals) f g).0)
            (simp append-nil);
        own = rows.0;
        refs = rows.1;
      },
    )

-- the objects, finals and cells that all of them add
pub record Things (p q : core.Program) : Type 0 where
  pub objects : List Object
  pub finals : List ℕ
  pub cells : List Cell
  pub are : q ≡ plus p (held objects finals cells)

chain_things : (decls : List Decl) (number : ℕ) (ms : List Member) (n : ℕ) (p q : core.Program) →
    Chain decls number ms n p q → Things p q
chain_things decls number ms zero p q c =
    record { objects = []; finals = []; cells = []; are = sym c ∙ sym (plus_nothing p) }
chain_things decls number ms (suc n) p q c =
    let r = chain_things decls number ms n p c.0 c.1 in
    let x = next_object number c.0 in
    let w = c.2 in
    record {
      objects = r.objects ++ x ∷ [];
      finals = r.finals ++ w.finals;
      cells = r.cells ++ w.cells;
      are = w.is ∙ ap (λ (m : core.Program). plus m (held (x ∷ []) w.finals w.cells)) r.are
          ∙ plus_both p (held r.objects r.finals r.cells) (held (x ∷ []) w.finals w.cells);
    }

-- ---- declarations

-- the rows of tables that they add
abbrev pub global_row : core.Program → Variable → ℕ → core.GlobalVariable
global_row p v class = record { name = v.name.text; cell = length p.cells; class = class }

abbrev pub global_cell : core.Program → core_type.ValueType → Value → Cell
global_cell p t w = record { owner = owner.Global (length p.globals); value_type = t; opening = w }

abbrev pub array_row : core.Program → Array → ℕ → core_type.ValueType → core.Array
array_row p x class t = record {
  name = x.name.text;
  first = length p.cells;
  length = x.length.value;
  element_type = t;
  class = class;
}

abbrev pub pool_row : core.Program → Pool → ℕ → core.Pool
pool_row p x s =
    record { name = x.name.text; first = length p.objects; length = x.length.value; structure = s }

-- the additions of a pool after its own row
pub record Pooled (decls : List Decl) (p : core.Program) (x : Pool) : Type 0 where
  pub structure : ℕ
  pub members : List Member
  pub named : struct_named decls x.target ≡ Some structure
  pub are : members_of decls x.target ≡ Some members
  pub objects : List Object
  pub finals : List ℕ
  pub cells : List Cell
  pub chain : Chain decls (length p.pools) members x.length.value
      (record p { pools = p.pools ++ pool_row p x structure ∷ [] })
      (plus p (record (held objects finals cells) { pools = pool_row p x structure ∷ [] }))

-- the facts about the additions of a declaration
abbrev pub News : List Decl → ℕ → core.Program → Decl → Type 0
News decls i p (struct s) = (t : core.Struct) × Makes decls i s (length p.classes) s.members t
News decls i p (global v) =
    (c : ℕ) × (t : core_type.ValueType) × (w : Value) × (class_of decls v.protection ≡ Some c) ×
    (type_of (outside decls) v.value_type ≡ Some t) × Opens decls t v.value w × (length p.cells ≤ CELL_LIMIT)
News decls i p (array a) =
    (c : ℕ) × (t : core_type.ValueType) × (class_of decls a.protection ≡ Some c) ×
    (type_of (outside decls) a.value_type ≡ Some t)
News decls i p (pool x) = Pooled decls p x
News decls i p (atomic s) = (x : core.Section) × TypesSection decls section_limits s x
News decls i p (helper s) = (x : core.Section) × TypesSection decls helper_limits s x
News decls i p (thread t) = (calls : List core.Call) × AreCalls decls t.items calls
News decls i p d = Unit {0}

-- the additions of a declaration
abbrev pub fresh : (decls : List Decl) (i : ℕ) (p : core.Program) (d : Decl) → News decls i p d → core.Program
fresh decls i p (lock x) n = record nothing_yet { classes = core.global_lock x.text ∷ [] }
fresh decls i p (struct s) n =
    record nothing_yet { classes = lock_classes (length p.structs) 0 n.0.locks; structs = n.0 ∷ [] }
fresh decls i p (global v) n =
    record nothing_yet { globals = global_row p v n.0 ∷ []; cells = global_cell p n.1 n.2 ∷ [] }
fresh decls i p (array x) n =
    record nothing_yet { arrays = array_row p x n.0 n.1 ∷ []; cells = elements (length p.arrays) n.1 x.length.value }
fresh decls i p (pool x) n = record (held n.objects n.finals n.cells) { pools = pool_row p x n.structure ∷ [] }
fresh decls i p (init j) n = nothing_yet
fresh decls i p (atomic s) n = record nothing_yet { sections = n.0 ∷ [] }
fresh decls i p (helper s) n = record nothing_yet { helpers = n.0 ∷ [] }
fresh decls i p (thread t) n = record nothing_yet { threads = record { name = t.name.text; calls = n.0 } ∷ [] }

-- adding nothing to tables changes no function of them
with_same : (p : core.Program) (f : core.Program → core.Program) → f p ≡ f (plus p nothing_yet)
with_same p f = ap f (sym (plus_nothing p))

-- the tables with a declaration are those before it with its additions
pub adds : (decls : List Decl) (i : ℕ) (p : core.Program) (d : Decl) (q : core.Program) → Adds decls i d p q →
    (n : News decls i p d) × (q ≡ plus p (fresh decls i p d n))
adds decls i p d q (adds_class {x = x}) =
    (tt, with_same p (λ z. record z { classes = p.classes ++ core.global_lock x.text ∷ [] }))
adds decls i p d q (adds_struct {t = t} m) =
    let cs = lock_classes (length p.structs) 0 t.locks in
    ((t, m), with_same p (λ z. record z { classes = p.classes ++ cs; structs = p.structs ++ t ∷ [] }))
adds decls i p d q (adds_global {x = v} {class = c} {cell = n} {t = t} {v = w} f g h e) =
    let u = up_got CELL_LIMIT (length p.cells) n e in (
      (c, t, w, f, g, h, u.1),
      rw (← u.0) (with_same p
          (λ z. record z { globals = p.globals ++ global_row p v c ∷ []; cells = p.cells ++ global_cell p t w ∷ [] })),
    )
adds decls i p d q (adds_array {a = x} {class = c} {first = n} {count = m} {t = t} f g e h) =
    let u = up_got CELL_LIMIT (length p.cells) n e in
    let w = up_got CELL_LIMIT x.length.value m h in
    let cs = elements (length p.arrays) t x.length.value in (
      (c, t, f, g),
      rw (← u.0, ← w.0) (with_same p
          (λ z. record z { arrays = p.arrays ++ array_row p x c t ∷ []; cells = p.cells ++ cs })),
    )
adds decls i p d q (adds_pool {x = x} {structure = s} {first = n} {count = m} {ms = ms} f g e h more) =
    let u = up_got OBJECT_LIMIT (length p.objects) n e in
    let w = up_got OBJECT_LIMIT x.length.value m h in
    let row = pool_row p x s in
    let p1 : core.Program = record p { pools = p.pools ++ row ∷ [] } in
    let c : Chain decls (length p.pools) ms x.length.value p1 q =
    rw (u.0, w.0) (chain_is decls i (length p.pools) ms m _ q more) in
    let r = chain_things decls (length p.pools) ms x.length.value p1 q c in
    let is : q ≡ plus p (record (held r.objects r.finals r.cells) { pools = row ∷ [] }) =
    r.are ∙ ap (λ (rows : List core.Pool). record (plus p (held r.objects r.finals r.cells)) { pools = rows })
    (append-nil (p.pools ++ row ∷ [])) in (
      record {
        structure = s;
        members = ms;
        named = f;
        are = g;
        objects = r.objects;
        finals = r.finals;
        cells = r.cells;
        chain = subst (Chain decls (length p.pools) ms x.length.value p1) is c;
      },
      is,
    )
adds decls i p d q adds_nothing = (tt, sym (plus_nothing p))
adds decls i p d q (adds_section {t = t} h) =
    ((t, h), with_same p (λ z. record z { sections = p.sections ++ t ∷ [] }))
adds decls i p d q (adds_helper {t = t} h) =
    ((t, h), with_same p (λ z. record z { helpers = p.helpers ++ t ∷ [] }))
adds decls i p d q (adds_thread {x = x} {calls = calls} few are) =
    let t : core.Thread = record { name = x.name.text; calls = calls } in
    ((calls, are), with_same p (λ z. record z { threads = p.threads ++ t ∷ [] }))
