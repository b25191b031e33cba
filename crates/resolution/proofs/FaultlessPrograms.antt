-- A program without faults is resolved.
use Rattle.std.proofs.Common.{◌≡◌, ℕ, zero, suc, ◌+◌, ◌*◌, ◌<◌, ◌≤◌, List, [], ◌∷◌, ◌++◌, length, Option, Some, None}
use Rattle.std.proofs.Common.{Bool, false, if◌then◌else◌, refl, sym, ap, ◌∙◌, subst, append_assoc, arith}
use Rattle.std.proofs.lemmas.List.{length-append}
use Rattle.std.specs.Prelude.{nat_le, nat_lt, slice_get}
use Rattle.source.specs.declared.fault.Code.TheVariants.{LimitExceeded}
use Rattle.resolution.specs.Theory.Leasts.{among_right}
use Rattle.syntax.specs.Returns.{ReturnsRight}
use Rattle.syntax.specs.Trees.{ref_type, Const, Member, lock_member, final_member, field_member, Struct, Variable}
use Rattle.syntax.specs.Trees.{Array, Pool, Decl, lock, struct, global, array, pool, init, atomic, helper, thread}
use Rattle.core_lang.specs.declared.value.Value.{Value}
use Rattle.core_lang.specs.declared.value.ValueType as core_type
use Rattle.core_lang.specs.declared.typed.Cell.{Cell}
use Rattle.core_lang.specs.declared.shape.Object.{Object}
use Rattle.core_lang.specs.declared.typed.CellOwner.TheVariants as owner
use Rattle.resolution.specs.declared.wanted.Want.TheVariants as wanted
use Rattle.resolution.specs.declared.init_target.InitTarget.{InitTarget}
use Rattle.resolution.specs.Core as core
use Rattle.resolution.specs.Limits.{MEMBER_LIMIT, OBJECT_LIMIT, CELL_LIMIT, CALL_LIMIT, section_limits, helper_limits}
use Rattle.resolution.specs.Limits.{up_to, STRUCT_LIMIT}
use Rattle.resolution.specs.Scopes.{outside, bears, the_decl, type_of, count, alike}
use Rattle.resolution.specs.Numbers.{width, total, classes_of, objects_of, cells_of, calls_of}
use Rattle.resolution.specs.Expressions.{want}
use Rattle.resolution.specs.Constants.{members_of, members_in, default_of, Opens, by_default, by_constant}
use Rattle.resolution.specs.Tables.{nothing_yet, Makes, no_member, lock_field, final_field, field, lock_classes}
use Rattle.resolution.specs.Tables.{elements, next, OpensWith, with_nothing, past_lock, final_opened, field_opened}
use Rattle.resolution.specs.Tables.{AddObjects, no_object, one_object_more, Adds, adds_class, adds_struct, adds_global}
use Rattle.resolution.specs.Tables.{adds_array, adds_pool, adds_nothing, adds_section, adds_helper, adds_thread, AddAll}
use Rattle.resolution.specs.Tables.{no_declaration, first_and_rest, AreTables}
use Rattle.resolution.specs.Where.{Has, first, further, of_section, of_helper, of_pool, of_global, of_array, of_final}
use Rattle.resolution.specs.Where.{of_field}
use Rattle.resolution.specs.Working.FaultLists.{one_if, first_too_many, member_twice_faults, member_counts}
use Rattle.resolution.specs.Working.FaultLists.{count_faults, total_faults, type_faults, lock_faults, opening_faults}
use Rattle.resolution.specs.Working.FaultLists.{const_faults, protection_faults, members_faults, decl_faults}
use Rattle.resolution.proofs.Named.{named_is}
use Rattle.resolution.proofs.AllFaults.{in_structs, of_structs, of_counts, of_totals, has_parts}
use Rattle.resolution.proofs.Parts.{of_place_at}
use Rattle.resolution.proofs.TrueStatements.{length_push}
use Rattle.resolution.proofs.FaultlessExpressions.{NoneIn, none_left, none_right, not_if, at_has, Clean, Typing, known}
use Rattle.resolution.proofs.FaultlessExpressions.{known_named}
use Rattle.resolution.proofs.FaultlessConstants.{const_is, class_is, protection_is, named_decl}
use Rattle.resolution.proofs.FaultlessSections.{section_is, items_are}
use Rattle.resolution.proofs.FaultlessMembers.{fields_are, members_few, count_few, is_final, is_field, Ready, ready}
use Rattle.resolution.proofs.Tests.{le_true, and_false, lt_false}
use Rattle.resolution.proofs.StatementRules.{types_the_section}

-- ---- counts

-- the stage of a program: its numbers of cells and objects, and at most 32 final references an object
pub record Counted (decls before : List Decl) (p : core.Program) : Type 0 where
  pub cells : length p.cells ≡ total (cells_of decls) before
  pub objects : length p.objects ≡ total objects_of before
  pub finals : length p.finals ≤ length p.objects * MEMBER_LIMIT

pub total_push : (of : Decl → ℕ) (before : List Decl) (d : Decl) → total of (before ++ d ∷ []) ≡ total of before + of d
total_push of [] d = omega arith
total_push of (b ∷ before) d = omega (arith, total_push of before d)

not_passed : (limit before own : ℕ) → first_too_many limit before own ≡ false → before ≤ limit → before + own ≤ limit
not_passed limit before own e le = lt_false limit (before + own) (and_false (nat_le before limit) (nat_lt limit (before + own)) (le_true before limit le) e)

pub cells_fit : (decls before : List Decl) (d : Decl) → NoneIn (count_faults decls before d) →
    total (cells_of decls) before ≤ CELL_LIMIT → total (cells_of decls) before + cells_of decls d ≤ CELL_LIMIT
cells_fit decls before (global v) none le = not_passed CELL_LIMIT (total (cells_of decls) before) 1 (not_if (first_too_many CELL_LIMIT (total (cells_of decls) before) 1) LimitExceeded v.name.span.start none) le
cells_fit decls before (array a) none le = not_passed CELL_LIMIT (total (cells_of decls) before) a.length.value (not_if (first_too_many CELL_LIMIT (total (cells_of decls) before) a.length.value) LimitExceeded a.name.span.start none) le
cells_fit decls before (pool p) none le =
    not_passed CELL_LIMIT (total (cells_of decls) before) (cells_of decls (pool p)) (not_if (first_too_many CELL_LIMIT (total (cells_of decls) before) (cells_of decls (pool p))) LimitExceeded p.name.span.start
    (none_right (one_if (first_too_many OBJECT_LIMIT (total objects_of before) (objects_of (pool p))) LimitExceeded p.name.span.start) _ none)) le
cells_fit decls before (lock x) none le = omega (arith, le)
cells_fit decls before (struct x) none le = omega (arith, le)
cells_fit decls before (init x) none le = omega (arith, le)
cells_fit decls before (atomic x) none le = omega (arith, le)
cells_fit decls before (helper x) none le = omega (arith, le)
cells_fit decls before (thread x) none le = omega (arith, le)

pub objects_fit : (decls before : List Decl) (d : Decl) → NoneIn (count_faults decls before d) →
    total objects_of before ≤ OBJECT_LIMIT → total objects_of before + objects_of d ≤ OBJECT_LIMIT
objects_fit decls before (pool p) none le =
    not_passed OBJECT_LIMIT (total objects_of before) (objects_of (pool p)) (not_if (first_too_many OBJECT_LIMIT (total objects_of before) (objects_of (pool p))) LimitExceeded p.name.span.start
    (none_left (one_if (first_too_many OBJECT_LIMIT (total objects_of before) (objects_of (pool p))) LimitExceeded p.name.span.start) _ none)) le
objects_fit decls before (global x) none le = omega (arith, le)
objects_fit decls before (array x) none le = omega (arith, le)
objects_fit decls before (lock x) none le = omega (arith, le)
objects_fit decls before (struct x) none le = omega (arith, le)
objects_fit decls before (init x) none le = omega (arith, le)
objects_fit decls before (atomic x) none le = omega (arith, le)
objects_fit decls before (helper x) none le = omega (arith, le)
objects_fit decls before (thread x) none le = omega (arith, le)

calls_fit : (decls before : List Decl) (d : Decl) → NoneIn (count_faults decls before d) →
    total calls_of before ≤ CALL_LIMIT → total calls_of before + calls_of d ≤ CALL_LIMIT
calls_fit decls before (thread t) none le =
    not_passed CALL_LIMIT (total calls_of before) (calls_of (thread t)) (not_if (first_too_many CALL_LIMIT (total calls_of before) (calls_of (thread t))) LimitExceeded t.name.span.start (none_right (one_if _ LimitExceeded t.name.span.start) _ none)) le
calls_fit decls before (global x) none le = omega (arith, le)
calls_fit decls before (array x) none le = omega (arith, le)
calls_fit decls before (pool x) none le = omega (arith, le)
calls_fit decls before (lock x) none le = omega (arith, le)
calls_fit decls before (struct x) none le = omega (arith, le)
calls_fit decls before (init x) none le = omega (arith, le)
calls_fit decls before (atomic x) none le = omega (arith, le)
calls_fit decls before (helper x) none le = omega (arith, le)

pub calls_few : (decls before ds : List Decl) → NoneIn (total_faults decls before ds) →
    total calls_of before ≤ CALL_LIMIT → total calls_of (before ++ ds) ≤ CALL_LIMIT
calls_few decls before [] none le = subst (λ (xs : List Decl). total calls_of xs ≤ CALL_LIMIT) (sym (nil before)) le
  where
    nil : (xs : List Decl) → xs ++ [] ≡ xs
    nil [] = refl
    nil (x ∷ xs) = ap (λ (ys : List Decl). x ∷ ys) (nil xs)
calls_few decls before (d ∷ ds) none le =
    let fit = calls_fit decls before d (none_left (count_faults decls before d) (total_faults decls (before ++ d ∷ []) ds) none) le in
    let more : total calls_of (before ++ d ∷ []) ≤ CALL_LIMIT = (let t = total_push calls_of before d in omega (arith, t, fit)) in
    subst (λ (xs : List Decl). total calls_of xs ≤ CALL_LIMIT) (append_assoc before (d ∷ []) ds) (calls_few decls (before ++ d ∷ []) ds (none_right (count_faults decls before d) (total_faults decls (before ++ d ∷ []) ds) none) more)

-- ---- a pool's objects

pub mul_mono : (n k w : ℕ) → n ≤ k → n * w ≤ k * w
mul_mono zero k w le = omega arith
mul_mono (suc n) zero w le = absurd (omega (arith, le))
mul_mono (suc n) (suc k) w le = let r = mul_mono n k w (let z : n ≤ k = omega (arith, le) in z) in omega (arith, r)

up_is : (limit n : ℕ) → n ≤ limit → up_to limit n ≡ Some n
up_is limit n le = ap (λ (b : Bool). if b then Some n else None) (le_true n limit le)

-- one program has grown to another
pub record Grown (p q : core.Program) (c o f : ℕ) : Type 0 where
  pub cells : length q.cells ≡ length p.cells + c
  pub objects : length q.objects ≡ length p.objects + o
  pub finals : length q.finals ≡ length p.finals + f

-- the initial values of an object
record Opening (decls : List Decl) (object : ℕ) (at : InitTarget) (fields : ℕ) (ms : List Member) : Type 0 where
  finals : List ℕ
  cells : List Cell
  opens : OpensWith decls object at fields ms finals cells
  final_count : length finals ≡ count is_final ms
  cell_count : length cells ≡ count is_field ms

-- members of an object have their values, from one on
abbrev AllReady : List Decl → InitTarget → List Member → Type 0
AllReady decls at ms = (j : ℕ) (x : Member) → slice_get ms j ≡ Some x →
    Ready decls (record at { member = at.member + j }) x

ready_now : (decls : List Decl) (at : InitTarget) (m : Member) (ms : List Member) → AllReady decls at (m ∷ ms) →
    Ready decls at m
ready_now decls at m ms up =
    let z : at.member + 0 ≡ at.member = omega arith in
    subst (λ (i : ℕ). Ready decls (record at { member = i }) m) z (up 0 m refl)

ready_next : (decls : List Decl) (at : InitTarget) (m : Member) (ms : List Member) → AllReady decls at (m ∷ ms) →
    AllReady decls (next at) ms
ready_next decls at m ms up j y e =
    let z : at.member + suc j ≡ at.member + 1 + j = omega arith in
    subst (λ (i : ℕ). Ready decls (record at { member = i }) y) z (up (suc j) y e)

members_put : (decls : List Decl) (object : ℕ) (at : InitTarget) (fields : ℕ) (ms : List Member) →
    AllReady decls at ms → Opening decls object at fields ms
members_put decls object at fields [] up =
    record { finals = []; cells = []; opens = with_nothing; final_count = refl; cell_count = refl }
members_put decls object at fields (lock_member x ∷ ms) up =
    let r = members_put decls object (next at) fields ms (ready_next decls at (lock_member x) ms up) in
    record {
      finals = r.finals;
      cells = r.cells;
      opens = past_lock r.opens;
      final_count = r.final_count;
      cell_count = r.cell_count;
    }
members_put decls object at fields (final_member f ∷ ms) up =
    let o = ready_now decls at (final_member f) ms up in
    let r = members_put decls object (next at) fields ms (ready_next decls at (final_member f) ms up) in
    record {
      finals = o.2 ∷ r.finals;
      cells = r.cells;
      opens = final_opened o.3 o.4 o.5 r.opens;
      final_count = ap suc r.final_count;
      cell_count = r.cell_count;
    }
members_put decls object at fields (field_member f ∷ ms) up =
    let o = ready_now decls at (field_member f) ms up in
    let r = members_put decls object (next at) (fields + 1) ms (ready_next decls at (field_member f) ms up) in
    record {
      finals = r.finals;
      cells = record { owner = owner.Field object fields; value_type = o.0; opening = o.1 } ∷ r.cells;
      opens = field_opened o.2 o.3 r.opens;
      final_count = r.final_count;
      cell_count = ap suc r.cell_count;
    }

objects_put : (decls : List Decl) (i number len : ℕ) (ms : List Member) (p : core.Program) (n : ℕ) → n ≤ len →
    length p.cells + len * count is_field ms ≤ CELL_LIMIT → length p.finals + len * count is_final ms ≤ 2097152 →
    ((m j : ℕ) (x : Member) → m < len → slice_get ms j ≡ Some x → Ready decls (record { pool = i; index = m; member = j }) x) →
    (q : core.Program) × AddObjects decls i number ms n p q × Grown p q (n * count is_field ms) n
    (n * count is_final ms)
objects_put decls i number len ms p zero le cells finals up =
    (p, no_object, record { cells = omega arith; objects = omega arith; finals = omega arith })
objects_put decls i number len ms p (suc n) le cells finals up =
    let w = count is_field ms in
    let f = count is_final ms in
    let less : n < len = omega (arith, le) in
    let r = objects_put decls i number len ms p n (let z : n ≤ len = omega (arith, le) in z) cells finals up in
    let q = r.0 in
    let cw : n * w ≤ len * w = mul_mono n len w (let z : n ≤ len = omega (arith, le) in z) in
    let cf : n * f ≤ len * f = mul_mono n len f (let z : n ≤ len = omega (arith, le) in z) in
    let gc = r.2.cells in
    let gf = r.2.finals in
    let go = r.2.objects in
    let room : length q.cells ≤ CELL_LIMIT = omega (arith, gc, cw, cells) in
    let space : length q.finals ≤ 2097152 = omega (arith, gf, cf, finals) in
    let at : InitTarget = record { pool = i; index = n; member = 0 } in
    let all : AllReady decls at ms =
    λ j x e. subst (λ (k : ℕ). Ready decls (record { pool = i; index = n; member = k }) x)
    (let z : j ≡ 0 + j = omega arith in z) (up n j x less e) in
    let o = members_put decls (length q.objects) at 0 ms all in
    let x : Object = record { pool = number; cells = length q.cells; finals = length q.finals } in
    let lc = length-append q.cells o.cells in
    let lf = length-append q.finals o.finals in
    let lo = length_push q.objects x in
    let oc = o.cell_count in
    let of = o.final_count in
    let nc : length (q.cells ++ o.cells) ≡ length p.cells + suc n * w = omega (arith, gc, lc, oc) in
    let no : length (q.objects ++ x ∷ []) ≡ length p.objects + suc n = omega (arith, go, lo) in
    let nf : length (q.finals ++ o.finals) ≡ length p.finals + suc n * f = omega (arith, gf, lf, of) in (
      record q { objects = q.objects ++ x ∷ []; finals = q.finals ++ o.finals; cells = q.cells ++ o.cells },
      one_object_more r.1 (up_is CELL_LIMIT (length q.cells) room) (up_is 2097152 (length q.finals) space) o.opens,
      record { cells = nc; objects = no; finals = nf },
    )

elements_length : (a : ℕ) (t : core_type.ValueType) (n : ℕ) → length (elements a t n) ≡ n
elements_length a t zero = refl
elements_length a t (suc n) =
    let l = length_push (elements a t n)
    (record { owner = owner.Element a n; value_type = t; opening = default_of t }) in
    let r = elements_length a t n in
    omega (arith, l, r)

-- ---- structs

struct_put : (decls : List Decl) → Clean decls → (i : ℕ) (s : Struct) → slice_get decls i ≡ Some (struct s) →
    (class : ℕ) (ms : List Member) → ((m : Member) → Has ms m → Has s.members m) →
    NoneIn (members_faults decls i s.members ms) → (t : core.Struct) × Makes decls i s class ms t
struct_put decls clean i s at class [] up none =
    (record { name = s.name.text; locks = []; finals = []; fields = [] }, no_member)
struct_put decls clean i s at class (lock_member x ∷ ms) up none =
    let r = struct_put decls clean i s at (class + 1) ms (λ m h. up m (further h)) none in
    (record (r.0) { locks = record { name = x.text; class = class } ∷ r.0.locks }, lock_field r.1)
struct_put decls clean i s at class (final_member f ∷ ms) up none =
    let has = at_has decls i (struct s) at in
    let t = known_named decls clean f.target (of_final has (up (final_member f) first)) in
    let rest = members_faults decls i s.members ms in
    let r = struct_put decls clean i s at class ms (λ m h. up m (further h))
    (none_right (type_faults (outside decls) (ref_type f.target)) rest none) in
    (record (r.0) { finals = record { name = f.name.text; target = t.number } ∷ r.0.finals }, final_field t.is r.1)
struct_put decls clean i s at class (field_member f ∷ ms) up none =
    let has = at_has decls i (struct s) at in
    let a = type_faults (outside decls) f.value_type in
    let b = protection_faults decls i s.members f.name.span.start f.protection in
    let rest = members_faults decls i s.members ms in
    let t = known decls clean (outside decls) f.value_type (of_field has (up (field_member f) first)) in
    let p = protection_is decls clean i s at f.name.span.start f.protection (none_right a b (none_left (a ++ b) rest none)) in
    let r = struct_put decls clean i s at class ms (λ m h. up m (further h)) (none_right (a ++ b) rest none) in (
      record (r.0) {
        fields =
            record { name = f.name.text; value_type = t.value_type; protection = p.0 } ∷ r.0.fields;
      },
      field t.is p.1 r.1,
    )

-- ---- declarations

-- one more declaration is resolved
abbrev Extends : List Decl → List Decl → ℕ → Decl → core.Program → Type 0
Extends decls before i d p = (q : core.Program) × Adds decls i d p q × Counted decls (before ++ d ∷ []) q

-- the facts about a declaration and those before it
pub record Stage (decls before : List Decl) (i : ℕ) (d : Decl) (p : core.Program) : Type 0 where
  pub clean : Clean decls
  pub right : ReturnsRight decls
  pub at : slice_get decls i ≡ Some d
  pub counted : Counted decls before p
  pub own : NoneIn (decl_faults decls i d)
  pub cells : total (cells_of decls) before + cells_of decls d ≤ CELL_LIMIT
  pub objects : total objects_of before + objects_of d ≤ OBJECT_LIMIT

grown_counted : (decls before : List Decl) (d : Decl) (p q : core.Program) (c o f : ℕ) → Counted decls before p →
    Grown p q c o f → c ≡ cells_of decls d → o ≡ objects_of d → f ≤ o * MEMBER_LIMIT →
    Counted decls (before ++ d ∷ []) q
grown_counted decls before d p q c o f n g ec eo ef = record {
  cells = (let a = total_push (cells_of decls) before d in let b = n.cells in let x = g.cells in omega (arith, a, b, x, ec));
  objects = (let a = total_push objects_of before d in let b = n.objects in let x = g.objects in omega (arith, a, b, x, eo));
  finals = (let b = n.finals in let x = g.finals in let y = g.objects in let z : length q.finals ≤ length q.objects * MEMBER_LIMIT = omega (arith, b, x, y, ef) in z);
}

-- nothing that counts is added
same_counted : (decls before : List Decl) (d : Decl) (p q : core.Program) → Counted decls before p →
    length q.cells ≡ length p.cells → length q.objects ≡ length p.objects → length q.finals ≡ length p.finals →
    cells_of decls d ≡ 0 → objects_of d ≡ 0 → Counted decls (before ++ d ∷ []) q
same_counted decls before d p q n ec eo ef zc zo =
    grown_counted decls before d p q 0 0 0 n (record { cells = omega (arith, ec); objects = omega (arith, eo); finals = omega (arith, ef) }) (sym zc) (sym zo) (omega arith)

-- the initial value of a global
opening_is : (decls : List Decl) → Clean decls → (o : Option core_type.ValueType) (t : Typing decls o) →
    (c : Option Const) → NoneIn (opening_faults decls (want o) c) → (v : Value) × Opens decls t.value_type c v
opening_is decls clean o t None none = (default_of t.value_type, by_default)
opening_is decls clean o t (Some c) none =
    let v = const_is decls clean (wanted.Value t.value_type) c (subst (λ (x : Option core_type.ValueType). NoneIn (const_faults decls (want x) c)) t.is none) in
    (v.0, by_constant v.1)

global_is : (decls before : List Decl) (i : ℕ) (v : Variable) (p : core.Program) → Stage decls before i (global v) p →
    Extends decls before i (global v) p
global_is decls before i v p st =
    let a = type_faults (outside decls) v.value_type in
    let b = lock_faults decls v.name.span.start v.protection in
    let o = opening_faults decls (want (type_of (outside decls) v.value_type)) v.value in
    let has = at_has decls i (global v) st.at in
    let t = known decls st.clean (outside decls) v.value_type (of_global has) in
    let c = class_is decls st.clean v.name.span.start v.protection (none_right a b (none_left (a ++ b) o st.own)) in
    let w = opening_is decls st.clean (type_of (outside decls) v.value_type) t v.value (none_right (a ++ b) o st.own) in
    let room : length p.cells ≤ CELL_LIMIT = (let x = st.cells in let y = st.counted.cells in omega (arith, x, y)) in
    let x : Cell = record { owner = owner.Global (length p.globals); value_type = t.value_type; opening = w.0 } in
    let q : core.Program =
    record p {
      globals =
          p.globals ++ record { name = v.name.text; cell = length p.cells; class = c.0 } ∷ [];
      cells =
          p.cells ++ x ∷ [];
    } in (
      q,
      adds_global c.1 t.is w.1 (up_is CELL_LIMIT (length p.cells) room),
      grown_counted decls before (global v) p q 1 0 0 st.counted
          (record { cells = length_push p.cells x; objects = omega arith; finals = omega arith }) refl refl
          (omega arith),
    )

array_is : (decls before : List Decl) (i : ℕ) (a : Array) (p : core.Program) → Stage decls before i (array a) p →
    Extends decls before i (array a) p
array_is decls before i a p st =
    let x = type_faults (outside decls) a.value_type in
    let y = lock_faults decls a.name.span.start a.protection in
    let has = at_has decls i (array a) st.at in
    let t = known decls st.clean (outside decls) a.value_type (of_array has) in
    let c = class_is decls st.clean a.name.span.start a.protection (none_right x y st.own) in
    let room : length p.cells ≤ CELL_LIMIT = (let u = st.cells in let w = st.counted.cells in omega (arith, u, w)) in
    let few : a.length.value ≤ CELL_LIMIT = (let u = st.cells in omega (arith, u)) in
    let n = a.length.value in
    let es = elements (length p.arrays) t.value_type n in
    let y1 : core.Array =
    record { name = a.name.text; first = length p.cells; length = n; element_type = t.value_type; class = c.0 } in
    let q : core.Program = record p { arrays = p.arrays ++ y1 ∷ []; cells = p.cells ++ es } in
    let l : length (p.cells ++ es) ≡ length p.cells + n = length-append p.cells es
    ∙ ap (λ (k : ℕ). length p.cells + k) (elements_length (length p.arrays) t.value_type n) in (
      q,
      adds_array c.1 t.is (up_is CELL_LIMIT (length p.cells) room) (up_is CELL_LIMIT n few),
      grown_counted decls before (array a) p q n 0 0 st.counted
          (record { cells = l; objects = omega arith; finals = omega arith }) refl refl (omega arith),
    )

-- a struct's members are few, and each has a name of its own
pub struct_once : (decls : List Decl) → Clean decls → (s : Struct) → Has decls (struct s) →
    NoneIn (member_twice_faults [] s.members)
struct_once decls clean s h f i = clean f (of_structs decls f (in_structs decls s h f i))

pub struct_few : (decls : List Decl) → Clean decls → (s : Struct) → Has decls (struct s) →
    length s.members ≤ MEMBER_LIMIT
struct_few decls clean s h =
    let r = has_parts decls (struct s) h in
    let none : NoneIn (member_counts (total classes_of r.0) 0 s.members) = λ f i. clean f (of_counts decls r.0 r.1 (struct s) r.2 f (among_right f (one_if (nat_le STRUCT_LIMIT (count (alike (struct s)) r.0)) LimitExceeded s.name.span.start) _ i)) in
    let le = members_few (total classes_of r.0) 0 s.members none (let z : 0 ≤ MEMBER_LIMIT = omega arith in z) in
    omega (arith, le)

pool_is : (decls before : List Decl) (i : ℕ) (p : Pool) (q : core.Program) → Stage decls before i (pool p) q →
    Extends decls before i (pool p) q
pool_is decls before i p q st =
    let has = at_has decls i (pool p) st.at in
    let t = known_named decls st.clean p.target (of_pool has) in
    let d = named_decl decls st.clean p.target (of_pool has) in
    let s = d.1 in
    let here = (named_is bears decls p.target.text d.0 (struct s) d.2).here in
    let has_s = at_has decls d.0 (struct s) here in
    let once = struct_once decls st.clean s has_s in
    let members : members_of decls p.target ≡ Some s.members = ap members_in d.2 in
    let wide : width (the_decl decls p.target.text) ≡ count is_field s.members = ap width d.2 ∙ fields_are [] s.members once in
    let few = struct_few decls st.clean s has_s in
    let fin = count_few is_final s.members in
    let n = p.length.value in
    let w = count is_field s.members in
    let f = count is_final s.members in
    let small : f ≤ MEMBER_LIMIT = omega (arith, few, fin) in
    let own_cells : cells_of decls (pool p) ≡ n * w = ap (λ (k : ℕ). n * k) wide in
    let cells : length q.cells + n * w ≤ CELL_LIMIT = (let a = st.cells in let b = st.counted.cells in omega (arith, a, b, own_cells)) in
    let objects : length q.objects + n ≤ OBJECT_LIMIT = (let a = st.objects in let b = st.counted.objects in omega (arith, a, b)) in
    let nf : n * f ≤ n * MEMBER_LIMIT = times n f MEMBER_LIMIT small in
    let finals : length q.finals + n * f ≤ 2097152 = (let a = st.counted.finals in omega (arith, a, nf, objects)) in
    let y : core.Pool = record { name = p.name.text; first = length q.objects; length = n; structure = t.number } in
    let q1 : core.Program = record q { pools = q.pools ++ y ∷ [] } in
    let r = objects_put decls i (length q.pools) n s.members q1 n (omega arith) cells finals (λ m j x less e. ready decls st.clean i m p s st.at less members has_s once j x e) in (
      r.0,
      adds_pool t.is members (up_is OBJECT_LIMIT (length q.objects) (omega (arith, objects)))
          (up_is OBJECT_LIMIT n (omega (arith, objects))) r.1,
      grown_counted decls before (pool p) q r.0 (n * w) n (n * f) st.counted (record { cells = r.2.cells; objects = r.2.objects; finals = r.2.finals }) (sym own_cells) refl nf,
    )
  where
    times : (n a b : ℕ) → a ≤ b → n * a ≤ n * b
    times zero a b le = omega arith
    times (suc n) a b le = let r = times n a b le in omega (arith, r, le)

few_is : (decls : List Decl) → Clean decls → total calls_of decls ≤ CALL_LIMIT
few_is decls clean =
    let none : NoneIn (total_faults decls [] decls) = λ f i. clean f (of_totals decls f i) in
    calls_few decls [] decls none (let z : 0 ≤ CALL_LIMIT = omega arith in z)

extended_is : (decls before : List Decl) (i : ℕ) (d : Decl) (p : core.Program) → Stage decls before i d p →
    Extends decls before i d p
extended_is decls before i (lock x) p st =
    let q : core.Program = record p { classes = p.classes ++ core.global_lock x.text ∷ [] } in
    (q, adds_class, same_counted decls before (lock x) p q st.counted refl refl refl refl refl)
extended_is decls before i (struct s) p st =
    let t = struct_put decls st.clean i s st.at (length p.classes) s.members (λ m h. h) st.own in
    let q : core.Program =
    record p {
      classes = p.classes ++ lock_classes (length p.structs) 0 t.0.locks;
      structs =
          p.structs ++ t.0 ∷ [];
    } in
    (q, adds_struct t.1, same_counted decls before (struct s) p q st.counted refl refl refl refl refl)
extended_is decls before i (global v) p st = global_is decls before i v p st
extended_is decls before i (array a) p st = array_is decls before i a p st
extended_is decls before i (pool q) p st = pool_is decls before i q p st
extended_is decls before i (init j) p st =
    (p, adds_nothing, same_counted decls before (init j) p p st.counted refl refl refl refl refl)
extended_is decls before i (atomic s) p st =
    let x = section_is decls st.clean st.right section_limits s (of_section (at_has decls i (atomic s) st.at)) st.own in
    let q : core.Program = record p { sections = p.sections ++ x.0 ∷ [] } in
    (q, adds_section (types_the_section decls section_limits s x.0 x.1), same_counted decls before (atomic s) p q st.counted refl refl refl refl refl)
extended_is decls before i (helper s) p st =
    let x = section_is decls st.clean st.right helper_limits s (of_helper (at_has decls i (helper s) st.at)) st.own in
    let q : core.Program = record p { helpers = p.helpers ++ x.0 ∷ [] } in
    (q, adds_helper (types_the_section decls helper_limits s x.0 x.1), same_counted decls before (helper s) p q st.counted refl refl refl refl refl)
extended_is decls before i (thread t) p st =
    let xs = items_are decls st.clean t.items st.own in
    let q : core.Program = record p { threads = p.threads ++ record { name = t.name.text; calls = xs.0 } ∷ [] } in (
      q,
      adds_thread (few_is decls st.clean) xs.1,
      same_counted decls before
          (thread t) p q st.counted refl refl refl refl refl,
    )

resolved_is : (decls : List Decl) → Clean decls → ReturnsRight decls →
    (before ds : List Decl) (i : ℕ) (p : core.Program) → decls ≡ before ++ ds → i ≡ length before →
    ((j : ℕ) (d : Decl) → slice_get ds j ≡ Some d → slice_get decls (i + j) ≡ Some d) → Counted decls before p →
    NoneIn (total_faults decls before ds) → total (cells_of decls) before ≤ CELL_LIMIT →
    total objects_of before ≤ OBJECT_LIMIT → (q : core.Program) × AddAll decls i ds p q
resolved_is decls clean right before [] i p parts len at n none cells objects = (p, no_declaration)
resolved_is decls clean right before (d ∷ ds) i p parts len at n none cells objects =
    let here : slice_get decls i ≡ Some d = subst (λ (k : ℕ). slice_get decls k ≡ Some d) (let z : i + 0 ≡ i = omega arith in z) (at 0 d refl) in
    let counts = none_left (count_faults decls before d) (total_faults decls (before ++ d ∷ []) ds) none in
    let fc = cells_fit decls before d counts cells in
    let fo = objects_fit decls before d counts objects in
    let e = extended_is decls before i d p (record { clean = clean; right = right; at = here; counted = n; own = λ f x. clean f (of_place_at decls i d here f x); cells = fc; objects = fo }) in
    let r = resolved_is decls clean right (before ++ d ∷ []) ds (i + 1) e.0 (parts ∙ sym (append_assoc before (d ∷ []) ds)) (let l = length_push before d in omega (arith, l, len))
    (λ j x g. subst (λ (k : ℕ). slice_get decls k ≡ Some x) (let z : i + suc j ≡ i + 1 + j = omega arith in z) (at (suc j) x g)) e.2
    (none_right (count_faults decls before d) (total_faults decls (before ++ d ∷ []) ds) none)
    (let t = total_push (cells_of decls) before d in omega (arith, t, fc)) (let t = total_push objects_of before d in omega (arith, t, fo)) in
    (r.0, first_and_rest e.1 r.1)

pub faultless : (decls : List Decl) → ReturnsRight decls → Clean decls → (p : core.Program) × AreTables decls p
faultless decls right clean =
    resolved_is decls clean right [] decls 0 nothing_yet refl refl (λ j d g. subst (λ (k : ℕ). slice_get decls k ≡ Some d) (let z : j ≡ 0 + j = omega arith in z) g)
    (record { cells = refl; objects = refl; finals = omega arith }) (λ f i. clean f (of_totals decls f i)) (omega arith) (omega arith)
