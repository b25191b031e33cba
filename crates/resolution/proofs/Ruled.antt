-- The code builds exactly the program that the rules build.
use Rattle.std.proofs.Common.{◌≡◌, ℕ, ◌+◌, List, [], ◌∷◌, ◌++◌, length, Option, Some, None, refl, sym, ap, ◌∙◌, subst}
use Rattle.syntax.specs.Trees.{Member, Struct, Variable, Array, Pool, Decl, lock, struct, global, array, pool}
use Rattle.syntax.specs.Trees.{init, atomic, helper, thread}
use Rattle.core_lang.specs.declared.value.Value.{Value}
use Rattle.core_lang.specs.declared.value.ValueType as core_type
use Rattle.resolution.specs.Core as core
use Rattle.resolution.specs.Limits.{section_limits, helper_limits, object_at, cell_at}
use Rattle.resolution.specs.Scopes.{◌>>=◌, outside, type_of, struct_named}
use Rattle.resolution.specs.Constants.{members_of}
use Rattle.resolution.specs.Annotations.{class_of}
use Rattle.resolution.specs.Working.TypedSections.{typed_section}
use Rattle.resolution.proofs.StatementRules.{types_the_section, section_is}
use Rattle.resolution.specs.Tables.{Adds, adds_class, adds_struct, adds_global, adds_array}
use Rattle.resolution.specs.Tables.{adds_pool, adds_nothing, adds_section, adds_helper, adds_thread, AddAll}
use Rattle.resolution.specs.Tables.{no_declaration, first_and_rest, Makes, lock_classes}
use Rattle.resolution.specs.Working.Building.{typed_calls}
use Rattle.resolution.specs.Working.Building.{StructBuilder, members_added, empty_struct, with_class, with_struct}
use Rattle.resolution.specs.Working.Building.{with_section, with_helper, with_thread, global_added, with_global}
use Rattle.resolution.specs.Working.Building.{opening_of, with_elements, array_added, with_array, with_objects}
use Rattle.resolution.specs.Working.Building.{pool_added, with_pool, extended, resolved_from}
use Rattle.resolution.proofs.LaidLists.{bind_got}
use Rattle.resolution.proofs.ConstantRules.{opened_ruled, opened_is}
use Rattle.resolution.proofs.RuledStructs.{made_on, made_by_rules, rules_made, makes_name}
use Rattle.resolution.proofs.RuledThreads.{calls_ruled, calls_built}
use Rattle.resolution.proofs.RuledObjects.{elements_are, objects_by_rules, rules_objects}

-- ---- each built part follows the rules

module _ (decls : List Decl) (i : ℕ) (p : core.Program) where
  abbrev before : Struct → StructBuilder
  before s = record { structure = empty_struct s.name.text; classes = p.classes }

  abbrev with_made : core.Struct → core.Program
  with_made t =
      record p { classes = p.classes ++ lock_classes (length p.structs) 0 t.locks; structs = p.structs ++ t ∷ [] }

  made_is : (s : Struct) (n : ℕ) (ms : List Member) (t : core.Struct) → Makes decls i s n ms t →
      with_struct p (Some (made_on (length p.structs) (before s) t)) ≡ Some (with_made t)
  made_is s n ms t m =
      ap (λ (x : List ℕ). Some (with_made (record t { name = x }))) (sym (makes_name decls i s n ms t m))

  struct_ruled : (s : Struct) (o : Option StructBuilder) (q : core.Program) →
      members_added decls (length p.structs) i s.members (Some (before s)) s.members ≡ o → with_struct p o ≡ Some q →
      Adds decls i (struct s) p q
  struct_ruled s (Some st) q h e =
      let m = made_by_rules decls (length p.structs) i s s.members (before s) st h in
      let some : Some (with_made m.structure) ≡ Some q =
      sym (made_is s (length p.classes) s.members m.structure m.makes)
      ∙ ap (λ (x : StructBuilder). with_struct p (Some x)) m.is ∙ e in
      let same : with_made m.structure ≡ q = cc in
      subst (Adds decls i (struct s) p) same (adds_struct m.makes)
  struct_ruled s None q h e = cc

  global_ruled : (x : Variable) (c : Option ℕ) (t : Option core_type.ValueType) (v : Option Value) (q : core.Program) →
      class_of decls x.protection ≡ c → type_of (outside decls) x.value_type ≡ t → opening_of decls t x.value ≡ v →
      with_global p x.name.text c t v ≡ Some q → Adds decls i (global x) p q
  global_ruled x (Some c) (Some t) (Some v) q f g h e =
      let a = bind_got (cell_at (length p.cells)) (λ cell. Some (global_added p x.name.text cell c t v)) q e in
      let some : Some (global_added p x.name.text a.0 c t v) ≡ Some q = a.2 in
      let same : global_added p x.name.text a.0 c t v ≡ q = cc in
      subst (Adds decls i (global x) p) same (adds_global f g (opened_ruled decls t x.value v h) a.1)
  global_ruled x (Some c) (Some t) None q f g h e = cc
  global_ruled x (Some c) None v q f g h e = cc
  global_ruled x None t v q f g h e = cc

  array_ruled : (x : Array) (c : Option ℕ) (t : Option core_type.ValueType) (q : core.Program) →
      class_of decls x.protection ≡ c → type_of (outside decls) x.value_type ≡ t →
      with_array p x.name.text c t x.length.value ≡ Some q → Adds decls i (array x) p q
  array_ruled x (Some c) (Some t) q f g e =
      let n = x.length.value in
      let a = bind_got (cell_at (length p.cells))
      (λ first. cell_at n >>= λ k. Some
      (with_elements (array_added p x.name.text first k t c) (length p.arrays) t k)) q e in
      let b = bind_got (cell_at n)
      (λ k. Some (with_elements (array_added p x.name.text a.0 k t c) (length p.arrays) t k)) q a.2 in
      let some : Some (with_elements (array_added p x.name.text a.0 b.0 t c) (length p.arrays) t b.0) ≡ Some q = b.2 in
      let same : with_elements (array_added p x.name.text a.0 b.0 t c) (length p.arrays) t b.0 ≡ q = cc in
      subst (Adds decls i (array x) p)
      (sym (elements_are (array_added p x.name.text a.0 b.0 t c) (length p.arrays) t b.0) ∙ same)
      (adds_array f g a.1 b.1)
  array_ruled x (Some c) None q f g e = cc
  array_ruled x None t q f g e = cc

  pool_ruled : (x : Pool) (s : Option ℕ) (ms : Option (List Member)) (q : core.Program) →
      struct_named decls x.target ≡ s → members_of decls x.target ≡ ms →
      with_pool decls i p x.name.text s ms x.length.value ≡ Some q → Adds decls i (pool x) p q
  pool_ruled x (Some s) (Some ms) q f g e =
      let n = x.length.value in
      let a = bind_got (object_at (length p.objects))
      (λ first. object_at n >>= λ k. with_objects decls i (length p.pools) ms
      (Some (pool_added p x.name.text first k s)) k) q e in
      let b = bind_got (object_at n)
      (λ k. with_objects decls i (length p.pools) ms (Some (pool_added p x.name.text a.0 k s)) k) q a.2 in
      adds_pool f g a.1 b.1
      (objects_by_rules decls i (length p.pools) ms b.0 (pool_added p x.name.text a.0 b.0 s) q b.2)
  pool_ruled x (Some s) None q f g e = cc
  pool_ruled x None ms q f g e = cc

pub ruled : (decls : List Decl) (i : ℕ) (p : core.Program) (d : Decl) (q : core.Program) →
    extended decls i p d ≡ Some q → Adds decls i d p q
ruled decls i p (lock x) q e = let same : with_class p (core.global_lock x.text) ≡ q = cc in
    subst (Adds decls i (lock x) p) same adds_class
ruled decls i p (struct s) q e =
    struct_ruled decls i p s
    (members_added decls (length p.structs) i s.members (Some (before decls i p s)) s.members) q refl e
ruled decls i p (global x) q e =
    global_ruled decls i p x (class_of decls x.protection) (type_of (outside decls) x.value_type)
    (opening_of decls (type_of (outside decls) x.value_type) x.value) q refl refl refl e
ruled decls i p (array x) q e =
    array_ruled decls i p x (class_of decls x.protection) (type_of (outside decls) x.value_type) q refl refl e
ruled decls i p (pool x) q e =
    pool_ruled decls i p x (struct_named decls x.target) (members_of decls x.target) q refl refl e
ruled decls i p (init j) q e = let same : p ≡ q = cc in subst (Adds decls i (init j) p) same adds_nothing
ruled decls i p (atomic s) q e = by_section (typed_section decls section_limits s) refl e
  where
    by_section : (o : Option core.Section) → typed_section decls section_limits s ≡ o → with_section p o ≡ Some q →
        Adds decls i (atomic s) p q
    by_section (Some t) h g = let same : record p { sections = p.sections ++ t ∷ [] } ≡ q = cc in
        subst (Adds decls i (atomic s) p) same (adds_section (types_the_section decls section_limits s t h))
    by_section None h g = cc
ruled decls i p (helper s) q e = by_section (typed_section decls helper_limits s) refl e
  where
    by_section : (o : Option core.Section) → typed_section decls helper_limits s ≡ o → with_helper p o ≡ Some q →
        Adds decls i (helper s) p q
    by_section (Some t) h g = let same : record p { helpers = p.helpers ++ t ∷ [] } ≡ q = cc in
        subst (Adds decls i (helper s) p) same (adds_helper (types_the_section decls helper_limits s t h))
    by_section None h g = cc
ruled decls i p (thread x) q e = by_calls (typed_calls decls x.items) refl e
  where
    by_calls : (o : Option (List core.Call)) → typed_calls decls x.items ≡ o → with_thread p x.name.text o ≡ Some q →
        Adds decls i (thread x) p q
    by_calls (Some calls) h g =
        let r = calls_ruled decls x.items calls h in
        let same : record p { threads = p.threads ++ record { name = x.name.text; calls = calls } ∷ [] } ≡ q = cc in
        subst (Adds decls i (thread x) p) same (adds_thread r.0 r.1)
    by_calls None h g = cc

none_from : (decls : List Decl) (i : ℕ) (ds : List Decl) → resolved_from decls i None ds ≡ None
none_from decls i [] = refl
none_from decls i (d ∷ ds) = none_from decls (i + 1) ds

some_from : (decls : List Decl) (i : ℕ) (ds : List Decl) (o : Option core.Program) (r : core.Program) →
    resolved_from decls i o ds ≡ Some r → (q : core.Program) × (o ≡ Some q)
some_from decls i ds (Some q) r e = (q, refl)
some_from decls i ds None r e = let s : None ≡ Some r = sym (none_from decls i ds) ∙ e in cc

pub all_ruled : (decls : List Decl) (i : ℕ) (ds : List Decl) (p r : core.Program) →
    resolved_from decls i (Some p) ds ≡ Some r → AddAll decls i ds p r
all_ruled decls i [] p r e = let same : p ≡ r = cc in subst (AddAll decls i [] p) same no_declaration
all_ruled decls i (d ∷ ds) p r e =
    let s = some_from decls (i + 1) ds (extended decls i p d) r e in
    first_and_rest (ruled decls i p d s.0 s.1)
    (all_ruled decls (i + 1) ds s.0 r
    (ap (λ (o : Option core.Program). resolved_from decls (i + 1) o ds) (sym s.1) ∙ e))

-- ---- each part by the rules is built

pub built : (decls : List Decl) (i : ℕ) (p : core.Program) (d : Decl) (q : core.Program) → Adds decls i d p q →
    extended decls i p d ≡ Some q
built decls i p d q adds_class = refl
built decls i p d q (adds_struct {s = s} {t = t} m) =
    let n = length p.classes in
    ap (with_struct p) (rules_made decls (length p.structs) i s n s.members t m (before decls i p s) refl)
    ∙ made_is decls i p s n s.members t m
built decls i p d q (adds_global f g h e) = let o = opened_is h in rw (f, g, o, e) refl
built decls i p d q (adds_array {a = x} {class = class} {first = first} {count = count} {t = t} f g e h) =
    let same = elements_are (array_added p x.name.text first count t class) (length p.arrays) t count in
    rw (f, g, e, h) (ap Some same)
built decls i p d q (adds_pool {x = x} {structure = s} {first = first} {count = count} {ms = ms} f g e h more) =
    rw (f, g, e, h) (rules_objects decls i (length p.pools) ms count (pool_added p x.name.text first count s) q more)
built decls i p d q adds_nothing = refl
built decls i p d q (adds_section h) = ap (with_section p) (section_is h)
built decls i p d q (adds_helper h) = ap (with_helper p) (section_is h)
built decls i p d q (adds_thread {x = x} {calls = calls} few are) =
    ap (with_thread p x.name.text) (calls_built decls x.items calls few are)

pub all_built : (decls : List Decl) (i : ℕ) (ds : List Decl) (p r : core.Program) → AddAll decls i ds p r →
    resolved_from decls i (Some p) ds ≡ Some r
all_built decls i ds p r no_declaration = refl
all_built decls i ds p r (first_and_rest {d = d} {ds = rest} {q = q} a more) =
    ap (λ (o : Option core.Program). resolved_from decls (i + 1) o rest) (built decls i p d q a)
    ∙ all_built decls (i + 1) rest q r more
