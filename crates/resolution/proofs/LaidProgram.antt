-- Resolved programs are laid out as they should be.
use Rattle.std.proofs.Common.{◌≡◌, ℕ, suc, ◌+◌, ◌<◌, ◌≤◌, List, [], ◌∷◌, length, Some, None, refl, sym, ap, ◌∙◌, subst}
use Rattle.std.specs.Prelude.{slice_get, take, map}
use Rattle.std.proofs.lemmas.Option.{slice_get_within}
use Rattle.syntax.specs.Trees.{Decl, atomic, helper, Section, Param}
use Rattle.core_lang.specs.declared.value.Value.{Value}
use Rattle.core_lang.specs.declared.value.Value.TheVariants.{Int, Ref}
use Rattle.core_lang.specs.declared.value.ValueType.{ValueType}
use Rattle.core_lang.specs.declared.value.ValueType.TheVariants.{Integer, Reference}
use Rattle.core_lang.specs.declared.typed.Cell.{Cell}
use Rattle.core_lang.specs.declared.typed.CellOwner.{CellOwner}
use Rattle.core_lang.specs.declared.typed.CellOwner.TheVariants as owner
use Rattle.core_lang.specs.declared.shape.Object.{Object}
use Rattle.core_lang.specs.declared.shape.Pool as the_pool
use Rattle.core_lang.specs.declared.typed.Struct as the_struct_of
use Rattle.core_lang.specs.declared.typed.Field as the_field
use Rattle.core_lang.specs.declared.typed.FinalField as the_final
use Rattle.core_lang.specs.declared.typed.Typed.{Typed}
use Rattle.core_lang.specs.Serial.{opening_heap}
use Rattle.core_lang.specs.Typing.{lookup, struct_of, HasType, HaveTypes, IsHeap, local_types, final_target, field_type}
use Rattle.core_lang.specs.declared.typed.LockClass as the_class
use Rattle.core_lang.specs.declared.typed.LockClass.TheVariants as class
use Rattle.core_lang.specs.declared.tree.Local as the_local
use Rattle.core_lang.specs.declared.tree.Section as the_section
use Rattle.core_lang.specs.declared.typed.Call as the_call
use Rattle.core_lang.specs.declared.typed.Thread as the_thread
use Rattle.core_lang.specs.WellFormed.{IsCell, IsCellOf, IsLaidOut, IsProtected, IsGlobalLock, IsGlobalClass}
use Rattle.core_lang.specs.WellFormed.{FinalsLead, EndsAt, IsClassOf, CanCall}
use Rattle.core_lang.specs.Theory.Items.{map_at, lookup_some, map_back}
use Rattle.resolution.specs.Core as core
use Rattle.resolution.specs.CoreViews.{core_class, core_lock, core_struct, core_final, core_field, core_array}
use Rattle.resolution.specs.CoreViews.{core_pool, core_global, core_local, core_section, core_call, core_thread}
use Rattle.resolution.specs.CoreViews.{core_of}
use Rattle.resolution.specs.Limits.{section_limits, helper_limits}
use Rattle.resolution.specs.Scopes.{◌>>=◌, outside, number_at, the_struct, type_of}
use Rattle.resolution.specs.Working.TypedSections.{typed_section}
use Rattle.resolution.specs.Where.{Has}
use Rattle.resolution.specs.Resolved.{Resolves}
use Rattle.resolution.proofs.FaultlessExpressions.{Clean, at_has}
use Rattle.resolution.proofs.Typed.{final_in, field_in, final_target_is, field_type_is}
use Rattle.resolution.proofs.TypedResolvedExprs.{Sound}
use Rattle.resolution.proofs.TypedCalls.{HasHelpers}
use Rattle.resolution.proofs.StatementRules.{section_is}
use Rattle.resolution.proofs.LaidLists.{Rows, bind_got, row_right}
use Rattle.resolution.proofs.LaidStages.{fields_in, finals_in}
use Rattle.resolution.proofs.LaidWalk.{FinalRow, FieldRow}
use Rattle.resolution.proofs.LaidFacts.{StructAt, struct_of_number, sound_of, sections_of, helpers_of}
use Rattle.resolution.proofs.LaidLocks.{GlobalClass, ClassFact, LeadIn, EndsIn, classes_of_program, globals_have}
use Rattle.resolution.proofs.LaidLocks.{arrays_have, lock_fields_have, fields_have}
use Rattle.resolution.proofs.LaidScripts.{Argument, threads_of, sectioned, parameter_local, section_at, has_helpers}
use Rattle.resolution.proofs.LaidScripts.{argument_holds}
use Rattle.resolution.proofs.LaidPools.{pools_rise}
use Rattle.resolution.proofs.LaidObjects.{one_of, ObjectAt, objects_of_program, pools_of, globals_of, arrays_of}
use Rattle.resolution.proofs.LaidObjects.{struct_in, struct_of_object, OwnerFact, cells_of_program, Holds, opened_holds}
use Rattle.resolution.proofs.LaidObjects.{referred_holds}

-- ---- the views

module _ (program : Typed) where
  pub struct_is : (o s : ℕ) → struct_in (core_of program) o ≡ Some s → struct_of program.shape o ≡ Some s
  struct_is o s e =
      let a = bind_got (slice_get program.shape.objects.items o) (λ x. slice_get (core_of program).pools x.pool >>= λ y. Some y.structure) s e in
      let b = bind_got (slice_get (core_of program).pools a.0.pool) (λ y. Some y.structure) s a.2 in
      let c = map_back core_pool program.shape.pools.items a.0.pool b.0 b.1 in
      rw (a.1, c.1) (ap (λ (z : core.Pool). Some z.structure) c.2 ∙ b.2)

  pub struct_back : (o s : ℕ) → struct_of program.shape o ≡ Some s → struct_in (core_of program) o ≡ Some s
  struct_back o s e =
      let a = lookup_some (slice_get program.shape.objects.items o) (λ (x : Object). lookup (slice_get program.shape.pools.items x.pool) (λ (p : the_pool.Pool). Some p.structure)) s e in
      let b = lookup_some (slice_get program.shape.pools.items a.0.pool) (λ (p : the_pool.Pool). Some p.structure) s a.2 in
      rw (a.1, map_at core_pool program.shape.pools.items a.0.pool b.0 b.1) b.2

  pub field_back : (s f : ℕ) (t : ValueType) → field_type program s f ≡ Some t → field_in (core_of program) s f ≡ Some t
  field_back s f t e =
      let a = lookup_some (slice_get program.structs.items s) (λ (x : the_struct_of.Struct). lookup (slice_get x.fields.items f) (λ (y : the_field.Field). Some y.value_type)) t e in
      let b = lookup_some (slice_get a.0.fields.items f) (λ (y : the_field.Field). Some y.value_type) t a.2 in
      rw (map_at core_struct program.structs.items s a.0 a.1, map_at core_field a.0.fields.items f b.0 b.1) b.2

  pub final_back : (s f k : ℕ) → final_target program s f ≡ Some k → final_in (core_of program) s f ≡ Some k
  final_back s f k e =
      let a = lookup_some (slice_get program.structs.items s) (λ (x : the_struct_of.Struct). lookup (slice_get x.finals.items f) (λ (y : the_final.FinalField). Some y.target)) k e in
      let b = lookup_some (slice_get a.0.finals.items f) (λ (y : the_final.FinalField). Some y.target) k a.2 in
      rw (map_at core_struct program.structs.items s a.0 a.1, map_at core_final a.0.finals.items f b.0 b.1) b.2

  pub holds_is : (t : ValueType) (v : Value) → Holds (core_of program) t v → HasType program.shape t v
  holds_is Integer (Int n) h = tt
  holds_is Integer (Ref r) h = absurd h
  holds_is (Reference s) (Int n) h = absurd h
  holds_is (Reference s) (Ref None) h = tt
  holds_is (Reference s) (Ref (Some o)) h = struct_is o s h

  owner_is : (place : ℕ) (w : CellOwner) → OwnerFact (core_of program) place w → IsCellOf program place w
  owner_is place (owner.Global g) h =
      let r = map_back core_global program.globals.items g h.0 h.1 in
      (r.0, r.1, h.2 ∙ ap (λ (z : core.GlobalVariable). z.cell) (sym r.2))
  owner_is place (owner.Element n i) h =
      let r = map_back core_array program.shape.arrays.items n h.0 h.1 in
      (r.0, r.1, subst (λ (z : core.Array). i < z.length) (sym r.2) h.2, h.3 ∙ ap (λ (z : core.Array). z.first + i) (sym r.2))
  owner_is place (owner.Field o f) h =
      (h.0, h.1, h.2, (h.3.0, h.3.1, struct_is o h.3.0 h.3.2, field_type_is program h.3.0 f h.3.1 h.3.3))

  heap_is : (cells : List Cell) →
      ((n : ℕ) (c : Cell) → slice_get cells n ≡ Some c → HasType program.shape c.value_type c.opening) →
      HaveTypes program.shape (map (λ (cell : Cell). cell.value_type) cells) (map (λ (cell : Cell). cell.opening) cells)
  heap_is [] h = tt
  heap_is (c ∷ cells) h = (h 0 c refl, heap_is cells (λ n x e. h (suc n) x e))

  -- ---- locks

  a_global_lock : (c : the_class.LockClass) (name : List ℕ) → core_class c ≡ core.global_lock name → IsGlobalLock c
  a_global_lock (class.Global n) name e = tt
  a_global_lock (class.Field k l) name e = cc

  a_lock_field : (c : the_class.LockClass) (k l : ℕ) → core_class c ≡ core.lock_field k l → c ≡ class.Field k l
  a_lock_field (class.Global n) k l e = cc
  a_lock_field (class.Field a b) k l e =
      let x : a ≡ k = cc in
      let y : b ≡ l = cc in
      ap (λ (z : ℕ). class.Field z b) x ∙ ap (class.Field k) y

  global_class_is : (n : ℕ) → GlobalClass (core_of program) n → IsGlobalClass program n
  global_class_is n h = let r = map_back core_class program.classes.items n (core.global_lock h.0) h.1 in (r.0, r.1, a_global_lock r.0 h.0 r.2)

  lead_is : (from : ℕ) (fs : List ℕ) (to : ℕ) → LeadIn (core_of program) from fs to → FinalsLead program from fs to
  lead_is from [] to h = h
  lead_is from (f ∷ fs) to h = (h.0, final_target_is program from f h.0 h.1, lead_is h.0 fs to h.2)

  ends_is : (s : ℕ) (through : List ℕ) (c : the_class.LockClass) → EndsIn (core_of program) s through (core_class c) →
      EndsAt program s through c
  ends_is s through (class.Global name) h = h
  ends_is s through (class.Field k l) h = (h.0, lead_is s through k h.1)

  class_is : (n : ℕ) (c : the_class.LockClass) → ClassFact (core_of program) n (core_class c) → IsClassOf program n c
  class_is n (class.Global name) h = tt
  class_is n (class.Field k l) h =
      let r = map_back core_struct program.structs.items k h.0 h.1 in
      let f = map_back core_lock r.0.locks.items l h.2 (ap (λ (z : core.Struct). slice_get z.locks l) r.2 ∙ h.3) in
      (r.0, r.1, (f.0, f.1, ap (λ (z : core.LockField). z.class) f.2 ∙ h.4))

-- ---- the whole

module _ (decls : List Decl) (clean : Clean decls) (program : Typed) (is : Resolves decls program) where
  pub sound : Sound decls (core_of program)
  sound = sound_of decls clean (core_of program) is

  pub sections_are : (k : ℕ) (x : core.Section) → slice_get (core_of program).sections k ≡ Some x →
      (i : ℕ) × (s : Section) × (slice_get decls i ≡ Some (atomic s)) × (number_at decls i (atomic s) ≡ k) × (typed_section decls section_limits s ≡ Some x)
  sections_are k x e = let r = sections_of decls clean (core_of program) is k x e in
      (r.place, r.section, r.at, r.number, section_is r.typed)

  pub helpers_are : (k : ℕ) (x : core.Section) → slice_get (core_of program).helpers k ≡ Some x →
      (i : ℕ) × (s : Section) × (slice_get decls i ≡ Some (helper s)) × (number_at decls i (helper s) ≡ k) × (typed_section decls helper_limits s ≡ Some x)
  helpers_are k x e = let r = helpers_of decls clean (core_of program) is k x e in
      (r.place, r.section, r.at, r.number, section_is r.typed)

  pub helped : HasHelpers decls (core_of program)
  helped = has_helpers decls clean (core_of program) is

  -- without a declared helper, the program has none
  pub no_helpers : ((s : Section) → Has decls (helper s) → ⊥) → program.shape.helpers.items ≡ []
  no_helpers none = by_list program.shape.helpers.items refl
    where
      by_list : (xs : List the_section.Section) → program.shape.helpers.items ≡ xs → xs ≡ []
      by_list [] e = refl
      by_list (x ∷ xs) e =
          let r = helpers_are 0 (core_section x) (ap (λ (ys : List the_section.Section). slice_get (map core_section ys) 0) e) in
          absurd (none r.1 (at_has decls r.0 (helper r.1) r.2))

  pub opens : IsHeap program (opening_heap program)
  opens = heap_is program program.cells.items (λ n c e.
      (let f = cells_of_program decls clean (core_of program) is n c e in
      holds_is program c.value_type c.opening (opened_holds decls clean (core_of program) is c.value_type f.1.0 c.opening f.1.1)))

  -- an object's struct
  record Kind (o : ℕ) (x : Object) (s : ℕ) : Type 0 where
    at : ObjectAt decls (core_of program) o x
    view : core.Struct
    there : slice_get (core_of program).structs s ≡ Some view
    struct_at : StructAt decls (core_of program) s at.structure view

  kind : (o : ℕ) (x : Object) (s : ℕ) → slice_get program.shape.objects.items o ≡ Some x →
      struct_of program.shape o ≡ Some s → Kind o x s
  kind o x s e h =
      let at = objects_of_program decls clean (core_of program) is o x e in
      let g = struct_of_object (core_of program) o x.pool x at.pool e refl at.there in
      let same : Some at.pool.structure ≡ Some s = sym g ∙ struct_back program o s h in
      let eq : at.pool.structure ≡ s = cc in
      let r = struct_of_number decls clean (core_of program) is s at.structure (subst (λ (k : ℕ). the_struct decls k ≡ Some at.structure) eq at.is) in
      record { at = at; view = r.0; there = r.1; struct_at = r.2 }

  field_cell_is : (o : ℕ) (x : Object) (s f : ℕ) (t : ValueType) → Kind o x s →
      field_in (core_of program) s f ≡ Some t → IsCell program (x.cells + f) (owner.Field o f) t
  field_cell_is o x s f t k e =
      let a = bind_got (slice_get (core_of program).structs s) (λ y. slice_get y.fields f >>= λ z. Some z.value_type) t e in
      let same : a.0 ≡ k.view = one_of (core_of program).structs s a.0 k.view a.1 k.there in
      let b = bind_got (slice_get a.0.fields f) (λ z. Some z.value_type) t a.2 in
      let r = row_right (FieldRow decls k.struct_at.place k.at.structure.members) (fields_in k.at.structure.members)
      k.view.fields k.struct_at.fields f b.0 (ap (λ (y : core.Struct). slice_get y.fields f) (sym same) ∙ b.1) in
      let c = k.at.own f r.0 r.1 in
      let ty : Some c.2.0 ≡ Some t = sym c.2.3 ∙ r.2.0 ∙ b.2 in
      let eq : c.2.0 ≡ t = cc in
      record { cell = c.0; here = c.1; owned = ap (λ (z : Cell). z.owner) c.2.5; typed = ap (λ (z : Cell). z.value_type) c.2.5 ∙ eq }

  final_is : (o : ℕ) (x : Object) (s f target : ℕ) → Kind o x s → final_in (core_of program) s f ≡ Some target →
      (n : ℕ) × (slice_get program.shape.finals.items (x.finals + f) ≡ Some n) × (struct_of program.shape n ≡ Some target)
  final_is o x s f target k e =
      let a = bind_got (slice_get (core_of program).structs s) (λ y. slice_get y.finals f >>= λ z. Some z.target) target e in
      let same : a.0 ≡ k.view = one_of (core_of program).structs s a.0 k.view a.1 k.there in
      let b = bind_got (slice_get a.0.finals f) (λ z. Some z.target) target a.2 in
      let r = row_right (FinalRow decls) (finals_in k.at.structure.members) k.view.finals k.struct_at.finals f b.0
      (ap (λ (y : core.Struct). slice_get y.finals f) (sym same) ∙ b.1) in
      let c = k.at.refs f r.0 r.1 in
      let ty : Some c.2.0 ≡ Some target = sym c.2.2 ∙ r.2 ∙ b.2 in
      let h = referred_holds decls clean (core_of program) is c.2.0 c.2.1 c.0 c.2.3 in
      (c.0, c.1, struct_is program c.0 target (h ∙ ty))

  pub laid_out : IsLaidOut program
  laid_out = record {
    global = λ g x e.
        (let f = globals_of decls clean (core_of program) is g (core_global x) (map_at core_global program.globals.items g x e) in
        (f.0.value_type, record { cell = f.0; here = f.1; owned = f.2; typed = refl }));
    array = λ n x e i less.
        (let f = arrays_of decls clean (core_of program) is n (core_array x) (map_at core_array program.shape.arrays.items n x e) i less in
        record { cell = f.0; here = f.1; owned = f.2; typed = f.3 });
    pool = λ n x e i less.
        (let f = (pools_of decls clean (core_of program) is n (core_pool x) (map_at core_pool program.shape.pools.items n x e)).objects i less in
        (f.object, f.here, f.pool));
    rise = λ m n x y less ex ey.
        pools_rise decls clean (core_of program) is m n (core_pool x) (core_pool y) less
        (map_at core_pool program.shape.pools.items m x ex) (map_at core_pool program.shape.pools.items n y ey);
    structure = λ n x e.
        (let f = pools_of decls clean (core_of program) is n (core_pool x) (map_at core_pool program.shape.pools.items n x e) in
        let r = struct_of_number decls clean (core_of program) is x.structure f.structure f.is in
        let y = map_back core_struct program.structs.items x.structure r.0 r.1 in
        slice_get_within program.structs.items x.structure y.0 y.1);
    object = λ o x e.
        (let f = objects_of_program decls clean (core_of program) is o x e in
        let y = map_back core_pool program.shape.pools.items x.pool f.pool f.there in
        (y.0, y.1, subst (λ (z : core.Pool). z.first ≤ o) (sym y.2) f.from, subst (λ (z : core.Pool). o < z.first + z.length) (sym y.2) f.to));
    field = λ o x e s f t h g. field_cell_is o x s f t (kind o x s e h) (field_back program s f t g);
    final = λ o x e s f target h g. final_is o x s f target (kind o x s e h) (final_back program s f target g);
    owner = λ place cell e. owner_is program place cell.owner (cells_of_program decls clean (core_of program) is place cell e).0;
  }

  pub protected : IsProtected program
  protected = record {
    global = λ g x e. global_class_is program x.class (globals_have decls clean (core_of program) is g (core_global x) (map_at core_global program.globals.items g x e));
    array = λ n x e. global_class_is program x.class (arrays_have decls clean (core_of program) is n (core_array x) (map_at core_array program.shape.arrays.items n x e));
    field = λ s f x field e h.
        (let p = fields_have decls clean (core_of program) is s f (core_struct x) (core_field field) (map_at core_struct program.structs.items s x e) (map_at core_field x.fields.items f field h) in
        let r = map_back core_class program.classes.items field.protection.class p.0 p.1 in
        (r.0, r.1, ends_is program s field.protection.through.items r.0 (subst (EndsIn (core_of program) s field.protection.through.items) (sym r.2) p.2)));
    lock_field = λ s l x lock e h.
        (let p = lock_fields_have decls clean (core_of program) is s l (core_struct x) (core_lock lock) (map_at core_struct program.structs.items s x e) (map_at core_lock x.locks.items l lock h) in
        let r = map_back core_class program.classes.items lock.class (core.lock_field s l) p in
        r.1 ∙ ap (λ (c : the_class.LockClass). Some c) (a_lock_field program r.0 s l r.2));
    class_field = λ number c e. class_is program number c (classes_of_program decls clean (core_of program) is number (core_class c) (map_at core_class program.classes.items number c e));
  }

  -- arguments are of the types of the first locals
  arguments_fit : (n : ℕ) (ps : List Param) (ls : List the_local.Local) (vs : List Value) →
      Rows (Argument decls) n ps vs →
      ((k : ℕ) (p : Param) → slice_get ps k ≡ Some p →
      (y : the_local.Local) × (slice_get ls k ≡ Some y) × (type_of (outside decls) p.value_type ≡ Some y.value_type)) →
      HaveTypes program.shape (local_types (take (length ps) ls)) vs
  arguments_fit n [] ls [] h up = tt
  arguments_fit n [] ls (v ∷ vs) h up = absurd h
  arguments_fit n (p ∷ ps) ls [] h up = absurd h
  arguments_fit n (p ∷ ps) [] (v ∷ vs) h up = let r = up 0 p refl in let e = r.1 in cc
  arguments_fit n (p ∷ ps) (y ∷ ls) (v ∷ vs) h up =
      let r = up 0 p refl in
      let same : y ≡ r.0 = (let e = r.1 in cc) in
      let ty : type_of (outside decls) p.value_type ≡ Some y.value_type = r.2 ∙ ap (λ (z : the_local.Local). Some z.value_type) (sym same) in
      (holds_is program y.value_type v (argument_holds decls clean (core_of program) is n p v y.value_type h.0 ty), arguments_fit (suc n) ps ls vs h.1 (λ k q e. up (suc k) q e))

  pub scripts : (t k : ℕ) (thread : the_thread.Thread) (call : the_call.Call) →
      slice_get program.threads.items t ≡ Some thread → slice_get thread.calls.items k ≡ Some call →
      CanCall program call.section call.arguments.items
  unfolding CanCall
  scripts t k thread call e h =
      let f = threads_of decls clean (core_of program) is t (core_thread thread) (map_at core_thread program.threads.items t thread e) k (core_call call) (map_at core_call thread.calls.items k call h) in
      let x = section_at decls clean (core_of program) is f.place f.section f.at in
      let g = map_back core_section program.sections.items (number_at decls f.place (atomic f.section)) x.0 x.1 in
      let count : length f.section.params ≡ g.0.parameters = sym (sectioned decls section_limits f.section x.0 x.2).parameters ∙ ap (λ (z : core.Section). z.parameters) (sym g.2) in (
        g.0,
        ap (slice_get program.sections.items) (sym f.number) ∙ g.1,
        subst (λ (n : ℕ). HaveTypes program.shape (local_types (take n g.0.locals.items)) call.arguments.items) count
            (arguments_fit 0 f.section.params g.0.locals.items call.arguments.items f.fit
            (λ n p at.
            (let y = parameter_local decls section_limits f.section x.0 x.2 n p at in
            let l = map_back core_local g.0.locals.items n y.0 (ap (λ (z : core.Section). slice_get z.locals n) g.2 ∙ y.1) in
            (l.0, l.1, y.2 ∙ ap (λ (z : core.Local). Some z.value_type) (sym l.2))))),
      )
