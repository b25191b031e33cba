-- Expansions of programs that stand for one resolved program stand for one resolved program.
use Rattle.std.proofs.Common.{◌≡◌, ℕ, suc, List, [], ◌∷◌, map, Some, refl, sym, ap, ◌∙◌, subst}
use Rattle.std.specs.Prelude.{slice_get}
use Rattle.std.specs.List.{AllZip}
use Rattle.core_lang.specs.declared.shape.Shape.{Shape}
use Rattle.core_lang.specs.declared.tree.Section as the_section
use Rattle.core_lang.specs.declared.typed.Typed.{Typed}
use Rattle.core_lang.specs.declared.typed.LockClass as the_class
use Rattle.core_lang.specs.declared.typed.LockClass.TheVariants as class_case
use Rattle.core_lang.specs.declared.typed.Struct as the_struct
use Rattle.core_lang.specs.declared.typed.Thread as the_thread
use Rattle.core_lang.specs.Expansion.{ArrayData, array_data, PoolData, pool_data, IsWrittenOut}
use Rattle.core_lang.specs.WrittenLocals.{AreWrittenLocals}
use Rattle.core_lang_helpers.specs.Data.{Numbered, lock_field_data, final_data, ClassData, NamedLock, FieldLock}
use Rattle.core_lang_helpers.specs.Data.{class_data, FieldData, field_data, StructData, struct_data, GlobalData}
use Rattle.core_lang_helpers.specs.Data.{global_data, CallData, call_data, ThreadData, thread_data, HeadData}
use Rattle.core_lang_helpers.specs.Data.{head_data, IsExpanded}
use Rattle.resolution.specs.Core.{Section, LockClass, global_lock, lock_field, LockField, FinalField, Field, Struct}
use Rattle.resolution.specs.Core.{GlobalVariable, Array, Pool, Call, Thread, Program}
use Rattle.resolution.specs.CoreViews.{core_section, core_class, core_lock, core_final, core_field, core_struct}
use Rattle.resolution.specs.CoreViews.{core_global, core_array, core_pool, core_call, core_thread, core_of}
use Rattle.compiler.proofs.WrittenAlike.{body_alike}
use Rattle.compiler.proofs.LocalsAlike.{mapped_twice, locals_alike}

-- lists that a view `f` makes equal are made equal by each view that factors through `f`
seen_so : {A B C : Type 0} (f : A → B) (g : B → C) (h : A → C) (xs ys : List A) → ((x : A) → g (f x) ≡ h x) →
    map f ys ≡ map f xs → map h ys ≡ map h xs
seen_so f g h xs ys same e = sym (mapped_twice f g h ys same) ∙ ap (map g) e ∙ mapped_twice f g h xs same

abbrev class_of : ClassData → LockClass
class_of (NamedLock name) = global_lock name
class_of (FieldLock s l) = lock_field s l

class_is : (c : the_class.LockClass) → class_of (class_data c) ≡ core_class c
class_is (class_case.Global name) = refl
class_is (class_case.Field s l) = refl

abbrev lock_of : Numbered → LockField
lock_of n = record { name = n.name; class = n.number }

abbrev final_of : Numbered → FinalField
final_of n = record { name = n.name; target = n.number }

abbrev field_of : FieldData → Field
field_of f = record { name = f.name; value_type = f.value_type; protection = record { through = f.through; class = f.class } }

abbrev struct_of : StructData → Struct
struct_of x = record { name = x.name; locks = map lock_of x.locks; finals = map final_of x.finals; fields = map field_of x.fields }

struct_is : (x : the_struct.Struct) → struct_of (struct_data x) ≡ core_struct x
struct_is x =
    let locks = mapped_twice lock_field_data lock_of core_lock x.locks.items (λ l. refl) in
    let finals = mapped_twice final_data final_of core_final x.finals.items (λ f. refl) in
    let fields = mapped_twice field_data field_of core_field x.fields.items (λ f. refl) in
    λ i. record { name = (core_struct x).name; locks = locks i; finals = finals i; fields = fields i }

abbrev global_of : GlobalData → GlobalVariable
global_of g = record { name = g.name; cell = g.cell; class = g.class }

abbrev array_of : ArrayData → Array
array_of a = record { name = a.name; first = a.first; length = a.count; element_type = a.element; class = a.class }

abbrev pool_of : PoolData → Pool
pool_of p = record { name = p.name; first = p.first; length = p.count; structure = p.structure }

abbrev call_of : CallData → Call
call_of c = record { section = c.section; arguments = c.arguments }

abbrev thread_of : ThreadData → Thread
thread_of t = record { name = t.name; calls = map call_of t.calls }

thread_is : (t : the_thread.Thread) → thread_of (thread_data t) ≡ core_thread t
thread_is t =
    let calls = mapped_twice call_data call_of core_call t.calls.items (λ c. refl) in
    λ i. record { name = (core_thread t).name; calls = calls i }

-- ---- sections

section_alike : (shape shape' : Shape) (x y x' y' : the_section.Section) →
    map core_section shape.helpers.items ≡ map core_section shape'.helpers.items →
    core_section x ≡ core_section y → IsWrittenOut shape x x' → AreWrittenLocals shape x x' → head_data x' ≡ head_data x → IsWrittenOut shape' y y' → AreWrittenLocals shape' y y' →
    head_data y' ≡ head_data y → core_section x' ≡ core_section y'
section_alike shape shape' x y x' y' helpers same out locals head out' locals' head' =
    let body = body_alike shape shape' x y x' y' helpers same out out' in
    let own = locals_alike shape shape' x y x' y' helpers same locals locals' in
    let name = ap (λ (h : HeadData). h.name) head ∙ ap (λ (z : Section). z.name) same ∙ sym (ap (λ (h : HeadData). h.name) head') in
    let parameters = ap (λ (h : HeadData). h.parameters) head ∙ ap (λ (z : Section). z.parameters) same ∙ sym (ap (λ (h : HeadData). h.parameters) head') in
    let result = ap (λ (h : HeadData). h.result_type) head ∙ ap (λ (z : Section). z.result_type) same ∙ sym (ap (λ (h : HeadData). h.result_type) head') in
    let listed = ap (λ (h : HeadData). h.listed) head ∙ ap (λ (z : Section). z.listed) same ∙ sym (ap (λ (h : HeadData). h.listed) head') in
    λ i. record {
      name = name i;
      parameters = parameters i;
      locals = own i;
      result_type = result i;
      listed = listed i;
      body = body.0 i;
      result = body.1 i;
    }

sections_alike : (shape shape' : Shape) (xs ys xs' ys' : List the_section.Section) →
    map core_section shape.helpers.items ≡ map core_section shape'.helpers.items →
    map core_section xs ≡ map core_section ys → AllZip (IsWrittenOut shape) xs xs' → AllZip (AreWrittenLocals shape) xs xs' → map head_data xs' ≡ map head_data xs →
    AllZip (IsWrittenOut shape') ys ys' → AllZip (AreWrittenLocals shape') ys ys' → map head_data ys' ≡ map head_data ys → map core_section xs' ≡ map core_section ys'
sections_alike shape shape' [] [] [] [] helpers same out locals heads out' locals' heads' = refl
sections_alike shape shape' (x ∷ xs) (y ∷ ys) (x' ∷ xs') (y' ∷ ys') helpers same out locals heads out' locals' heads' =
    let first : core_section x ≡ core_section y = cc in
    let rest : map core_section xs ≡ map core_section ys = cc in
    let head : head_data x' ≡ head_data x = cc in
    let further : map head_data xs' ≡ map head_data xs = cc in
    let head' : head_data y' ≡ head_data y = cc in
    let further' : map head_data ys' ≡ map head_data ys = cc in
    let this = section_alike shape shape' x y x' y' helpers first out.0 locals.0 head out'.0 locals'.0 head' in
    let others = sections_alike shape shape' xs ys xs' ys' helpers rest out.1 locals.1 further out'.1 locals'.1 further' in
    λ i. this i ∷ others i
sections_alike shape shape' [] (y ∷ ys) xs' ys' helpers same out locals heads out' locals' heads' = absurd cc
sections_alike shape shape' (x ∷ xs) [] xs' ys' helpers same out locals heads out' locals' heads' = absurd cc
sections_alike shape shape' [] [] (x' ∷ xs') ys' helpers same out locals heads out' locals' heads' = absurd out
sections_alike shape shape' [] [] [] (y' ∷ ys') helpers same out locals heads out' locals' heads' = absurd out'
sections_alike shape shape' (x ∷ xs) (y ∷ ys) [] ys' helpers same out locals heads out' locals' heads' = absurd out
sections_alike shape shape' (x ∷ xs) (y ∷ ys) (x' ∷ xs') [] helpers same out locals heads out' locals' heads' = absurd out'

-- a relation that holds at each index of two lists of one length
zipped : {X : Type 0} (R S : X → X → Type 0) (xs ys : List X) →
    ((k : ℕ) (x : X) → slice_get xs k ≡ Some x → (y : X) × (slice_get ys k ≡ Some y) × R x y) → AllZip S xs ys →
    AllZip R xs ys
zipped R S [] [] there same = tt
zipped R S [] (y ∷ ys) there same = absurd same
zipped R S (x ∷ xs) [] there same = absurd same
zipped R S (x ∷ xs) (y ∷ ys) there same =
    let found = there 0 x refl in
    let is : y ≡ found.0 = let e = found.1 in cc in
    (subst (R x) (sym is) found.2, zipped R S xs ys (λ k z e. there (suc k) z e) same.1)

-- ---- programs

pub expanded_alike : (program other written written' : Typed) → core_of program ≡ core_of other →
    IsExpanded program written → IsExpanded other written' →
    core_of written ≡ core_of written'
expanded_alike program other written written' same out out' =
    let helpers : map core_section program.shape.helpers.items ≡ map core_section other.shape.helpers.items = ap (λ (p : Program). p.helpers) same in
    let sections = sections_alike program.shape other.shape program.sections.items other.sections.items written.sections.items written'.sections.items helpers
    (ap (λ (p : Program). p.sections) same) (zipped (IsWrittenOut program.shape) (AreWrittenLocals program.shape) program.sections.items written.sections.items out.expansion.there out.locals) out.locals out.besides.heads
    (zipped (IsWrittenOut other.shape) (AreWrittenLocals other.shape) other.sections.items written'.sections.items out'.expansion.there out'.locals) out'.locals out'.besides.heads
    in
    let classes = seen_so class_data class_of core_class _ _ class_is out.besides.classes ∙ ap (λ (p : Program). p.classes) same
    ∙ sym (seen_so class_data class_of core_class _ _ class_is out'.besides.classes)
    in
    let structs = seen_so struct_data struct_of core_struct _ _ struct_is out.besides.structs ∙ ap (λ (p : Program). p.structs) same
    ∙ sym (seen_so struct_data struct_of core_struct _ _ struct_is out'.besides.structs)
    in
    let globals = seen_so global_data global_of core_global _ _ (λ g. refl) out.besides.globals ∙ ap (λ (p : Program). p.globals) same
    ∙ sym (seen_so global_data global_of core_global _ _ (λ g. refl) out'.besides.globals)
    in
    let arrays = seen_so array_data array_of core_array _ _ (λ x. refl) out.expansion.places.arrays ∙ ap (λ (p : Program). p.arrays) same
    ∙ sym (seen_so array_data array_of core_array _ _ (λ x. refl) out'.expansion.places.arrays)
    in
    let pools = seen_so pool_data pool_of core_pool _ _ (λ x. refl) out.expansion.places.pools ∙ ap (λ (p : Program). p.pools) same
    ∙ sym (seen_so pool_data pool_of core_pool _ _ (λ x. refl) out'.expansion.places.pools)
    in
    let objects = out.expansion.places.objects ∙ ap (λ (p : Program). p.objects) same ∙ sym out'.expansion.places.objects in
    let finals = out.expansion.places.finals ∙ ap (λ (p : Program). p.finals) same ∙ sym out'.expansion.places.finals in
    let cells = out.expansion.cells ∙ ap (λ (p : Program). p.cells) same ∙ sym out'.expansion.cells in
    let none = ap (map core_section) out.expansion.helpers ∙ sym (ap (map core_section) out'.expansion.helpers) in
    let threads = seen_so thread_data thread_of core_thread _ _ thread_is out.besides.threads ∙ ap (λ (p : Program). p.threads) same
    ∙ sym (seen_so thread_data thread_of core_thread _ _ thread_is out'.besides.threads)
    in
    λ i. record {
      classes = classes i;
      structs = structs i;
      globals = globals i;
      arrays = arrays i;
      pools = pools i;
      objects = objects i;
      finals = finals i;
      cells = cells i;
      helpers = none i;
      sections = sections i;
      threads = threads i;
    }
