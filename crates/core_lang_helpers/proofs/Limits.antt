-- A program whose helpers are expanded keeps the limits.
use Rattle.std.proofs.Common.{◌≡◌, ℕ, zero, suc, ◌+◌, ◌≤◌, List, [], ◌∷◌, length, map, Some, refl, sym, ap, ◌∙◌, arith}
use Rattle.std.specs.Prelude.{slice_get}
use Rattle.std.specs.List.{AllZip}
use Rattle.std.proofs.lemmas.List.{length-map}
use Rattle.core_lang.specs.declared.tree.Section.{Section}
use Rattle.core_lang.specs.declared.typed.Struct.{Struct}
use Rattle.core_lang.specs.declared.typed.Thread.{Thread}
use Rattle.core_lang.specs.declared.typed.Typed.{Typed}
use Rattle.core_lang.specs.Expansion.{IsExpansion}
use Rattle.core_lang.specs.WrittenLocals.{local_data, written_locals, AreWrittenLocals}
use Rattle.core_lang.specs.WellFormed.{calls_together, IsWithinLimits, IsChecked}
use Rattle.core_lang_helpers.specs.Data.{lock_field_data, final_data, class_data, field_data, StructData}
use Rattle.core_lang_helpers.specs.Data.{struct_data, call_data, ThreadData, thread_data, HeadData, head_data}
use Rattle.core_lang_helpers.specs.Data.{IsSameBesides}
use Rattle.core_lang_helpers.proofs.Pairs.{zip_back}

-- ---- lists that are the same as data

pub as_long : {X D : Type 0} (f : X → D) (xs ys : List X) → map f ys ≡ map f xs → length ys ≡ length xs
as_long f xs ys e = sym (length-map ys f) ∙ ap length e ∙ length-map xs f

pub data_there : {X D : Type 0} (f : X → D) (xs ys : List X) (k : ℕ) (y : X) → map f ys ≡ map f xs →
    slice_get ys k ≡ Some y →
    (x : X) × (slice_get xs k ≡ Some x) × (f y ≡ f x)
data_there f xs [] k y e is = absurd cc
data_there f [] (w ∷ ys) k y e is = absurd cc
data_there f (v ∷ xs) (w ∷ ys) zero y e is =
    let same : w ≡ y = cc in
    let head : f w ≡ f v = cc in
    (v, refl, sym (ap f same) ∙ head)
data_there f (v ∷ xs) (w ∷ ys) (suc k) y e is =
    let tail : map f ys ≡ map f xs = cc in
    data_there f xs ys k y tail is

calls_alike : (xs ys : List Thread) → map thread_data ys ≡ map thread_data xs → calls_together ys ≡ calls_together xs
calls_alike [] [] e = refl
calls_alike [] (y ∷ ys) e = absurd cc
calls_alike (x ∷ xs) [] e = absurd cc
calls_alike (x ∷ xs) (y ∷ ys) e =
    let head : thread_data y ≡ thread_data x = cc in
    let tail : map thread_data ys ≡ map thread_data xs = cc in
    let first = as_long call_data x.calls.items y.calls.items (ap (λ (d : ThreadData). d.calls) head) in
    let rest = calls_alike xs ys tail in
    ap (λ n. n + calls_together ys) first ∙ ap (λ n. length x.calls.items + n) rest

-- ---- the limits

module _ (program program' : Typed) (checked : IsChecked program) (expands : IsExpansion program program') (same : IsSameBesides program program')
    (named : AllZip (AreWrittenLocals program.shape) program.sections.items program'.sections.items) where
  members : (s : ℕ) (y : Struct) → slice_get program'.structs.items s ≡ Some y →
      length y.locks.items + length y.finals.items + length y.fields.items ≤ 32
  members s y is =
      let found = data_there struct_data program.structs.items program'.structs.items s y same.structs is in
      let x = found.0 in
      let a = as_long lock_field_data x.locks.items y.locks.items (ap (λ (d : StructData). d.locks) found.2) in
      let b = as_long final_data x.finals.items y.finals.items (ap (λ (d : StructData). d.finals) found.2) in
      let d = as_long field_data x.fields.items y.fields.items (ap (λ (d : StructData). d.fields) found.2) in
      let few = checked.within.members s x found.1 in
      omega (arith, a, b, d, few)

  parameters : (k : ℕ) (y : Section) → slice_get program'.sections.items k ≡ Some y → y.parameters ≤ 8
  parameters k y is =
      let found = data_there head_data program.sections.items program'.sections.items k y same.heads is in
      let e = ap (λ (d : HeadData). d.parameters) found.2 in
      let few = checked.within.parameters k found.0 found.1 in
      omega (arith, e, few)

  locals : (k : ℕ) (y : Section) → slice_get program'.sections.items k ≡ Some y → length y.locals.items ≤ 64
  locals k y is =
      let found = zip_back (AreWrittenLocals program.shape) program.sections.items program'.sections.items named k y is in
      let e : length y.locals.items ≡ length (written_locals program.shape found.0) = sym (length-map y.locals.items local_data) ∙ ap length found.2 in
      let few = checked.written_locals k found.0 found.1 in
      omega (arith, e, few)

  sections : length program'.sections.items + length program'.shape.helpers.items ≤ 256
  sections =
      let a = as_long head_data program.sections.items program'.sections.items same.heads in
      let none = ap length expands.helpers in
      let few = checked.within.sections in
      omega (arith, a, none, few)

  pub within_limits : IsWithinLimits program'
  within_limits =
      let a = as_long class_data program.classes.items program'.classes.items same.classes in
      let b = as_long struct_data program.structs.items program'.structs.items same.structs in
      let d = ap length expands.places.objects in
      let e = ap length expands.cells in
      let f = as_long thread_data program.threads.items program'.threads.items same.threads in
      let g = calls_alike program.threads.items program'.threads.items same.threads in
      let w = checked.within in
      let x1 = w.classes in
      let x2 = w.structs in
      let x3 = w.objects in
      let x4 = w.cells in
      let x5 = w.threads in
      let x6 = w.calls in
      record {
        classes = omega (arith, a, x1);
        structs = omega (arith, b, x2);
        members = members;
        objects = omega (arith, d, x3);
        cells = omega (arith, e, x4);
        sections = sections;
        parameters = parameters;
        locals = locals;
        threads = omega (arith, f, x5);
        calls = omega (arith, g, x6);
      }
