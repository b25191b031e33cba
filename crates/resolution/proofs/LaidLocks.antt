-- The locks that protect the parts of a resolved program.
use Rattle.std.proofs.Common.{◌≡◌, ℕ, zero, suc, ◌+◌, ◌<◌, ◌≤◌, List, [], ◌∷◌, ◌++◌, length, Option, Some, None, true}
use Rattle.std.proofs.Common.{refl, sym, ap, ◌∙◌, subst, arith}
use Rattle.std.specs.Prelude.{slice_get, ⊤, nat_le, ◌&&◌}
use Rattle.source.specs.declared.fault.Code.TheVariants.{LimitExceeded}
use Rattle.resolution.specs.Theory.Leasts.{among_right}
use Rattle.syntax.specs.Trees.{Ident, Protection, Member, lock_member, final_member, field_member, Final, Field, Struct}
use Rattle.syntax.specs.Trees.{Decl, lock, struct, global, array}
use Rattle.core_lang.specs.Theory.Items.{behind_at}
use Rattle.resolution.specs.Core as core
use Rattle.resolution.specs.Limits.{CLASS_LIMIT, MEMBER_LIMIT, STRUCT_LIMIT, FINAL_LIMIT}
use Rattle.resolution.specs.Scopes.{outside, bears, the_decl, the_member, struct_named, count, alike, number_at}
use Rattle.resolution.specs.Scopes.{number_in}
use Rattle.resolution.specs.Numbers.{total, is_lock, classes_of, classes_ahead}
use Rattle.resolution.specs.Expressions.{member_number}
use Rattle.resolution.specs.Annotations.{class_number, class_in, class_of, AnnotationCursor, at_struct, through_member}
use Rattle.resolution.specs.Annotations.{stepped_on, ended_at, along, protection_by, cursor_at, protection_of}
use Rattle.resolution.specs.Where.{Has, first, further}
use Rattle.resolution.specs.Working.FaultLists as list
use Rattle.resolution.specs.Working.FaultLists.{one_if, member_counts, count_faults, passed_faults, along_faults}
use Rattle.resolution.specs.Working.FaultLists.{annotation_faults, protection_faults, type_faults}
use Rattle.resolution.specs.Tables.{AreTables, lock_classes}
use Rattle.resolution.proofs.Named.{named_is, member_is}
use Rattle.resolution.specs.Theory.Facts.{struct_at}
use Rattle.resolution.proofs.Parts.{of_place_at, in_members_field}
use Rattle.resolution.proofs.AllFaults.{of_totals}
use Rattle.resolution.proofs.TrueStatements.{length_push}
use Rattle.resolution.proofs.FaultlessExpressions.{NoneIn, none_left, none_right, not_if, Clean}
use Rattle.resolution.proofs.Typed.{final_in}
use Rattle.resolution.proofs.LaidLists.{rows_left, rows_right, only, bind_got, row_right, no_row}
use Rattle.resolution.proofs.LaidStages.{stands, fields_in, locks_in, lock_numbered, global_row, array_row}
use Rattle.resolution.proofs.LaidWalk.{NewRows, LockRow, ClassRow, FieldRow, parted, lands, each_row, few}
use Rattle.resolution.proofs.LaidWalk.{counted_whole}
use Rattle.resolution.proofs.LaidFacts.{struct_landed, struct_by_number, sound_of, at_most, total_landed}
use Rattle.resolution.proofs.Tests.{le_false}

-- ---- how many classes there are

members_classes : (classes n : ℕ) (ms : List Member) → NoneIn (member_counts classes n ms) → classes ≤ CLASS_LIMIT →
    classes + count is_lock ms ≤ CLASS_LIMIT
members_classes classes n [] none le = omega (arith, le)
members_classes classes n (lock_member x ∷ ms) none le =
    let a = one_if (nat_le MEMBER_LIMIT n) LimitExceeded x.span.start in
    let b = one_if (true && nat_le CLASS_LIMIT classes) LimitExceeded x.span.start in
    let rest = member_counts (classes + 1) (n + 1) ms in
    let less : classes < CLASS_LIMIT = le_false CLASS_LIMIT classes (not_if (true && nat_le CLASS_LIMIT classes) LimitExceeded x.span.start (none_right a b (none_left (a ++ b) rest none))) in
    let r = members_classes (classes + 1) (n + 1) ms (none_right (a ++ b) rest none) (let z : classes + 1 ≤ CLASS_LIMIT = omega (arith, less) in z) in
    omega (arith, r)
members_classes classes n (m ∷ ms) none le =
    let z : classes + 0 ≤ CLASS_LIMIT = omega (arith, le) in
    let r = members_classes (classes + 0) (n + 1) ms (none_right _ (member_counts (classes + 0) (n + 1) ms) none) z in
    omega (arith, r)

classes_fit : (decls before : List Decl) (d : Decl) → NoneIn (count_faults decls before d) →
    total classes_of before ≤ CLASS_LIMIT → total classes_of before + classes_of d ≤ CLASS_LIMIT
classes_fit decls before (lock x) none le = let l : total classes_of before < CLASS_LIMIT = le_false CLASS_LIMIT (total classes_of before) (not_if (nat_le CLASS_LIMIT (total classes_of before)) LimitExceeded x.span.start none) in omega (arith, l)
classes_fit decls before (struct s) none le = members_classes (total classes_of before) 0 s.members (none_right (one_if (nat_le STRUCT_LIMIT (count (alike (struct s)) before)) LimitExceeded s.name.span.start) _ none) le
classes_fit decls before d none le = omega (arith, le)

-- ---- classes

abbrev pub GlobalClass : core.Program → ℕ → Type 0
GlobalClass whole n = (name : List ℕ) × (slice_get whole.classes n ≡ Some (core.global_lock name))

-- the lock field of a class
abbrev pub ClassFact : core.Program → ℕ → core.LockClass → Type 0
ClassFact whole n (core.global_lock name) = ⊤
ClassFact whole n (core.lock_field k l) = (y : core.Struct) × (slice_get whole.structs k ≡ Some y) × (f : core.LockField) × (slice_get y.locks l ≡ Some f) × (f.class ≡ n)

classes_new : (decls : List Decl) (whole : core.Program) → NewRows decls whole (λ p. p.classes) (ClassFact whole)
classes_new decls whole before (lock x) p st k c e =
    only (ClassFact whole) (length p.classes) (core.global_lock x.text) tt k c e
classes_new decls whole before (struct x) p st l c e =
    let a = st.news in
    let k = length p.structs in
    let r = parted decls (length before) x (length p.classes) k 0 0 0 x.members a.0 a.1 in
    let here = stands (λ z. z.structs) (λ z a. refl) st.ends k a.0 (behind_at p.structs a.0 []) in
    let z = row_right (ClassRow k) (locks_in x.members) (lock_classes k 0 a.0.locks) r.classes l c e in
    let f = rows_left LockRow (length p.classes) (locks_in x.members) a.0.locks r.locks l z.0 z.1 in
    subst (ClassFact whole (length p.classes + l)) (sym z.2) (a.0, here, f.0, f.1, f.2)
classes_new decls whole before d p st k c e = no_row k c e

pub classes_of_program : (decls : List Decl) → Clean decls → (whole : core.Program) → AreTables decls whole →
    (n : ℕ) (c : core.LockClass) → slice_get whole.classes n ≡ Some c → ClassFact whole n c
classes_of_program decls clean whole is =
    each_row decls clean whole is (λ p. p.classes) (λ p a. refl) refl (ClassFact whole) (classes_new decls whole)

-- final references that lead on, as data
abbrev pub LeadIn : core.Program → ℕ → List ℕ → ℕ → Type 0
LeadIn whole from [] to = from ≡ to
LeadIn whole from (f ∷ fs) to = (next : ℕ) × (final_in whole from f ≡ Some next) × LeadIn whole next fs to

lead_more : (whole : core.Program) (from : ℕ) (fs : List ℕ) (mid n to : ℕ) → LeadIn whole from fs mid →
    final_in whole mid n ≡ Some to → LeadIn whole from (fs ++ n ∷ []) to
lead_more whole from [] mid n to h e = (to, subst (λ (k : ℕ). final_in whole k n ≡ Some to) (sym h) e, refl)
lead_more whole from (f ∷ fs) mid n to h e = (h.0, h.1, lead_more whole h.0 fs mid n to h.2 e)

abbrev pub EndsIn : core.Program → ℕ → List ℕ → core.LockClass → Type 0
EndsIn whole s through (core.global_lock name) = through ≡ []
EndsIn whole s through (core.lock_field k l) = (length through ≤ 3) × LeadIn whole s through k

abbrev pub ProtectsIn : core.Program → ℕ → core.Protection → Type 0
ProtectsIn whole s p = (c : core.LockClass) × (slice_get whole.classes p.class ≡ Some c) × EndsIn whole s p.through c

has_field : (ms : List Member) (k : ℕ) (f : Field) → slice_get (fields_in ms) k ≡ Some f → Has ms (field_member f)
has_field [] k f e = cc
has_field (field_member x ∷ ms) zero f e =
    let s : x ≡ f = cc in
    subst (λ (y : Field). Has (field_member x ∷ ms) (field_member y)) s first
has_field (field_member x ∷ ms) (suc k) f e = further (has_field ms k f e)
has_field (x ∷ ms) k f e = further (has_field ms k f e)

module _ (decls : List Decl) (clean : Clean decls) (whole : core.Program) (is : AreTables decls whole) where
  pub few_classes : length whole.classes ≤ CLASS_LIMIT
  few_classes =
      let e = (counted_whole decls clean whole is).classes in
      let l = few classes_of CLASS_LIMIT decls (classes_fit decls) [] decls (λ f i. clean f (of_totals decls f i))
      (let z : 0 ≤ CLASS_LIMIT = omega arith in z) in
      omega (arith, e, l)

  class_here : (i n : ℕ) (c : core.LockClass) → slice_get whole.classes (classes_ahead decls i + n) ≡ Some c →
      slice_get whole.classes (class_number decls i n) ≡ Some c
  class_here i n c e = at_most whole.classes (classes_ahead decls i + n) CLASS_LIMIT c few_classes e

  lock_here : (i : ℕ) (x : Ident) → slice_get decls i ≡ Some (lock x) →
      slice_get whole.classes (class_number decls i 0) ≡ Some (core.global_lock x.text)
  lock_here i x at =
      let l = lands decls clean whole is i (lock x) at in
      let c = core.global_lock x.text in
      let p = l.was in
      let here = stands (λ z. z.classes) (λ z a. refl) l.step.ends (length p.classes) c (behind_at p.classes c []) in
      let n = l.step.counts.classes in
      let t = total_landed decls whole i (lock x) l classes_of in
      class_here i 0 c (subst (λ (k : ℕ). slice_get whole.classes k ≡ Some c)
      (let z : length p.classes ≡ classes_ahead decls i + 0 = omega (arith, n, t) in z) here)

  -- the class of a struct's lock field
  lock_field_here : (i : ℕ) (x : Struct) → slice_get decls i ≡ Some (struct x) → (l : ℕ) (z : Ident) →
      slice_get (locks_in x.members) l ≡ Some z →
      slice_get whole.classes (class_number decls i l) ≡ Some (core.lock_field (number_at decls i (struct x)) l)
  unfolding struct_landed
  lock_field_here i x at l z e =
      let d = lands decls clean whole is i (struct x) at in
      let f = struct_landed decls whole d.before x d.was d.step in
      class_here i l (core.lock_field (number_at decls i (struct x)) l)
      (subst (λ (n : ℕ). slice_get whole.classes (classes_ahead decls n + l)
      ≡ Some (core.lock_field (number_at decls n (struct x)) l)) d.place
      (f.classes l z e ∙ ap (λ (k : ℕ). Some (core.lock_field k l)) (sym f.number)))

  class_in_is : (q : List ℕ) (o : Option (ℕ × Decl)) (ys : List Ident) (c : ℕ) → the_decl decls q ≡ o →
      class_in decls o ys ≡ Some c → GlobalClass whole c
  class_in_is q (Some (i, lock x)) [] c at e =
      let same : class_number decls i 0 ≡ c = cc in
      subst (GlobalClass whole) same (x.text, lock_here i x (named_is bears decls q i (lock x) at).here)
  class_in_is q o ys c at e = cc

  class_of_is : (o : Option Protection) (c : ℕ) → class_of decls o ≡ Some c → GlobalClass whole c
  class_of_is (Some p) c e = class_in_is p.first.text (the_decl decls p.first.text) p.rest c refl e
  class_of_is None c e = cc

  -- ---- globals and arrays

  globals_new : NewRows decls whole (λ p. p.globals) (λ n x. GlobalClass whole x.class)
  globals_new before (global v) p st k x e =
      only (λ n y. GlobalClass whole y.class) 0 (global_row p v st.news.0)
      (class_of_is v.protection st.news.0 st.news.3)
      k x e
  globals_new before d p st k x e = no_row k x e

  arrays_new : NewRows decls whole (λ p. p.arrays) (λ n x. GlobalClass whole x.class)
  arrays_new before (array y) p st k x e =
      only (λ n z. GlobalClass whole z.class) 0 (array_row p y st.news.0 st.news.1)
      (class_of_is y.protection st.news.0 st.news.2) k x e
  arrays_new before d p st k x e = no_row k x e

  pub globals_have : (g : ℕ) (x : core.GlobalVariable) → slice_get whole.globals g ≡ Some x → GlobalClass whole x.class
  globals_have =
      each_row decls clean whole is (λ p. p.globals) (λ p a. refl) refl (λ n x. GlobalClass whole x.class) globals_new

  pub arrays_have : (g : ℕ) (x : core.Array) → slice_get whole.arrays g ≡ Some x → GlobalClass whole x.class
  arrays_have =
      each_row decls clean whole is (λ p. p.arrays) (λ p a. refl) refl (λ n x. GlobalClass whole x.class) arrays_new

  -- ---- lock fields

  pub lock_fields_have : (s l : ℕ) (y : core.Struct) (f : core.LockField) → slice_get whole.structs s ≡ Some y →
      slice_get y.locks l ≡ Some f → slice_get whole.classes f.class ≡ Some (core.lock_field s l)
  lock_fields_have s l y f at e =
      let r = struct_by_number decls clean whole is s y at in
      let z = rows_right LockRow (classes_ahead decls r.2.place) (locks_in r.0.members) y.locks r.2.locks l f e in
      subst (λ (k : ℕ). slice_get whole.classes k ≡ Some (core.lock_field s l)) (sym z.2) (r.2.classes l z.0 z.1)

  -- ---- annotations

  -- a walk from the struct of number s is at this place
  record Stood (s : ℕ) (st : AnnotationCursor) : Type 0 where
    structure : Struct
    at : slice_get decls st.structure ≡ Some (struct structure)
    same : st.members ≡ structure.members
    lead : LeadIn whole s st.through (number_at decls st.structure (struct structure))
    short : length st.through ≤ 3

  none_along : (y : Ident) (ys : List Ident) → along decls None y ys ≡ None
  none_along y [] = refl
  none_along y (z ∷ zs) = none_along z zs

  along_there : (o : Option AnnotationCursor) (y : Ident) (ys : List Ident) (p : core.Protection) →
      along decls o y ys ≡ Some p → (st : AnnotationCursor) × (o ≡ Some st) × (along decls (Some st) y ys ≡ Some p)
  along_there (Some st) y ys p e = (st, refl, e)
  along_there None y ys p e = let s : None ≡ Some p = sym (none_along y ys) ∙ e in cc

  at_end : (s : ℕ) (st : AnnotationCursor) → Stood s st → (q : List ℕ) (o : Option (ℕ × Member)) →
      the_member st.members q ≡ o → (p : core.Protection) → ended_at decls st o ≡ Some p → ProtectsIn whole s p
  at_end s st h q (Some (i, lock_member x)) m p e =
      let n = number_in st.members i (lock_member x) in
      let there : slice_get (locks_in h.structure.members) n ≡ Some x = subst (λ (ms : List Member). slice_get (locks_in ms) n ≡ Some x) h.same (lock_numbered st.members i x (member_is st.members q i (lock_member x) m).0) in
      let same : record { through = st.through; class = class_number decls st.structure n } ≡ p = cc in
      subst (ProtectsIn whole s) same (core.lock_field (number_at decls st.structure (struct h.structure)) n, lock_field_here st.structure h.structure h.at n x there, (h.short, h.lead))
  at_end s st h q o m p e = cc

  over_final : (s : ℕ) (st : AnnotationCursor) → Stood s st → (i : ℕ) (f : Final) →
      slice_get st.members i ≡ Some (final_member f) → length st.through < 3 → (o : Option (ℕ × Decl)) →
      the_decl decls f.target.text ≡ o → (to : AnnotationCursor) →
      at_struct st.through (member_number st.members i (final_member f)) o ≡ Some to → Stood s to
  over_final s st h i f m less (Some (n, struct x)) d to e =
      let k = member_number st.members i (final_member f) in
      let here : slice_get h.structure.members i ≡ Some (final_member f) = ap (λ (ms : List Member). slice_get ms i) (sym h.same) ∙ m in
      let named : struct_named decls f.target ≡ Some (number_at decls n (struct x)) = rw d refl in
      let lead = (sound_of decls clean whole is).final (number_at decls st.structure (struct h.structure)) h.structure i f (number_at decls n (struct x)) (struct_at decls st.structure h.structure h.at) here named in
      let lead2 : final_in whole (number_at decls st.structure (struct h.structure)) k ≡ Some (number_at decls n (struct x)) = ap (λ (ms : List Member). final_in whole (number_at decls st.structure (struct h.structure)) (member_number ms i (final_member f))) h.same ∙ lead in
      let next : AnnotationCursor = record { structure = n; members = x.members; through = st.through ++ k ∷ [] } in
      let same : next ≡ to = cc in
      subst (Stood s) same
      (record {
        structure = x;
        at = (named_is bears decls f.target.text n (struct x) d).here;
        same = refl;
        lead = lead_more whole s st.through (number_at decls st.structure (struct h.structure)) k (number_at decls n (struct x)) h.lead lead2;
        short = (let l = length_push st.through k in let z : length (st.through ++ k ∷ []) ≤ 3 = omega (arith, l, less) in z);
      })
  over_final s st h i f m less o d to e = cc

  stepped : (s head here : ℕ) (st : AnnotationCursor) → Stood s st → (q : List ℕ) (o : Option (ℕ × Member)) →
      the_member st.members q ≡ o → NoneIn (passed_faults decls head here (length st.through) o) →
      (to : AnnotationCursor) → through_member decls st o ≡ Some to → Stood s to
  stepped s head here st h q (Some (i, final_member f)) m none to e =
      over_final s st h i f (member_is st.members q i (final_member f) m).0 (le_false FINAL_LIMIT (length st.through) (not_if (nat_le FINAL_LIMIT (length st.through)) LimitExceeded head none)) (the_decl decls f.target.text) refl to e
  stepped s head here st h q o m none to e = cc

  along_ok : (s head : ℕ) (st : AnnotationCursor) → Stood s st → (y : Ident) (ys : List Ident) →
      NoneIn (along_faults decls head (Some st) y ys) → (p : core.Protection) → along decls (Some st) y ys ≡ Some p →
      ProtectsIn whole s p
  along_ok s head st h y [] none p e = at_end s st h y.text (the_member st.members y.text) refl p e
  along_ok s head st h y (z ∷ zs) none p e =
      let o = stepped_on decls (Some st) y in
      let t = along_there o z zs p e in
      let a = list.passed decls head (Some st) y in
      let next = stepped s head y.span.start st h y.text (the_member st.members y.text) refl (none_left a (along_faults decls head o z zs) none) t.0 t.1 in
      along_ok s head t.0 next z zs (subst (λ (x : Option AnnotationCursor). NoneIn (along_faults decls head x z zs)) t.1 (none_right a (along_faults decls head o z zs) none)) p t.2

  protection_ok : (s i : ℕ) (x : Struct) → slice_get decls i ≡ Some (struct x) → number_at decls i (struct x) ≡ s →
      (name : ℕ) (o : Option Protection) → NoneIn (protection_faults decls i x.members name o) →
      (p : core.Protection) → protection_of decls i x.members o ≡ Some p → ProtectsIn whole s p
  protection_ok s i x at number name None none p e = cc
  protection_ok s i x at number name (Some w) none p e = by_member (the_member x.members w.first.text) none e
    where
      by_member : (o : Option (ℕ × Member)) → NoneIn (annotation_faults decls (cursor_at i x.members) w o) →
          protection_by decls (cursor_at i x.members) w o ≡ Some p → ProtectsIn whole s p
      by_member (Some m) n h = along_ok s w.first.span.start (cursor_at i x.members) (record { structure = x; at = at; same = refl; lead = sym number; short = omega arith }) w.first w.rest n p h
      by_member None n h =
          let b = bind_got (class_in decls (the_decl decls w.first.text) w.rest) (λ c. Some (record { through = []; class = c })) p h in
          let g = class_in_is w.first.text (the_decl decls w.first.text) w.rest b.0 refl b.1 in
          let same : record { through = []; class = b.0 } ≡ p = (let u = b.2 in cc) in
          subst (ProtectsIn whole s) same (core.global_lock g.0, g.1, refl)

  pub fields_have : (s f : ℕ) (y : core.Struct) (z : core.Field) → slice_get whole.structs s ≡ Some y →
      slice_get y.fields f ≡ Some z → ProtectsIn whole s z.protection
  fields_have s f y z at e =
      let r = struct_by_number decls clean whole is s y at in
      let x = r.0 in
      let i = r.2.place in
      let w = row_right (FieldRow decls i x.members) (fields_in x.members) y.fields r.2.fields f z e in
      let g = w.0 in
      let a = type_faults (outside decls) g.value_type in
      let none : NoneIn (protection_faults decls i x.members g.name.span.start g.protection) =
      λ m h. clean m (of_place_at decls i (struct x) r.2.at m (in_members_field decls i x.members x.members g (has_field x.members f g w.1) m (among_right m a _ h))) in
      protection_ok s i x r.2.at r.2.number g.name.span.start g.protection none z.protection w.2.1
