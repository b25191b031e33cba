-- The parts of a resolved program that come from its declarations.
use Rattle.std.proofs.Common.{◌≡◌, ℕ, suc, ◌+◌, ◌≤◌, List, [], ◌∷◌, ◌++◌, length, Some, refl, sym, ap, ◌∙◌, subst}
use Rattle.std.proofs.Common.{arith}
use Rattle.std.specs.Prelude.{slice_get, take, min}
use Rattle.std.proofs.lemmas.Option.{slice_get_within}
use Rattle.syntax.specs.Trees.{Ident, Member, final_member, field_member, Final, Field, Struct, Pool, Section, Decl}
use Rattle.syntax.specs.Trees.{struct, global, array, pool, atomic, helper}
use Rattle.core_lang.specs.Theory.Items.{behind_at}
use Rattle.resolution.specs.Core as core
use Rattle.resolution.specs.Limits.{CELL_LIMIT, MEMBER_LIMIT, section_limits, helper_limits}
use Rattle.resolution.specs.Scopes.{struct_named, count, alike, number_at, number_in, structs_in, the_struct}
use Rattle.resolution.specs.Numbers.{total, classes_of, objects_of, cells_of, classes_ahead, cells_ahead, objects_ahead}
use Rattle.resolution.specs.Expressions.{cell_of, member_number}
use Rattle.resolution.specs.declared.body_limits.BodyLimits.{BodyLimits}
use Rattle.resolution.specs.Typing.{TypesSection}
use Rattle.resolution.specs.Tables.{AreTables, lock_classes}
use Rattle.resolution.proofs.FaultlessExpressions.{struct_has, Clean}
use Rattle.resolution.proofs.FaultlessMembers.{is_field, is_final, count_few}
use Rattle.resolution.proofs.FaultlessPrograms.{struct_few}
use Rattle.resolution.proofs.TypedResolvedExprs.{Sound}
use Rattle.resolution.proofs.LaidLists.{Rows, rows_append, get_behind, only, row_left, row_right, no_row}
use Rattle.resolution.proofs.LaidStages.{fields_in, finals_in, locks_in, field_numbered, final_numbered, global_cell}
use Rattle.resolution.proofs.LaidStages.{array_row, pool_row, stands, plus}
use Rattle.resolution.proofs.LaidWalk.{LockRow, ClassRow, FinalRow, FieldRow, parted, fields_counted, Step, NewRows}
use Rattle.resolution.proofs.LaidWalk.{added, Landed, lands, each_row, walked_whole}

-- ---- numbers

pub under : (n limit : ℕ) → n ≤ limit → min n limit ≡ n
under n limit le = omega (arith, le)

-- if a list is at most as long as a limit, its item n is also that at the lesser of n and the limit
pub at_most : {A : Type 0} (xs : List A) (n limit : ℕ) (x : A) → length xs ≤ limit → slice_get xs n ≡ Some x →
    slice_get xs (min n limit) ≡ Some x
at_most xs n limit x few e =
    let within = slice_get_within xs n x e in
    let le : n ≤ limit = omega (arith, within, few) in
    subst (λ (k : ℕ). slice_get xs k ≡ Some x) (sym (under n limit le)) e

pub number_landed : (decls : List Decl) (whole : core.Program) (i : ℕ) (d : Decl) (l : Landed decls whole i d) →
    number_at decls i d ≡ count (alike d) l.before
number_landed decls whole i d l = ap (λ (n : ℕ). count (alike d) (take n decls)) (sym l.place) ∙ ap (count (alike d)) l.step.ahead

pub total_landed : (decls : List Decl) (whole : core.Program) (i : ℕ) (d : Decl) (l : Landed decls whole i d) (of : Decl → ℕ) → total of (take i decls) ≡ total of l.before
total_landed decls whole i d l of = ap (λ (n : ℕ). total of (take n decls)) (sym l.place) ∙ ap (total of) l.step.ahead

-- the row that a declaration adds has the declaration's number, where as many of its kind stand ahead
pub numbered_row : {A : Type 0} (table : core.Program → List A) →
    ((p a : core.Program) → table (plus p a) ≡ table p ++ table a) → {decls : List Decl} {whole : core.Program}
    {i : ℕ} {d : Decl} (l : Landed decls whole i d) (x : A) → table (added l.step) ≡ x ∷ [] →
    length (table l.was) ≡ count (alike d) l.before → slice_get (table whole) (number_at decls i d) ≡ Some x
numbered_row {A = A} table grows {decls = decls} {whole = whole} {i = i} {d = d} l x e n =
    let k = length (table l.was) in
    let rows = grows l.was (added l.step) ∙ ap (λ (xs : List A). table l.was ++ xs) e in
    subst (λ (j : ℕ). slice_get (table whole) j ≡ Some x) (n ∙ sym (number_landed decls whole i d l))
    (stands table grows l.step.ends k x (ap (λ (xs : List A). slice_get xs k) rows ∙ behind_at (table l.was) x []))

-- ---- a pool, by its declaration

module _ (decls : List Decl) (clean : Clean decls) (whole : core.Program) (is : AreTables decls whole) where
  pub record PoolAt (n : ℕ) (x : Pool) : Type 0 where
    pub structure : ℕ
    pub named : struct_named decls x.target ≡ Some structure
    pub here : slice_get whole.pools (number_at decls n (pool x)) ≡ Some (record { name = x.name.text; first = objects_ahead decls n; length = x.length.value; structure = structure })

  pub pool_at : (n : ℕ) (x : Pool) → slice_get decls n ≡ Some (pool x) → PoolAt n x
  pool_at n x at =
      let l = lands decls clean whole is n (pool x) at in
      let p = l.was in
      let s = l.step.news.structure in
      let row : ℕ → core.Pool =
      λ k. record { name = x.name.text; first = k; length = x.length.value; structure = s } in
      let ahead : length p.objects ≡ objects_ahead decls n =
      l.step.counts.objects ∙ sym (total_landed decls whole n (pool x) l objects_of) in
      record {
        structure = s;
        named = l.step.news.named;
        here = numbered_row (λ z. z.pools) (λ z a. refl) l (pool_row p x s) refl (l.step.counts.pools x)
            ∙ ap (λ (k : ℕ). Some (row k)) ahead;
      }

-- ---- structs

pub record StructAt (decls : List Decl) (whole : core.Program) (k : ℕ) (x : Struct) (y : core.Struct) : Type 0 where
  pub place : ℕ
  pub at : slice_get decls place ≡ Some (struct x)
  pub number : number_at decls place (struct x) ≡ k
  pub locks : Rows LockRow (classes_ahead decls place) (locks_in x.members) y.locks
  pub classes : (l : ℕ) (z : Ident) → slice_get (locks_in x.members) l ≡ Some z →
      slice_get whole.classes (classes_ahead decls place + l) ≡ Some (core.lock_field k l)
  pub finals : Rows (FinalRow decls) 0 (finals_in x.members) y.finals
  pub fields : Rows (FieldRow decls place x.members) 0 (fields_in x.members) y.fields

structs_more : (before : List Decl) (d : Decl) →
    structs_in (before ++ d ∷ []) ≡ structs_in before ++ structs_in (d ∷ [])
structs_more [] d = refl
structs_more (struct x ∷ before) d = ap (λ (xs : List Struct). x ∷ xs) (structs_more before d)
structs_more (y ∷ before) d = structs_more before d

unfoldable pub struct_landed : (decls : List Decl) (whole : core.Program) (before : List Decl) (x : Struct)
    (p : core.Program)
    (st : Step decls whole before (struct x) p) → StructAt decls whole (length p.structs) x st.news.0
struct_landed decls whole before x p st =
    let a = st.news in
    let k = length p.structs in
    let r = parted decls (length before) x (length p.classes) k 0 0 0 x.members a.0 a.1 in
    let cs = lock_classes k 0 a.0.locks in
    let ahead : length p.classes ≡ classes_ahead decls (length before) =
    st.counts.classes ∙ ap (total classes_of) (sym st.ahead) in
    record {
      place = length before;
      at = st.at;
      number = ap (count (alike (struct x))) st.ahead ∙ sym (st.counts.structs x);
      locks = subst (λ (j : ℕ). Rows LockRow j (locks_in x.members) a.0.locks) ahead r.locks;
      classes = λ l z e.
          (let c = row_left (ClassRow k) (locks_in x.members) cs r.classes l z e in
          subst (λ (n : ℕ). slice_get whole.classes n ≡ Some (core.lock_field k l)) (ap (λ (n : ℕ). n + l) ahead)
          (stands (λ z. z.classes) (λ z a. refl) st.ends (length p.classes + l) c.0
          (get_behind p.classes cs l c.0 c.1) ∙ ap Some c.2));
      finals = r.finals;
      fields = r.fields;
    }

-- the structs that a step adds are those that it declares
new_structs : (decls : List Decl) (whole : core.Program) (before : List Decl) (d : Decl) (p : core.Program)
    (st : Step decls whole before d p) →
    Rows (StructAt decls whole) (length p.structs) (structs_in (d ∷ [])) (added st).structs
new_structs decls whole before (struct x) p st = (struct_landed decls whole before x p st, tt)
new_structs decls whole before d p st = tt

-- the structs of a program are those that are declared
pub structs_are : (decls : List Decl) → Clean decls → (whole : core.Program) → AreTables decls whole →
    Rows (StructAt decls whole) 0 (structs_in decls) whole.structs
structs_are decls clean whole is =
    walked_whole decls clean whole is (λ before p. Rows (StructAt decls whole) 0 (structs_in before) p.structs) tt
    (λ before d p st h.
    subst (λ (xs : List Struct). Rows (StructAt decls whole) 0 xs (p.structs ++ (added st).structs))
    (sym (structs_more before d))
    (rows_append (StructAt decls whole) 0 (structs_in before) p.structs (structs_in (d ∷ [])) (added st).structs h
    (subst (λ (n : ℕ). Rows (StructAt decls whole) n (structs_in (d ∷ [])) (added st).structs)
    (let z : length p.structs ≡ 0 + length p.structs = omega arith in z) (new_structs decls whole before d p st))))

pub struct_of_number : (decls : List Decl) → Clean decls → (whole : core.Program) → AreTables decls whole →
    (s : ℕ) (x : Struct) → the_struct decls s ≡ Some x →
    (y : core.Struct) × (slice_get whole.structs s ≡ Some y) × StructAt decls whole s x y
struct_of_number decls clean whole is s x e =
    row_left (StructAt decls whole) (structs_in decls) whole.structs (structs_are decls clean whole is) s x e

pub struct_by_number : (decls : List Decl) → Clean decls → (whole : core.Program) → AreTables decls whole →
    (s : ℕ) (y : core.Struct) → slice_get whole.structs s ≡ Some y →
    (x : Struct) × (the_struct decls s ≡ Some x) × StructAt decls whole s x y
struct_by_number decls clean whole is s y e =
    row_right (StructAt decls whole) (structs_in decls) whole.structs (structs_are decls clean whole is) s y e

-- ---- members

pub finals_counted : (ms : List Member) → length (finals_in ms) ≡ count is_final ms
finals_counted [] = refl
finals_counted (final_member x ∷ ms) = ap suc (finals_counted ms)
finals_counted (x ∷ ms) = finals_counted ms

pub member_field : (decls : List Decl) → Clean decls → (x : Struct) (s m : ℕ) (f : Field) →
    the_struct decls s ≡ Some x → slice_get x.members m ≡ Some (field_member f) →
    slice_get (fields_in x.members) (member_number x.members m (field_member f)) ≡ Some f
member_field decls clean x s m f is at =
    let b = fields_counted x.members in
    let c = count_few is_field x.members in
    let d = struct_few decls clean x (struct_has decls s x is) in
    at_most (fields_in x.members) (number_in x.members m (field_member f)) MEMBER_LIMIT f (omega (arith, b, c, d))
    (field_numbered x.members m f at)

pub member_final : (decls : List Decl) → Clean decls → (x : Struct) (s m : ℕ) (f : Final) →
    the_struct decls s ≡ Some x → slice_get x.members m ≡ Some (final_member f) →
    slice_get (finals_in x.members) (member_number x.members m (final_member f)) ≡ Some f
member_final decls clean x s m f is at =
    let b = finals_counted x.members in
    let c = count_few is_final x.members in
    let d = struct_few decls clean x (struct_has decls s x is) in
    at_most (finals_in x.members) (number_in x.members m (final_member f)) MEMBER_LIMIT f (omega (arith, b, c, d))
    (final_numbered x.members m f at)

-- ---- the program has each thing with its type at its number

pub sound_of : (decls : List Decl) → Clean decls → (whole : core.Program) → AreTables decls whole →
    Sound decls whole
sound_of decls clean whole is = record {
  cell = λ n v t at ty.
      (let l = lands decls clean whole is n (global v) at in
      let p = l.was in
      let a = l.step.news in
      let c = global_cell p a.1 a.2 in
      let ahead : length p.cells ≡ cells_ahead decls n =
      l.step.counts.cells ∙ sym (total_landed decls whole n (global v) l (cells_of decls)) in
      let small : cells_ahead decls n ≤ CELL_LIMIT = subst (λ (k : ℕ). k ≤ CELL_LIMIT) ahead a.6 in
      let here : slice_get whole.cells (cell_of decls n) ≡ Some c =
      subst (λ (k : ℕ). slice_get whole.cells k ≡ Some c) (ahead ∙ sym (under (cells_ahead decls n) CELL_LIMIT small))
      (stands (λ z. z.cells) (λ z a. refl) l.step.ends (length p.cells) c (behind_at p.cells c [])) in
      let same : Some a.1 ≡ Some t = sym a.4 ∙ ty in
      rw here same);
  array = λ n x t at ty.
      (let l = lands decls clean whole is n (array x) at in
      let a = l.step.news in
      let here = numbered_row (λ z. z.arrays) (λ z a. refl) l (array_row l.was x a.0 a.1) refl
      (l.step.counts.arrays x) in
      let same : Some a.1 ≡ Some t = sym a.3 ∙ ty in
      rw here same);
  pool = λ n x s at ty.
      (let g = pool_at decls clean whole is n x at in
      let same : Some g.structure ≡ Some s = sym g.named ∙ ty in
      rw (g.here) same);
  final = λ s x m f k at here ty.
      (let r = struct_of_number decls clean whole is s x at in
      let n = member_number x.members m (final_member f) in
      let y = row_left (FinalRow decls) (finals_in x.members) r.0.finals r.2.finals n f
      (member_final decls clean x s m f at here) in
      let same : Some y.0.target ≡ Some k = sym y.2 ∙ ty in
      rw (r.1, y.1) same);
  field = λ s x m f t at here ty.
      (let r = struct_of_number decls clean whole is s x at in
      let n = member_number x.members m (field_member f) in
      let y = row_left (FieldRow decls r.2.place x.members) (fields_in x.members) r.0.fields r.2.fields n f
      (member_field decls clean x s m f at here) in
      let same : Some y.0.value_type ≡ Some t = sym y.2.0 ∙ ty in
      rw (r.1, y.1) same);
}

-- ---- sections and helpers

-- the declaration of a section or a helper
pub record BodyAt (decls : List Decl) (kind : Section → Decl) (limits : BodyLimits) (k : ℕ)
    (x : core.Section) : Type 0 where
  pub place : ℕ
  pub section : Section
  pub at : slice_get decls place ≡ Some (kind section)
  pub number : number_at decls place (kind section) ≡ k
  pub typed : TypesSection decls limits section x

abbrev pub SectionAt : List Decl → ℕ → core.Section → Type 0
SectionAt decls k x = BodyAt decls atomic section_limits k x

abbrev pub HelperAt : List Decl → ℕ → core.Section → Type 0
HelperAt decls k x = BodyAt decls helper helper_limits k x

sections_new : (decls : List Decl) (whole : core.Program) → NewRows decls whole (λ p. p.sections) (SectionAt decls)
sections_new decls whole before (atomic s) p st k x e =
    only (SectionAt decls) (length p.sections) st.news.0
    (record {
      place = length before;
      section = s;
      at = st.at;
      number = ap (count (alike (atomic s))) st.ahead ∙ sym (st.counts.sections s);
      typed = st.news.1;
    }) k x e
sections_new decls whole before d p st k x e = no_row k x e

pub sections_of : (decls : List Decl) → Clean decls → (whole : core.Program) → AreTables decls whole →
    (k : ℕ) (x : core.Section) → slice_get whole.sections k ≡ Some x → SectionAt decls k x
sections_of decls clean whole is =
    each_row decls clean whole is (λ p. p.sections) (λ p a. refl) refl (SectionAt decls) (sections_new decls whole)

helpers_new : (decls : List Decl) (whole : core.Program) → NewRows decls whole (λ p. p.helpers) (HelperAt decls)
helpers_new decls whole before (helper s) p st k x e =
    only (HelperAt decls) (length p.helpers) st.news.0
    (record {
      place = length before;
      section = s;
      at = st.at;
      number = ap (count (alike (helper s))) st.ahead ∙ sym (st.counts.helpers s);
      typed = st.news.1;
    }) k x e
helpers_new decls whole before d p st k x e = no_row k x e

pub helpers_of : (decls : List Decl) → Clean decls → (whole : core.Program) → AreTables decls whole →
    (k : ℕ) (x : core.Section) → slice_get whole.helpers k ≡ Some x → HelperAt decls k x
helpers_of decls clean whole is =
    each_row decls clean whole is (λ p. p.helpers) (λ p a. refl) refl (HelperAt decls) (helpers_new decls whole)
