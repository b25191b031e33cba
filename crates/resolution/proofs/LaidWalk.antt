-- The steps of resolution one after another, and the state before each.
use Rattle.std.proofs.Common.{◌≡◌, ℕ, zero, suc, ◌+◌, ◌*◌, ◌≤◌, List, [], ◌∷◌, ◌++◌, length, Option, Some, refl, sym}
use Rattle.std.proofs.Common.{ap, ◌∙◌, subst, append_assoc, arith, Bool}
use Rattle.std.specs.Prelude.{slice_get, take, ⊤}
use Rattle.std.proofs.lemmas.List.{length-append, append-nil}
use Rattle.syntax.specs.Trees.{Ident, Member, lock_member, field_member, Final, Field, Struct, Array, Pool, Section}
use Rattle.syntax.specs.Trees.{Decl, lock, struct, array, pool, atomic, helper}
use Rattle.core_lang.specs.declared.value.ValueType as core_type
use Rattle.core_lang.specs.declared.typed.CellOwner.TheVariants as owner
use Rattle.core_lang.specs.Theory.Items.{behind_at}
use Rattle.resolution.specs.Core as core
use Rattle.resolution.specs.Limits.{OBJECT_LIMIT}
use Rattle.resolution.specs.Scopes.{outside, bears, the_decl, type_of, struct_named, count, alike}
use Rattle.resolution.specs.Numbers.{total, is_lock, classes_of, objects_of, cells_of, width}
use Rattle.resolution.specs.Constants.{members_of, members_in, default_of}
use Rattle.resolution.specs.Annotations.{protection_of}
use Rattle.resolution.specs.Working.FaultLists.{count_faults, total_faults}
use Rattle.resolution.specs.Tables.{nothing_yet, AreTables, AddAll, no_declaration, first_and_rest, Makes, no_member}
use Rattle.resolution.specs.Tables.{lock_field, final_field, lock_classes, field, elements}
use Rattle.resolution.proofs.Named.{named_is}
use Rattle.resolution.proofs.AllFaults.{of_totals}
use Rattle.resolution.proofs.TrueStatements.{length_push}
use Rattle.resolution.proofs.FaultlessExpressions.{NoneIn, none_left, none_right, at_has, Clean}
use Rattle.resolution.proofs.FaultlessMembers.{is_field, fields_are}
use Rattle.resolution.proofs.FaultlessPrograms.{total_push, objects_fit, struct_once}
use Rattle.resolution.proofs.LaidLists.{Rows, rows_length, get_pushed, take_front, as_one, count_push, get_parts}
use Rattle.resolution.proofs.LaidStages.{fields_in, finals_in, locks_in, Chain, adds, Begins, begins_same, begins_on}
use Rattle.resolution.proofs.LaidStages.{News, fresh, next_object, plus}

-- ---- a struct's parts

abbrev pub LockRow : ℕ → Ident → core.LockField → Type 0
LockRow j x y = y.class ≡ j

abbrev pub ClassRow : ℕ → ℕ → Ident → core.LockClass → Type 0
ClassRow k j x y = y ≡ core.lock_field k j

abbrev pub FinalRow : List Decl → ℕ → Final → core.FinalField → Type 0
FinalRow decls j f y = struct_named decls f.target ≡ Some y.target

abbrev pub FieldRow : List Decl → ℕ → List Member → ℕ → Field → core.Field → Type 0
FieldRow decls i all j f y = (type_of (outside decls) f.value_type ≡ Some y.value_type) × (protection_of decls i all f.protection ≡ Some y.protection)

pub record Parted (decls : List Decl) (i : ℕ) (s : Struct) (n k j a b : ℕ) (ms : List Member)
    (t : core.Struct) : Type 0 where
  pub classes : Rows (ClassRow k) j (locks_in ms) (lock_classes k j t.locks)
  pub locks : Rows LockRow n (locks_in ms) t.locks
  pub finals : Rows (FinalRow decls) a (finals_in ms) t.finals
  pub fields : Rows (FieldRow decls i s.members) b (fields_in ms) t.fields

-- the struct that members make, row by row
pub parted : (decls : List Decl) (i : ℕ) (s : Struct) (n k j a b : ℕ) (ms : List Member) (t : core.Struct) →
    Makes decls i s n ms t → Parted decls i s n k j a b ms t
parted decls i s n k j a b ms t no_member = record { classes = tt; locks = tt; finals = tt; fields = tt }
parted decls i s n k j a b ms t (lock_field {ms = rest} {t = u} m) =
    let r = parted decls i s (n + 1) k (j + 1) a b rest u m in
    let one : n + 1 ≡ suc n = omega arith in
    let next : j + 1 ≡ suc j = omega arith in
    record {
      classes = (
        refl,
        subst
            (λ (x : ℕ). Rows (ClassRow k) x (locks_in rest) (lock_classes k (j + 1) u.locks)) next r.classes,
      );
      locks = (refl, subst (λ (x : ℕ). Rows LockRow x (locks_in rest) u.locks) one r.locks);
      finals = r.finals;
      fields = r.fields;
    }
parted decls i s n k j a b ms t (final_field {ms = rest} {t = u} e m) =
    let r = parted decls i s n k j (suc a) b rest u m in
    record { classes = r.classes; locks = r.locks; finals = (e, r.finals); fields = r.fields }
parted decls i s n k j a b ms t (field {ms = rest} {t = u} e h m) =
    let r = parted decls i s n k j a (suc b) rest u m in
    record { classes = r.classes; locks = r.locks; finals = r.finals; fields = ((e, h), r.fields) }

-- ---- how many there are

pub locks_counted : (ms : List Member) → length (locks_in ms) ≡ count is_lock ms
locks_counted [] = refl
locks_counted (lock_member x ∷ ms) = ap suc (locks_counted ms)
locks_counted (x ∷ ms) = locks_counted ms

pub fields_counted : (ms : List Member) → length (fields_in ms) ≡ count is_field ms
fields_counted [] = refl
fields_counted (field_member x ∷ ms) = ap suc (fields_counted ms)
fields_counted (x ∷ ms) = fields_counted ms

-- the struct that members are of
pub record Membership (decls : List Decl) (x : Ident) (ms : List Member) : Type 0 where
  pub place : ℕ
  pub structure : Struct
  pub named : the_decl decls x.text ≡ Some (place, struct structure)
  pub here : slice_get decls place ≡ Some (struct structure)
  pub are : structure.members ≡ ms

members_by : (decls : List Decl) (x : Ident) (ms : List Member) (o : Option (ℕ × Decl)) → the_decl decls x.text ≡ o →
    members_in o ≡ Some ms → Membership decls x ms
members_by decls x ms (Some (n, struct s)) e h = record { place = n; structure = s; named = e; here = (named_is bears decls x.text n (struct s) e).here; are = cc }
members_by decls x ms o e h = cc

pub membership : (decls : List Decl) (x : Ident) (ms : List Member) → members_of decls x ≡ Some ms →
    Membership decls x ms
membership decls x ms e = members_by decls x ms (the_decl decls x.text) refl e

wide : (decls : List Decl) → Clean decls → (x : Ident) (ms : List Member) → members_of decls x ≡ Some ms →
    width (the_decl decls x.text) ≡ length (fields_in ms)
wide decls clean x ms e =
    let m = membership decls x ms e in
    let once = struct_once decls clean m.structure (at_has decls m.place (struct m.structure) m.here) in
    ap width m.named ∙ fields_are [] m.structure.members once ∙ sym (fields_counted m.structure.members) ∙ ap (λ (ys : List Member). length (fields_in ys)) m.are

-- ---- how many a pool and an array add

pub chain_objects : (decls : List Decl) (number : ℕ) (ms : List Member) (n : ℕ) (p q : core.Program) →
    Chain decls number ms n p q → length q.objects ≡ length p.objects + n
chain_objects decls number ms zero p q c = ap (λ (x : core.Program). length x.objects) (sym c) ∙ omega arith
chain_objects decls number ms (suc n) p q c =
    let a = chain_objects decls number ms n p c.0 c.1 in
    let b : length q.objects ≡ length c.0.objects + 1 =
    ap (λ (x : core.Program). length x.objects) c.2.is ∙ length_push c.0.objects (next_object number c.0) in
    omega (arith, a, b)

chain_cells : (decls : List Decl) (number : ℕ) (ms : List Member) (n : ℕ) (p q : core.Program) →
    Chain decls number ms n p q → length q.cells ≡ length p.cells + n * length (fields_in ms)
chain_cells decls number ms zero p q c = ap (λ (x : core.Program). length x.cells) (sym c) ∙ omega arith
chain_cells decls number ms (suc n) p q c =
    let w = length (fields_in ms) in
    let o = c.2 in
    let a : length c.0.cells ≡ length p.cells + n * w = chain_cells decls number ms n p c.0 c.1 in
    let b : length q.cells ≡ length c.0.cells + w =
    ap (λ (x : core.Program). length x.cells) o.is ∙ length-append c.0.cells o.cells
    ∙ ap (λ (k : ℕ). length c.0.cells + k) (rows_length _ 0 (fields_in ms) o.cells o.own) in
    let z : length q.cells ≡ length p.cells + suc n * w = omega (arith, a, b) in z

pub elements_length : (a : ℕ) (t : core_type.ValueType) (n : ℕ) → length (elements a t n) ≡ n
elements_length a t zero = refl
elements_length a t (suc n) =
    let r = elements_length a t n in
    let l = length_push (elements a t n)
    (record { owner = owner.Element a n; value_type = t; opening = default_of t }) in
    omega (arith, r, l)

-- ---- how far a program has come

pub record Counts (decls before : List Decl) (p : core.Program) : Type 0 where
  pub classes : length p.classes ≡ total classes_of before
  pub structs : (s : Struct) → length p.structs ≡ count (alike (struct s)) before
  pub arrays : (a : Array) → length p.arrays ≡ count (alike (array a)) before
  pub pools : (x : Pool) → length p.pools ≡ count (alike (pool x)) before
  pub sections : (s : Section) → length p.sections ≡ count (alike (atomic s)) before
  pub helpers : (s : Section) → length p.helpers ≡ count (alike (helper s)) before
  pub objects : length p.objects ≡ total objects_of before
  pub cells : length p.cells ≡ total (cells_of decls) before

-- ---- how many a declaration adds

new_classes : (decls : List Decl) (i : ℕ) (p : core.Program) (d : Decl) (n : News decls i p d) →
    length (fresh decls i p d n).classes ≡ classes_of d
new_classes decls i p (struct s) n =
    let r = parted decls i s (length p.classes) (length p.structs) 0 0 0 s.members n.0 n.1 in
    rows_length _ 0 (locks_in s.members) (lock_classes (length p.structs) 0 n.0.locks) r.classes
    ∙ locks_counted s.members
new_classes decls i p d n = refl

pub new_objects : (decls : List Decl) (i : ℕ) (p : core.Program) (d : Decl) (n : News decls i p d) →
    length (fresh decls i p d n).objects ≡ objects_of d
new_objects decls i p (pool x) n =
    let o = chain_objects decls (length p.pools) n.members x.length.value _ _ n.chain in
    let l = length-append p.objects n.objects in
    omega (arith, o, l)
new_objects decls i p d n = refl

new_cells : (decls : List Decl) → Clean decls → (i : ℕ) (p : core.Program) (d : Decl) (n : News decls i p d) →
    length (fresh decls i p d n).cells ≡ cells_of decls d
new_cells decls clean i p (array x) n = elements_length (length p.arrays) n.1 x.length.value
new_cells decls clean i p (pool x) n =
    let k = x.length.value in
    let c = chain_cells decls (length p.pools) n.members k _ _ n.chain in
    let l = length-append p.cells n.cells in
    let w : k * length (fields_in n.members) ≡ cells_of decls (pool x) =
    ap (λ (j : ℕ). k * j) (sym (wide decls clean x.target n.members n.are)) in
    omega (arith, c, l, w)
new_cells decls clean i p d n = refl

-- one row, if the declaration has the table's kind
abbrev Rowed : Decl → core.Program → Type 0
Rowed d a =
    ((s : Struct) → length a.structs ≡ as_one (alike (struct s) d)) ×
    ((x : Array) → length a.arrays ≡ as_one (alike (array x) d)) ×
    ((x : Pool) → length a.pools ≡ as_one (alike (pool x) d)) ×
    ((s : Section) → length a.sections ≡ as_one (alike (atomic s) d)) ×
    ((s : Section) → length a.helpers ≡ as_one (alike (helper s) d))

new_rows : (decls : List Decl) (i : ℕ) (p : core.Program) (d : Decl) (n : News decls i p d) →
    Rowed d (fresh decls i p d n)
new_rows decls i p (lock x) n = (λ y. refl, λ y. refl, λ y. refl, λ y. refl, λ y. refl)
new_rows decls i p d n = (λ y. refl, λ y. refl, λ y. refl, λ y. refl, λ y. refl)

more : {A : Type 0} (xs ys : List A) (f : Decl → ℕ) (before : List Decl) (d : Decl) →
    length xs ≡ total f before → length ys ≡ f d → length (xs ++ ys) ≡ total f (before ++ d ∷ [])
more xs ys f before d h s =
    let l = length-append xs ys in
    let t = total_push f before d in
    omega (arith, h, s, l, t)

one_more : {A : Type 0} (xs ys : List A) (f : Decl → Bool) (before : List Decl) (d : Decl) →
    length xs ≡ count f before → length ys ≡ as_one (f d) → length (xs ++ ys) ≡ count f (before ++ d ∷ [])
one_more xs ys f before d h s =
    let l = length-append xs ys in
    let t = count_push f before d in
    omega (arith, h, s, l, t)

-- the counts after a declaration
counts_next : (decls : List Decl) → Clean decls → (before : List Decl) (d : Decl) (p : core.Program)
    (n : News decls (length before) p d) → Counts decls before p →
    Counts decls (before ++ d ∷ []) (plus p (fresh decls (length before) p d n))
counts_next decls clean before d p n h =
    let i = length before in
    let a = fresh decls i p d n in
    let r = new_rows decls i p d n in
    record {
      classes = more p.classes a.classes classes_of before d h.classes (new_classes decls i p d n);
      structs = λ y. one_more p.structs a.structs (alike (struct y)) before d (h.structs y) (r.0 y);
      arrays = λ y. one_more p.arrays a.arrays (alike (array y)) before d (h.arrays y) (r.1 y);
      pools = λ y. one_more p.pools a.pools (alike (pool y)) before d (h.pools y) (r.2 y);
      sections = λ y. one_more p.sections a.sections (alike (atomic y)) before d (h.sections y) (r.3 y);
      helpers = λ y. one_more p.helpers a.helpers (alike (helper y)) before d (h.helpers y) (r.4 y);
      objects = more p.objects a.objects objects_of before d h.objects (new_objects decls i p d n);
      cells = more p.cells a.cells (cells_of decls) before d h.cells (new_cells decls clean i p d n);
    }

-- ---- the walk

-- a declaration with those before it, and its additions to their tables
pub record Step (decls : List Decl) (whole : core.Program) (before : List Decl) (d : Decl)
    (p : core.Program) : Type 0 where
  pub at : slice_get decls (length before) ≡ Some d
  pub ahead : take (length before) decls ≡ before
  pub counts : Counts decls before p
  pub news : News decls (length before) p d
  pub ends : Begins (plus p (fresh decls (length before) p d news)) whole

abbrev pub added : {decls : List Decl} {whole : core.Program} {before : List Decl} {d : Decl} {p : core.Program} →
    Step decls whole before d p → core.Program
added {decls = decls} {before = before} {d = d} {p = p} st = fresh decls (length before) p d st.news

record First (decls before : List Decl) (p : core.Program) (d : Decl) (ds : List Decl)
    (whole : core.Program) : Type 0 where
  news : News decls (length before) p d
  rest : AddAll decls (length (before ++ d ∷ [])) ds (plus p (fresh decls (length before) p d news)) whole

first_of : (decls before : List Decl) (p : core.Program) (d : Decl) (ds : List Decl) (whole : core.Program) →
    AddAll decls (length before) (d ∷ ds) p whole → First decls before p d ds whole
first_of decls before p d ds whole (first_and_rest {q = q} a behind) =
    let n = adds decls (length before) p d q a in
    let r = fresh decls (length before) p d n.0 in
    record {
      news = n.0;
      rest = subst (λ (j : ℕ). AddAll decls j ds (plus p r) whole) (sym (length_push before d))
          (subst (λ (x : core.Program). AddAll decls (length before + 1) ds x whole) n.1 behind);
    }

last_of : (decls : List Decl) (i : ℕ) (p whole : core.Program) → AddAll decls i [] p whole → p ≡ whole
last_of decls i p whole no_declaration = refl

begins_whole : (decls before : List Decl) (p : core.Program) (ds : List Decl) (whole : core.Program) →
    AddAll decls (length before) ds p whole → Begins p whole
begins_whole decls before p [] whole h = subst (Begins p) (last_of decls (length before) p whole h) (begins_same p)
begins_whole decls before p (d ∷ ds) whole h =
    let f = first_of decls before p d ds whole h in
    let a = fresh decls (length before) p d f.news in
    begins_on p a whole (begins_whole decls (before ++ d ∷ []) (plus p a) ds whole f.rest)

-- each step keeps a property
abbrev pub Kept : List Decl → core.Program → (List Decl → core.Program → Type 0) → Type 0
Kept decls whole K =
    (before : List Decl) (d : Decl) (p : core.Program) (st : Step decls whole before d p) → K before p →
    K (before ++ d ∷ []) (plus p (added st))

-- each row that a step adds to a table is so, at its place
abbrev pub NewRows : List Decl → core.Program → {A : Type 0} → (core.Program → List A) → (ℕ → A → Type 0) → Type 0
NewRows decls whole {A} table F =
    (before : List Decl) (d : Decl) (p : core.Program) (st : Step decls whole before d p) (k : ℕ) (x : A) →
    slice_get (table (added st)) k ≡ Some x → F (length (table p) + k) x

walk : (decls : List Decl) → Clean decls → (whole : core.Program) (K : List Decl → core.Program → Type 0) →
    Kept decls whole K → (before ds : List Decl) (p : core.Program) → decls ≡ before ++ ds →
    Counts decls before p → K before p → AddAll decls (length before) ds p whole →
    K decls whole × Counts decls decls whole
walk decls clean whole K step before [] p parts n k h =
    let s = last_of decls (length before) p whole h in
    let e : before ≡ decls = sym (parts ∙ append-nil before) in (
      subst (λ (bs : List Decl). K bs whole) e (subst (K before) s k),
      subst (λ (bs : List Decl). Counts decls bs whole) e (subst (Counts decls before) s n),
    )
walk decls clean whole K step before (d ∷ ds) p parts n k h =
    let f = first_of decls before p d ds whole h in
    let a = fresh decls (length before) p d f.news in
    let st : Step decls whole before d p = record {
      at = ap (λ (xs : List Decl). slice_get xs (length before)) parts ∙ behind_at before d ds;
      ahead = ap (take (length before)) parts ∙ take_front before (d ∷ ds);
      counts = n;
      news = f.news;
      ends = begins_whole decls (before ++ d ∷ []) (plus p a) ds whole f.rest;
    } in
    walk decls clean whole K step (before ++ d ∷ []) ds (plus p a) (parts ∙ sym (append_assoc before (d ∷ []) ds))
    (counts_next decls clean before d p f.news n) (step before d p st k) f.rest

no_counts : (decls : List Decl) → Counts decls [] nothing_yet
no_counts decls = record {
  classes = refl;
  structs = λ s. refl;
  arrays = λ s. refl;
  pools = λ s. refl;
  sections = λ s. refl;
  helpers = λ s. refl;
  objects = refl;
  cells = refl;
}

-- the step of the declaration at a place
pub record Landed (decls : List Decl) (whole : core.Program) (i : ℕ) (d : Decl) : Type 0 where
  pub before : List Decl
  pub was : core.Program
  pub step : Step decls whole before d was
  pub place : length before ≡ i

module _ (decls : List Decl) (clean : Clean decls) (whole : core.Program) (is : AreTables decls whole) where
  -- a property of the empty program that each step keeps holds for the whole
  pub walked_whole : (K : List Decl → core.Program → Type 0) → K [] nothing_yet → Kept decls whole K → K decls whole
  walked_whole K k step = (walk decls clean whole K step [] decls nothing_yet refl (no_counts decls) k is).0

  pub counted_whole : Counts decls decls whole
  counted_whole =
      (walk decls clean whole (λ b p. ⊤) (λ b d p st k. tt) [] decls nothing_yet refl (no_counts decls) tt is).1

  -- a property of each row that a step adds to a table holds for each row of the table
  pub each_row : {A : Type 0} (table : core.Program → List A) →
      ((p a : core.Program) → table (plus p a) ≡ table p ++ table a) → table nothing_yet ≡ [] →
      (F : ℕ → A → Type 0) → NewRows decls whole table F →
      (n : ℕ) (x : A) → slice_get (table whole) n ≡ Some x → F n x
  each_row {A = A} table grows none F row =
      walked_whole (λ b p. (n : ℕ) (x : A) → slice_get (table p) n ≡ Some x → F n x)
      (λ n x e. nothing n x (ap (λ (xs : List A). slice_get xs n) (sym none) ∙ e))
      (λ before d p st h n x e.
      get_parts (table p) (table (added st)) n x (F n x)
      (ap (λ (xs : List A). slice_get xs n) (sym (grows p (added st))) ∙ e) (h n x)
      (λ b. subst (λ (m : ℕ). F m x) (sym b.place) (row before d p st b.by x b.here)))
    where
      nothing : (n : ℕ) (x : A) → slice_get [] n ≡ Some x → F n x
      nothing n x e = cc

  pub lands : (i : ℕ) (d : Decl) → slice_get decls i ≡ Some d → Landed decls whole i d
  lands = walked_whole (λ b p. (i : ℕ) (d : Decl) → slice_get b i ≡ Some d → Landed decls whole i d)
      (λ i d e. nothing i d e)
      (λ before d p st k i x e. get_pushed before d i x (Landed decls whole i x) e (k i x)
      (λ a b. record {
        before = before;
        was = p;
        step = subst (λ (y : Decl). Step decls whole before y p) b st;
        place = sym a;
      }))
    where
      nothing : (i : ℕ) (d : Decl) → slice_get [] i ≡ Some d → Landed decls whole i d
      nothing i d e = cc

-- ---- limits

-- a sum that each declaration keeps below a limit is below it after all
pub few : (of : Decl → ℕ) (limit : ℕ) (decls : List Decl) →
    ((before : List Decl) (d : Decl) → NoneIn (count_faults decls before d) → total of before ≤ limit →
    total of before + of d ≤ limit) →
    (before ds : List Decl) → NoneIn (total_faults decls before ds) → total of before ≤ limit →
    total of (before ++ ds) ≤ limit
few of limit decls fit before [] none le =
    subst (λ (xs : List Decl). total of xs ≤ limit) (sym (append-nil before)) le
few of limit decls fit before (d ∷ ds) none le =
    let own = none_left (count_faults decls before d) (total_faults decls (before ++ d ∷ []) ds) none in
    let behind = none_right (count_faults decls before d) (total_faults decls (before ++ d ∷ []) ds) none in
    let less = fit before d own le in
    let t = total_push of before d in
    let next : total of (before ++ d ∷ []) ≤ limit = omega (arith, t, less) in
    subst (λ (xs : List Decl). total of xs ≤ limit) (append_assoc before (d ∷ []) ds)
    (few of limit decls fit (before ++ d ∷ []) ds behind next)

pub all_objects_few : (decls : List Decl) → Clean decls → total objects_of decls ≤ OBJECT_LIMIT
all_objects_few decls clean =
    few objects_of OBJECT_LIMIT decls (objects_fit decls) [] decls (λ f i. clean f (of_totals decls f i))
    (let z : 0 ≤ OBJECT_LIMIT = omega arith in z)
