-- The objects and cells of a resolved program.
use Rattle.std.proofs.Common.{◌≡◌, ℕ, zero, suc, ◌+◌, ◌<◌, ◌≤◌, List, [], ◌∷◌, ◌++◌, length, Option, Some, None, Bool}
use Rattle.std.proofs.Common.{true, false, refl, sym, ap, ◌∙◌, subst, arith}
use Rattle.std.specs.Prelude.{ℤ, pos, neg_ℤ, slice_get, ⊤, nat_lt}
use Rattle.std.proofs.lemmas.Option.{slice_get_within}
use Rattle.std.proofs.lemmas.Bool.{eqb-true}
use Rattle.syntax.specs.Trees.{Ident, Const, Member, Final, Field, Struct, Pool, Decl, struct, global, array, pool}
use Rattle.core_lang.specs.declared.value.Value.{Value}
use Rattle.core_lang.specs.declared.value.Value.TheVariants.{Int, Ref}
use Rattle.core_lang.specs.declared.value.ValueType as core_type
use Rattle.core_lang.specs.declared.value.ValueType.TheVariants.{Integer, Reference}
use Rattle.core_lang.specs.declared.typed.Cell.{Cell}
use Rattle.core_lang.specs.declared.typed.CellOwner.{CellOwner}
use Rattle.core_lang.specs.declared.typed.CellOwner.TheVariants as owner
use Rattle.core_lang.specs.declared.shape.Object.{Object}
use Rattle.core_lang.specs.Theory.Items.{behind_at}
use Rattle.resolution.specs.declared.wanted.Sort.{Sort}
use Rattle.resolution.specs.declared.wanted.Sort.TheVariants as sort
use Rattle.resolution.specs.declared.wanted.Want.TheVariants as wanted
use Rattle.resolution.specs.Core as core
use Rattle.resolution.specs.Limits.{OBJECT_LIMIT}
use Rattle.resolution.specs.Scopes.{◌>>=◌, bears, the_decl, declared_as, struct_meant, struct_named, number_at}
use Rattle.resolution.specs.Scopes.{the_struct}
use Rattle.resolution.specs.Numbers.{objects_ahead}
use Rattle.resolution.specs.Expressions.{fits_type}
use Rattle.resolution.specs.Constants.{IsOfSort, number_sort, negative_sort, null_sort, member_sort, object_of, Denotes}
use Rattle.resolution.specs.Constants.{a_number, a_negative, no_object, an_object, Yields, yields, members_of}
use Rattle.resolution.specs.Constants.{members_in, default_of, Opens, by_default, by_constant}
use Rattle.resolution.specs.Tables.{elements, AreTables}
use Rattle.resolution.proofs.Named.{named_is}
use Rattle.resolution.specs.Theory.Facts.{struct_at}
use Rattle.resolution.proofs.FaultlessExpressions.{Clean}
use Rattle.resolution.proofs.Typed.{field_in}
use Rattle.resolution.proofs.LaidLists.{grows_more, get_behind, get_parts, only, row_left, row_right, no_row}
use Rattle.resolution.proofs.LaidStages.{fields_in, finals_in, CellOf, FinalOf, Objected, Chain, Begins, begins_on}
use Rattle.resolution.proofs.LaidStages.{plus, held, next_object, global_row, global_cell, array_row, pool_row, stands}
use Rattle.resolution.proofs.LaidWalk.{FieldRow, chain_objects, elements_length, all_objects_few, Step, added}
use Rattle.resolution.proofs.LaidWalk.{new_objects, NewRows, each_row, counted_whole}
use Rattle.resolution.proofs.LaidFacts.{struct_of_number, pool_at, at_most}
use Rattle.resolution.proofs.Tests.{lt_of, lt_false}

-- ---- numbers

pub split_less : (m n : ℕ) (C : Type 0) → (m < n → C) → (n ≤ m → C) → C
split_less m n C f g = by_test (nat_lt m n) refl
  where
    by_test : (b : Bool) → nat_lt m n ≡ b → C
    by_test true e = f (lt_of m n e)
    by_test false e = g (lt_false m n e)

pub one_of : {A : Type 0} (xs : List A) (k : ℕ) (x y : A) → slice_get xs k ≡ Some x → slice_get xs k ≡ Some y → x ≡ y
one_of {A = A} xs k x y a b = let s : ◌≡◌ {A = Option A} (Some x) (Some y) = sym a ∙ b in cc

-- ---- a struct by its name

pub named_members : (decls : List Decl) (x : Ident) (s : ℕ) (ms : List Member) → struct_named decls x ≡ Some s →
    members_of decls x ≡ Some ms → (y : Struct) × (the_struct decls s ≡ Some y) × (y.members ≡ ms)
named_members decls x s ms e h = by_decl (the_decl decls x.text) refl e h
  where
    by_decl : (o : Option (ℕ × Decl)) → the_decl decls x.text ≡ o → struct_meant decls (declared_as o) ≡ Some s →
        members_in o ≡ Some ms → (y : Struct) × (the_struct decls s ≡ Some y) × (y.members ≡ ms)
    by_decl (Some (n, struct y)) is a b =
        let k : number_at decls n (struct y) ≡ s = cc in
        (y, subst (λ (j : ℕ). the_struct decls j ≡ Some y) k (struct_at decls n y (named_is bears decls x.text n (struct y) is).here), cc)
    by_decl o is a b = cc

-- ---- objects

abbrev pub OwnOf : List Decl → core.Program → List Member → ℕ → Object → Type 0
OwnOf decls whole ms o x = (k : ℕ) (f : Field) → slice_get (fields_in ms) k ≡ Some f → (c : Cell) × (slice_get whole.cells (x.cells + k) ≡ Some c) × CellOf decls o k f c

abbrev pub RefsOf : List Decl → core.Program → List Member → Object → Type 0
RefsOf decls whole ms x = (k : ℕ) (f : Final) → slice_get (finals_in ms) k ≡ Some f → (n : ℕ) × (slice_get whole.finals (x.finals + k) ≡ Some n) × FinalOf decls k f n

pub record New (decls : List Decl) (whole : core.Program) (number : ℕ) (ms : List Member) (o : ℕ) : Type 0 where
  pub object : Object
  pub here : slice_get whole.objects o ≡ Some object
  pub pool : object.pool ≡ number
  pub own : OwnOf decls whole ms o object
  pub refs : RefsOf decls whole ms object

-- a program to which an object was added begins each one that the result begins
begins_object : (decls : List Decl) (number : ℕ) (ms : List Member) (p q whole : core.Program) →
    Objected decls number ms p q → Begins q whole → Begins p whole
begins_object decls number ms p q whole w b =
    begins_on p (held (next_object number p ∷ []) w.finals w.cells) whole
    (subst (λ (z : core.Program). Begins z whole) w.is b)

object_new : (decls : List Decl) (whole : core.Program) (number : ℕ) (ms : List Member) (p q : core.Program) →
    Objected decls number ms p q → Begins q whole → New decls whole number ms (length p.objects)
object_new decls whole number ms p q w b =
    let x = next_object number p in
    record {
      object = x;
      here = stands (λ z. z.objects) (λ z a. refl) b (length p.objects) x
          (ap (λ (z : core.Program). slice_get z.objects (length p.objects)) w.is ∙ behind_at p.objects x []);
      pool = refl;
      own = λ k f e.
          (let r = row_left (CellOf decls (length p.objects)) (fields_in ms) w.cells w.own k f e in (
            r.0,
            stands (λ z. z.cells) (λ z a. refl) b (length p.cells + k) r.0
                (ap (λ (z : core.Program). slice_get z.cells (length p.cells + k)) w.is
                ∙ get_behind p.cells w.cells k r.0 r.1),
            r.2,
          ));
      refs = λ k f e.
          (let r = row_left (FinalOf decls) (finals_in ms) w.finals w.refs k f e in (
            r.0,
            stands (λ z. z.finals) (λ z a. refl) b (length p.finals + k) r.0
                (ap (λ (z : core.Program). slice_get z.finals (length p.finals + k)) w.is
                ∙ get_behind p.finals w.finals k r.0 r.1),
            r.2,
          ));
    }

chain_new : (decls : List Decl) (whole : core.Program) (number : ℕ) (ms : List Member) (n : ℕ) (p q : core.Program) →
    Chain decls number ms n p q → Begins q whole → (m : ℕ) → m < n → New decls whole number ms (length p.objects + m)
chain_new decls whole number ms zero p q c b m less = absurd (omega (arith, less))
chain_new decls whole number ms (suc n) p q c b m less =
    split_less m n (New decls whole number ms (length p.objects + m))
    (λ l. chain_new decls whole number ms n p c.0 c.1 (begins_object decls number ms c.0 q whole c.2 b) m l)
    (λ l. subst (New decls whole number ms) (let e = chain_objects decls number ms n p c.0 c.1 in let z : length c.0.objects ≡ length p.objects + m = omega (arith, e, l, less) in z) (object_new decls whole number ms c.0 q c.2 b))

-- an object, by its number
pub record ObjectAt (decls : List Decl) (whole : core.Program) (o : ℕ) (x : Object) : Type 0 where
  pub pool : core.Pool
  pub there : slice_get whole.pools x.pool ≡ Some pool
  pub from : pool.first ≤ o
  pub to : o < pool.first + pool.length
  pub structure : Struct
  pub is : the_struct decls pool.structure ≡ Some structure
  pub own : OwnOf decls whole structure.members o x
  pub refs : RefsOf decls whole structure.members x

-- a pool, by its number
pub record PoolFact (decls : List Decl) (whole : core.Program) (n : ℕ) (x : core.Pool) : Type 0 where
  pub structure : Struct
  pub is : the_struct decls x.structure ≡ Some structure
  pub objects : (i : ℕ) → i < x.length → New decls whole n structure.members (x.first + i)

-- the pool that a step adds
pool_fact : (decls : List Decl) (whole : core.Program) (before : List Decl) (x : Pool) (p : core.Program)
    (st : Step decls whole before (pool x) p) →
    PoolFact decls whole (length p.pools) (pool_row p x st.news.structure)
pool_fact decls whole before x p st =
    let n = st.news in
    let m = named_members decls x.target n.structure n.members n.named n.are in
    record {
      structure = m.0;
      is = m.1;
      objects = λ i less.
          subst (λ (ms : List Member). New decls whole (length p.pools) ms (length p.objects + i)) (sym m.2)
          (chain_new decls whole (length p.pools) n.members x.length.value
          (record p { pools = p.pools ++ pool_row p x n.structure ∷ [] }) (plus p (added st)) n.chain st.ends i less);
    }

pools_new : (decls : List Decl) (whole : core.Program) → NewRows decls whole (λ p. p.pools) (PoolFact decls whole)
pools_new decls whole before (pool x) p st k y e =
    only (PoolFact decls whole) (length p.pools) (pool_row p x st.news.structure) (pool_fact decls whole before x p st)
    k y e
pools_new decls whole before d p st k y e = no_row k y e

pub pools_of : (decls : List Decl) → Clean decls → (whole : core.Program) → AreTables decls whole →
    (n : ℕ) (x : core.Pool) → slice_get whole.pools n ≡ Some x → PoolFact decls whole n x
pools_of decls clean whole is =
    each_row decls clean whole is (λ p. p.pools) (λ p a. refl) refl (PoolFact decls whole) (pools_new decls whole)

objects_new : (decls : List Decl) (whole : core.Program) →
    NewRows decls whole (λ p. p.objects) (ObjectAt decls whole)
objects_new decls whole before (pool x) p st k y e =
    let n = st.news in
    let z = pool_row p x n.structure in
    let f = pool_fact decls whole before x p st in
    let within = slice_get_within n.objects k y e in
    let size = new_objects decls (length before) p (pool x) n in
    let less : k < x.length.value = omega (arith, within, size) in
    let new = f.objects k less in
    let there = stands (λ z. z.objects) (λ z a. refl) st.ends (length p.objects + k) y
    (get_behind p.objects n.objects k y e) in
    let same : new.object ≡ y = one_of whole.objects (length p.objects + k) new.object y new.here there in
    record {
      pool = z;
      there = subst (λ (m : ℕ). slice_get whole.pools m ≡ Some z) (sym new.pool ∙ ap (λ (w : Object). w.pool) same)
          (stands (λ z. z.pools) (λ z a. refl) st.ends (length p.pools) z (behind_at p.pools z []));
      from = omega arith;
      to = omega (arith, less);
      structure = f.structure;
      is = f.is;
      own = subst (OwnOf decls whole f.structure.members (length p.objects + k)) same new.own;
      refs = subst (RefsOf decls whole f.structure.members) same new.refs;
    }
objects_new decls whole before d p st k y e = no_row k y e

pub objects_of_program : (decls : List Decl) → Clean decls → (whole : core.Program) → AreTables decls whole →
    (o : ℕ) (x : Object) → slice_get whole.objects o ≡ Some x → ObjectAt decls whole o x
objects_of_program decls clean whole is =
    each_row decls clean whole is (λ p. p.objects) (λ p a. refl) refl (ObjectAt decls whole)
    (objects_new decls whole)

-- ---- globals and arrays

abbrev pub GlobalFact : core.Program → ℕ → core.GlobalVariable → Type 0
GlobalFact whole g x = (c : Cell) × (slice_get whole.cells x.cell ≡ Some c) × (c.owner ≡ owner.Global g)

abbrev pub ArrayFact : core.Program → ℕ → core.Array → Type 0
ArrayFact whole n x = (i : ℕ) → i < x.length → (c : Cell) × (slice_get whole.cells (x.first + i) ≡ Some c) × (c.owner ≡ owner.Element n i) × (c.value_type ≡ x.element_type)

globals_new : (decls : List Decl) (whole : core.Program) → NewRows decls whole (λ p. p.globals) (GlobalFact whole)
globals_new decls whole before (global v) p st k x e =
    let n = st.news in
    let c = global_cell p n.1 n.2 in
    only (GlobalFact whole) (length p.globals) (global_row p v n.0)
    (c, stands (λ z. z.cells) (λ z a. refl) st.ends (length p.cells) c (behind_at p.cells c []), refl) k x e
globals_new decls whole before d p st k x e = no_row k x e

pub globals_of : (decls : List Decl) → Clean decls → (whole : core.Program) → AreTables decls whole →
    (g : ℕ) (x : core.GlobalVariable) → slice_get whole.globals g ≡ Some x → GlobalFact whole g x
globals_of decls clean whole is =
    each_row decls clean whole is (λ p. p.globals) (λ p a. refl) refl (GlobalFact whole) (globals_new decls whole)

abbrev element : ℕ → core_type.ValueType → ℕ → Cell
element a t i = record { owner = owner.Element a i; value_type = t; opening = default_of t }

element_at : (a : ℕ) (t : core_type.ValueType) (n i : ℕ) → i < n → slice_get (elements a t n) i ≡ Some (element a t i)
element_at a t zero i less = absurd (omega (arith, less))
element_at a t (suc n) i less =
    let len = elements_length a t n in
    split_less i n (slice_get (elements a t (suc n)) i ≡ Some (element a t i))
    (λ l. grows_more (elements a t n) (element a t n ∷ []) i (element a t i) (element_at a t n i l))
    (λ l. (let here : length (elements a t n) ≡ i = omega (arith, l, less, len) in
    let same : n ≡ i = omega (arith, l, less) in
    subst (λ (k : ℕ). slice_get (elements a t (suc n)) k ≡ Some (element a t k)) same
    (subst (λ (k : ℕ). slice_get (elements a t (suc n)) k ≡ Some (element a t n)) len
    (behind_at (elements a t n) (element a t n) []))))

arrays_new : (decls : List Decl) (whole : core.Program) → NewRows decls whole (λ p. p.arrays) (ArrayFact whole)
arrays_new decls whole before (array x) p st k y e =
    let n = st.news in
    let a = length p.arrays in
    let cs = elements a n.1 x.length.value in
    only (ArrayFact whole) a (array_row p x n.0 n.1)
    (λ i less. (
      element a n.1 i,
      stands (λ z. z.cells) (λ z a. refl) st.ends (length p.cells + i) (element a n.1 i)
          (get_behind p.cells cs i (element a n.1 i) (element_at a n.1 x.length.value i less)),
      refl,
      refl,
    )) k y e
arrays_new decls whole before d p st k y e = no_row k y e

pub arrays_of : (decls : List Decl) → Clean decls → (whole : core.Program) → AreTables decls whole →
    (n : ℕ) (x : core.Array) → slice_get whole.arrays n ≡ Some x → ArrayFact whole n x
arrays_of decls clean whole is =
    each_row decls clean whole is (λ p. p.arrays) (λ p a. refl) refl (ArrayFact whole) (arrays_new decls whole)

-- ---- the cells

abbrev pub struct_in : core.Program → ℕ → Option ℕ
struct_in p o = slice_get p.objects o >>= λ x. slice_get p.pools x.pool >>= λ y. Some y.structure

pub struct_of_object : (p : core.Program) (o n : ℕ) (x : Object) (y : core.Pool) → slice_get p.objects o ≡ Some x →
    x.pool ≡ n → slice_get p.pools n ≡ Some y → struct_in p o ≡ Some y.structure
struct_of_object p o n x y at number row = rw (at, number, row) refl

abbrev pub OwnerFact : core.Program → ℕ → CellOwner → Type 0
OwnerFact whole place (owner.Global g) = (x : core.GlobalVariable) × (slice_get whole.globals g ≡ Some x) × (place ≡ x.cell)
OwnerFact whole place (owner.Element n i) = (x : core.Array) × (slice_get whole.arrays n ≡ Some x) × (i < x.length) × (place ≡ x.first + i)
OwnerFact whole place (owner.Field o f) =
    (x : Object) × (slice_get whole.objects o ≡ Some x) × (place ≡ x.cells + f) × ((s : ℕ) × (t : core_type.ValueType) × (struct_in whole o ≡ Some s) × (field_in whole s f ≡ Some t))

-- a cell has its owner, and an initial value by some constant or by default
abbrev pub CellFact : List Decl → core.Program → ℕ → Cell → Type 0
CellFact decls whole place c =
    OwnerFact whole place c.owner × ((g : Option Const) × Opens decls c.value_type g c.opening)

-- the facts about each new cell of an object
abbrev Fresh : List Decl → core.Program → ℕ → List Member → Type 0
Fresh decls whole number ms = (o : ℕ) (x : Object) → slice_get whole.objects o ≡ Some x → x.pool ≡ number → (k : ℕ) (f : Field) (c : Cell) → slice_get (fields_in ms) k ≡ Some f → CellOf decls o k f c → CellFact decls whole (x.cells + k) c

chain_fact : (decls : List Decl) (whole : core.Program) (number : ℕ) (ms : List Member) →
    Fresh decls whole number ms → (n : ℕ) (p q : core.Program) → Chain decls number ms n p q → Begins q whole →
    (k : ℕ) (y : Cell) → length p.cells ≤ k → slice_get q.cells k ≡ Some y → CellFact decls whole k y
chain_fact decls whole number ms fresh zero p q c b k y from e =
    let within = slice_get_within p.cells k y (ap (λ (v : core.Program). slice_get v.cells k) c ∙ e) in
    absurd (omega (arith, within, from))
chain_fact decls whole number ms fresh (suc n) p q c b k y from e =
    let m = c.0 in
    let w = c.2 in
    let o = length m.objects in
    let z = next_object number m in
    let before = begins_object decls number ms m q whole w b in
    let here = stands (λ z. z.objects) (λ z a. refl) b o z
    (ap (λ (v : core.Program). slice_get v.objects o) w.is ∙ behind_at m.objects z []) in
    get_parts m.cells w.cells k y (CellFact decls whole k y)
    (ap (λ (v : core.Program). slice_get v.cells k) (sym w.is) ∙ e)
    (chain_fact decls whole number ms fresh n p m c.1 before k y from)
    (λ d. (let r = row_right (CellOf decls o) (fields_in ms) w.cells w.own d.by y d.here in
    subst (λ (j : ℕ). CellFact decls whole j y) (sym d.place) (fresh o z here refl d.by r.0 y r.1 r.2)))

cells_new : (decls : List Decl) → Clean decls → (whole : core.Program) → AreTables decls whole →
    NewRows decls whole (λ p. p.cells) (CellFact decls whole)
cells_new decls clean whole is before (global v) p st k c e =
    let n = st.news in
    let x = global_row p v n.0 in
    let here = stands (λ z. z.globals) (λ z a. refl) st.ends (length p.globals) x (behind_at p.globals x []) in
    only (CellFact decls whole) (length p.cells) (global_cell p n.1 n.2) ((x, here, refl), (v.value, n.5)) k c e
cells_new decls clean whole is before (array x) p st k c e =
    let n = st.news in
    let a = length p.arrays in
    let y = array_row p x n.0 n.1 in
    let within = slice_get_within (elements a n.1 x.length.value) k c e in
    let len = elements_length a n.1 x.length.value in
    let less : k < x.length.value = omega (arith, within, len) in
    let same = one_of (elements a n.1 x.length.value) k (element a n.1 k) c
    (element_at a n.1 x.length.value k less) e in
    subst (CellFact decls whole (length p.cells + k)) same
    ((y, stands (λ z. z.arrays) (λ z a. refl) st.ends a y (behind_at p.arrays y []), less, refl), (None, by_default))
cells_new decls clean whole is before (pool x) p st k0 c e =
    let a = st.news in
    let z = pool_row p x a.structure in
    let here = stands (λ z. z.pools) (λ z a. refl) st.ends (length p.pools) z (behind_at p.pools z []) in
    let m = named_members decls x.target a.structure a.members a.named a.are in
    let y = struct_of_number decls clean whole is a.structure m.0 m.1 in
    chain_fact decls whole (length p.pools) a.members
    (λ o w at in_pool k f c has of.
    (let r = row_left (FieldRow decls y.2.place m.0.members) (fields_in m.0.members) y.0.fields y.2.fields k f
    (ap (λ (ms : List Member). slice_get (fields_in ms) k) m.2 ∙ has) in
    let structure = struct_of_object whole o (length p.pools) w z at in_pool here in
    let field : field_in whole a.structure k ≡ Some r.0.value_type = rw (y.1, r.1) refl in
    subst (CellFact decls whole (w.cells + k)) (sym of.5)
    ((w, at, refl, (a.structure, r.0.value_type, structure, field)), (of.2, of.4))))
    x.length.value (record p { pools = p.pools ++ z ∷ [] }) (plus p (added st)) a.chain st.ends (length p.cells + k0) c
    (omega arith) (get_behind p.cells a.cells k0 c e)
cells_new decls clean whole is before d p st k c e = no_row k c e

pub cells_of_program : (decls : List Decl) → Clean decls → (whole : core.Program) → AreTables decls whole →
    (n : ℕ) (c : Cell) → slice_get whole.cells n ≡ Some c → CellFact decls whole n c
cells_of_program decls clean whole is =
    each_row decls clean whole is (λ p. p.cells) (λ p a. refl) refl (CellFact decls whole)
    (cells_new decls clean whole is)

-- ---- values

-- a value of a type, as data
abbrev pub Holds : core.Program → core_type.ValueType → Value → Type 0
Holds p Integer (Int n) = ⊤
Holds p Integer (Ref r) = ⊥
Holds p (Reference s) (Int n) = ⊥
Holds p (Reference s) (Ref None) = ⊤
Holds p (Reference s) (Ref (Some o)) = struct_in p o ≡ Some s

pub few_objects : (decls : List Decl) → Clean decls → (whole : core.Program) → AreTables decls whole →
    length whole.objects ≤ OBJECT_LIMIT
few_objects decls clean whole is = let e = (counted_whole decls clean whole is).objects in let l = all_objects_few decls clean in omega (arith, e, l)

-- a member of a pool
pub member_is_of : (decls : List Decl) → Clean decls → (whole : core.Program) → AreTables decls whole →
    (i : ℕ) (x : Pool) (n s : ℕ) → slice_get decls i ≡ Some (pool x) → n < x.length.value →
    struct_named decls x.target ≡ Some s → struct_in whole (object_of decls i n) ≡ Some s
member_is_of decls clean whole is i x n s at less named =
    let p = pool_at decls clean whole is i x at in
    let f = pools_of decls clean whole is (number_at decls i (pool x)) (record { name = x.name.text; first = objects_ahead decls i; length = x.length.value; structure = p.structure }) p.here in
    let new = f.objects n less in
    let few = few_objects decls clean whole is in
    let here = at_most whole.objects (objects_ahead decls i + n) OBJECT_LIMIT new.object few new.here in
    struct_of_object whole (object_of decls i n) (number_at decls i (pool x)) new.object _ here new.pool p.here
    ∙ sym p.named ∙ named

number_holds : (p : core.Program) (t : core_type.ValueType) (z : ℤ) → fits_type t (sort.Of Integer) ≡ true →
    Holds p t (Int z)
number_holds p Integer z e = tt
number_holds p (Reference s) z e = cc

null_holds : (p : core.Program) (t : core_type.ValueType) → fits_type t sort.Null ≡ true → Holds p t (Ref None)
null_holds p Integer e = cc
null_holds p (Reference s) e = tt

object_holds : (p : core.Program) (t : core_type.ValueType) (s o : ℕ) → fits_type t (sort.Of (Reference s)) ≡ true →
    struct_in p o ≡ Some s → Holds p t (Ref (Some o))
object_holds p Integer s o e h = cc
object_holds p (Reference r) s o e h = h ∙ ap Some (sym (eqb-true r s e))

module _ (decls : List Decl) (clean : Clean decls) (whole : core.Program) (is : AreTables decls whole) where
  denoted_holds : (t : core_type.ValueType) (c : Const) (s : Sort) (u : Value) → IsOfSort decls c s →
      fits_type t s ≡ true → Denotes decls c u → Holds whole t u
  denoted_holds t c s u (number_sort l) fit (a_number {n = n}) = number_holds whole t (pos n.value) fit
  denoted_holds t c s u (negative_sort l) fit (a_negative {n = n}) =
      number_holds whole t (neg_ℤ (pos n.value)) fit
  denoted_holds t c s u null_sort fit no_object = null_holds whole t fit
  denoted_holds t c s u (member_sort {x = x} {i = i} {s = k} {p = p} e named) fit
      (an_object {n = n} {i = j} {p = q} g less) =
      let same : ◌≡◌ {A = Option (ℕ × Decl)} (Some (i, pool p)) (Some (j, pool q)) = sym e ∙ g in
      let both : ◌≡◌ {A = ℕ × Decl} (i, pool p) (j, pool q) = cc in
      let decl : pool p ≡ pool q = ap (λ (y : ℕ × Decl). y.1) both in
      let pools : p ≡ q = cc in
      let target : struct_named decls q.target ≡ Some k =
      ap (λ (r : Pool). struct_named decls r.target) (sym pools) ∙ named in
      object_holds whole t k (object_of decls j n.value) fit
      (member_is_of decls clean whole is j q n.value k (named_is bears decls x.text j (pool q) g).here less target)

  -- a constant for an expected type has this type
  pub const_holds : (t : core_type.ValueType) (c : Const) (u : Value) → Yields decls (wanted.Value t) c u →
      Holds whole t u
  const_holds t c u (yields {s = s} h fit d) = denoted_holds t c s u h fit d

  default_holds : (t : core_type.ValueType) → Holds whole t (default_of t)
  default_holds Integer = tt
  default_holds (Reference s) = tt

  -- so is the value that a thing opens with
  pub opened_holds : (t : core_type.ValueType) (g : Option Const) (u : Value) → Opens decls t g u → Holds whole t u
  opened_holds t g u by_default = default_holds t
  opened_holds t g u (by_constant {c = c} h) = const_holds t c u h

  -- a final reference leads to an object of its struct
  pub referred_holds : (s : ℕ) (c : Const) (n : ℕ) → Yields decls (wanted.Value (Reference s)) c (Ref (Some n)) →
      struct_in whole n ≡ Some s
  referred_holds s c n h = const_holds (Reference s) c (Ref (Some n)) h
