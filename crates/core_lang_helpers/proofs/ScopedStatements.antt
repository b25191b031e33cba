-- An expansion names only locals in scope.
use Rattle.std.proofs.Common.{◌≡◌, ℕ, zero, suc, ◌+◌, ◌<◌, ◌≤◌, List, [], ◌∷◌, ◌++◌, length, Option, Some, None, inl}
use Rattle.std.proofs.Common.{inr, refl, sym, ap, subst, arith, Vec, Global}
use Rattle.std.specs.List.{Contains}
use mathlib.Core.Former.{Count}
use Rattle.core_lang.specs.declared.shape.Shape.{Shape}
use Rattle.core_lang.specs.declared.tree.Expr.{Expr, Number, Null, Place, Global as GlobalCell, Element', Member'}
use Rattle.core_lang.specs.declared.tree.Expr.{Negate', Owned', Chain', Row_of-Operation, end_of-Operation}
use Rattle.core_lang.specs.declared.tree.Expr.{more_of-Operation}
use Rattle.core_lang.specs.declared.tree.Condition.{Condition, Compare, Not', And', Or', Row_of-Condition}
use Rattle.core_lang.specs.declared.tree.Condition.{end_of-Condition, more_of-Condition}
use Rattle.core_lang.specs.declared.tree.Stmt.{Stmt}
use Rattle.core_lang.specs.declared.tree.Action.{Action, Bind, SetLocal, SetGlobal, SetElement, SetField, Call, Print}
use Rattle.core_lang.specs.declared.tree.Action.{If', IfElse', While', If, IfElse, While, Row_of-Stmt, end_of-Stmt}
use Rattle.core_lang.specs.declared.tree.Action.{more_of-Stmt, items-the_row-Stmt, items_hidden-the_row-Stmt-0}
use Rattle.core_lang.specs.declared.tree.Return.{Return}
use Rattle.core_lang.specs.declared.tree.Section.{Section}
use Rattle.core_lang.specs.Theory.Lists.{block_of, else_of}
use Rattle.core_lang.specs.Meaning.{deepest}
use Rattle.core_lang.specs.Scopes.{NamesOnly, AllNameOnly, TestsOnly, AllTestOnly, scope_after, IsScoped, AreScoped}
use Rattle.core_lang.specs.Scopes.{AllScoped, scope_after_all, numbers_from, ResultNamesOnly}
use Rattle.core_lang.specs.Expansion.{Pair, pair, At, behind_block, parameters_at, entered, one, Renames, RenamesEach}
use Rattle.core_lang.specs.Expansion.{RenamesTest, RenamesTests, RenamesResult, Arguments, Bound, Bodies, Writes}
use Rattle.core_lang.specs.Expansion.{WritesRow, WritesAll, HelpersWritten, IsWrittenOut}
use Rattle.core_lang.specs.Theory.Items.{not_in_none, in_first, in_rest, in_cases}

-- each local that stands for one in scope may be named
abbrev pub Covers : List Pair → List ℕ → Type 0
Covers scope names = (k written : ℕ) → Contains scope (pair k written) → Contains names written

covers_more : (scope : List Pair) (names : List ℕ) (k written : ℕ) → Covers scope names →
    Covers (pair k written ∷ scope) (written ∷ names)
covers_more scope names k written covers a b c =
    elim (in_cases (pair k written) (pair a b) scope c) [
      | inl e ↦ subst (λ z. Contains (written ∷ names) z) (ap (λ (z : Pair). z.written) e) (in_first written names)
      | inr rest ↦ in_rest written b names (covers a b rest)
    ]

covers_parameters : (p n first : ℕ) (names : List ℕ) → n ≤ p → ((i : ℕ) → i < p → Contains names (first + i)) →
    Covers (parameters_at n first) names
covers_parameters p zero first names le each k written c = absurd (not_in_none (pair k written) c)
covers_parameters p (suc n) first names le each k written c =
    elim (in_cases (pair n (first + n)) (pair k written) (parameters_at n first) c) [
      | inl e ↦ subst (λ z. Contains names z) (ap (λ (z : Pair). z.written) e) (each n (omega (arith, le)))
      | inr rest ↦ covers_parameters p n first names (omega (arith, le)) each k written rest
    ]

pub in_numbers : (first n i : ℕ) → i < n → Contains (numbers_from first n) (first + i)
in_numbers first zero i lt = absurd (omega (arith, lt))
in_numbers first (suc n) zero lt =
    let e : first ≡ first + 0 = omega arith in
    subst (λ z. Contains (numbers_from first (suc n)) z) e (in_first first (numbers_from (first + 1) n))
in_numbers first (suc n) (suc i) lt =
    let e : first + 1 + i ≡ first + suc i = omega arith in
    subst (λ z. Contains (numbers_from first (suc n)) z) e (in_rest first (first + 1 + i) (numbers_from (first + 1) n) (in_numbers (first + 1) n i (omega (arith, lt))))

-- ---- expressions and conditions

module _ (scope : List Pair) (names : List ℕ) (covers : Covers scope names) where
  mutual
    names_only : (e e' : Expr) → Renames scope e e' → NamesOnly names e'
    names_only (Number n) (Number m) r = tt
    names_only Null Null r = tt
    names_only (Place p) (Place q) r = covers p.local q.local r.local
    names_only (GlobalCell start cell) (GlobalCell start' cell') r = tt
    names_only (Element' start array p i) (Element' start' array' p' i') r = names_only i i' r.2
    names_only (Member' pool p i) (Member' pool' p' i') r = names_only i i' r.1
    names_only (Negate' p e) (Negate' p' e') r = names_only e e' r
    names_only (Owned' p e s f start k) (Owned' p' e' s' f' start' k') r = (names_only e e' r.4, covers k k' r.3)
    names_only (Chain' p first m rest) (Chain' p' first' m' rest') r = (names_only first first' r.0, each_names_only rest rest' r.1)
    names_only _ _ r = absurd r

    each_names_only : {m m' : _} (row : Row_of-Operation m) (row' : Row_of-Operation m') →
        RenamesEach scope row row' → AllNameOnly names row'
    each_names_only end_of-Operation end_of-Operation r = tt
    each_names_only (more_of-Operation o e rest) (more_of-Operation o' e' rest') r = (names_only e e' r.1, each_names_only rest rest' r.2)
    each_names_only _ _ r = absurd r

  mutual
    tests_only : (c c' : Condition) → RenamesTest scope c c' → TestsOnly names c'
    tests_only (Compare c a b) (Compare c' a' b') r = (names_only a a' r.1, names_only b b' r.2)
    tests_only (Not' p c) (Not' p' c') r = tests_only c c' r
    tests_only (And' m before p last) (And' m' before' p' last') r = (all_test_only before before' r.0, tests_only last last' r.1)
    tests_only (Or' m before p last) (Or' m' before' p' last') r = (all_test_only before before' r.0, tests_only last last' r.1)
    tests_only _ _ r = absurd r

    all_test_only : {m m' : _} (row : Row_of-Condition m) (row' : Row_of-Condition m') → RenamesTests scope row row' →
        AllTestOnly names row'
    all_test_only end_of-Condition end_of-Condition r = tt
    all_test_only (more_of-Condition c rest) (more_of-Condition c' rest') r = (tests_only c c' r.0, all_test_only rest rest' r.1)
    all_test_only _ _ r = absurd r

  result_only : (x y : Option Return) → RenamesResult scope x y → ResultNamesOnly names y
  result_only None None r = tt
  result_only (Some x) (Some y) r = names_only x.value y.value r.1
  result_only None (Some y) r = absurd r
  result_only (Some x) None r = absurd r

-- ---- lists of statements

kept_by : (names : List ℕ) (x : Action) (k : ℕ) → Contains names k → Contains (scope_after names x) k
kept_by names (Bind local e) k c = in_rest local k names c
kept_by names (SetLocal local e) k c = c
kept_by names (SetGlobal cell e) k c = c
kept_by names (SetElement array i e) k c = c
kept_by names (SetField p s f e) k c = c
kept_by names (Call h es (Some local)) k c = in_rest local k names c
kept_by names (Call h es None) k c = c
kept_by names (Print e) k c = c
kept_by names (If' t m block) k c = c
kept_by names (IfElse' t m block n otherwise) k c = c
kept_by names (While' t m body) k c = c

kept_in : (names : List ℕ) (ys : List Stmt) (k : ℕ) → Contains names k → Contains (scope_after_all names ys) k
kept_in names [] k c = c
kept_in names (y ∷ ys) k c = kept_in (scope_after names y.action) ys k (kept_by names y.action k c)

after_both : (names : List ℕ) (xs ys : List Stmt) →
    scope_after_all names (xs ++ ys) ≡ scope_after_all (scope_after_all names xs) ys
after_both names [] ys = refl
after_both names (x ∷ xs) ys = after_both (scope_after names x.action) xs ys

both_scoped : (names : List ℕ) (xs ys : List Stmt) → AllScoped names xs → AllScoped (scope_after_all names xs) ys →
    AllScoped names (xs ++ ys)
both_scoped names [] ys h k = k
both_scoped names (x ∷ xs) ys h k = (h.0, both_scoped (scope_after names x.action) xs ys h.1 k)

items_scoped : (names : List ℕ) (n : Count) (row : Row_of-Stmt n) → AllScoped names (items-the_row-Stmt n row) →
    AreScoped names row
items_scoped names n end_of-Stmt h = tt
items_scoped names n (more_of-Stmt start x rest) h = (h.0, items_scoped (scope_after names x) _ rest h.1)

if_scoped : (names : List ℕ) (c : Condition) (block : Vec Stmt Global) → TestsOnly names c →
    AllScoped names block.items → IsScoped names (If c block)
if_scoped names c block t h =
    let row = block_of (If c block) in
    (t, items_scoped names row.0 row.1 (subst (AllScoped names) (sym (items_hidden-the_row-Stmt-0 block)) h))

while_scoped : (names : List ℕ) (c : Condition) (block : Vec Stmt Global) → TestsOnly names c →
    AllScoped names block.items → IsScoped names (While c block)
while_scoped names c block t h =
    let row = block_of (While c block) in
    (t, items_scoped names row.0 row.1 (subst (AllScoped names) (sym (items_hidden-the_row-Stmt-0 block)) h))

if_else_scoped : (names : List ℕ) (c : Condition) (block otherwise : Vec Stmt Global) → TestsOnly names c →
    AllScoped names block.items → AllScoped names otherwise.items →
    IsScoped names (IfElse c block otherwise)
if_else_scoped names c block otherwise t h k =
    let row = block_of (IfElse c block otherwise) in
    let row' = else_of (IfElse c block otherwise) in (
      t,
      items_scoped names row.0 row.1 (subst (AllScoped names) (sym (items_hidden-the_row-Stmt-0 block)) h),
      items_scoped names row'.0 row'.1 (subst (AllScoped names) (sym (items_hidden-the_row-Stmt-0 otherwise)) k),
    )

-- ---- what is written out

-- in scope itself, and after it each local that stands for one in scope may be named
pub record Scoped (names : List ℕ) (ys : List Stmt) (scope : List Pair) : Type 0 where
  pub within : AllScoped names ys
  pub covers : Covers scope (scope_after_all names ys)

scoped_nothing : (names : List ℕ) (scope : List Pair) → Covers scope names → Scoped names [] scope
scoped_nothing names scope covers = record { within = tt; covers = covers }

scoped_both : (names : List ℕ) (xs ys : List Stmt) (scope : List Pair) → AllScoped names xs →
    Scoped (scope_after_all names xs) ys scope → Scoped names (xs ++ ys) scope
scoped_both names xs ys scope h s = record {
  within = both_scoped names xs ys h s.within;
  covers = subst (Covers scope) (sym (after_both names xs ys)) s.covers;
}

-- one statement that binds nothing
scoped_one : (names : List ℕ) (start : ℕ) (x : Action) (a b : At) (ys : List Stmt) → ys ≡ one start x →
    b.scope ≡ a.scope → Covers a.scope names → IsScoped names x →
    scope_after names x ≡ names → Scoped names ys b.scope
scoped_one names start x a b ys w f covers h quiet =
    subst (λ s. Scoped names ys s) (sym f) (subst (λ zs. Scoped names zs a.scope) (sym w) (record { within = (h, tt); covers = subst (Covers a.scope) (sym quiet) covers }))

scoped_bound : (names : List ℕ) (start k fresh : ℕ) (e : Expr) (scope : List Pair) → Covers scope names →
    NamesOnly names e →
    Scoped names (one start (Bind fresh e)) (pair k fresh ∷ scope)
scoped_bound names start k fresh e scope covers h = record { within = (h, tt); covers = covers_more scope names k fresh covers }

abbrev pub BodiesScoped : Bodies → Type 0
BodiesScoped Body =
    (helper count first : ℕ) (body : List Stmt) (r : Option Return) (fresh : ℕ) (names : List ℕ) → Body helper count first body r fresh →
    ((i : ℕ) → i < count → Contains names (first + i)) → AllScoped names body × ResultNamesOnly (scope_after_all names body) r

argument_there : (fresh n : ℕ) (names : List ℕ) (rest : List Stmt) (i : ℕ) → i < n + 1 →
    ((j : ℕ) → j < n → Contains (scope_after_all (fresh ∷ names) rest) (fresh + 1 + j)) → Contains (scope_after_all (fresh ∷ names) rest) (fresh + i)
argument_there fresh n names rest zero lt each =
    let e : fresh ≡ fresh + 0 = omega arith in
    subst (λ z. Contains (scope_after_all (fresh ∷ names) rest) z) e (kept_in (fresh ∷ names) rest fresh (in_first fresh names))
argument_there fresh n names rest (suc j) lt each =
    let e : fresh + 1 + j ≡ fresh + suc j = omega arith in
    subst (λ z. Contains (scope_after_all (fresh ∷ names) rest) z) e (each j (omega (arith, lt)))

arguments_scoped : (start : ℕ) (scope : List Pair) (es : List Expr) (fresh : ℕ) (lets : List Stmt) (names : List ℕ) →
    Covers scope names → Arguments start scope es fresh lets →
    AllScoped names lets × ((i : ℕ) → i < length es → Contains (scope_after_all names lets) (fresh + i))
arguments_scoped start scope [] fresh lets names covers w = (subst (AllScoped names) (sym w) tt, λ i lt. absurd (omega (arith, lt)))
arguments_scoped start scope (e ∷ es) fresh lets names covers (e', rest, r, w, ws) =
    let more = arguments_scoped start scope es (fresh + 1) rest (fresh ∷ names) (λ k written c. in_rest fresh written names (covers k written c)) ws in
    let this : Stmt = record { start = start; action = Bind fresh e' } in
    let found : (i : ℕ) → i < length (e ∷ es) → Contains (scope_after_all names (this ∷ rest)) (fresh + i) = λ i lt.
    argument_there fresh (length es) names rest i (omega (arith, lt)) more.1
    in (
      subst (AllScoped names) (sym w) (names_only scope names covers e e' r, more.0),
      subst (λ (zs : List Stmt). (i : ℕ) → i < length (e ∷ es) → Contains (scope_after_all names zs) (fresh + i)) (sym w) found,
    )

bound_scoped : (result : Option ℕ) (r : Option Return) (a b : At) (fresh : ℕ) (last : List Stmt) (names : List ℕ) →
    Bound result r a fresh last b → ResultNamesOnly names r →
    Covers a.scope names → Scoped names last b.scope
bound_scoped None None a b fresh last names w h covers =
    subst (λ (z : At). Scoped names last z.scope) (sym w.1) (subst (λ zs. Scoped names zs a.scope) (sym w.0) (scoped_nothing names a.scope covers))
bound_scoped None (Some r) a b fresh last names w h covers =
    subst (λ (z : At). Scoped names last z.scope) (sym w.1) (subst (λ zs. Scoped names zs a.scope) (sym w.0)
    (record { within = (h, tt); covers = λ k written c. in_rest fresh written names (covers k written c) }))
bound_scoped (Some k) None a b fresh last names w h covers = absurd w
bound_scoped (Some k) (Some r) a b fresh last names w h covers =
    subst (λ (z : At). Scoped names last z.scope) (sym w.2) (subst (λ zs. Scoped names zs (pair a.own fresh ∷ a.scope)) (sym w.1)
    (scoped_bound names r.start a.own fresh r.value a.scope covers h))

module _ (Body : Bodies) (bodies : BodiesScoped Body) where
  mutual
    writes_scoped : (x : Action) (start : ℕ) (a b : At) (ys : List Stmt) (names : List ℕ) →
        Writes Body x start a ys b → Covers a.scope names → Scoped names ys b.scope
    writes_scoped (Bind k e) start a b ys names (e', r, same, w, f) covers =
        subst (λ (z : At). Scoped names ys z.scope) (sym f) (subst (λ zs. Scoped names zs (pair a.own a.fresh ∷ a.scope)) (sym w)
        (scoped_bound names start a.own a.fresh e' a.scope covers (names_only a.scope names covers e e' r)))
    writes_scoped (SetLocal k e) start a b ys names (k', e', c, r, w, f) covers =
        scoped_one names start (SetLocal k' e') a b ys w (ap (λ (z : At). z.scope) f) covers (covers k k' c, names_only a.scope names covers e e' r) refl
    writes_scoped (SetGlobal cell e) start a b ys names (e', r, w, f) covers =
        scoped_one names start (SetGlobal cell e') a b ys w (ap (λ (z : At). z.scope) f) covers (names_only a.scope names covers e e' r) refl
    writes_scoped (SetElement array i e) start a b ys names (i', e', ri, r, w, f) covers =
        scoped_one names start (SetElement array i' e') a b ys w (ap (λ (z : At). z.scope) f) covers
        (names_only a.scope names covers i i' ri, names_only a.scope names covers e e' r) refl
    writes_scoped (SetField p s g e) start a b ys names (p', e', rp, r, w, f) covers =
        scoped_one names start (SetField p' s g e') a b ys w (ap (λ (z : At). z.scope) f) covers (covers p.local p'.local rp.local, names_only a.scope names covers e e' r) refl
    writes_scoped (Call k es result) start a b ys names (lets, body, last, r, fresh, args, inside, w, e) covers =
        let first = arguments_scoped start a.scope es.items a.fresh lets names covers args in
        let middle = scope_after_all names lets in
        let second = bodies k (length es.items) a.fresh body r fresh middle inside first.1 in
        let behind = scope_after_all middle body in
        let still : Covers a.scope behind = λ j written c. kept_in middle body written (kept_in names lets written (covers j written c)) in
        let third = bound_scoped result r a b fresh last behind w second.1 still in
        subst (λ zs. Scoped names zs b.scope) (sym e) (scoped_both names lets (body ++ last) b.scope first.0 (scoped_both middle body last b.scope second.0 third))
    writes_scoped (Print e) start a b ys names (e', r, w, f) covers =
        scoped_one names start (Print e') a b ys w (ap (λ (z : At). z.scope) f) covers (names_only a.scope names covers e e' r) refl
    writes_scoped (If' c m block) start a b ys names (c', block', after, t, w, e, f) covers =
        let inner = row_scoped block a after block'.items names w covers in
        scoped_one names start (If c' block') a b ys e (ap (λ (z : At). z.scope) f) covers (if_scoped names c' block' (tests_only a.scope names covers c c' t) inner.within) refl
    writes_scoped (IfElse' c m block k otherwise) start a b ys names (c', block', otherwise', middle, after, t, w, w', e, f) covers =
        let first = row_scoped block a middle block'.items names w covers in
        let second = row_scoped otherwise (behind_block a middle) after otherwise'.items names w' covers in
        scoped_one names start (IfElse c' block' otherwise') a b ys e (ap (λ (z : At). z.scope) f) covers
        (if_else_scoped names c' block' otherwise' (tests_only a.scope names covers c c' t) first.within second.within) refl
    writes_scoped (While' c m body) start a b ys names (c', body', after, t, w, e, f) covers =
        let inner = row_scoped body a after body'.items names w covers in
        scoped_one names start (While c' body') a b ys e (ap (λ (z : At). z.scope) f) covers (while_scoped names c' body' (tests_only a.scope names covers c c' t) inner.within) refl

    row_scoped : {m : _} (row : Row_of-Stmt m) (a b : At) (ys : List Stmt) (names : List ℕ) →
        WritesRow Body row a ys b → Covers a.scope names → Scoped names ys b.scope
    row_scoped end_of-Stmt a b ys names (e, f) covers =
        subst (λ (z : At). Scoped names ys z.scope) (sym f) (subst (λ zs. Scoped names zs a.scope) (sym e) (scoped_nothing names a.scope covers))
    row_scoped (more_of-Stmt start x rest) a b ys names (front, rear, middle, w, ws, e) covers =
        let first = writes_scoped x start a middle front names w covers in
        let second = row_scoped rest middle b rear (scope_after_all names front) ws first.covers in
        subst (λ zs. Scoped names zs b.scope) (sym e) (scoped_both names front rear b.scope first.within second)

  all_scoped : (xs : List Stmt) (a b : At) (ys : List Stmt) (names : List ℕ) → WritesAll Body xs a ys b →
      Covers a.scope names → Scoped names ys b.scope
  all_scoped [] a b ys names (e, f) covers =
      subst (λ (z : At). Scoped names ys z.scope) (sym f) (subst (λ zs. Scoped names zs a.scope) (sym e) (scoped_nothing names a.scope covers))
  all_scoped (x ∷ xs) a b ys names (front, rear, middle, w, ws, e) covers =
      let first = writes_scoped x.action x.start a middle front names w covers in
      let second = all_scoped xs middle b rear (scope_after_all names front) ws first.covers in
      subst (λ zs. Scoped names zs b.scope) (sym e) (scoped_both names front rear b.scope first.within second)

helpers_scoped : (shape : Shape) (depth : ℕ) → BodiesScoped (HelpersWritten shape depth)
helpers_scoped shape zero helper count first body r fresh names w each = absurd w
helpers_scoped shape (suc depth) helper count first body r fresh names (h, is, e, (b, w, ends, own, f)) each =
    let covers = covers_parameters h.parameters h.parameters first names (omega arith) (λ i lt. each i (omega (arith, lt, e))) in
    let inner = all_scoped (HelpersWritten shape depth) (helpers_scoped shape depth) h.body.items (entered h.parameters first) b body names w covers in
    (inner.within, result_only b.scope (scope_after_all names body) inner.covers h.result r ends)

-- a section that is written out names locals in scope alone
pub written_out_scoped : (shape : Shape) (section section' : Section) → IsWrittenOut shape section section' →
    AllScoped (numbers_from 0 section'.parameters) section'.body.items
    × ResultNamesOnly (scope_after_all (numbers_from 0 section'.parameters) section'.body.items) section'.result
written_out_scoped shape section section' out =
    let p = section.parameters in
    let names = numbers_from 0 p in
    let b = out.body.0 in
    let covers = covers_parameters p p 0 names (omega arith) (in_numbers 0 p) in
    let inner = all_scoped (HelpersWritten shape deepest) (helpers_scoped shape deepest) section.body.items (entered p 0) b section'.body.items names out.body.1 covers in
    subst (λ n. AllScoped (numbers_from 0 n) section'.body.items × ResultNamesOnly (scope_after_all (numbers_from 0 n) section'.body.items) section'.result) (sym out.parameters)
    (inner.within, result_only b.scope (scope_after_all names section'.body.items) inner.covers section.result section'.result out.body.2)
