-- A program without helpers is its own expansion.
use Rattle.std.proofs.Common.{◌≡◌, ◌∙◌, ◌<◌, ◌+◌, ℕ, zero, suc, List, [], ◌∷◌, ◌++◌, length, take, drop, Option, Some}
use Rattle.std.proofs.Common.{None, Bool, true, false, refl, sym, ap, subst, append_assoc, arith}
use Rattle.std.specs.Prelude.{slice_get, map, nat_eq}
use Rattle.std.proofs.lemmas.Bool.Decides.{nat_tests}
use Rattle.std.specs.List.{Contains, AllZip}
use Rattle.std.proofs.lemmas.List.{append-nil, map-append, take-append-drop}
use Rattle.std.proofs.Math.ListN.{drop_of_length-le}
use Rattle.core_lang.specs.declared.shape.Shape.{Shape}
use Rattle.core_lang.specs.declared.value.ValueType.{ValueType}
use Rattle.core_lang.specs.declared.tree.Path.{Path}
use Rattle.core_lang.specs.declared.tree.Expr.{Expr, Number, Null, Place, Global as GlobalCell, Element', Member'}
use Rattle.core_lang.specs.declared.tree.Expr.{Negate', Owned', Chain', Row_of-Operation, end_of-Operation}
use Rattle.core_lang.specs.declared.tree.Expr.{more_of-Operation}
use Rattle.core_lang.specs.declared.tree.Condition.{Condition, Compare, Not', And', Or', Row_of-Condition}
use Rattle.core_lang.specs.declared.tree.Condition.{end_of-Condition, more_of-Condition}
use Rattle.core_lang.specs.declared.tree.Stmt.{Stmt}
use Rattle.core_lang.specs.declared.tree.Action.{Action, Bind, SetLocal, SetGlobal, SetElement, SetField, Call, Print}
use Rattle.core_lang.specs.declared.tree.Action.{If', IfElse', While', Row_of-Stmt, end_of-Stmt, more_of-Stmt}
use Rattle.core_lang.specs.declared.tree.Action.{items-the_row-Stmt, items_shown-the_row-Stmt-0, roll-Action}
use Rattle.core_lang.specs.declared.tree.Action.{roll-out-Action}
use Rattle.core_lang.specs.declared.tree.Action.TheBlock.{shown-the_row-Stmt-0}
use Rattle.core_lang.specs.declared.tree.Action.TheVariants.{rolls-If, outs-If', rolls-IfElse, outs-IfElse'}
use Rattle.core_lang.specs.declared.tree.Action.TheVariants.{rolls-While, outs-While'}
use Rattle.core_lang.specs.declared.tree.Local.{Local}
use Rattle.core_lang.specs.declared.tree.Return.{Return}
use Rattle.core_lang.specs.declared.tree.Section.{Section}
use Rattle.core_lang.specs.declared.typed.Typed.{Typed}
use Rattle.core_lang.specs.Scopes.{NamesOnly, AllNameOnly, TestsOnly, AllTestOnly, scope_after, IsScoped, AreScoped}
use Rattle.core_lang.specs.Scopes.{AllScoped, scope_after_all, bound_by, bound_in, bound_in_all, numbers_from}
use Rattle.core_lang.specs.Scopes.{ResultNamesOnly, IsWellScoped}
use Rattle.core_lang.specs.Typing.{IsWellTyped, AreWellTyped, AllWellTyped, local_types}
use Rattle.core_lang.specs.Helpers.{CallsOnly, AllCallOnly, EachCallsOnly, NoHelper, CallsNothing}
use Rattle.core_lang.specs.Meaning.{deepest}
use Rattle.core_lang.specs.WrittenLocals.{LocalData, local_data, own_local, Brought, locals_by, locals_in}
use Rattle.core_lang.specs.WrittenLocals.{locals_in_all, brought, AreWrittenLocals}
use Rattle.core_lang.specs.Expansion.{Pair, pair, RenamesPath, Renames, RenamesEach, RenamesTest, RenamesTests}
use Rattle.core_lang.specs.Expansion.{RenamesResult, At, behind_bound, behind_block, parameters_at, entered, one}
use Rattle.core_lang.specs.Expansion.{Bodies, Writes, WritesRow, WritesAll, HelpersWritten, IsWrittenOut}
use Rattle.core_lang_helpers.specs.Laws.{AProgramWithoutHelpersIsItsOwnExpansion}
use Rattle.core_lang.specs.Theory.Items.{in_first, in_rest}

-- ---- each local stands for itself

abbrev Itself : List Pair → List ℕ → Type 0
Itself pairs scope = (k : ℕ) → Contains scope k → Contains pairs (pair k k)

bound_itself : (k : ℕ) (pairs : List Pair) (scope : List ℕ) → Itself pairs scope → Itself (pair k k ∷ pairs) (k ∷ scope)
bound_itself k pairs scope h j (zero, lt, is) = subst (λ i. Contains (pair k k ∷ pairs) (pair i i)) is (in_first (pair k k) pairs)
bound_itself k pairs scope h j (suc i, lt, is) = in_rest (pair k k) (pair j j) pairs (h j (i, omega (arith, lt), is))

module _ (pairs : List Pair) (scope : List ℕ) (h : Itself pairs scope) where
  path_itself : (p : Path) → Contains scope p.local → RenamesPath pairs p p
  path_itself p c = record { start = refl; local = h p.local c; fields = refl; in_parentheses = refl }

  mutual
    expr_itself : (e : Expr) → NamesOnly scope e → Renames pairs e e
    expr_itself (Number n) c = refl
    expr_itself Null c = tt
    expr_itself (Place p) c = path_itself p c
    expr_itself (GlobalCell start cell) c = (refl, refl)
    expr_itself (Element' start array p index) c = (refl, refl, expr_itself index c)
    expr_itself (Member' pool p index) c = (refl, expr_itself index c)
    expr_itself (Negate' p e) c = expr_itself e c
    expr_itself (Owned' p e s f start k) c = (refl, refl, refl, h k c.1, expr_itself e c.0)
    expr_itself (Chain' p first m rest) c = (expr_itself first c.0, each_itself rest c.1)

    each_itself : {m : _} (row : Row_of-Operation m) → AllNameOnly scope row → RenamesEach pairs row row
    each_itself end_of-Operation c = tt
    each_itself (more_of-Operation o e rest) c = (refl, expr_itself e c.0, each_itself rest c.1)

  mutual
    test_itself : (t : Condition) → TestsOnly scope t → RenamesTest pairs t t
    test_itself (Compare op a b) c = (refl, expr_itself a c.0, expr_itself b c.1)
    test_itself (Not' p t) c = test_itself t c
    test_itself (And' m before p last) c = (tests_itself before c.0, test_itself last c.1)
    test_itself (Or' m before p last) c = (tests_itself before c.0, test_itself last c.1)

    tests_itself : {m : _} (row : Row_of-Condition m) → AllTestOnly scope row → RenamesTests pairs row row
    tests_itself end_of-Condition c = tt
    tests_itself (more_of-Condition t rest) c = (test_itself t c.0, tests_itself rest c.1)

  result_itself : (r : Option Return) → ResultNamesOnly scope r → RenamesResult pairs r r
  result_itself None c = tt
  result_itself (Some r) c = (refl, expr_itself r.value c)

-- ---- each statement is written as itself

-- the numbers that are left are those from the next local on, up to the last
abbrev Left : At → List ℕ → ℕ → Type 0
Left b rest total = (b.own ≡ b.fresh) × ((m : ℕ) × (rest ≡ numbers_from b.own m) × (b.own + m ≡ total))

next_left : (k : ℕ) (rest : List ℕ) (own m total : ℕ) → k ∷ rest ≡ numbers_from own m → own + m ≡ total →
    (k ≡ own) × ((j : ℕ) × (rest ≡ numbers_from (own + 1) j) × (own + 1 + j ≡ total))
next_left k rest own zero total is all = absurd cc
next_left k rest own (suc j) total is all = (cc, (j, cc, omega (arith, all)))

module _ (Body : Bodies) (total : ℕ) where
  mutual
    action_alone : (x : Action) (start : ℕ) (a : At) (scope rest : List ℕ) → CallsOnly NoHelper x → IsScoped scope x →
        Itself a.scope scope →
        Left a (bound_by x ++ rest) total →
        (b : At) × Writes Body x start a (one start x) b × Itself b.scope (scope_after scope x) × Left b rest total
    action_alone (Bind k e) start a scope rest calls c h (same, (m, is, all)) =
        let (here, (j, more, left)) = next_left k rest a.own m total is all in (
          behind_bound a,
          (e, expr_itself a.scope scope h e c, here, ap (λ i. one start (Bind i e)) (here ∙ same), refl),
          subst (λ (p : Pair). Itself (p ∷ a.scope) (k ∷ scope)) (ap (λ i. pair i k) here ∙ ap (pair a.own) (here ∙ same)) (bound_itself k a.scope scope h),
          (ap (λ i. i + 1) same, (j, more, left)),
        )
    action_alone (SetLocal k e) start a scope rest calls c h left = (a, (k, e, h k c.0, expr_itself a.scope scope h e c.1, refl, refl), h, left)
    action_alone (SetGlobal cell e) start a scope rest calls c h left = (a, (e, expr_itself a.scope scope h e c, refl, refl), h, left)
    action_alone (SetElement array i e) start a scope rest calls c h left =
        (a, (i, e, expr_itself a.scope scope h i c.0, expr_itself a.scope scope h e c.1, refl, refl), h, left)
    action_alone (SetField p s f e) start a scope rest calls c h left =
        (a, (p, e, path_itself a.scope scope h p c.0, expr_itself a.scope scope h e c.1, refl, refl), h, left)
    action_alone (Call helper arguments result) start a scope rest calls c h left = absurd calls
    action_alone (Print e) start a scope rest calls c h left = (a, (e, expr_itself a.scope scope h e c, refl, refl), h, left)
    action_alone (If' t m block) start a scope rest calls c h left =
        let (after, w, end) = row_alone block a scope rest calls c.1 h left in
        let v = shown-the_row-Stmt-0 m block in
        let is = sym (roll-out-Action (If' t m block)) ∙ ap roll-Action (outs-If' t m block) ∙ rolls-If t v in (
          behind_block a after,
          (t, v, after, test_itself a.scope scope h t c.0, subst (λ ys. WritesRow Body block a ys after) (sym (items_shown-the_row-Stmt-0 m block)) w, ap (one start) is, refl),
          h,
          end,
        )
    action_alone (IfElse' t m block k otherwise) start a scope rest calls c h left =
        let first = subst (λ ns. Left a ns total) (append_assoc (bound_in block) (bound_in otherwise) rest) left in
        let (middle, w, between) = row_alone block a scope (bound_in otherwise ++ rest) calls.0 c.1 h first in
        let (after, u, end) = row_alone otherwise (behind_block a middle) scope rest calls.1 c.2 h between in
        let v = shown-the_row-Stmt-0 m block in
        let z = shown-the_row-Stmt-0 k otherwise in
        let is = sym (roll-out-Action (IfElse' t m block k otherwise)) ∙ ap roll-Action (outs-IfElse' t m block k otherwise) ∙ rolls-IfElse t v z in (
          behind_block a after,
          (
            t,
            v,
            z,
            middle,
            after,
            test_itself a.scope scope h t c.0,
            subst (λ ys. WritesRow Body block a ys middle) (sym (items_shown-the_row-Stmt-0 m block)) w,
            subst (λ ys. WritesRow Body otherwise (behind_block a middle) ys after) (sym (items_shown-the_row-Stmt-0 k otherwise)) u,
            ap (one start) is,
            refl,
          ),
          h,
          end,
        )
    action_alone (While' t m body) start a scope rest calls c h left =
        let (after, w, end) = row_alone body a scope rest calls c.1 h left in
        let v = shown-the_row-Stmt-0 m body in
        let is = sym (roll-out-Action (While' t m body)) ∙ ap roll-Action (outs-While' t m body) ∙ rolls-While t v in (
          behind_block a after,
          (t, v, after, test_itself a.scope scope h t c.0, subst (λ ys. WritesRow Body body a ys after) (sym (items_shown-the_row-Stmt-0 m body)) w, ap (one start) is, refl),
          h,
          end,
        )

    row_alone : {m : _} (xs : Row_of-Stmt m) (a : At) (scope rest : List ℕ) → AllCallOnly NoHelper xs →
        AreScoped scope xs → Itself a.scope scope →
        Left a (bound_in xs ++ rest) total → (b : At) × WritesRow Body xs a (items-the_row-Stmt _ xs) b × Left b rest total
    row_alone end_of-Stmt a scope rest calls c h left = (a, (refl, refl), left)
    row_alone (more_of-Stmt start x more) a scope rest calls c h left =
        let first = subst (λ ns. Left a ns total) (append_assoc (bound_by x) (bound_in more) rest) left in
        let (middle, w, still, between) = action_alone x start a scope (bound_in more ++ rest) calls.0 c.0 h first in
        let (b, ws, end) = row_alone more middle (scope_after scope x) rest calls.1 c.1 still between in
        (b, (one start x, items-the_row-Stmt _ more, middle, w, ws, refl), end)

  all_alone : (xs : List Stmt) (a : At) (scope rest : List ℕ) → EachCallsOnly NoHelper xs → AllScoped scope xs →
      Itself a.scope scope →
      Left a (bound_in_all xs ++ rest) total → (b : At) × WritesAll Body xs a xs b × Itself b.scope (scope_after_all scope xs) × Left b rest total
  all_alone [] a scope rest calls c h left = (a, (refl, refl), h, left)
  all_alone (x ∷ xs) a scope rest calls c h left =
      let first = subst (λ ns. Left a ns total) (append_assoc (bound_by x.action) (bound_in_all xs) rest) left in
      let (middle, w, still, between) = action_alone x.action x.start a scope (bound_in_all xs ++ rest) calls.0 c.0 h first in
      let (b, ws, there, end) = all_alone xs middle (scope_after scope x.action) rest calls.1 c.1 still between in
      (b, (one x.start x.action, xs, middle, w, ws, refl), there, end)

-- ---- parameters

numbered : (first n k : ℕ) → Contains (numbers_from first n) k → k < first + n
numbered first zero k (i, lt, is) = absurd (omega (arith, lt))
numbered first (suc n) k (zero, lt, is) = omega (arith, is)
numbered first (suc n) k (suc i, lt, is) = let b = numbered (first + 1) n k (i, omega (arith, lt), is) in omega (arith, b)

parameter : (n k : ℕ) → k < n → Contains (parameters_at n 0) (pair k k)
parameter zero k lt = absurd (omega (arith, lt))
parameter (suc n) k lt = decide (nat_eq k n) refl (parameter n k)
  where
    decide : (b : Bool) → nat_eq k n ≡ b → (k < n → Contains (parameters_at n 0) (pair k k)) →
        Contains (parameters_at (suc n) 0) (pair k k)
    decide true e go =
        let same : k ≡ n = grind (arith, nat_tests, e) in
        let last : k ≡ 0 + n = omega (arith, same) in
        subst (λ (p : Pair). Contains (p ∷ parameters_at n 0) (pair k k)) (ap (λ i. pair i k) same ∙ ap (pair n) last) (in_first (pair k k) (parameters_at n 0))
    decide false e go = in_rest (pair n (0 + n)) (pair k k) (parameters_at n 0) (go (grind (arith, nat_tests, e, lt)))

parameters_alone : (n : ℕ) → Itself (parameters_at n 0) (numbers_from 0 n)
parameters_alone n k c = parameter n k (let b = numbered 0 n k c in omega (arith, b))

behind_numbers : (first n total : ℕ) (xs : List ℕ) → numbers_from first n ++ xs ≡ numbers_from first total →
    (m : ℕ) × (xs ≡ numbers_from (first + n) m) × (n + m ≡ total)
behind_numbers first zero total xs is = let e : first ≡ first + 0 = omega arith in (total, is ∙ ap (λ i. numbers_from i total) e, omega arith)
behind_numbers first (suc n) zero xs is = absurd cc
behind_numbers first (suc n) (suc total) xs is =
    let (m, more, all) = behind_numbers (first + 1) n total xs cc in
    let e : first + 1 + n ≡ first + suc n = omega arith in
    (m, more ∙ ap (λ i. numbers_from i m) e, omega (arith, all))

none_left : (own m total : ℕ) → [] ≡ numbers_from own m → own + m ≡ total → own ≡ total
none_left own zero total is all = omega (arith, all)
none_left own (suc m) total is all = absurd cc

-- ---- sections

section_alone : (shape : Shape) (section : Section) → CallsNothing section → IsWellScoped section →
    IsWrittenOut shape section section
section_alone shape section calls scoped =
    let own = section.parameters in
    let all = length section.locals.items in
    let nothing : 0 + own ≡ own = omega arith in
    let (m, more, sum) = behind_numbers 0 own all (bound_in_all section.body.items) scoped.bound in
    let left : Left (entered own 0) (bound_in_all section.body.items ++ []) all
    = (omega arith, (m, append-nil (bound_in_all section.body.items) ∙ more ∙ ap (λ (i : ℕ). numbers_from i m) nothing, sum)) in
    let (b, w, there, (same, (j, none, end))) = all_alone (HelpersWritten shape deepest) all section.body.items (entered own 0) (numbers_from 0 own) [] calls scoped.body (parameters_alone own) left in
    let last = none_left b.own j all none end in
    record {
      parameters = refl;
      result_type = refl;
      body = (b, w, result_itself b.scope (scope_after_all (numbers_from 0 own) section.body.items) there section.result scoped.result, last, sym same ∙ last);
    }

-- ---- its locals

abbrev named_all : List Local → List ℕ → List LocalData
named_all own [] = []
named_all own (k ∷ ks) = own_local (slice_get own k) ++ named_all own ks

named_append : (own : List Local) (ks js : List ℕ) → named_all own (ks ++ js) ≡ named_all own ks ++ named_all own js
named_append own [] js = refl
named_append own (k ∷ ks) js =
    ap (λ ls. own_local (slice_get own k) ++ ls) (named_append own ks js) ∙ sym (append_assoc (own_local (slice_get own k)) (named_all own ks) (named_all own js))

module _ (brings : ℕ → Brought) (own : List Local) where
  mutual
    locals_of : (x : Action) → CallsOnly NoHelper x → locals_by brings own x ≡ named_all own (bound_by x)
    locals_of (Bind k e) calls = sym (append-nil (own_local (slice_get own k)))
    locals_of (SetLocal k e) calls = refl
    locals_of (SetGlobal cell e) calls = refl
    locals_of (SetElement array i e) calls = refl
    locals_of (SetField p s f e) calls = refl
    locals_of (Call helper arguments result) calls = absurd calls
    locals_of (Print e) calls = refl
    locals_of (If' t m block) calls = locals_of_row block calls
    locals_of (IfElse' t m block k otherwise) calls =
        ap (λ ls. ls ++ locals_in brings own otherwise) (locals_of_row block calls.0) ∙ ap (λ ls. named_all own (bound_in block) ++ ls) (locals_of_row otherwise calls.1)
        ∙ sym (named_append own (bound_in block) (bound_in otherwise))
    locals_of (While' t m body) calls = locals_of_row body calls

    locals_of_row : {m : _} (xs : Row_of-Stmt m) → AllCallOnly NoHelper xs →
        locals_in brings own xs ≡ named_all own (bound_in xs)
    locals_of_row end_of-Stmt calls = refl
    locals_of_row (more_of-Stmt start x more) calls =
        ap (λ ls. ls ++ locals_in brings own more) (locals_of x calls.0) ∙ ap (λ ls. named_all own (bound_by x) ++ ls) (locals_of_row more calls.1)
        ∙ sym (named_append own (bound_by x) (bound_in more))

  locals_of_all : (xs : List Stmt) → EachCallsOnly NoHelper xs →
      locals_in_all brings own xs ≡ named_all own (bound_in_all xs)
  locals_of_all [] calls = refl
  locals_of_all (x ∷ xs) calls =
      ap (λ ls. ls ++ locals_in_all brings own xs) (locals_of x.action calls.0) ∙ ap (λ ls. named_all own (bound_by x.action) ++ ls) (locals_of_all xs calls.1)
      ∙ sym (named_append own (bound_by x.action) (bound_in_all xs))

at_place : (own : List Local) (k : ℕ) → k < length own →
    (x : Local) × (slice_get own k ≡ Some x) × (drop k own ≡ x ∷ drop (suc k) own)
at_place [] k lt = absurd (omega (arith, lt))
at_place (x ∷ xs) zero lt = (x, refl, refl)
at_place (x ∷ xs) (suc k) lt = at_place xs k (omega (arith, lt))

named_from : (own : List Local) (k m : ℕ) → k + m ≡ length own →
    named_all own (numbers_from k m) ≡ map local_data (drop k own)
named_from own k zero all = sym (ap (map local_data) (drop_of_length-le own (omega (arith, all))))
named_from own k (suc m) all =
    let (x, is, rest) = at_place own k (omega (arith, all)) in
    let next : k + 1 ≡ suc k = omega arith in
    ap (λ (o : Option Local). own_local o ++ named_all own (numbers_from (k + 1) m)) is
    ∙ ap (λ ls. local_data x ∷ ls) (named_from own (k + 1) m (omega (arith, all)) ∙ ap (λ i. map local_data (drop i own)) next)
    ∙ sym (ap (map local_data) rest)

locals_alone : (shape : Shape) (section : Section) → CallsNothing section → IsWellScoped section →
    AreWrittenLocals shape section section
locals_alone shape section calls scoped =
    let own = section.locals.items in
    let p = section.parameters in
    let nothing : 0 + p ≡ p = omega arith in
    let (m, more, sum) = behind_numbers 0 p (length own) (bound_in_all section.body.items) scoped.bound in
    ap (map local_data) (sym (take-append-drop p own)) ∙ map-append local_data (take p own) (drop p own)
    ∙ ap (λ ls. map local_data (take p own) ++ ls)
    (sym (locals_of_all (brought deepest shape) own section.body.items calls ∙ ap (named_all own) (more ∙ ap (λ i. numbers_from i m) nothing) ∙ named_from own p m sum))

-- ---- programs

no_helper_at : (hs : List Section) (k : ℕ) (x : Section) → hs ≡ [] → slice_get hs k ≡ Some x → ⊥
no_helper_at [] k x none e = absurd cc
no_helper_at (h ∷ hs) k x none e = absurd cc

module _ (program : Typed) (types : List ValueType) (none : program.shape.helpers.items ≡ []) where
  mutual
    calls_none : (x : Action) → IsWellTyped program types x → CallsOnly NoHelper x
    calls_none (Call helper arguments result) t = no_helper_at program.shape.helpers.items helper t.0 none t.1
    calls_none (If' c m block) t = row_calls_none block t.1
    calls_none (IfElse' c m block k otherwise) t = (row_calls_none block t.1, row_calls_none otherwise t.2)
    calls_none (While' c m body) t = row_calls_none body t.1
    calls_none (Bind k e) t = tt
    calls_none (SetLocal k e) t = tt
    calls_none (SetGlobal cell e) t = tt
    calls_none (SetElement array i e) t = tt
    calls_none (SetField p s f e) t = tt
    calls_none (Print e) t = tt

    row_calls_none : {m : _} (xs : Row_of-Stmt m) → AreWellTyped program types xs → AllCallOnly NoHelper xs
    row_calls_none end_of-Stmt t = tt
    row_calls_none (more_of-Stmt start x more) t = (calls_none x t.0, row_calls_none more t.1)

  all_call_none : (xs : List Stmt) → AllWellTyped program types xs → EachCallsOnly NoHelper xs
  all_call_none [] t = tt
  all_call_none (x ∷ xs) t = (calls_none x.action t.0, all_call_none xs t.1)

zipped : {A : Type 0} (R : A → A → Type 0) (xs : List A) → ((k : ℕ) (x : A) → slice_get xs k ≡ Some x → R x x) →
    AllZip R xs xs
zipped R [] h = tt
zipped R (x ∷ xs) h = (h 0 x refl, zipped R xs (λ k. h (suc k)))

pub own_expansion : AProgramWithoutHelpersIsItsOwnExpansion
own_expansion program well =
    let calls = λ (k : ℕ) (section : Section) (found : slice_get program.sections.items k ≡ Some section).
    all_call_none program (local_types section.locals.items) well.helpers section.body.items (well.sections k section found).body in
    record {
      expansion = record {
        places = record { arrays = refl; pools = refl; objects = refl; finals = refl };
        helpers = well.helpers;
        cells = refl;
        there = λ k section found. (section, found, section_alone program.shape section (calls k section found) (well.scopes k section found));
        back = λ k section found. (section, found, section_alone program.shape section (calls k section found) (well.scopes k section found));
      };
      locals = zipped (AreWrittenLocals program.shape) program.sections.items (λ k section found. locals_alone program.shape section (calls k section found) (well.scopes k section found));
      besides = record { classes = refl; structs = refl; globals = refl; heads = refl; threads = refl };
    }
