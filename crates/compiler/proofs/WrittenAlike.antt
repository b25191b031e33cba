-- The expansion of a section depends on the resolved program alone, not on where it is in memory.
use Rattle.std.proofs.Common.{◌≡◌, ℕ, zero, suc, ◌+◌, ◌<◌, ◌≤◌, List, [], ◌∷◌, ◌++◌, length, map, Option, Some, None}
use Rattle.std.proofs.Common.{if◌then◌else◌, Bool, true, false, refl, sym, ap, ◌∙◌, subst, arith, Vec, Global}
use Rattle.std.specs.Prelude.{slice_get, option_map, ⊤}
use Rattle.std.specs.List.{Contains}
use mathlib.Core.Former.{Count}
use Rattle.core_lang.specs.declared.shape.Shape.{Shape}
use Rattle.core_lang.specs.declared.tree.Path as the_path
use Rattle.core_lang.specs.declared.tree.Expr as the_expr
use Rattle.core_lang.specs.declared.tree.Expr.{Number, Null, Place, Global as GlobalCell, Element', Member', Negate'}
use Rattle.core_lang.specs.declared.tree.Expr.{Owned', Chain', Row_of-Operation, end_of-Operation, more_of-Operation}
use Rattle.core_lang.specs.declared.tree.Condition as the_condition
use Rattle.core_lang.specs.declared.tree.Condition.{Compare, Not', And', Or', Row_of-Condition, end_of-Condition}
use Rattle.core_lang.specs.declared.tree.Condition.{more_of-Condition}
use Rattle.core_lang.specs.declared.tree.Stmt as the_stmt
use Rattle.core_lang.specs.declared.tree.Action as the_action
use Rattle.core_lang.specs.declared.tree.Action.{Bind, SetLocal, SetGlobal, SetElement, SetField, Call as CallOf, Print}
use Rattle.core_lang.specs.declared.tree.Action.{If', IfElse', While', If, IfElse, While, Row_of-Stmt, end_of-Stmt}
use Rattle.core_lang.specs.declared.tree.Action.{more_of-Stmt, items-the_row-Stmt, items_hidden-the_row-Stmt-0}
use Rattle.core_lang.specs.declared.tree.Return as the_return
use Rattle.core_lang.specs.declared.tree.Section as the_section
use Rattle.core_lang.specs.Theory.Lists.{block_of, else_of}
use Rattle.core_lang.specs.Meaning.{deepest}
use Rattle.core_lang.specs.Expansion as x
use Rattle.core_lang.specs.Expansion.{Pair, pair, At, behind_bound, behind_block, parameters_at, entered, one}
use Rattle.core_lang.specs.Expansion.{RenamesPath, Renames, RenamesEach, RenamesTest, RenamesTests, RenamesResult}
use Rattle.core_lang.specs.Expansion.{Arguments, Bound, Bodies, Writes, WritesRow, WritesAll, HelpersWritten}
use Rattle.core_lang.specs.Expansion.{IsWrittenOut}
use Rattle.resolution.specs.Core.{Path, Expr, number, null, place, global, element, member, negate, owned, chain}
use Rattle.resolution.specs.Core.{Operations, no_operations, operation, Condition, compare, negation, all_of, any_of}
use Rattle.resolution.specs.Core.{Conditions, no_conditions, condition, Action, bind, set_local, set_global}
use Rattle.resolution.specs.Core.{set_element, set_field, call, print, if_true, if_else, while_true, Stmts, no_stmts}
use Rattle.resolution.specs.Core.{stmt, Return, Section}
use Rattle.resolution.specs.CoreViews.{core_path, core_expr, core_operations_row, core_condition, core_conditions_row}
use Rattle.resolution.specs.CoreViews.{core_action, core_stmts_row, core_stmts, core_return, core_section}
use Rattle.core_lang.specs.Theory.Items.{not_in_none, map_at}

-- ---- locals by their new numbers

abbrev is_number : ℕ → ℕ → Bool
is_number zero zero = true
is_number zero (suc k) = false
is_number (suc n) zero = false
is_number (suc n) (suc k) = is_number n k

-- the new number of the local `k`, by the last pair for it
abbrev written_for : List Pair → ℕ → ℕ
written_for [] k = 0
written_for (p ∷ ps) k = if is_number p.own k then p.written else written_for ps k

-- each pair is of a lower local than the one that is bound after it
abbrev pub Falling : ℕ → List Pair → Type 0
Falling own [] = ⊤
Falling own (p ∷ ps) = (p.own < own) × Falling p.own ps

raised : (own own' : ℕ) (scope : List Pair) → own ≤ own' → Falling own scope → Falling own' scope
raised own own' [] le f = tt
raised own own' (p ∷ ps) le f = (omega (arith, le, f.0), f.1)

below : (own : ℕ) (scope : List Pair) (k w : ℕ) → Falling own scope → Contains scope (pair k w) → k < own
below own [] k w f c = absurd (not_in_none (pair k w) c)
below own (p ∷ ps) k w f (zero, lt, e) = let same = ap (λ (z : Pair). z.own) e in omega (arith, f.0, same)
below own (p ∷ ps) k w f (suc i, lt, e) = let low = below p.own ps k w f.1 (i, omega (arith, lt), e) in omega (arith, low, f.0)

number_same : (k : ℕ) → is_number k k ≡ true
number_same zero = refl
number_same (suc k) = number_same k

number_less : (k n : ℕ) → k < n → is_number n k ≡ false
number_less zero zero lt = absurd (omega (arith, lt))
number_less zero (suc n) lt = refl
number_less (suc k) zero lt = absurd (omega (arith, lt))
number_less (suc k) (suc n) lt = number_less k n (omega (arith, lt))

found_written : (own : ℕ) (scope : List Pair) (k w : ℕ) → Falling own scope → Contains scope (pair k w) →
    w ≡ written_for scope k
found_written own [] k w f c = absurd (not_in_none (pair k w) c)
found_written own (p ∷ ps) k w f (zero, lt, e) =
    let mine : p.own ≡ k = ap (λ (z : Pair). z.own) e in
    let test : is_number p.own k ≡ true = ap (λ z. is_number z k) mine ∙ number_same k in
    sym (ap (λ (z : Pair). z.written) e) ∙ sym (ap (λ t. if t then p.written else written_for ps k) test)
found_written own (p ∷ ps) k w f (suc i, lt, e) =
    let rest : Contains ps (pair k w) = (i, omega (arith, lt), e) in
    let test : is_number p.own k ≡ false = number_less k p.own (below p.own ps k w f.1 rest) in
    found_written p.own ps k w f.1 rest ∙ sym (ap (λ t. if t then p.written else written_for ps k) test)

-- ---- expressions and conditions

module _ (scope : List Pair) where
  abbrev renamed_path : Path → Path
  renamed_path p = record p { local = written_for scope p.local }

  abbrev mutual
    renamed : Expr → Expr
    renamed (number n) = number n
    renamed null = null
    renamed (place p) = place (renamed_path p)
    renamed (global start cell) = global start cell
    renamed (element start array index) = element start array (renamed index)
    renamed (member pool index) = member pool (renamed index)
    renamed (negate v) = negate (renamed v)
    renamed (owned v structure final start owner) = owned (renamed v) structure final start (written_for scope owner)
    renamed (chain first rest) = chain (renamed first) (renamed_each rest)

    renamed_each : Operations → Operations
    renamed_each no_operations = no_operations
    renamed_each (operation o v rest) = operation o (renamed v) (renamed_each rest)

  abbrev mutual
    renamed_test : Condition → Condition
    renamed_test (compare o v w) = compare o (renamed v) (renamed w)
    renamed_test (negation v) = negation (renamed_test v)
    renamed_test (all_of before last) = all_of (renamed_tests before) (renamed_test last)
    renamed_test (any_of before last) = any_of (renamed_tests before) (renamed_test last)

    renamed_tests : Conditions → Conditions
    renamed_tests no_conditions = no_conditions
    renamed_tests (condition v rest) = condition (renamed_test v) (renamed_tests rest)

  abbrev renamed_return : Return → Return
  renamed_return r = record { start = r.start; value = renamed r.value }

  module _ (own : ℕ) (falling : Falling own scope) where
    path_is : (p q : the_path.Path) → RenamesPath scope p q → core_path q ≡ renamed_path (core_path p)
    path_is p q r =
        λ i. record { start = r.start i; local = found_written own scope p.local q.local falling r.local i; fields = r.fields i; in_parentheses = r.in_parentheses i }

    mutual
      expr_is : (v w : the_expr.Expr) → Renames scope v w → core_expr w ≡ renamed (core_expr v)
      expr_is (Number n) (Number m) r = ap number r
      expr_is Null Null r = refl
      expr_is (Place p) (Place q) r = ap place (path_is p q r)
      expr_is (GlobalCell start cell) (GlobalCell start' cell') r = λ i. global (r.0 i) (r.1 i)
      expr_is (Element' start array p v) (Element' start' array' p' v') r = λ i. element (r.0 i) (r.1 i) (expr_is v v' r.2 i)
      expr_is (Member' pool p v) (Member' pool' p' v') r = λ i. member (r.0 i) (expr_is v v' r.1 i)
      expr_is (Negate' p v) (Negate' p' v') r = ap negate (expr_is v v' r)
      expr_is (Owned' p v k f start o) (Owned' p' v' k' f' start' o') r =
          λ i. owned (expr_is v v' r.4 i) (r.0 i) (r.1 i) (r.2 i) (found_written own scope o o' falling r.3 i)
      expr_is (Chain' p first m rest) (Chain' p' first' m' rest') r = λ i. chain (expr_is first first' r.0 i) (each_is rest rest' r.1 i)
      expr_is _ _ r = absurd r

      each_is : {m m' : _} (row : Row_of-Operation m) (row' : Row_of-Operation m') → RenamesEach scope row row' →
          core_operations_row row' ≡ renamed_each (core_operations_row row)
      each_is end_of-Operation end_of-Operation r = refl
      each_is (more_of-Operation o v rest) (more_of-Operation o' v' rest') r = λ i. operation (r.0 i) (expr_is v v' r.1 i) (each_is rest rest' r.2 i)
      each_is _ _ r = absurd r

    mutual
      test_is : (v w : the_condition.Condition) → RenamesTest scope v w →
          core_condition w ≡ renamed_test (core_condition v)
      test_is (Compare o v w) (Compare o' v' w') r = λ i. compare (r.0 i) (expr_is v v' r.1 i) (expr_is w w' r.2 i)
      test_is (Not' p v) (Not' p' v') r = ap negation (test_is v v' r)
      test_is (And' m before p last) (And' m' before' p' last') r = λ i. all_of (tests_are before before' r.0 i) (test_is last last' r.1 i)
      test_is (Or' m before p last) (Or' m' before' p' last') r = λ i. any_of (tests_are before before' r.0 i) (test_is last last' r.1 i)
      test_is _ _ r = absurd r

      tests_are : {m m' : _} (row : Row_of-Condition m) (row' : Row_of-Condition m') → RenamesTests scope row row' →
          core_conditions_row row' ≡ renamed_tests (core_conditions_row row)
      tests_are end_of-Condition end_of-Condition r = refl
      tests_are (more_of-Condition v rest) (more_of-Condition v' rest') r = λ i. condition (test_is v v' r.0 i) (tests_are rest rest' r.1 i)
      tests_are _ _ r = absurd r

    result_is : (o o' : Option the_return.Return) → RenamesResult scope o o' →
        option_map core_return o' ≡ option_map renamed_return (option_map core_return o)
    result_is None None r = refl
    result_is (Some v) (Some w) r = λ i. Some (record { start = r.0 i; value = expr_is v.value w.value r.1 i })
    result_is None (Some w) r = absurd r
    result_is (Some v) None r = absurd r

-- ---- statements

abbrev joined : Stmts → Stmts → Stmts
joined no_stmts ys = ys
joined (stmt start v rest) ys = stmt start v (joined rest ys)

joined_is : (xs ys : List the_stmt.Stmt) → core_stmts (xs ++ ys) ≡ joined (core_stmts xs) (core_stmts ys)
joined_is [] ys = refl
joined_is (v ∷ xs) ys = ap (stmt v.start (core_action v.action)) (joined_is xs ys)

row_is : (n : Count) (row : Row_of-Stmt n) → core_stmts_row row ≡ core_stmts (items-the_row-Stmt n row)
row_is n end_of-Stmt = refl
row_is n (more_of-Stmt start v rest) = ap (stmt start (core_action v)) (row_is _ rest)

if_is : (t : the_condition.Condition) (block : Vec the_stmt.Stmt Global) →
    core_action (If t block) ≡ if_true (core_condition t) (core_stmts block.items)
if_is t block = let row = block_of (If t block) in ap (if_true (core_condition t)) (row_is row.0 row.1 ∙ ap core_stmts (items_hidden-the_row-Stmt-0 block))

while_is : (t : the_condition.Condition) (block : Vec the_stmt.Stmt Global) →
    core_action (While t block) ≡ while_true (core_condition t) (core_stmts block.items)
while_is t block = let row = block_of (While t block) in ap (while_true (core_condition t)) (row_is row.0 row.1 ∙ ap core_stmts (items_hidden-the_row-Stmt-0 block))

if_else_is : (t : the_condition.Condition) (block otherwise : Vec the_stmt.Stmt Global) →
    core_action (IfElse t block otherwise) ≡ if_else (core_condition t) (core_stmts block.items) (core_stmts otherwise.items)
if_else_is t block otherwise =
    let row = block_of (IfElse t block otherwise) in
    let row' = else_of (IfElse t block otherwise) in
    let first = row_is row.0 row.1 ∙ ap core_stmts (items_hidden-the_row-Stmt-0 block) in
    let second = row_is row'.0 row'.1 ∙ ap core_stmts (items_hidden-the_row-Stmt-0 otherwise) in
    λ i. if_else (core_condition t) (first i) (second i)

-- the expanded statements, and the numbers after them
record Out : Type 0 where
  stmts : Stmts
  at : At

-- a body written out, with its result and the next number
record BodyOut : Type 0 where
  stmts : Stmts
  result : Option Return
  fresh : ℕ

abbrev BodiesOut : Type 0
BodiesOut = ℕ → ℕ → BodyOut

abbrev lone : ℕ → Action → Stmts
lone start v = stmt start v no_stmts

abbrev lets_out : ℕ → List Pair → List Expr → ℕ → Stmts
lets_out start scope [] fresh = no_stmts
lets_out start scope (v ∷ vs) fresh = stmt start (bind fresh (renamed scope v)) (lets_out start scope vs (fresh + 1))

abbrev last_out : Option ℕ → Option Return → At → ℕ → Out
last_out None None a fresh = record { stmts = no_stmts; at = record a { fresh = fresh } }
last_out None (Some r) a fresh = record { stmts = lone r.start (bind fresh r.value); at = record a { fresh = fresh + 1 } }
last_out (Some k) None a fresh = record { stmts = no_stmts; at = a }
last_out (Some k) (Some r) a fresh = record { stmts = lone r.start (bind fresh r.value); at = behind_bound (record a { fresh = fresh }) }

abbrev called_out : Stmts → BodyOut → Option ℕ → At → Out
called_out lets body result a =
    let last = last_out result body.result a body.fresh in
    record { stmts = joined lets (joined body.stmts last.stmts); at = last.at }

abbrev mutual
  written : BodiesOut → Action → ℕ → At → Out
  written bodies (bind k v) start a = record { stmts = lone start (bind a.fresh (renamed a.scope v)); at = behind_bound a }
  written bodies (set_local k v) start a = record { stmts = lone start (set_local (written_for a.scope k) (renamed a.scope v)); at = a }
  written bodies (set_global cell v) start a = record { stmts = lone start (set_global cell (renamed a.scope v)); at = a }
  written bodies (set_element array i v) start a = record { stmts = lone start (set_element array (renamed a.scope i) (renamed a.scope v)); at = a }
  written bodies (set_field p k f v) start a = record { stmts = lone start (set_field (renamed_path a.scope p) k f (renamed a.scope v)); at = a }
  written bodies (call helper vs result) start a = called_out (lets_out start a.scope vs a.fresh) (bodies helper a.fresh) result a
  written bodies (print v) start a = record { stmts = lone start (print (renamed a.scope v)); at = a }
  written bodies (if_true t block) start a =
      let inner = all_written bodies block a in
      record { stmts = lone start (if_true (renamed_test a.scope t) inner.stmts); at = behind_block a inner.at }
  written bodies (if_else t block otherwise) start a =
      let first = all_written bodies block a in
      let second = all_written bodies otherwise (behind_block a first.at) in
      record { stmts = lone start (if_else (renamed_test a.scope t) first.stmts second.stmts); at = behind_block a second.at }
  written bodies (while_true t body) start a =
      let inner = all_written bodies body a in
      record { stmts = lone start (while_true (renamed_test a.scope t) inner.stmts); at = behind_block a inner.at }

  all_written : BodiesOut → Stmts → At → Out
  all_written bodies no_stmts a = record { stmts = no_stmts; at = a }
  all_written bodies (stmt start v rest) a =
      let first = written bodies v start a in
      let second = all_written bodies rest first.at in
      record { stmts = joined first.stmts second.stmts; at = second.at }

abbrev body_written : BodiesOut → Section → ℕ → BodyOut
body_written bodies h first =
    let inner = all_written bodies h.body (entered h.parameters first) in
    record { stmts = inner.stmts; result = option_map (renamed_return inner.at.scope) h.result; fresh = inner.at.fresh }

abbrev body_if : Option Section → (Section → BodyOut) → BodyOut
body_if (Some h) go = go h
body_if None go = record { stmts = no_stmts; result = None; fresh = 0 }

abbrev helpers_written : List Section → ℕ → BodiesOut
helpers_written helpers zero k first = record { stmts = no_stmts; result = None; fresh = 0 }
helpers_written helpers (suc depth) k first = body_if (slice_get helpers k) (λ h. body_written (helpers_written helpers depth) h first)

-- ---- the relation is this function

-- the statements `ys`, and the numbers from `a` to `b`, are those of the function
record Follows (ys : List the_stmt.Stmt) (a b : At) (out : Out) : Type 0 where
  stmts : core_stmts ys ≡ out.stmts
  at : b ≡ out.at
  falling : Falling b.own b.scope
  own : a.own ≤ b.own

abbrev BodiesFollow : Bodies → BodiesOut → Type 0
BodiesFollow Body bodies =
    (helper count first : ℕ) (body : List the_stmt.Stmt) (r : Option the_return.Return) (fresh : ℕ) → Body helper count first body r fresh →
    (core_stmts body ≡ (bodies helper first).stmts) × (option_map core_return r ≡ (bodies helper first).result) × (fresh ≡ (bodies helper first).fresh)

falls : (a b : At) → b ≡ a → Falling a.own a.scope → Falling b.own b.scope
falls a b e f = subst (λ (z : At). Falling z.own z.scope) (sym e) f

stays : (a b : At) (ys : List the_stmt.Stmt) (start : ℕ) (v : the_action.Action) (w : Action) → ys ≡ one start v →
    b ≡ a → core_action v ≡ w → Falling a.own a.scope →
    Follows ys a b (record { stmts = lone start w; at = a })
stays a b ys start v w is e same falling = record {
  stmts = ap core_stmts is ∙ ap (lone start) same;
  at = e;
  falling = falls a b e falling;
  own = let f = ap (λ (z : At). z.own) e in omega (arith, f);
}

bound_follows : (a b : At) (ys : List the_stmt.Stmt) (start : ℕ) (v : the_expr.Expr) (w : Expr) →
    ys ≡ one start (Bind a.fresh v) → b ≡ behind_bound a → core_expr v ≡ w →
    Falling a.own a.scope → Follows ys a b (record { stmts = lone start (bind a.fresh w); at = behind_bound a })
bound_follows a b ys start v w is e same falling = record {
  stmts = ap core_stmts is ∙ ap (λ z. lone start (bind a.fresh z)) same;
  at = e;
  falling = falls (behind_bound a) b e (omega arith, falling);
  own = let f = ap (λ (z : At). z.own) e in omega (arith, f);
}

block_follows : (a after b : At) (ys inside : List the_stmt.Stmt) (start : ℕ) (v : the_action.Action) (w : Action) (out : Out) → ys ≡ one start v → b ≡ behind_block a after →
    core_action v ≡ w → Falling a.own a.scope → Follows inside a after out → Follows ys a b (record { stmts = lone start w; at = behind_block a out.at })
block_follows a after b ys inside start v w out is e same falling inner =
    let le = inner.own in record {
      stmts = ap core_stmts is ∙ ap (lone start) same;
      at = e ∙ ap (behind_block a) inner.at;
      falling = falls (behind_block a after) b e (raised a.own after.own a.scope le falling);
      own = let f = ap (λ (z : At). z.own) e in omega (arith, f, le);
    }

both_follow : (a m b : At) (xs ys : List the_stmt.Stmt) (first second : Out) → Follows xs a m first →
    Follows ys m b second →
    Follows (xs ++ ys) a b (record { stmts = joined first.stmts second.stmts; at = second.at })
both_follow a m b xs ys first second f g = record {
  stmts = joined_is xs ys ∙ (λ i. joined (f.stmts i) (g.stmts i));
  at = g.at;
  falling = g.falling;
  own = let h = f.own in let k = g.own in omega (arith, h, k);
}

lets_follow : (start : ℕ) (scope : List Pair) (own : ℕ) → Falling own scope →
    (vs : List the_expr.Expr) (fresh : ℕ) (lets : List the_stmt.Stmt) → Arguments start scope vs fresh lets →
    core_stmts lets ≡ lets_out start scope (map core_expr vs) fresh
lets_follow start scope own falling [] fresh lets w = ap core_stmts w
lets_follow start scope own falling (v ∷ vs) fresh lets (v', rest, r, w, ws) =
    let this = expr_is scope own falling v v' r in
    let more = lets_follow start scope own falling vs (fresh + 1) rest ws in
    ap core_stmts w ∙ (λ i. stmt start (bind fresh (this i)) (more i))

last_follows : (result : Option ℕ) (r : Option the_return.Return) (a b : At) (fresh : ℕ) (last : List the_stmt.Stmt) →
    Bound result r a fresh last b → Falling a.own a.scope →
    Follows last a b (last_out result (option_map core_return r) a fresh)
last_follows None None a b fresh last w falling = record {
  stmts = ap core_stmts w.0;
  at = w.1;
  falling = falls (record a { fresh = fresh }) b w.1 falling;
  own = let f = ap (λ (z : At). z.own) w.1 in omega (arith, f);
}
last_follows None (Some r) a b fresh last w falling = record {
  stmts = ap core_stmts w.0;
  at = w.1;
  falling = falls (record a { fresh = fresh + 1 }) b w.1 falling;
  own = let f = ap (λ (z : At). z.own) w.1 in omega (arith, f);
}
last_follows (Some k) None a b fresh last w falling = absurd w
last_follows (Some k) (Some r) a b fresh last w falling = record {
  stmts = ap core_stmts w.1;
  at = w.2;
  falling = falls (behind_bound (record a { fresh = fresh })) b w.2 (omega arith, falling);
  own = let f = ap (λ (z : At). z.own) w.2 in omega (arith, f);
}

module _ (Body : Bodies) (bodies : BodiesOut) (follow : BodiesFollow Body bodies) where
  mutual
    follows : (v : the_action.Action) (start : ℕ) (a b : At) (ys : List the_stmt.Stmt) → Writes Body v start a ys b →
        Falling a.own a.scope → Follows ys a b (written bodies (core_action v) start a)
    follows (Bind k v) start a b ys (v', r, same, w, f) falling = bound_follows a b ys start v' (renamed a.scope (core_expr v)) w f (expr_is a.scope a.own falling v v' r) falling
    follows (SetLocal k v) start a b ys (k', v', c, r, w, f) falling =
        let this = expr_is a.scope a.own falling v v' r in
        let local = found_written a.own a.scope k k' falling c in
        stays a b ys start (SetLocal k' v') _ w f (λ i. set_local (local i) (this i)) falling
    follows (SetGlobal cell v) start a b ys (v', r, w, f) falling =
        stays a b ys start (SetGlobal cell v') _ w f (ap (set_global cell) (expr_is a.scope a.own falling v v' r)) falling
    follows (SetElement array i v) start a b ys (i', v', ri, r, w, f) falling =
        let index = expr_is a.scope a.own falling i i' ri in
        let this = expr_is a.scope a.own falling v v' r in
        stays a b ys start (SetElement array i' v') _ w f (λ j. set_element array (index j) (this j)) falling
    follows (SetField p k g v) start a b ys (p', v', rp, r, w, f) falling =
        let path = path_is a.scope a.own falling p p' rp in
        let this = expr_is a.scope a.own falling v v' r in
        stays a b ys start (SetField p' k g v') _ w f (λ j. set_field (path j) k g (this j)) falling
    follows (CallOf k vs result) start a b ys (lets, body, last, r, fresh, args, inside, w, e) falling =
        let helper = follow k (length vs.items) a.fresh body r fresh inside in
        let end = last_follows result r a b fresh last w falling in
        let out = bodies k a.fresh in
        let lasts : last_out result (option_map core_return r) a fresh ≡ last_out result out.result a out.fresh = λ i. last_out result (helper.1 i) a (helper.2 i) in
        record {
          stmts = ap core_stmts e ∙ joined_is lets (body ++ last)
              ∙ (λ i. joined (lets_follow start a.scope a.own falling vs.items a.fresh lets args i) (joined_is body last i))
              ∙ (λ i. joined (lets_out start a.scope (map core_expr vs.items) a.fresh) (joined (helper.0 i) ((end.stmts ∙ ap (λ (z : Out). z.stmts) lasts) i)));
          at = end.at ∙ ap (λ (z : Out). z.at) lasts;
          falling = end.falling;
          own = end.own;
        }
    follows (Print v) start a b ys (v', r, w, f) falling =
        stays a b ys start (Print v') _ w f (ap print (expr_is a.scope a.own falling v v' r)) falling
    follows (If' t m block) start a b ys (t', block', after, rt, w, e, f) falling =
        let inner = row_follows block a after block'.items w falling in
        let test = test_is a.scope a.own falling t t' rt in
        block_follows a after b ys block'.items start (If t' block') _ (all_written bodies (core_stmts_row block) a) e f
        (if_is t' block' ∙ (λ i. if_true (test i) (inner.stmts i))) falling inner
    follows (IfElse' t m block k otherwise) start a b ys (t', block', otherwise', middle, after, rt, w, w', e, f) falling =
        let first = row_follows block a middle block'.items w falling in
        let one_out = all_written bodies (core_stmts_row block) a in
        let le = first.own in
        let second = row_follows otherwise (behind_block a middle) after otherwise'.items w' (raised a.own middle.own a.scope le falling) in
        let moved : behind_block a middle ≡ behind_block a one_out.at = ap (behind_block a) first.at in
        let second_out = all_written bodies (core_stmts_row otherwise) (behind_block a one_out.at) in
        let same : all_written bodies (core_stmts_row otherwise) (behind_block a middle) ≡ second_out = ap (all_written bodies (core_stmts_row otherwise)) moved in
        let test = test_is a.scope a.own falling t t' rt in
        let more = second.own in
        record {
          stmts = ap core_stmts e ∙ ap (lone start) (if_else_is t' block' otherwise')
              ∙ (λ i. lone start (if_else (test i) (first.stmts i) ((second.stmts ∙ ap (λ (z : Out). z.stmts) same) i)));
          at = f ∙ ap (behind_block a) (second.at ∙ ap (λ (z : Out). z.at) same);
          falling = falls (behind_block a after) b f (raised a.own after.own a.scope (omega (arith, le, more)) falling);
          own = let g = ap (λ (z : At). z.own) f in omega (arith, g, le, more);
        }
    follows (While' t m body) start a b ys (t', body', after, rt, w, e, f) falling =
        let inner = row_follows body a after body'.items w falling in
        let test = test_is a.scope a.own falling t t' rt in
        block_follows a after b ys body'.items start (While t' body') _ (all_written bodies (core_stmts_row body) a) e f
        (while_is t' body' ∙ (λ i. while_true (test i) (inner.stmts i))) falling inner

    row_follows : {m : _} (row : Row_of-Stmt m) (a b : At) (ys : List the_stmt.Stmt) → WritesRow Body row a ys b →
        Falling a.own a.scope →
        Follows ys a b (all_written bodies (core_stmts_row row) a)
    row_follows end_of-Stmt a b ys (e, f) falling = record {
      stmts = ap core_stmts e;
      at = f;
      falling = falls a b f falling;
      own = let g = ap (λ (z : At). z.own) f in omega (arith, g);
    }
    row_follows (more_of-Stmt start v rest) a b ys (front, rear, middle, w, ws, e) falling =
        let first = follows v start a middle front w falling in
        let out = written bodies (core_action v) start a in
        let second = row_follows rest middle b rear ws first.falling in
        let moved : Follows rear middle b (all_written bodies (core_stmts_row rest) out.at) =
        subst (λ z. Follows rear middle b (all_written bodies (core_stmts_row rest) z)) first.at second
        in
        subst (λ zs. Follows zs a b (all_written bodies (core_stmts_row (more_of-Stmt start v rest)) a)) (sym e)
        (both_follow a middle b front rear out (all_written bodies (core_stmts_row rest) out.at) first moved)

  all_follow : (xs : List the_stmt.Stmt) (a b : At) (ys : List the_stmt.Stmt) → WritesAll Body xs a ys b →
      Falling a.own a.scope → Follows ys a b (all_written bodies (core_stmts xs) a)
  all_follow [] a b ys (e, f) falling = record {
    stmts = ap core_stmts e;
    at = f;
    falling = falls a b f falling;
    own = let g = ap (λ (z : At). z.own) f in omega (arith, g);
  }
  all_follow (v ∷ xs) a b ys (front, rear, middle, w, ws, e) falling =
      let first = follows v.action v.start a middle front w falling in
      let out = written bodies (core_action v.action) v.start a in
      let second = all_follow xs middle b rear ws first.falling in
      let moved : Follows rear middle b (all_written bodies (core_stmts xs) out.at) = subst (λ z. Follows rear middle b (all_written bodies (core_stmts xs) z)) first.at second in
      subst (λ zs. Follows zs a b (all_written bodies (core_stmts (v ∷ xs)) a)) (sym e)
      (both_follow a middle b front rear out (all_written bodies (core_stmts xs) out.at) first moved)

parameters_fall : (n first : ℕ) → Falling n (parameters_at n first)
parameters_fall zero first = tt
parameters_fall (suc n) first = (omega arith, parameters_fall n first)

body_follows : (Body : Bodies) (bodies : BodiesOut) → BodiesFollow Body bodies →
    (h : the_section.Section) (first : ℕ) (body : List the_stmt.Stmt) (r : Option the_return.Return) (fresh : ℕ) →
    x.WritesBody Body h first body r fresh →
    (core_stmts body ≡ (body_written bodies (core_section h) first).stmts) × (option_map core_return r ≡ (body_written bodies (core_section h) first).result)
    × (fresh ≡ (body_written bodies (core_section h) first).fresh)
body_follows Body bodies follow h first body r fresh (b, w, ends, own, f) =
    let all = all_follow Body bodies follow h.body.items (entered h.parameters first) b body w (parameters_fall h.parameters first) in
    let out = all_written bodies (core_stmts h.body.items) (entered h.parameters first) in (
      all.stmts,
      result_is b.scope b.own all.falling h.result r ends ∙ ap (λ (z : At). option_map (renamed_return z.scope) (option_map core_return h.result)) all.at,
      sym f ∙ ap (λ (z : At). z.fresh) all.at,
    )

helpers_follow : (shape : Shape) (depth : ℕ) →
    BodiesFollow (HelpersWritten shape depth) (helpers_written (map core_section shape.helpers.items) depth)
helpers_follow shape zero helper count first body r fresh w = absurd w
helpers_follow shape (suc depth) helper count first body r fresh (h, is, e, w) =
    let bodies = helpers_written (map core_section shape.helpers.items) depth in
    let inner = body_follows (HelpersWritten shape depth) bodies (helpers_follow shape depth) h first body r fresh w in
    let found : helpers_written (map core_section shape.helpers.items) (suc depth) helper first ≡ body_written bodies (core_section h) first =
    ap (λ o. body_if o (λ z. body_written bodies z first)) (map_at core_section shape.helpers.items helper h is)
    in (
      inner.0 ∙ ap (λ (z : BodyOut). z.stmts) (sym found),
      inner.1 ∙ ap (λ (z : BodyOut). z.result) (sym found),
      inner.2 ∙ ap (λ (z : BodyOut). z.fresh) (sym found),
    )

-- the body and the result of a section that is written out, by the section and the helpers as data
pub body_alike : (shape shape' : Shape) (x y x' y' : the_section.Section) →
    map core_section shape.helpers.items ≡ map core_section shape'.helpers.items →
    core_section x ≡ core_section y → IsWrittenOut shape x x' → IsWrittenOut shape' y y' →
    (core_stmts x'.body.items ≡ core_stmts y'.body.items) × (option_map core_return x'.result ≡ option_map core_return y'.result)
body_alike shape shape' x y x' y' helpers same out out' =
    let bodies = helpers_written (map core_section shape.helpers.items) deepest in
    let bodies' = helpers_written (map core_section shape'.helpers.items) deepest in
    let mine = body_follows (HelpersWritten shape deepest) bodies (helpers_follow shape deepest) x 0 x'.body.items x'.result (length x'.locals.items) out.body in
    let other = body_follows (HelpersWritten shape' deepest) bodies' (helpers_follow shape' deepest) y 0 y'.body.items y'.result (length y'.locals.items) out'.body in
    let between : body_written bodies (core_section x) 0 ≡ body_written bodies' (core_section y) 0 = λ i. body_written (helpers_written (helpers i) deepest) (same i) 0 in
    (mine.0 ∙ ap (λ (z : BodyOut). z.stmts) between ∙ sym other.0, mine.1 ∙ ap (λ (z : BodyOut). z.result) between ∙ sym other.1)
