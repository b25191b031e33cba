-- The rows of a tree over the items of each `Vec`: renamed, and expanded.
use Rattle.std.proofs.Common.{◌≡◌, ℕ, List, Vec, Box, Global, refl, sym, ap, ◌∙◌, subst}
use mathlib.Core.Former.{Count}
use Rattle.core_lang.specs.declared.tree.Expr.{Expr, Chain, Row_of-Operation, end_of-Operation, more_of-Operation}
use Rattle.core_lang.specs.declared.tree.Expr.{items-the_row-Operation, items_hidden-the_row-Operation-0}
use Rattle.core_lang.specs.declared.tree.Operation.{Operation}
use Rattle.core_lang.specs.declared.tree.Condition.{Condition, And, Or, Row_of-Condition, end_of-Condition}
use Rattle.core_lang.specs.declared.tree.Condition.{more_of-Condition, items-the_row-Condition}
use Rattle.core_lang.specs.declared.tree.Condition.{items_hidden-the_row-Condition-0}
use Rattle.core_lang.specs.declared.tree.Stmt.{Stmt}
use Rattle.core_lang.specs.declared.tree.Action.{Action, If, IfElse, While, Row_of-Stmt, end_of-Stmt, more_of-Stmt}
use Rattle.core_lang.specs.declared.tree.Action.{items-the_row-Stmt, items_hidden-the_row-Stmt-0}
use Rattle.core_lang.specs.Theory.Lists.{row_of, conditions_of, block_of, else_of}
use Rattle.core_lang.specs.Expansion.{Pair, At, behind_block, one, Renames, RenamesEach, RenamesTest, RenamesTests}
use Rattle.core_lang.specs.Expansion.{Bodies, Writes, WritesRow, WritesAll}
use Rattle.core_lang_helpers.specs.Working.Scopes.{RenamesOperations, RenamesConditions}
use Rattle.core_lang_helpers.specs.Working.Bodies.{WroteBlock}

-- ---- expressions

each_renamed : (scope : List Pair) (n n' : Count) (row : Row_of-Operation n) (row' : Row_of-Operation n') →
    RenamesOperations scope (items-the_row-Operation n row) (items-the_row-Operation n' row') → RenamesEach scope row row'
each_renamed scope n n' end_of-Operation end_of-Operation h = tt
each_renamed scope n n' (more_of-Operation o e rest) (more_of-Operation o' e' rest') h = (h.0.0, h.0.1, each_renamed scope _ _ rest rest' h.1)
each_renamed scope n n' end_of-Operation (more_of-Operation o e rest) h = absurd h
each_renamed scope n n' (more_of-Operation o e rest) end_of-Operation h = absurd h

pub chain_renamed : (scope : List Pair) (x : Expr) (first first' : Box Expr Global) (rest rest' : Vec Operation Global) (e : Expr) (os : List Operation) →
    x ≡ Chain first rest → e ≡ first.value → os ≡ rest.items → Renames scope e first'.value → RenamesOperations scope os rest'.items → Renames scope x (Chain first' rest')
chain_renamed scope x first first' rest rest' v os is value same h hs =
    let row = row_of (Chain first rest) in
    let row' = row_of (Chain first' rest') in
    let e = items_hidden-the_row-Operation-0 rest in
    let e' = items_hidden-the_row-Operation-0 rest' in
    let all = subst (λ ys. RenamesOperations scope ys rest'.items) (same ∙ sym e) hs in
    let each = each_renamed scope row.0 row'.0 row.1 row'.1 (subst (λ ys. RenamesOperations scope (items-the_row-Operation row.0 row.1) ys) (sym e') all) in
    subst (λ y. Renames scope y (Chain first' rest')) (sym is) (subst (λ y. Renames scope y first'.value) value h, each)

-- ---- conditions

tests_renamed : (scope : List Pair) (n n' : Count) (row : Row_of-Condition n) (row' : Row_of-Condition n') →
    RenamesConditions scope (items-the_row-Condition n row) (items-the_row-Condition n' row') → RenamesTests scope row row'
tests_renamed scope n n' end_of-Condition end_of-Condition h = tt
tests_renamed scope n n' (more_of-Condition c rest) (more_of-Condition c' rest') h = (h.0, tests_renamed scope _ _ rest rest' h.1)
tests_renamed scope n n' end_of-Condition (more_of-Condition c rest) h = absurd h
tests_renamed scope n n' (more_of-Condition c rest) end_of-Condition h = absurd h

pub and_renamed : (scope : List Pair) (x : Condition) (before before' : Vec Condition Global) (last last' : Box Condition Global) (cs : List Condition) (c : Condition) →
    x ≡ And before last → cs ≡ before.items → c ≡ last.value → RenamesConditions scope cs before'.items → RenamesTest scope c last'.value → RenamesTest scope x (And before' last')
and_renamed scope x before before' last last' cs v is same value hs h =
    let row = conditions_of (And before last) in
    let row' = conditions_of (And before' last') in
    let all = subst (λ ys. RenamesConditions scope ys before'.items) (same ∙ sym (items_hidden-the_row-Condition-0 before)) hs in
    let each = tests_renamed scope row.0 row'.0 row.1 row'.1
    (subst (λ ys. RenamesConditions scope (items-the_row-Condition row.0 row.1) ys) (sym (items_hidden-the_row-Condition-0 before')) all) in
    subst (λ y. RenamesTest scope y (And before' last')) (sym is) (each, subst (λ y. RenamesTest scope y last'.value) value h)

pub or_renamed : (scope : List Pair) (x : Condition) (before before' : Vec Condition Global) (last last' : Box Condition Global) (cs : List Condition) (c : Condition) →
    x ≡ Or before last → cs ≡ before.items → c ≡ last.value → RenamesConditions scope cs before'.items → RenamesTest scope c last'.value → RenamesTest scope x (Or before' last')
or_renamed scope x before before' last last' cs v is same value hs h =
    let row = conditions_of (Or before last) in
    let row' = conditions_of (Or before' last') in
    let all = subst (λ ys. RenamesConditions scope ys before'.items) (same ∙ sym (items_hidden-the_row-Condition-0 before)) hs in
    let each = tests_renamed scope row.0 row'.0 row.1 row'.1
    (subst (λ ys. RenamesConditions scope (items-the_row-Condition row.0 row.1) ys) (sym (items_hidden-the_row-Condition-0 before')) all) in
    subst (λ y. RenamesTest scope y (Or before' last')) (sym is) (each, subst (λ y. RenamesTest scope y last'.value) value h)

-- ---- blocks

row_written : (Body : Bodies) (n : Count) (row : Row_of-Stmt n) (a : At) (ys : List Stmt) (b : At) →
    WritesAll Body (items-the_row-Stmt n row) a ys b → WritesRow Body row a ys b
row_written Body n end_of-Stmt a ys b w = w
row_written Body n (more_of-Stmt start x rest) a ys b (front, back, middle, w, ws, e) = (front, back, middle, w, row_written Body _ rest middle back b ws, e)

vec_written : (Body : Bodies) (block : Vec Stmt Global) (n : Count) (row : Row_of-Stmt n) (ss : List Stmt) (a : At) (ys : List Stmt) (b : At) →
    items-the_row-Stmt n row ≡ block.items → ss ≡ block.items → WritesAll Body ss a ys b → WritesRow Body row a ys b
vec_written Body block n row ss a ys b e same w = row_written Body n row a ys b (subst (λ xs. WritesAll Body xs a ys b) (same ∙ sym e) w)

pub if_written : (Body : Bodies) (x : Action) (c c' : Condition) (block block' : Vec Stmt Global) (ss : List Stmt) (a b : At) → x ≡ If c block → ss ≡ block.items →
    RenamesTest a.scope c c' → WroteBlock Body ss a block'.items b → (start : ℕ) → Writes Body x start a (one start (If c' block')) b
if_written Body x c c' block block' ss a b is same test (after, w, e) start =
    let row = block_of (If c block) in
    subst (λ y. Writes Body y start a (one start (If c' block')) b) (sym is)
    (c', block', after, test, vec_written Body block row.0 row.1 ss a block'.items after (items_hidden-the_row-Stmt-0 block) same w, refl, e)

pub while_written : (Body : Bodies) (x : Action) (c c' : Condition) (block block' : Vec Stmt Global) (ss : List Stmt) (a b : At) → x ≡ While c block → ss ≡ block.items →
    RenamesTest a.scope c c' → WroteBlock Body ss a block'.items b → (start : ℕ) → Writes Body x start a (one start (While c' block')) b
while_written Body x c c' block block' ss a b is same test (after, w, e) start =
    let row = block_of (While c block) in
    subst (λ y. Writes Body y start a (one start (While c' block')) b) (sym is)
    (c', block', after, test, vec_written Body block row.0 row.1 ss a block'.items after (items_hidden-the_row-Stmt-0 block) same w, refl, e)

pub if_else_written : (Body : Bodies) (x : Action) (c c' : Condition) (block block' other other' : Vec Stmt Global) (ss os : List Stmt) (a m b : At) →
    x ≡ IfElse c block other → ss ≡ block.items → os ≡ other.items → RenamesTest a.scope c c' → WroteBlock Body ss a block'.items m →
    WroteBlock Body os m other'.items b → (start : ℕ) → Writes Body x start a (one start (IfElse c' block' other')) b
if_else_written Body x c c' block block' other other' ss os a m b is same same' test (middle, w, e) (after, w', e') start =
    let row = block_of (IfElse c block other) in
    let row' = else_of (IfElse c block other) in
    let scope : m.scope ≡ a.scope = ap (λ (z : At). z.scope) e in
    let ends : b ≡ behind_block a after = e' ∙ ap (λ s. record after { scope = s }) scope in
    subst (λ y. Writes Body y start a (one start (IfElse c' block' other')) b) (sym is) (
      c',
      block',
      other',
      middle,
      after,
      test,
      vec_written Body block row.0 row.1 ss a block'.items middle (items_hidden-the_row-Stmt-0 block) same w,
      subst (λ z. WritesRow Body row'.1 z other'.items after) e
          (vec_written Body other row'.0 row'.1 os m other'.items after (items_hidden-the_row-Stmt-0 other) same' w'),
      refl,
      ends,
    )
