-- The accesses of a tree, over the items of each `Vec`.
use Rattle.std.specs.Prelude.{◌≡◌, ◌++◌, ℕ, List}
use Rattle.std.proofs.Common.{refl, ap, sym, ◌∙◌, Vec, Box, Global, append_assoc, append-nil, drop, length, ◌≤◌}
use Rattle.std.proofs.Common.{◌⊎◌, inl, inr}
use Rattle.core_lang.specs.Theory.Items.{drop_past}
use mathlib.Core.Former.{Count}
use Rattle.core_lang.specs.declared.tree.Expr.{Expr, Chain, Row_of-Operation, end_of-Operation, more_of-Operation}
use Rattle.core_lang.specs.declared.tree.Expr.{items-the_row-Operation, items_hidden-the_row-Operation-0}
use Rattle.core_lang.specs.declared.tree.Operation.{Operation}
use Rattle.core_lang.specs.declared.tree.Condition.{Condition, And, Or, Row_of-Condition, end_of-Condition}
use Rattle.core_lang.specs.declared.tree.Condition.{more_of-Condition, items-the_row-Condition}
use Rattle.core_lang.specs.declared.tree.Condition.{items_hidden-the_row-Condition-0}
use Rattle.core_lang.specs.declared.tree.Stmt.{Stmt}
use Rattle.core_lang.specs.declared.tree.Action.{Action, If, IfElse, While, Row_of-Stmt, end_of-Stmt, more_of-Stmt}
use Rattle.core_lang.specs.declared.tree.Action.{items-the_row-Stmt, items_hidden-the_row-Stmt-0}
use Rattle.core_lang.specs.Theory.Lists.{row_of, conditions_of, block_of, else_of}
use Rattle.outcomes.specs.Working.Touches.{Touch, reads_in, reads_in_row, reads_in_all, tests_in, tests_in_row}
use Rattle.outcomes.specs.Working.Touches.{tests_in_all, acts_in, acts_in_row, acts_in_all}

reads-items : (n : Count) (row : Row_of-Operation n) → reads_in_row row ≡ reads_in_all (items-the_row-Operation n row)
reads-items n end_of-Operation = refl
reads-items n (more_of-Operation o e rest) = ap (λ xs. reads_in e ++ xs) (reads-items _ rest)

tests-items : (n : Count) (row : Row_of-Condition n) → tests_in_row row ≡ tests_in_all (items-the_row-Condition n row)
tests-items n end_of-Condition = refl
tests-items n (more_of-Condition c rest) = ap (λ xs. tests_in c ++ xs) (tests-items _ rest)

acts-items : (n : Count) (row : Row_of-Stmt n) → acts_in_row row ≡ acts_in_all (items-the_row-Stmt n row)
acts-items n end_of-Stmt = refl
acts-items n (more_of-Stmt start action rest) = ap (λ xs. acts_in action ++ xs) (acts-items _ rest)

acts-vec : (block : Vec Stmt Global) (n : Count) (row : Row_of-Stmt n) → items-the_row-Stmt n row ≡ block.items →
    acts_in_row row ≡ acts_in_all block.items
acts-vec block n row e = acts-items n row ∙ ap acts_in_all e

in_chain : (first : Box Expr Global) (rest : Vec Operation Global) →
    reads_in (Chain first rest) ≡ reads_in first.value ++ reads_in_all rest.items
in_chain first rest =
    let row = row_of (Chain first rest) in
    ap (λ xs. reads_in first.value ++ xs) (reads-items row.0 row.1
    ∙ ap reads_in_all (items_hidden-the_row-Operation-0 rest))

in_and : (before : Vec Condition Global) (last : Box Condition Global) →
    tests_in (And before last) ≡ tests_in_all before.items ++ tests_in last.value
in_and before last =
    let row = conditions_of (And before last) in
    ap (λ xs. xs ++ tests_in last.value) (tests-items row.0 row.1
    ∙ ap tests_in_all (items_hidden-the_row-Condition-0 before))

in_or : (before : Vec Condition Global) (last : Box Condition Global) →
    tests_in (Or before last) ≡ tests_in_all before.items ++ tests_in last.value
in_or before last =
    let row = conditions_of (Or before last) in
    ap (λ xs. xs ++ tests_in last.value) (tests-items row.0 row.1
    ∙ ap tests_in_all (items_hidden-the_row-Condition-0 before))

in_if : (c : Condition) (a : Vec Stmt Global) → acts_in (If c a) ≡ tests_in c ++ acts_in_all a.items
in_if c a =
    let one = block_of (If c a) in
    ap (λ xs. tests_in c ++ xs) (acts-vec a one.0 one.1 (items_hidden-the_row-Stmt-0 a))

in_if_else : (c : Condition) (a b : Vec Stmt Global) →
    acts_in (IfElse c a b) ≡ tests_in c ++ (acts_in_all a.items ++ acts_in_all b.items)
in_if_else c a b =
    let one = block_of (IfElse c a b) in
    let two = else_of (IfElse c a b) in
    ap (λ xs. tests_in c ++ (xs ++ acts_in_row two.1)) (acts-vec a one.0 one.1 (items_hidden-the_row-Stmt-0 a))
    ∙ ap (λ xs. tests_in c ++ (acts_in_all a.items ++ xs)) (acts-vec b two.0 two.1 (items_hidden-the_row-Stmt-0 b))

in_while : (c : Condition) (body : Vec Stmt Global) → acts_in (While c body) ≡ tests_in c ++ acts_in_all body.items
in_while c body =
    let one = block_of (While c body) in
    ap (λ xs. tests_in c ++ xs) (acts-vec body one.0 one.1 (items_hidden-the_row-Stmt-0 body))

-- a list after two appends
behind : (ps qs rs xs ys : List Touch) → qs ≡ ps ++ xs → rs ≡ qs ++ ys → rs ≡ ps ++ (xs ++ ys)
behind ps qs rs xs ys h g = g ∙ ap (λ zs. zs ++ ys) h ∙ append_assoc ps xs ys

pub behind_chain : (e : Expr) (first : Box Expr Global) (rest : Vec Operation Global) (x : Expr) (os : List Operation)
    (ps qs rs : List Touch) → e ≡ Chain first rest → x ≡ first.value → os ≡ rest.items → qs ≡ ps ++ reads_in x →
    rs ≡ qs ++ reads_in_all os → rs ≡ ps ++ reads_in e
behind_chain e first rest x os ps qs rs is one all h g =
    behind ps qs rs (reads_in x) (reads_in_all os) h g
    ∙ ap (λ y. ps ++ (reads_in y ++ reads_in_all os)) one
    ∙ ap (λ ys. ps ++ (reads_in first.value ++ reads_in_all ys)) all
    ∙ ap (λ ys. ps ++ ys) (sym (in_chain first rest)) ∙ ap (λ y. ps ++ reads_in y) (sym is)

behind_and : (c : Condition) (before : Vec Condition Global) (last : Box Condition Global) (x : Condition)
    (cs : List Condition)
    (ps qs rs : List Touch) → c ≡ And before last → x ≡ last.value → cs ≡ before.items → qs ≡ ps ++ tests_in_all cs →
    rs ≡ qs ++ tests_in x → rs ≡ ps ++ tests_in c
behind_and c before last x cs ps qs rs is one all h g =
    behind ps qs rs (tests_in_all cs) (tests_in x) h g
    ∙ ap (λ y. ps ++ (tests_in_all cs ++ tests_in y)) one ∙ ap (λ ys. ps ++ (tests_in_all ys ++ tests_in last.value))
    all
    ∙ ap (λ ys. ps ++ ys) (sym (in_and before last)) ∙ ap (λ y. ps ++ tests_in y) (sym is)

behind_or : (c : Condition) (before : Vec Condition Global) (last : Box Condition Global) (x : Condition)
    (cs : List Condition)
    (ps qs rs : List Touch) → c ≡ Or before last → x ≡ last.value → cs ≡ before.items → qs ≡ ps ++ tests_in_all cs →
    rs ≡ qs ++ tests_in x → rs ≡ ps ++ tests_in c
behind_or c before last x cs ps qs rs is one all h g =
    behind ps qs rs (tests_in_all cs) (tests_in x) h g
    ∙ ap (λ y. ps ++ (tests_in_all cs ++ tests_in y)) one ∙ ap (λ ys. ps ++ (tests_in_all ys ++ tests_in last.value))
    all
    ∙ ap (λ ys. ps ++ ys) (sym (in_or before last)) ∙ ap (λ y. ps ++ tests_in y) (sym is)

pub behind_either : (c : Condition) (before : Vec Condition Global) (last : Box Condition Global) (x : Condition)
    (cs : List Condition)
    (ps qs rs : List Touch) → (c ≡ And before last) ⊎ (c ≡ Or before last) → x ≡ last.value → cs ≡ before.items →
    qs ≡ ps ++ tests_in_all cs → rs ≡ qs ++ tests_in x → rs ≡ ps ++ tests_in c
behind_either c before last x cs ps qs rs (inl is) one all h g = behind_and c before last x cs ps qs rs is one all h g
behind_either c before last x cs ps qs rs (inr is) one all h g = behind_or c before last x cs ps qs rs is one all h g

pub behind_if : (x : Action) (c : Condition) (a : Vec Stmt Global) (ss : List Stmt) (ps qs rs : List Touch) →
    x ≡ If c a →
    ss ≡ a.items → qs ≡ ps ++ tests_in c → rs ≡ qs ++ acts_in_all ss → rs ≡ ps ++ acts_in x
behind_if x c a ss ps qs rs is all h g =
    behind ps qs rs (tests_in c) (acts_in_all ss) h g ∙ ap (λ ys. ps ++ (tests_in c ++ acts_in_all ys)) all
    ∙ ap (λ ys. ps ++ ys) (sym (in_if c a)) ∙ ap (λ y. ps ++ acts_in y) (sym is)

pub behind_if_else : (x : Action) (c : Condition) (a b : Vec Stmt Global) (ss os : List Stmt)
    (ps qs rs ts : List Touch) →
    x ≡ IfElse c a b → ss ≡ a.items → os ≡ b.items → qs ≡ ps ++ tests_in c → rs ≡ qs ++ acts_in_all ss →
    ts ≡ rs ++ acts_in_all os → ts ≡ ps ++ acts_in x
behind_if_else x c a b ss os ps qs rs ts is all all' h g f =
    behind ps qs ts (tests_in c) (acts_in_all ss ++ acts_in_all os) h
    (behind qs rs ts (acts_in_all ss) (acts_in_all os) g f)
    ∙ ap (λ ys. ps ++ (tests_in c ++ (acts_in_all ys ++ acts_in_all os))) all
    ∙ ap (λ ys. ps ++ (tests_in c ++ (acts_in_all a.items ++ acts_in_all ys))) all'
    ∙ ap (λ ys. ps ++ ys) (sym (in_if_else c a b)) ∙ ap (λ y. ps ++ acts_in y) (sym is)

pub behind_while : (x : Action) (c : Condition) (a : Vec Stmt Global) (ss : List Stmt) (ps qs rs : List Touch) →
    x ≡ While c a →
    ss ≡ a.items → qs ≡ ps ++ tests_in c → rs ≡ qs ++ acts_in_all ss → rs ≡ ps ++ acts_in x
behind_while x c a ss ps qs rs is all h g =
    behind ps qs rs (tests_in c) (acts_in_all ss) h g ∙ ap (λ ys. ps ++ (tests_in c ++ acts_in_all ys)) all
    ∙ ap (λ ys. ps ++ ys) (sym (in_while c a)) ∙ ap (λ y. ps ++ acts_in y) (sym is)

-- the state after the last turn of a loop over a list
pub over_operations : (os : List Operation) (i : ℕ) (ps qs : List Touch) → length os ≤ i →
    ps ++ reads_in_all (drop i os) ≡ qs ++ reads_in_all os → ps ≡ qs ++ reads_in_all os
over_operations os i ps qs le h = sym (append-nil ps) ∙ ap (λ xs. ps ++ reads_in_all xs) (sym (drop_past os i le)) ∙ h

pub over_conditions : (cs : List Condition) (i : ℕ) (ps qs : List Touch) → length cs ≤ i →
    ps ++ tests_in_all (drop i cs) ≡ qs ++ tests_in_all cs → ps ≡ qs ++ tests_in_all cs
over_conditions cs i ps qs le h = sym (append-nil ps) ∙ ap (λ xs. ps ++ tests_in_all xs) (sym (drop_past cs i le)) ∙ h
