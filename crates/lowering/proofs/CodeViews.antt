-- The instructions of a tree's parts, over the items of each `Vec`.
use Rattle.std.specs.Prelude.{◌≡◌, ℕ, ◌+◌, pos, List, [], ◌∷◌, ◌++◌, Option}
use Rattle.std.proofs.Common.{refl, sym, ap, ◌∙◌, Vec, Box, Global, append_assoc, arith}
use mathlib.Core.Former.{Count}
use Rattle.core_lang.specs.declared.tree.Expr.{Expr, Chain, Row_of-Operation, end_of-Operation, more_of-Operation}
use Rattle.core_lang.specs.declared.tree.Expr.{items-the_row-Operation, items_hidden-the_row-Operation-0}
use Rattle.core_lang.specs.declared.tree.Operation.{Operation}
use Rattle.core_lang.specs.declared.tree.Condition.{Condition, And, Or, Row_of-Condition, end_of-Condition}
use Rattle.core_lang.specs.declared.tree.Condition.{more_of-Condition, items-the_row-Condition}
use Rattle.core_lang.specs.declared.tree.Condition.{items_hidden-the_row-Condition-0}
use Rattle.core_lang.specs.declared.tree.Stmt.{Stmt}
use Rattle.core_lang.specs.declared.tree.Action.{Action, Bind, SetLocal, SetGlobal, SetElement, SetField, Call, Print}
use Rattle.core_lang.specs.declared.tree.Action.{If, IfElse, While, If', IfElse', While', Row_of-Stmt, end_of-Stmt}
use Rattle.core_lang.specs.declared.tree.Action.{more_of-Stmt, items-the_row-Stmt, items_hidden-the_row-Stmt-0}
use Rattle.core_lang.specs.declared.tree.Return.{Return}
use Rattle.core_lang.specs.Theory.Lists.{row_of, conditions_of, block_of, else_of}
use Rattle.flow.specs.Skeletons.{Skeleton, count, in_front, block_skeleton}
use Rattle.code.specs.declared.instr.Instr.{Instr}
use Rattle.code.specs.declared.instr.Instr.TheVariants.{PushNumber, Operate, Jump, JumpIfFalse, JumpIfTrue}
use Rattle.code.specs.Lowering.{expr_code, chain_code, test_code, and_code, or_code, all_code, any_code, points_of}
use Rattle.code.specs.Lowering.{points_in, if_code, if_else_code, while_code, acquire_code, stmt_code, block_code}
use Rattle.code.specs.Lowering.{body_code, end_code}
use Rattle.lowering.specs.Working.CodeLists.{operations_code, conditions_code, points_of_all, sequence_code}

-- ---- expressions and conditions

pub chain_code-items : (n : Count) (row : Row_of-Operation n) →
    chain_code row ≡ operations_code (items-the_row-Operation n row)
chain_code-items n end_of-Operation = refl
chain_code-items n (more_of-Operation o e rest) = ap (λ c. (expr_code e ++ Operate o ∷ []) ++ c) (chain_code-items _ rest)

pub all_code-items : (n : Count) (row : Row_of-Condition n) (last : List Instr) →
    all_code row last ≡ conditions_code (λ over. JumpIfFalse over) (items-the_row-Condition n row) last
all_code-items n end_of-Condition last = refl
all_code-items n (more_of-Condition c rest) last = ap (and_code (test_code c)) (all_code-items _ rest last)

pub any_code-items : (n : Count) (row : Row_of-Condition n) (last : List Instr) →
    any_code row last ≡ conditions_code (λ over. JumpIfTrue over) (items-the_row-Condition n row) last
any_code-items n end_of-Condition last = refl
any_code-items n (more_of-Condition c rest) last = ap (or_code (test_code c)) (any_code-items _ rest last)

pub expr_code-Chain : (first : Box Expr Global) (rest : Vec Operation Global) →
    expr_code (Chain first rest) ≡ expr_code first.value ++ operations_code rest.items
expr_code-Chain first rest =
    let row = row_of (Chain first rest) in
    ap (λ c. expr_code first.value ++ c) (chain_code-items row.0 row.1 ∙ ap operations_code (items_hidden-the_row-Operation-0 rest))

pub test_code-And : (before : Vec Condition Global) (last : Box Condition Global) →
    test_code (And before last) ≡ conditions_code (λ over. JumpIfFalse over) before.items (test_code last.value ++ Jump 1 ∷ []) ++ PushNumber (pos 0) ∷ []
test_code-And before last =
    let row = conditions_of (And before last) in
    let end = test_code last.value ++ Jump 1 ∷ [] in
    ap (λ c. c ++ PushNumber (pos 0) ∷ [])
    (all_code-items row.0 row.1 end ∙ ap (λ cs. conditions_code (λ over. JumpIfFalse over) cs end) (items_hidden-the_row-Condition-0 before))

pub test_code-Or : (before : Vec Condition Global) (last : Box Condition Global) →
    test_code (Or before last) ≡ conditions_code (λ over. JumpIfTrue over) before.items (test_code last.value ++ Jump 1 ∷ []) ++ PushNumber (pos 1) ∷ []
test_code-Or before last =
    let row = conditions_of (Or before last) in
    let end = test_code last.value ++ Jump 1 ∷ [] in
    ap (λ c. c ++ PushNumber (pos 1) ∷ [])
    (any_code-items row.0 row.1 end ∙ ap (λ cs. conditions_code (λ over. JumpIfTrue over) cs end) (items_hidden-the_row-Condition-0 before))

-- ---- points

-- a statement has as many points, whatever follows it
count-in_front : (a : Action) (rest : Skeleton) → count (in_front a rest) ≡ points_of a + count rest
count-in_front (Bind k e) rest = refl
count-in_front (SetLocal k e) rest = refl
count-in_front (SetGlobal cell e) rest = refl
count-in_front (SetElement array i e) rest = refl
count-in_front (SetField path structure f e) rest = refl
count-in_front (Call f es r) rest = refl
count-in_front (Print e) rest = refl
count-in_front (If' c m block) rest = omega arith
count-in_front (IfElse' c m block k otherwise) rest = omega arith
count-in_front (While' c m body) rest = omega arith

pub points_in-items : (n : Count) (row : Row_of-Stmt n) → points_in row ≡ points_of_all (items-the_row-Stmt n row)
points_in-items n end_of-Stmt = refl
points_in-items n (more_of-Stmt start action rest) =
    count-in_front action (block_skeleton rest) ∙ ap (λ p. points_of action + p) (points_in-items _ rest)

pub points_in-vec : (block : Vec Stmt Global) (n : Count) (row : Row_of-Stmt n) → items-the_row-Stmt n row ≡ block.items →
    points_in row ≡ points_of_all block.items
points_in-vec block n row e = points_in-items n row ∙ ap points_of_all e

pub points_of-If : (c : Condition) (a : Vec Stmt Global) → points_of (If c a) ≡ 1 + points_of_all a.items
points_of-If c a =
    let one = block_of (If c a) in
    let e = points_in-vec a one.0 one.1 (items_hidden-the_row-Stmt-0 a) in
    let unfolded : points_of (If c a) ≡ 1 + points_in one.1 + 0 + 0 = refl in
    omega arith

pub points_of-IfElse : (c : Condition) (a b : Vec Stmt Global) →
    points_of (IfElse c a b) ≡ 1 + points_of_all a.items + points_of_all b.items
points_of-IfElse c a b =
    let one = block_of (IfElse c a b) in
    let two = else_of (IfElse c a b) in
    let e = points_in-vec a one.0 one.1 (items_hidden-the_row-Stmt-0 a) in
    let f = points_in-vec b two.0 two.1 (items_hidden-the_row-Stmt-0 b) in
    let unfolded : points_of (IfElse c a b) ≡ 1 + points_in one.1 + points_in two.1 + 0 = refl in
    omega arith

pub points_of-While : (c : Condition) (body : Vec Stmt Global) → points_of (While c body) ≡ 1 + points_of_all body.items
points_of-While c body =
    let one = block_of (While c body) in
    let e = points_in-vec body one.0 one.1 (items_hidden-the_row-Stmt-0 body) in
    let unfolded : points_of (While c body) ≡ 1 + points_in one.1 + 0 = refl in
    omega arith

-- ---- statements

module _ {P : Type 0} (lists : List (List P)) where
  pub block_code-items : (n : Count) (row : Row_of-Stmt n) (point : ℕ) →
      block_code lists row point ≡ sequence_code lists (items-the_row-Stmt n row) point
  block_code-items n end_of-Stmt point = refl
  block_code-items n (more_of-Stmt start action rest) point =
      ap (λ c. stmt_code lists action point ++ c) (block_code-items _ rest (point + points_of action))

  pub block_code-vec : (block : Vec Stmt Global) (n : Count) (row : Row_of-Stmt n) (point : ℕ) →
      items-the_row-Stmt n row ≡ block.items →
      block_code lists row point ≡ sequence_code lists block.items point
  block_code-vec block n row point e = block_code-items n row point ∙ ap (λ ss. sequence_code lists ss point) e

  pub stmt_code-If : (c : Condition) (a : Vec Stmt Global) (point : ℕ) →
      stmt_code lists (If c a) point ≡ if_code (acquire_code lists point ++ test_code c) (sequence_code lists a.items (point + 1))
  stmt_code-If c a point =
      let one = block_of (If c a) in
      ap (if_code (acquire_code lists point ++ test_code c)) (block_code-vec a one.0 one.1 (point + 1) (items_hidden-the_row-Stmt-0 a))

  pub stmt_code-IfElse : (c : Condition) (a b : Vec Stmt Global) (point : ℕ) →
      stmt_code lists (IfElse c a b) point
      ≡ if_else_code (acquire_code lists point ++ test_code c) (sequence_code lists a.items (point + 1)) (sequence_code lists b.items (point + 1 + points_of_all a.items))
  stmt_code-IfElse c a b point =
      let one = block_of (IfElse c a b) in
      let two = else_of (IfElse c a b) in
      let test = acquire_code lists point ++ test_code c in
      ap (λ x. if_else_code test x (block_code lists two.1 (point + 1 + points_in one.1))) (block_code-vec a one.0 one.1 (point + 1) (items_hidden-the_row-Stmt-0 a))
      ∙ ap (λ n. if_else_code test (sequence_code lists a.items (point + 1)) (block_code lists two.1 (point + 1 + n))) (points_in-vec a one.0 one.1 (items_hidden-the_row-Stmt-0 a))
      ∙ ap (if_else_code test (sequence_code lists a.items (point + 1))) (block_code-vec b two.0 two.1 (point + 1 + points_of_all a.items) (items_hidden-the_row-Stmt-0 b))

  pub stmt_code-While : (c : Condition) (body : Vec Stmt Global) (point : ℕ) →
      stmt_code lists (While c body) point ≡ while_code (acquire_code lists point ++ test_code c) (sequence_code lists body.items (point + 1))
  stmt_code-While c body point =
      let one = block_of (While c body) in
      ap (while_code (acquire_code lists point ++ test_code c)) (block_code-vec body one.0 one.1 (point + 1) (items_hidden-the_row-Stmt-0 body))

  -- a body is its statements, and its end after them
  pub body_code-split : (ss : List Stmt) (point : ℕ) (result : Option Return) →
      body_code lists ss point result ≡ sequence_code lists ss point ++ end_code lists result (point + points_of_all ss)
  body_code-split [] point result = let e : point ≡ point + 0 = omega arith in ap (end_code lists result) e
  body_code-split (s ∷ ss) point result =
      let next = point + points_of s.action in
      let far : next + points_of_all ss ≡ point + (points_of s.action + points_of_all ss) = omega arith in
      ap (λ c. stmt_code lists s.action point ++ c) (body_code-split ss next result)
      ∙ ap (λ n. stmt_code lists s.action point ++ (sequence_code lists ss next ++ end_code lists result n)) far
      ∙ sym (append_assoc (stmt_code lists s.action point) (sequence_code lists ss next) (end_code lists result (point + (points_of s.action + points_of_all ss))))
