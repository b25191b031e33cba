-- The instructions of a section, given the lock paths that are acquired before each of its points.
use Rattle.std.specs.Prelude.{ℕ, ◌+◌, pos, List, [], ◌∷◌, ◌++◌, length, slice_get, unwrap_or, Option, Some, None}
use Rattle.core_lang.specs.declared.tree.FieldStep.{FieldStep}
use Rattle.core_lang.specs.declared.tree.FieldStep.TheVariants.{Final, Field}
use Rattle.core_lang.specs.declared.tree.Path.{Path}
use Rattle.core_lang.specs.declared.tree.Expr.{Expr, Number, Null, Place, Global, Element', Member', Negate', Owned'}
use Rattle.core_lang.specs.declared.tree.Expr.{Chain', Row_of-Operation, end_of-Operation, more_of-Operation}
use Rattle.core_lang.specs.declared.tree.Condition.{Condition, Compare, Not', And', Or', Row_of-Condition}
use Rattle.core_lang.specs.declared.tree.Condition.{end_of-Condition, more_of-Condition}
use Rattle.core_lang.specs.declared.tree.Stmt.{Stmt}
use Rattle.core_lang.specs.declared.tree.Action.{Action, Bind, SetLocal, SetGlobal, SetElement, SetField, Call, Print}
use Rattle.core_lang.specs.declared.tree.Action.{If', IfElse', While', Row_of-Stmt, end_of-Stmt, more_of-Stmt}
use Rattle.core_lang.specs.declared.tree.Return.{Return as Result_of}
use Rattle.core_lang.specs.declared.tree.Section.{Section}
use Rattle.flow.specs.Skeletons.{Nil, count, in_front, block_skeleton}
use Rattle.code.specs.declared.instr.Instr.{Instr}
use Rattle.code.specs.declared.instr.Instr.TheVariants.{PushNumber, PushNull, GetLocal, PutLocal, LoadGlobal}
use Rattle.code.specs.declared.instr.Instr.TheVariants.{PutGlobal, LoadElement, Bound, PutElement, GetMember}
use Rattle.code.specs.declared.instr.Instr.TheVariants.{LoadFinal, LoadField, NonNull, PutField, Where, NegateTop}
use Rattle.code.specs.declared.instr.Instr.TheVariants.{NotTop, Operate, Test, Jump, JumpBack, JumpIfFalse}
use Rattle.code.specs.declared.instr.Instr.TheVariants.{JumpIfTrue, PrintTop, Acquire, Return, End}

-- ---- expressions and conditions

-- one instruction for each field
abbrev pub fields_code : List FieldStep → List Instr
fields_code [] = []
fields_code (Final structure f ∷ fs) = LoadFinal f structure ∷ fields_code fs
fields_code (Field structure f ∷ fs) = LoadField f structure ∷ fields_code fs

-- the code of a path
abbrev pub path_code : Path → List Instr
path_code path = GetLocal path.local ∷ fields_code path.fields.items

abbrev mutual
  -- the code of an expression
  pub expr_code : Expr → List Instr
  expr_code (Number n) = PushNumber n ∷ []
  expr_code Null = PushNull ∷ []
  expr_code (Place path) = path_code path
  expr_code (Global start cell) = LoadGlobal cell ∷ []
  expr_code (Element' start array p index) = expr_code index ++ LoadElement array ∷ []
  expr_code (Member' pool p index) = expr_code index ++ GetMember pool ∷ []
  expr_code (Negate' p e) = expr_code e ++ NegateTop ∷ []
  expr_code (Owned' p e structure final start local) = expr_code e ++ Where final structure local ∷ []
  expr_code (Chain' p first m rest) = expr_code first ++ chain_code rest

  -- each further operand, followed by its operator
  pub chain_code : {m : _} → Row_of-Operation m → List Instr
  chain_code end_of-Operation = []
  chain_code (more_of-Operation operator operand rest) = (expr_code operand ++ Operate operator ∷ []) ++ chain_code rest

-- an operand of &&: if it is false, a jump past the further ones
abbrev pub and_code : List Instr → List Instr → List Instr
and_code c rest = c ++ (JumpIfFalse (length rest) ∷ rest)

-- an operand of ||: if it is true, a jump past the further ones
abbrev pub or_code : List Instr → List Instr → List Instr
or_code c rest = c ++ (JumpIfTrue (length rest) ∷ rest)

-- the code of a condition; after the last operand of && and || a jump skips the truth value of the operands that decide
-- earlier
abbrev mutual
  pub test_code : Condition → List Instr
  test_code (Compare comparison a b) = expr_code a ++ (expr_code b ++ Test comparison ∷ [])
  test_code (Not' p c) = test_code c ++ NotTop ∷ []
  test_code (And' m before p last) = all_code before (test_code last ++ Jump 1 ∷ []) ++ PushNumber (pos 0) ∷ []
  test_code (Or' m before p last) = any_code before (test_code last ++ Jump 1 ∷ []) ++ PushNumber (pos 1) ∷ []

  pub all_code : {m : _} → Row_of-Condition m → List Instr → List Instr
  all_code end_of-Condition last = last
  all_code (more_of-Condition c rest) last = and_code (test_code c) (all_code rest last)

  pub any_code : {m : _} → Row_of-Condition m → List Instr → List Instr
  any_code end_of-Condition last = last
  any_code (more_of-Condition c rest) last = or_code (test_code c) (any_code rest last)

-- ---- points

-- the number of points of a statement, with those of its blocks
abbrev pub points_of : Action → ℕ
points_of action = count (in_front action Nil)

-- the number of points of a block
abbrev pub points_in : {m : _} → Row_of-Stmt m → ℕ
points_in row = count (block_skeleton row)

-- ---- statements

-- a test, a block and a jump past it
abbrev pub if_code : List Instr → List Instr → List Instr
if_code c block = c ++ (JumpIfFalse (length block) ∷ block)

-- the first block ends with a jump past the second
abbrev pub if_else_code : List Instr → List Instr → List Instr → List Instr
if_else_code c block otherwise =
    c ++ (JumpIfFalse (length block + 1) ∷ (block ++ (Jump (length otherwise) ∷ otherwise)))

-- the body ends with a jump back to where the condition's point begins
abbrev pub while_code : List Instr → List Instr → List Instr
while_code c body = c ++ (JumpIfFalse (length body + 1) ∷ (body ++ JumpBack (length c + 1 + length body) ∷ []))

-- nothing is acquired before a point without lock paths
abbrev pub acquire_any : {P : Type 0} → Option (List P) → ℕ → List Instr
acquire_any None point = []
acquire_any (Some []) point = []
acquire_any (Some (path ∷ paths)) point = Acquire point ∷ []

-- given the lists of lock paths before the points
module _ {P : Type 0} (lists : List (List P)) where
  -- the acquire before a point, if its list has a lock path
  abbrev pub acquire_code : ℕ → List Instr
  acquire_code point = acquire_any (slice_get lists point) point

  -- the code of a statement whose first point has this number; the acquire of a point comes before everything else of
  -- it
  abbrev mutual
    pub stmt_code : Action → ℕ → List Instr
    stmt_code (Bind k e) point = acquire_code point ++ (expr_code e ++ PutLocal k ∷ [])
    stmt_code (SetLocal k e) point = acquire_code point ++ (expr_code e ++ PutLocal k ∷ [])
    stmt_code (SetGlobal cell e) point = acquire_code point ++ (expr_code e ++ PutGlobal cell ∷ [])
    stmt_code (SetElement array i e) point =
        acquire_code point ++ (expr_code i ++ (Bound array ∷ (expr_code e ++ PutElement array ∷ [])))
    stmt_code (SetField path structure f e) point =
        acquire_code point ++ (path_code path ++ (NonNull ∷ (expr_code e ++ PutField f structure ∷ [])))
    -- a call has no code of its own, since a section's helpers are expanded before. This code gets stuck
    stmt_code (Call helper arguments result) point = acquire_code point ++ (PushNull ∷ (PrintTop ∷ []))
    stmt_code (Print e) point = acquire_code point ++ (expr_code e ++ PrintTop ∷ [])
    stmt_code (If' c m block) point = if_code (acquire_code point ++ test_code c) (block_code block (point + 1))
    stmt_code (IfElse' c m block k otherwise) point =
        if_else_code (acquire_code point ++ test_code c) (block_code block (point + 1))
        (block_code otherwise (point + 1 + points_in block))
    stmt_code (While' c m body) point = while_code (acquire_code point ++ test_code c) (block_code body (point + 1))

    pub block_code : {m : _} → Row_of-Stmt m → ℕ → List Instr
    block_code end_of-Stmt point = []
    block_code (more_of-Stmt start action rest) point =
        stmt_code action point ++ block_code rest (point + points_of action)

  -- the code of the result, or of the end
  abbrev pub end_code : Option Result_of → ℕ → List Instr
  end_code None point = End ∷ []
  end_code (Some result) point = acquire_code point ++ (expr_code result.value ++ Return ∷ [])

  -- the code of statements, and of the end of the section
  abbrev pub body_code : List Stmt → ℕ → Option Result_of → List Instr
  body_code [] point result = end_code result point
  body_code (x ∷ xs) point result = stmt_code x.action point ++ body_code xs (point + points_of x.action) result

  -- the code of a section
  abbrev pub section_code : Section → List Instr
  section_code section = body_code section.body.items 0 section.result

-- the lists of the section of this number, or none if it has no lists
abbrev pub lists_at : List (List (List ℕ)) → ℕ → List (List ℕ)
lists_at lists k = unwrap_or (slice_get lists k) []
