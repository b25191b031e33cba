-- Statements and parameters one after another, blocks, and statements through their boxes.
use Rattle.std.proofs.Common.{◌≡◌, ℕ, ◌+◌, ◌<◌, List, ◌++◌, Option, length, drop, get_or, sym, ap, ◌∙◌, append_assoc}
use Rattle.std.proofs.Common.{arith}
use Rattle.syntax.specs.declared.tree.Stmt as tree_stmt
use Rattle.syntax.specs.declared.tree.Stmt.{If}
use Rattle.syntax.specs.declared.tree.If as tree_if
use Rattle.syntax.specs.declared.tree.If.{out-If}
use Rattle.syntax.specs.Views.{stmt_of, if_of, stmts_of, else_of}
use Rattle.syntax.specs.Theory.Rows.{if_of-out}
use Rattle.syntax.specs.Trees.{Decl, Stmt, Stmts}
use Rattle.core_lang.specs.declared.value.ValueType as core_type
use Rattle.core_lang_helpers.specs.declared.graph.CallSite.{CallSite}
use Rattle.resolution.specs.declared.body_limits.BodyLimits.{BodyLimits}
use Rattle.resolution.specs.Scopes.{Scope, Local, hidden_from, left}
use Rattle.resolution.specs.Statements.{after, after_else, after_all}
use Rattle.resolution.specs.CallGraphs.{stmt_calls, else_calls, stmts_calls, stmt_points, else_points, stmts_points}
use Rattle.resolution.specs.Theory.Blocks.{left_is as scope_left}
use Rattle.types_symbols.specs.{KnownLocals, scope_of}
use Rattle.types_symbols.specs.Theory.Steps.{step}

-- ---- one after another

pub calls_step : (sc sc' : Scope) (old new whole : List CallSite) (items : List tree_stmt.Stmt) (i : ℕ) (item : tree_stmt.Stmt) → i < length items → item ≡ get_or items i item →
    sc' ≡ after sc (stmt_of item) → new ≡ old ++ stmt_calls sc (stmt_of item) →
    old ++ stmts_calls sc (stmts_of (drop i items)) ≡ whole → new ++ stmts_calls sc' (stmts_of (drop (i + 1) items)) ≡ whole
calls_step sc sc' old new whole items i item lt is behind more before =
    let rest = stmts_of (drop (i + 1) items) in
    step (λ ss. old ++ stmts_calls sc (stmts_of ss)) (λ ss. new ++ stmts_calls sc' (stmts_of ss)) items i item whole lt is
    (ap (λ (z : Scope). new ++ stmts_calls z rest) behind ∙ ap (λ (l : List CallSite). l ++ stmts_calls (after sc (stmt_of item)) rest) more
    ∙ append_assoc old (stmt_calls sc (stmt_of item)) (stmts_calls (after sc (stmt_of item)) rest))
    before

pub points_step : (old new whole : ℕ) (items : List tree_stmt.Stmt) (i : ℕ) (item : tree_stmt.Stmt) →
    i < length items → item ≡ get_or items i item →
    new ≡ old + stmt_points (stmt_of item) → old + stmts_points (stmts_of (drop i items)) ≡ whole → new + stmts_points (stmts_of (drop (i + 1) items)) ≡ whole
points_step old new whole items i item lt is more before =
    step (λ ss. old + stmts_points (stmts_of ss)) (λ ss. new + stmts_points (stmts_of ss)) items i item whole lt is (omega (arith, more)) before

-- ---- blocks

-- after a block, whose locals are hidden
pub left_is : (decls : List Decl) (old inner new : KnownLocals) (number : ℕ) (ss : Stmts) →
    number ≡ length old.locals → scope_of decls inner ≡ after_all (scope_of decls old) ss →
    new.locals ≡ hidden_from number inner.locals → new.result ≡ inner.result → new.limits ≡ inner.limits → scope_of decls new ≡ left (scope_of decls old) (after_all (scope_of decls old) ss)
left_is decls old inner new number ss here within made result limits =
    let made_is : scope_of decls new ≡ record (scope_of decls inner) { locals = hidden_from number inner.locals } =
    ap (λ (l : List Local). record { decls = decls; locals = l; result = new.result; limits = new.limits }) made
    ∙ ap (λ (r : Option core_type.ValueType). record { decls = decls; locals = hidden_from number inner.locals; result = r; limits = new.limits }) result
    ∙ ap (λ (l : BodyLimits). record { decls = decls; locals = hidden_from number inner.locals; result = inner.result; limits = l }) limits in
    scope_left (scope_of decls old) (scope_of decls inner) (scope_of decls new) number ss here within made_is

-- ---- through their boxes

-- a choice by its parts, where the scope after its block is sc2
module _ (sc sc2 : Scope) (choice : tree_if.If) (behind : sc2 ≡ left sc (after_all sc (stmts_of (out-If choice).block.stmts.items))) where
  pub if_scope : (sc3 : Scope) → sc3 ≡ after_else sc2 (else_of (out-If choice).otherwise) →
      sc3 ≡ after sc (if_of choice)
  if_scope sc3 made = made ∙ ap (λ z. after_else z (else_of (out-If choice).otherwise)) behind ∙ ap (after sc) (sym (if_of-out choice))

  pub if_calls : (a b c : List CallSite) → b ≡ a ++ stmts_calls sc (stmts_of (out-If choice).block.stmts.items) →
      c ≡ b ++ else_calls sc2 (else_of (out-If choice).otherwise) →
      c ≡ a ++ stmt_calls sc (if_of choice)
  if_calls a b c first second =
      let body = stmts_calls sc (stmts_of (out-If choice).block.stmts.items) in
      second ∙ ap (λ (l : List CallSite). l ++ else_calls sc2 (else_of (out-If choice).otherwise)) first
      ∙ append_assoc a body (else_calls sc2 (else_of (out-If choice).otherwise))
      ∙ ap (λ (z : Scope). a ++ (body ++ else_calls z (else_of (out-If choice).otherwise))) behind
      ∙ ap (λ (s : Stmt). a ++ stmt_calls sc s) (sym (if_of-out choice))

pub if_points : (choice : tree_if.If) (a b c d : ℕ) → b ≡ a + 1 →
    c ≡ b + stmts_points (stmts_of (out-If choice).block.stmts.items) →
    d ≡ c + else_points (else_of (out-If choice).otherwise) →
    d ≡ a + stmt_points (if_of choice)
if_points choice a b c d one two three =
    let body : ℕ = stmts_points (stmts_of (out-If choice).block.stmts.items) in
    let other : ℕ = else_points (else_of (out-If choice).otherwise) in
    let sum : d ≡ a + (1 + (body + other)) = omega (arith, one, two, three) in
    sum ∙ ap (λ (s : Stmt). a + stmt_points s) (sym (if_of-out choice))
