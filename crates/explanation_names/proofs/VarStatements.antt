-- The statements of blocks, and those that are neither a `var` nor an assignment.
use Rattle.std.proofs.Common.{◌≡◌, ◌∙◌, ℕ, false, List, ◌++◌, None, refl, ap}
use Rattle.std.specs.Prelude.{Box}
use Rattle.std.proofs.Common.{Global}
use Rattle.syntax.specs.declared.tree.Expr as the_expr
use Rattle.syntax.specs.declared.tree.If as the_if
use Rattle.syntax.specs.declared.tree.If.{out-If}
use Rattle.syntax.specs.declared.tree.Local as the_local
use Rattle.syntax.specs.declared.tree.Place as the_place
use Rattle.syntax.specs.declared.tree.Stmt as the_stmt
use Rattle.syntax.specs.declared.tree.Stmt.{While, If, Var, Assign}
use Rattle.syntax.specs.declared.tree.While as the_while
use Rattle.syntax.specs.Theory.Rows.{stmt_of-While, if_of-out}
use Rattle.syntax.specs.Views.{stmt_of, stmts_of, else_of}
use Rattle.explanation_names.specs.Vars.{all_of, behind, within}
use Rattle.explanation_names.specs.Working.VarsFound.{assigns, var_in}

-- the statements of a loop's body
pub within_while : (s : the_stmt.Stmt) (b : Box the_while.While Global) → s ≡ While b →
    within (stmt_of s) ≡ all_of (stmts_of b.value.block.stmts.items)
within_while s b e = ap (λ (s : the_stmt.Stmt). within (stmt_of s)) e ∙ ap within (stmt_of-While b)

-- the statements of a choice's blocks
pub within_if : (s : the_stmt.Stmt) (b : Box the_if.If Global) → s ≡ If b → within (stmt_of s)
    ≡ all_of (stmts_of (out-If b.value).block.stmts.items) ++ behind (else_of (out-If b.value).otherwise)
within_if s b e = ap (λ (s : the_stmt.Stmt). within (stmt_of s)) e ∙ ap within (if_of-out b.value)

pub no_var : (q : List ℕ) (s : the_stmt.Stmt) → ((l : Box the_local.Local Global) → s ≡ Var l → ⊥) →
    var_in q (stmt_of s) ≡ None
no_var q (the_stmt.Let l) h = refl
no_var q (the_stmt.LetOwned l) h = refl
no_var q (the_stmt.LetCall l) h = refl
no_var q (the_stmt.Var l) h = absurd (h l refl)
no_var q (the_stmt.Assign p e) h = refl
no_var q (the_stmt.If' x (the_if.If' start e n row close other)) h = refl
no_var q (the_stmt.While' x start e n row close) h = refl
no_var q (the_stmt.Print at e) h = refl
no_var q (the_stmt.Return at e) h = refl
no_var q (the_stmt.Call at c) h = refl

pub no_assignment : (q : List ℕ) (s : the_stmt.Stmt) →
    ((p : the_place.Place) (e : the_expr.Expr) → s ≡ Assign p e → ⊥) → assigns q (stmt_of s) ≡ false
no_assignment q (the_stmt.Let l) h = refl
no_assignment q (the_stmt.LetOwned l) h = refl
no_assignment q (the_stmt.LetCall l) h = refl
no_assignment q (the_stmt.Var l) h = refl
no_assignment q (the_stmt.Assign p e) h = absurd (h p e refl)
no_assignment q (the_stmt.If' x (the_if.If' start e n row close other)) h = refl
no_assignment q (the_stmt.While' x start e n row close) h = refl
no_assignment q (the_stmt.Print at e) h = refl
no_assignment q (the_stmt.Return at e) h = refl
no_assignment q (the_stmt.Call at c) h = refl
