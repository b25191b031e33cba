-- Whether statements end in a return, and which sections lack one.
use Rattle.std.proofs.Common.{◌≡◌, ◌∙◌, ◌-◌, ◌≤◌, ℕ, suc, Bool, true, false, List, [], ◌∷◌, length, get_or, Option}
use Rattle.std.proofs.Common.{Some, None, refl, sym, ap, subst, arith}
use Rattle.std.specs.Option.{option_map}
use denote.Ref.{Bor}
use Rattle.source.specs.declared.span.Span.{Span}
use Rattle.syntax.specs.declared.tree.Expr as the_expr
use Rattle.syntax.specs.declared.tree.Section as the_section
use Rattle.syntax.specs.declared.tree.If as the_if
use Rattle.syntax.specs.declared.tree.Stmt as the_stmt
use Rattle.syntax.specs.declared.tree.Stmt.{Return}
use Rattle.syntax.specs.Returns.{IsReturn, is_return, EndsInReturn, last_returns, ends_later}
use Rattle.syntax.specs.Trees.{Stmt, return_value, Stmts, no_stmts, stmt, Section}
use Rattle.syntax.specs.Views.{stmt_of, stmts_of}
use Rattle.explanation_names.specs.Working.Viewed.{section_at}

abbrev returns : Stmt → Bool
returns (return_value at e) = true
returns _ = false

return_test : {s : Stmt} {at : ℕ} → IsReturn s at → returns s ≡ true
return_test is_return = refl

abbrev IsOther : the_stmt.Stmt → Type 0
IsOther s = (at : Span) (e : the_expr.Expr) → s ≡ Return at e → ⊥

other_test : (s : the_stmt.Stmt) → IsOther s → returns (stmt_of s) ≡ false
other_test (the_stmt.Let l) h = refl
other_test (the_stmt.LetOwned l) h = refl
other_test (the_stmt.LetCall l) h = refl
other_test (the_stmt.Var l) h = refl
other_test (the_stmt.Assign p e) h = refl
other_test (the_stmt.If' x (the_if.If' start e n row close other)) h = refl
other_test (the_stmt.While' x start e n row close) h = refl
other_test (the_stmt.Print at e) h = refl
other_test (the_stmt.Return at e) h = absurd (h at e refl)
other_test (the_stmt.Call at c) h = refl

one_less : (n : ℕ) → suc (suc n) - 1 ≡ suc (suc n - 1)
one_less n = omega arith

pub last_is_return : (xs : List the_stmt.Stmt) (x : the_stmt.Stmt) (at : Span) (e : the_expr.Expr) → 1 ≤ length xs →
    x ≡ get_or xs (length xs - 1) x → x ≡ Return at e →
    EndsInReturn (stmts_of xs)
last_is_return [] x at e some last is = absurd (omega arith)
last_is_return (y ∷ []) x at e some last is = rw (sym last ∙ is) (last_returns is_return)
last_is_return (y ∷ z ∷ zs) x at e some last is =
    ends_later (last_is_return (z ∷ zs) x at e (omega arith) (last ∙ ap (λ n. get_or (y ∷ z ∷ zs) n x) (one_less (length zs))) is)

none_ends : EndsInReturn no_stmts → ⊥
none_ends h = elim h [ ]

one_ends : (s : Stmt) → returns s ≡ false → EndsInReturn (stmt s no_stmts) → ⊥
one_ends s no_return (last_returns r) = let t = return_test r in absurd cc
one_ends s no_return (ends_later h) = none_ends h

more_ends : (s t : Stmt) (more : Stmts) → EndsInReturn (stmt s (stmt t more)) → EndsInReturn (stmt t more)
more_ends s t more (ends_later h) = h

pub last_is_other : (xs : List the_stmt.Stmt) (x : the_stmt.Stmt) → 1 ≤ length xs → x ≡ get_or xs (length xs - 1) x →
    IsOther x → EndsInReturn (stmts_of xs) → ⊥
last_is_other [] x some last other h = absurd (omega arith)
last_is_other (y ∷ []) x some last other h = one_ends (stmt_of y) (other_test y (subst IsOther last other)) h
last_is_other (y ∷ z ∷ zs) x some last other h =
    last_is_other (z ∷ zs) x (omega arith) (last ∙ ap (λ n. get_or (y ∷ z ∷ zs) n x) (one_less (length zs))) other (more_ends (stmt_of y) (stmt_of z) (stmts_of zs) h)

-- ---- the section that a declaration is

pub no_section : (o : Option (Bor the_section.Section)) (b : Option Section) (s : Section) →
    option_map section_at o ≡ b → o ≡ None → b ≡ Some s → ⊥
no_section o b s seen none is = let e : None ≡ Some s = ap (option_map section_at) (sym none) ∙ seen ∙ is in cc
