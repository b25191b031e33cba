-- The parts of a scope that statements and parameters keep, the scope after a block, and the last step of a path.
-- Nobody has to believe these facts: they are proved here, for proofs of this crate and of the crates above.
use Rattle.std.proofs.Common.{◌≡◌, ◌∙◌, ℕ, List, [], ◌∷◌, ◌++◌, length, Option, Some, None, refl, ap}
use Rattle.syntax.specs.Trees.{Decl, Param, Stmt, let_local, let_owned, let_call, var_local, assign, if_then, while}
use Rattle.syntax.specs.Trees.{print, return_value, call, Stmts, no_stmts, stmt, no_else, else_do}
use Rattle.core_lang.specs.declared.tree.FieldStep.{FieldStep}
use Rattle.core_lang.specs.declared.tree.FieldStep.TheVariants.{Final, Field}
use Rattle.core_lang.specs.declared.tree.LocalKind.TheVariants.{Parameter}
use Rattle.core_lang.specs.declared.value.ValueType as core_type
use Rattle.resolution.specs.declared.body_limits.BodyLimits.{BodyLimits}
use Rattle.resolution.specs.Scopes.{◌>>=◌, Scope, hidden_from, bound, entered, outside, type_of, left}
use Rattle.resolution.specs.Statements.{after, after_all}
use Rattle.resolution.specs.Working.TypedStatements.{Split, behind, last_field}
use Rattle.resolution.specs.Theory.Facts.{after_result}

-- ---- after statements

pub after_decls : (sc : Scope) (s : Stmt) → (after sc s).decls ≡ sc.decls
after_decls sc (let_local l) = refl
after_decls sc (let_owned l o) = refl
after_decls sc (let_call l) = refl
after_decls sc (var_local l) = refl
after_decls sc (assign p e) = refl
after_decls sc (if_then start e body close no_else) = refl
after_decls sc (if_then start e body close (else_do other end)) = refl
after_decls sc (while start e body close) = refl
after_decls sc (print start e) = refl
after_decls sc (return_value start e) = refl
after_decls sc (call start c) = refl

pub all_decls : (sc : Scope) (ss : Stmts) → (after_all sc ss).decls ≡ sc.decls
all_decls sc no_stmts = refl
all_decls sc (stmt s rest) = all_decls (after sc s) rest ∙ after_decls sc s

all_result : (sc : Scope) (ss : Stmts) → (after_all sc ss).result ≡ sc.result
all_result sc no_stmts = refl
all_result sc (stmt s rest) = all_result (after sc s) rest ∙ after_result sc s

pub after_limits : (sc : Scope) (s : Stmt) → (after sc s).limits ≡ sc.limits
after_limits sc (let_local l) = refl
after_limits sc (let_owned l o) = refl
after_limits sc (let_call l) = refl
after_limits sc (var_local l) = refl
after_limits sc (assign p e) = refl
after_limits sc (if_then start e body close no_else) = refl
after_limits sc (if_then start e body close (else_do other end)) = refl
after_limits sc (while start e body close) = refl
after_limits sc (print start e) = refl
after_limits sc (return_value start e) = refl
after_limits sc (call start c) = refl

pub all_limits : (sc : Scope) (ss : Stmts) → (after_all sc ss).limits ≡ sc.limits
all_limits sc no_stmts = refl
all_limits sc (stmt s rest) = all_limits (after sc s) rest ∙ after_limits sc s

-- after a block, whose locals are hidden
pub left_is : (sc inner new : Scope) (number : ℕ) (ss : Stmts) → number ≡ length sc.locals → inner ≡ after_all sc ss →
    new ≡ record inner { locals = hidden_from number inner.locals } →
    new ≡ left sc (after_all sc ss)
left_is sc inner new number ss here within made =
    let end = after_all sc ss in
    made ∙ ap (λ (z : Scope). record z { locals = hidden_from number z.locals }) within
    ∙ ap (λ (n : ℕ). record end { locals = hidden_from n end.locals }) here
    ∙ ap (λ (ds : List Decl). record { decls = ds; locals = hidden_from (length sc.locals) end.locals; result = end.result; limits = end.limits }) (all_decls sc ss)
    ∙ ap (λ (r : Option core_type.ValueType). record { decls = sc.decls; locals = hidden_from (length sc.locals) end.locals; result = r; limits = end.limits }) (all_result sc ss)
    ∙ ap (λ (l : BodyLimits). record { decls = sc.decls; locals = hidden_from (length sc.locals) end.locals; result = sc.result; limits = l }) (all_limits sc ss)

-- ---- after parameters

pub entered_decls : (sc : Scope) (ps : List Param) → (entered sc ps).decls ≡ sc.decls
entered_decls sc [] = refl
entered_decls sc (p ∷ ps) = entered_decls (bound sc Parameter p.name (type_of (outside sc.decls) p.value_type)) ps

-- ---- the last step of a path

pub last_push : (ys : List FieldStep) (k n : ℕ) →
    last_field (ys ++ Field k n ∷ []) ≡ Some (record { base = ys; structure = k; field = n })
last_push [] k n = refl
last_push (Field j m ∷ []) k n = refl
last_push (Final j m ∷ []) k n = refl
last_push (Field j m ∷ s ∷ ys) k n = ap (λ (o : Option Split). o >>= λ p. Some (behind (Field j m) p)) (last_push (s ∷ ys) k n)
last_push (Final j m ∷ s ∷ ys) k n = ap (λ (o : Option Split). o >>= λ p. Some (behind (Final j m) p)) (last_push (s ∷ ys) k n)

pub last_final : (ys : List FieldStep) (k n : ℕ) → last_field (ys ++ Final k n ∷ []) ≡ None
last_final [] k n = refl
last_final (Field j m ∷ []) k n = refl
last_final (Final j m ∷ []) k n = refl
last_final (Field j m ∷ s ∷ ys) k n = ap (λ (o : Option Split). o >>= λ p. Some (behind (Field j m) p)) (last_final (s ∷ ys) k n)
last_final (Final j m ∷ s ∷ ys) k n = ap (λ (o : Option Split). o >>= λ p. Some (behind (Final j m) p)) (last_final (s ∷ ys) k n)
