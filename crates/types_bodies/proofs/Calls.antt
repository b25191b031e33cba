-- Arguments of calls of helpers, one after another.
use Rattle.std.proofs.Common.{◌≡◌, ℕ, suc, ◌+◌, ◌<◌, List, [], ◌∷◌, Option, Some, None, length, drop, get_or, refl, sym}
use Rattle.std.proofs.Common.{ap, ◌∙◌, append_assoc}
use Rattle.resolution.specs.declared.finding.Finding.{Finding}
use Rattle.syntax.specs.declared.tree.Expr as rust_expr
use Rattle.syntax.specs.declared.tree.Param as rust_param
use Rattle.syntax.specs.Trees.{Expr, Param, Section}
use Rattle.syntax.specs.Views.{expr_of, param_of}
use Rattle.resolution.specs.declared.wanted.Want.{Want}
use Rattle.resolution.specs.Core as core
use Rattle.resolution.specs.Scopes.{Scope}
use Rattle.resolution.specs.Working.TypedExpressions.{fitting, as_value, typed}
use Rattle.resolution.specs.Constants.{want_of}
use Rattle.resolution.specs.Working.TypedConstants.{added}
use Rattle.resolution.specs.Working.TypedStatements.{typed_values}
use Rattle.resolution.specs.Working.Building.{joined}
use Rattle.resolution.specs.Working.Findings.{Firsts, found_in}
use Rattle.core_lang.specs.Theory.Items.{next_of}
use Rattle.resolution.specs.Working.FaultLists.{wanted_faults}
use Rattle.types_bodies.specs.Working.Parts.{pushed}
use Rattle.types_symbols.specs.Theory.Steps.{noted_one}
use Rattle.types_bodies.specs.Working.Calls.{numbered, values_of, values_blamed, values_passed}

-- one value more
joined_more : (so_far : Option (List core.Expr)) (v : Option core.Expr) (rest : Option (List core.Expr)) →
    joined (pushed so_far v) rest ≡ joined so_far (added v rest)
joined_more None v rest = refl
joined_more (Some xs) None rest = refl
joined_more (Some xs) (Some x) None = refl
joined_more (Some xs) (Some x) (Some ys) = ap (λ (zs : List core.Expr). Some zs) (append_assoc xs (x ∷ []) ys)

-- a parameter and its argument
module _ (sc : Scope) (ps : List rust_param.Param) (es : List rust_expr.Expr) (i : ℕ) (p : rust_param.Param) (e : rust_expr.Expr) (few : i < length ps) (less : i < length es) (is : p ≡ get_or ps i p) (here : e ≡ get_or es i e)
    (w : Want) (wanted : w ≡ want_of sc.decls (param_of p)) where
  pub values_step : (so_far new : Option (List core.Expr)) (v : Option core.Expr) (whole : Option (List core.Expr)) →
      new ≡ pushed so_far v → v ≡ as_value (fitting w (typed sc (expr_of e))) →
      joined so_far (values_of sc (drop i ps) (drop i es)) ≡ whole → joined new (values_of sc (drop (i + 1) ps) (drop (i + 1) es)) ≡ whole
  values_step so_far new v whole made one before =
      let rest = values_of sc (drop (i + 1) ps) (drop (i + 1) es) in
      ap (λ (n : Option (List core.Expr)). joined n rest) made
      ∙ joined_more so_far v rest
      ∙ ap (λ (x : Option core.Expr). joined so_far (added x rest)) (one ∙ ap (λ (y : Want). as_value (fitting y (typed sc (expr_of e)))) wanted)
      ∙ ap (λ (qs : List rust_param.Param). joined so_far (values_of sc qs (e ∷ drop (i + 1) es))) (sym (next_of ps i p few is))
      ∙ ap (λ (xs : List rust_expr.Expr). joined so_far (values_of sc (drop i ps) xs)) (sym (next_of es i e less here))
      ∙ before

  pub values_fault_step : (f g whole : Firsts) → g ≡ found_in f (wanted_faults sc w (expr_of e)) →
      found_in f (values_blamed sc (drop i ps) (drop i es)) ≡ whole → found_in g (values_blamed sc (drop (i + 1) ps) (drop (i + 1) es)) ≡ whole
  values_fault_step f g whole one before =
      let rest = values_blamed sc (drop (i + 1) ps) (drop (i + 1) es) in
      noted_one f g (wanted_faults sc (want_of sc.decls (param_of p)) (expr_of e)) rest (one ∙ ap (λ (y : Want). found_in f (wanted_faults sc y (expr_of e))) wanted)
      ∙ ap (λ (qs : List rust_param.Param). found_in f (values_blamed sc qs (e ∷ drop (i + 1) es))) (sym (next_of ps i p few is))
      ∙ ap (λ (xs : List rust_expr.Expr). found_in f (values_blamed sc (drop i ps) xs)) (sym (next_of es i e less here))
      ∙ before

-- too many or too few have no values
values_unlike : (sc : Scope) (ps : List Param) (es : List Expr) → (length ps ≡ length es → ⊥) →
    typed_values sc ps es ≡ None
values_unlike sc [] [] h = absurd (h refl)
values_unlike sc [] (e ∷ es) h = refl
values_unlike sc (p ∷ ps) [] h = refl
values_unlike sc (p ∷ ps) (e ∷ es) h = ap (added (as_value (fitting (want_of sc.decls p) (typed sc e)))) (values_unlike sc ps es (λ same. h (ap suc same))) ∙ none (as_value (fitting (want_of sc.decls p) (typed sc e)))
  where
    none : (o : Option core.Expr) → added o None ≡ None
    none None = refl
    none (Some x) = refl

-- the section of two that are the same
abbrev section_or : Section → Option (ℕ × Section) → Section
section_or s None = s
section_or s (Some q) = q.1

pub none_passed : (sc : Scope) (h : Option (ℕ × Section)) (n : ℕ) (s : Section) (es : List Expr) →
    Some (n, s) ≡ numbered sc h → (length s.params ≡ length es → ⊥) → None ≡ values_passed sc h es
none_passed sc None n s es e other = refl
none_passed sc (Some f) n s es e other =
    let same : s ≡ f.1 = ap (section_or s) e in
    sym (values_unlike sc f.1.params es (λ even. other (ap (λ (x : Section). length x.params) same ∙ even)))
