-- A chain of operators, as it is emitted.
use Rattle.std.proofs.Common.{◌≡◌, List, ◌++◌, sym, ap, ◌∙◌, append_assoc, Vec, Box, Global}
use Rattle.core_lang.specs.declared.tree.Expr.{Expr, Chain}
use Rattle.core_lang.specs.declared.tree.Operation.{Operation}
use Rattle.code.specs.declared.instr.Instr.{Instr}
use Rattle.code.specs.Lowering.{expr_code}
use Rattle.lowering.specs.Working.CodeLists.{operations_code}
use Rattle.lowering.proofs.CodeViews.{expr_code-Chain}

pub chain_starts : (e : Expr) (first : Box Expr Global) (rest : Vec Operation Global) (items : List Operation) (left : Expr) (base c1 : List Instr) →
    e ≡ Chain first rest → items ≡ rest.items → left ≡ first.value → c1 ≡ base ++ expr_code left → c1 ++ operations_code items ≡ base ++ expr_code e
chain_starts e first rest items left base c1 is all one e1 =
    ap (λ x. x ++ operations_code items) (e1 ∙ ap (λ x. base ++ expr_code x) one)
    ∙ append_assoc base (expr_code first.value) (operations_code items)
    ∙ ap (λ x. base ++ (expr_code first.value ++ operations_code x)) all
    ∙ ap (λ x. base ++ x) (sym (expr_code-Chain first rest))
    ∙ ap (λ x. base ++ expr_code x) (sym is)
