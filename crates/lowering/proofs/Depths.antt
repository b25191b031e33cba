-- The operands that a chain and conditions need.
use Rattle.std.proofs.Common.{◌≡◌, ℕ, max, List, sym, ap, ◌∙◌, Vec, Box, Global}
use Rattle.core_lang.specs.declared.tree.Expr.{Expr, Chain}
use Rattle.core_lang.specs.declared.tree.Operation.{Operation}
use Rattle.core_lang.specs.declared.tree.Condition.{Condition, And, Or}
use Rattle.code.specs.Needs.{expr_need, test_need}
use Rattle.lowering.specs.Working.CodeLists.{operations_need, conditions_need}
use Rattle.lowering.proofs.NeedViews.{expr_need-Chain, test_need-And, test_need-Or}

pub chain_needs : (e : Expr) (first : Box Expr Global) (rest : Vec Operation Global) (items : List Operation) (left : Expr) (n : ℕ) →
    e ≡ Chain first rest → items ≡ rest.items → left ≡ first.value → n ≡ expr_need left → max n (operations_need items) ≡ expr_need e
chain_needs e first rest items left n is all one h =
    ap (λ x. max x (operations_need items)) (h ∙ ap expr_need one)
    ∙ ap (λ os. max (expr_need first.value) (operations_need os)) all
    ∙ sym (expr_need-Chain first rest) ∙ ap expr_need (sym is)

pub and_needs : (c : Condition) (before : Vec Condition Global) (last : Box Condition Global) (items : List Condition) (l : Condition) (m n r : ℕ) →
    c ≡ And before last → items ≡ before.items → l ≡ last.value → m ≡ conditions_need items → n ≡ test_need l → r ≡ max m n → r ≡ test_need c
and_needs c before last items l m n r is all one hm hn h =
    h ∙ ap (λ x. max x n) (hm ∙ ap conditions_need all) ∙ ap (max (conditions_need before.items)) (hn ∙ ap test_need one)
    ∙ sym (test_need-And before last) ∙ ap test_need (sym is)

pub or_needs : (c : Condition) (before : Vec Condition Global) (last : Box Condition Global) (items : List Condition) (l : Condition) (m n r : ℕ) →
    c ≡ Or before last → items ≡ before.items → l ≡ last.value → m ≡ conditions_need items → n ≡ test_need l → r ≡ max m n → r ≡ test_need c
or_needs c before last items l m n r is all one hm hn h =
    h ∙ ap (λ x. max x n) (hm ∙ ap conditions_need all) ∙ ap (max (conditions_need before.items)) (hn ∙ ap test_need one)
    ∙ sym (test_need-Or before last) ∙ ap test_need (sym is)
