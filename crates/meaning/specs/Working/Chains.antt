-- A chain along the items of its list. Only proofs need it.
use Rattle.std.proofs.Common.{◌≡◌, ℕ, ◌<◌, ◌+◌, List, ◌∷◌, length, get_or, drop, suc, drop-cons, Vec, Box, Global}
use Rattle.std.proofs.Common.{sym, ap, ◌∙◌, Result}
use Rattle.std.proofs.Math.Numerals.{add-one}
use Rattle.core_lang.specs.declared.tree.Expr.{Expr, Chain}
use Rattle.core_lang.specs.declared.tree.Operation.{Operation}
use Rattle.core_lang.specs.declared.value.Value.{Value}
use Rattle.core_lang.specs.declared.value.Failure.{Failure}
use Rattle.core_lang.specs.declared.shape.Shape.{Shape}
use Rattle.core_lang.specs.Theory.Lists.{operations, value_of-Chain}
use Rattle.core_lang.specs.Meaning.{joined, value_of}

pub chain_starts : (e : Expr) (first : Box Expr Global) (rest : Vec Operation Global) (items : List Operation)
    (left : Expr) (shape : Shape) (locals heap : List Value) (value : Result Value Failure) →
    e ≡ Chain first rest → items ≡ rest.items → left ≡ first.value → value ≡ value_of left shape locals heap →
    operations items shape locals heap value ≡ value_of e shape locals heap
chain_starts e first rest items left shape locals heap value is all one v =
    ap (λ os. operations os shape locals heap value) all
    ∙ ap (operations rest.items shape locals heap) (v ∙ ap (λ x. value_of x shape locals heap) one)
    ∙ sym (value_of-Chain first rest shape locals heap)
    ∙ ap (λ x. value_of x shape locals heap) (sym is)

pub chain_goes : (items : List Operation) (i : ℕ) (item : Operation) (shape : Shape) (locals heap : List Value)
    (left next whole : Result Value Failure) → i < length items → item ≡ get_or items i item →
    joined item.operator left (value_of item.operand shape locals heap) ≡ next →
    operations (drop i items) shape locals heap left ≡ whole →
    operations (drop (i + 1) items) shape locals heap next ≡ whole
chain_goes items i item shape locals heap left next whole lt is goes e =
    ap (λ k. operations (drop k items) shape locals heap next) (add-one i)
    ∙ ap (operations (drop (suc i) items) shape locals heap) (sym goes)
    ∙ ap (λ os. operations os shape locals heap left) (ap (λ x. x ∷ drop (suc i) items) is ∙ sym (drop-cons items i item lt))
    ∙ e
