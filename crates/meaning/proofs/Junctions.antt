-- The conditions of `&&` and `||`, one after another, and the end of a chain.
use Rattle.std.proofs.Common.{◌≡◌, ℕ, ◌<◌, ◌≤◌, ◌+◌, List, ◌∷◌, length, get_or, drop, suc, drop-cons, sym, ap, ◌∙◌}
use Rattle.std.proofs.Common.{Result, Bool}
use Rattle.std.proofs.lemmas.List.{drop_all}
use Rattle.std.proofs.Math.Numerals.{add-one}
use Rattle.core_lang.specs.declared.tree.Condition.{Condition}
use Rattle.core_lang.specs.declared.tree.Operation.{Operation}
use Rattle.core_lang.specs.declared.value.Value.{Value}
use Rattle.core_lang.specs.declared.value.Failure.{Failure}
use Rattle.core_lang.specs.declared.shape.Shape.{Shape}
use Rattle.core_lang.specs.Theory.Lists.{operations, all_of, any_of}
use Rattle.core_lang.specs.Meaning.{truth_of, and_then, or_else}

pub chain_ends : (items : List Operation) (i : ℕ) (shape : Shape) (locals heap : List Value) (left whole : Result Value Failure) →
    length items ≤ i → operations (drop i items) shape locals heap left ≡ whole → left ≡ whole
chain_ends items i shape locals heap left whole le e = sym (ap (λ os. operations os shape locals heap left) (drop_all i items le)) ∙ e

module _ (items : List Condition) (i : ℕ) (shape : Shape) (locals heap : List Value) (last whole : Result Bool Failure) where
  pub and_ends : length items ≤ i → all_of (drop i items) shape locals heap last ≡ whole → last ≡ whole
  and_ends le e = sym (ap (λ cs. all_of cs shape locals heap last) (drop_all i items le)) ∙ e

  pub or_ends : length items ≤ i → any_of (drop i items) shape locals heap last ≡ whole → last ≡ whole
  or_ends le e = sym (ap (λ cs. any_of cs shape locals heap last) (drop_all i items le)) ∙ e

  module _ (item : Condition) (truth : Result Bool Failure) (lt : i < length items) (is : item ≡ get_or items i item) (told : truth ≡ truth_of item shape locals heap) where
    here : drop i items ≡ item ∷ drop (suc i) items
    here = drop-cons items i item lt ∙ ap (λ x. x ∷ drop (suc i) items) (sym is)

    pub and_more : all_of (drop i items) shape locals heap last ≡ whole →
        and_then truth (all_of (drop (i + 1) items) shape locals heap last) ≡ whole
    and_more e =
        ap (λ k. and_then truth (all_of (drop k items) shape locals heap last)) (add-one i)
        ∙ ap (λ t. and_then t (all_of (drop (suc i) items) shape locals heap last)) told
        ∙ sym (ap (λ cs. all_of cs shape locals heap last) here) ∙ e

    pub or_more : any_of (drop i items) shape locals heap last ≡ whole →
        or_else truth (any_of (drop (i + 1) items) shape locals heap last) ≡ whole
    or_more e =
        ap (λ k. or_else truth (any_of (drop k items) shape locals heap last)) (add-one i)
        ∙ ap (λ t. or_else t (any_of (drop (suc i) items) shape locals heap last)) told
        ∙ sym (ap (λ cs. any_of cs shape locals heap last) here) ∙ e
