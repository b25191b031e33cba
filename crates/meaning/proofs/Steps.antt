-- A heap whose writes are undone, and failures that stay.
use Rattle.std.proofs.Common.{◌≡◌, ℕ, ◌<◌, List, [], ◌∷◌, ◌++◌, length, get_or, set, set-set, length-set, drop, suc}
use Rattle.std.proofs.Common.{drop-cons, Vec, Box, Global, refl, sym, ap, ◌∙◌, Result, Err}
use Rattle.std.proofs.lemmas.List.{set-get_or}
use Rattle.core_lang.specs.declared.tree.Expr.{Expr, Chain}
use Rattle.core_lang.specs.declared.tree.Condition.{Condition, And, Or}
use Rattle.std.specs.Prelude.{slice_set, slice_index_or}
use Rattle.core_lang.specs.declared.value.Value.{Value}
use Rattle.core_lang.specs.declared.value.Failure.{Failure}
use Rattle.core_lang.specs.declared.shape.Shape.{Shape}
use Rattle.core_lang.specs.declared.tree.Operation.{Operation}
use Rattle.core_lang.specs.Theory.Lists.{operations, all_of, any_of, value_of-Chain, truth_of-And, truth_of-Or}
use Rattle.core_lang.specs.Meaning.{joined, value_of, truth_of}
use Rattle.meaning.specs.Working.Undo.{undone}

pub undone-push : (ws : List (ℕ × Value)) (cell : ℕ) (value : Value) (heap : List Value) →
    undone (ws ++ (cell, value) ∷ []) heap ≡ undone ws (slice_set heap cell value)
undone-push [] cell value heap = refl
undone-push (w ∷ ws) cell value heap = ap (λ h. slice_set h w.0 w.1) (undone-push ws cell value heap)

pub operations-failed : (os : List Operation) (shape : Shape) (locals heap : List Value) (f : Failure) →
    operations os shape locals heap (Err f) ≡ Err f
operations-failed [] shape locals heap f = refl
operations-failed (o ∷ os) shape locals heap f = operations-failed os shape locals heap f

pub undone-written : (ws ws' : List (ℕ × Value)) (cell : ℕ) (old value : Value) (heap : List Value) →
    ws' ≡ ws ++ (cell, old) ∷ [] → old ≡ slice_index_or heap cell old → cell < length heap →
    undone ws' (slice_set heap cell value) ≡ undone ws heap
undone-written ws ws' cell old value heap e is within =
    ap (λ w. undone w (slice_set heap cell value)) e
    ∙ undone-push ws cell old (slice_set heap cell value)
    ∙ ap (undone ws) (set-set heap cell value old ∙ ap (set heap cell) is ∙ set-get_or heap cell old)

pub undone-popped : (ws ws' : List (ℕ × Value)) (cell : ℕ) (value : Value) (heap : List Value) →
    ws ≡ ws' ++ (cell, value) ∷ [] →
    undone ws' (slice_set heap cell value) ≡ undone ws heap
undone-popped ws ws' cell value heap e = sym (ap (λ w. undone w heap) e ∙ undone-push ws' cell value heap)

pub ruleset chains = (value_of-Chain, operations-failed)

pub chain_fails : (items : List Operation) (i : ℕ) (item : Operation) (shape : Shape) (locals heap : List Value) (left whole : Result Value Failure) (f : Failure) →
    i < length items → item ≡ get_or items i item → joined item.operator left (value_of item.operand shape locals heap) ≡ Err f →
    operations (drop i items) shape locals heap left ≡ whole → Err f ≡ whole
chain_fails items i item shape locals heap left whole f lt is fails e =
    sym (operations-failed (drop (suc i) items) shape locals heap f)
    ∙ ap (operations (drop (suc i) items) shape locals heap) (sym fails)
    ∙ ap (λ os. operations os shape locals heap left) (ap (λ x. x ∷ drop (suc i) items) is ∙ sym (drop-cons items i item lt))
    ∙ e

pub and_starts : (e : Condition) (before : Vec Condition Global) (last : Box Condition Global) (items : List Condition) (shape : Shape) (locals heap : List Value) →
    e ≡ And before last → items ≡ before.items →
    all_of items shape locals heap (truth_of last.value shape locals heap) ≡ truth_of e shape locals heap
and_starts e before last items shape locals heap is all =
    ap (λ cs. all_of cs shape locals heap (truth_of last.value shape locals heap)) all
    ∙ sym (truth_of-And before last shape locals heap)
    ∙ ap (λ x. truth_of x shape locals heap) (sym is)

pub or_starts : (e : Condition) (before : Vec Condition Global) (last : Box Condition Global) (items : List Condition) (shape : Shape) (locals heap : List Value) →
    e ≡ Or before last → items ≡ before.items →
    any_of items shape locals heap (truth_of last.value shape locals heap) ≡ truth_of e shape locals heap
or_starts e before last items shape locals heap is all =
    ap (λ cs. any_of cs shape locals heap (truth_of last.value shape locals heap)) all
    ∙ sym (truth_of-Or before last shape locals heap)
    ∙ ap (λ x. truth_of x shape locals heap) (sym is)

pub undone-length : (ws : List (ℕ × Value)) (heap : List Value) → length (undone ws heap) ≡ length heap
undone-length [] heap = refl
undone-length (w ∷ ws) heap = length-set (undone ws heap) w.0 w.1 ∙ undone-length ws heap

pub chain_fails_first : (e : Expr) (first : Box Expr Global) (rest : Vec Operation Global) (inner : Expr) (shape : Shape) (locals heap : List Value) (f : Failure) →
    e ≡ Chain first rest → inner ≡ first.value → Err f ≡ value_of inner shape locals heap → Err f ≡ value_of e shape locals heap
chain_fails_first e first rest inner shape locals heap f is one fails =
    sym (ap (λ x. value_of x shape locals heap) is
    ∙ value_of-Chain first rest shape locals heap
    ∙ ap (operations rest.items shape locals heap) (ap (λ x. value_of x shape locals heap) (sym one) ∙ sym fails)
    ∙ operations-failed rest.items shape locals heap f)
