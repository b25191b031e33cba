-- Calls of helpers: the values of the arguments, and the helper's run.
use Rattle.std.proofs.Common.{◌≡◌, ◌≢◌, ◌∙◌, ℕ, zero, suc, ◌-◌, ◌<◌, ℤ, List, ◌∷◌, ◌++◌, Result, Ok, Err, Some, Vec}
use Rattle.std.proofs.Common.{Global, length, map, get_or, drop, drop-cons, refl, sym, ap, subst, sub-one}
use Rattle.std.specs.Prelude.{IsErrAnd, slice_get}
use Rattle.core_lang.specs.declared.value.Value.{Value}
use Rattle.core_lang.specs.declared.value.Outcome.{Outcome}
use Rattle.core_lang.specs.declared.value.Failure.{Failure}
use Rattle.core_lang.specs.declared.value.Failure.TheVariants.{Trap, Wrong}
use Rattle.core_lang.specs.declared.shape.Shape.{Shape}
use Rattle.core_lang.specs.declared.tree.Expr.{Expr}
use Rattle.core_lang.specs.declared.tree.Section.{Section}
use Rattle.core_lang.specs.Cells.{with}
use Rattle.core_lang.specs.Meaning.{State, value_of, values_of, helped, run_from, if_there}
use Rattle.core_lang.specs.Whole.{Run, default_local}
use Rattle.meaning.specs.declared.execution.Halt.{Halt}
use Rattle.meaning.specs.declared.execution.Halt.TheVariants as halt
use Rattle.meaning.specs.Working.Halts.{halt_of, Concludes, Gives}

-- an argument without a value
pub argument_fails : (items : List Expr) (i : ℕ) (item : Expr) (shape : Shape) (locals heap front : List Value) (whole : Result (List Value) Failure)
    (f : Failure) → i < length items → item ≡ get_or items i item → value_of item shape locals heap ≡ Err f →
    with (values_of (drop i items) shape locals heap) (λ vs. Ok (front ++ vs)) ≡ whole → whole ≡ Err f
argument_fails items i item shape locals heap front whole f lt is fails e =
    let here : drop i items ≡ item ∷ drop (suc i) items = drop-cons items i item lt ∙ ap (λ x. x ∷ drop (suc i) items) (sym is) in
    sym e
    ∙ ap (λ es. with (values_of es shape locals heap) (λ vs. Ok (front ++ vs))) here
    ∙ ap (λ r. with (with r (λ v. with (values_of (drop (suc i) items) shape locals heap) (λ vs. Ok (v ∷ vs)))) (λ vs. Ok (front ++ vs))) fails

pub gives_none : (r : Result (Vec Value Global) Halt) (f : Failure) (whole : Result (List Value) Failure) →
    IsErrAnd r (λ y. y ≡ halt_of f) →
    whole ≡ Err f → Gives r whole
gives_none (Ok values) f whole is e = absurd is
gives_none (Err y) (Trap t) whole is e = subst (λ z. Gives (Err z) whole) (sym is) e
gives_none (Err y) Wrong whole is e = subst (λ z. Gives (Err z) whole) (sym is) e

-- the end of a run does not depend on the locals that it leaves
pub concludes_with : (r : Result Outcome Halt) (s : State) (locals : List Value) (run run' : Run) → run ≡ run' →
    Concludes r s run →
    Concludes r (record s { locals = locals }) run'
concludes_with (Ok outcome) s locals run run' same e = sym same ∙ e
concludes_with (Err (halt.Trap t)) s locals run run' same e = sym same ∙ e
concludes_with (Err halt.Beyond) s locals run run' same e = sym same ∙ e
concludes_with (Err halt.Wrong) s locals run run' same e = sym same ∙ e
concludes_with (Err halt.NoMemory) s locals run run' same e = e

-- the run of a helper that the program has
pub helper_run : (depth : ℕ) (shape : Shape) (n helper : ℕ) (arguments heap : List Value) (prints : List ℤ) (section : Section) (locals : List Value) →
    depth ≢ 0 → slice_get shape.helpers.items helper ≡ Some section →
    locals ≡ arguments ++ map default_local (drop (length arguments) section.locals.items) →
    run_from (helped (depth - 1) shape n) section shape n (record { locals = locals; heap = heap; prints = prints })
    ≡ helped depth shape n helper arguments heap prints
helper_run zero shape n helper arguments heap prints section locals some there opens = absurd (some refl)
helper_run (suc depth) shape n helper arguments heap prints section locals some there opens =
    ap (λ d. run_from (helped d shape n) section shape n (record { locals = locals; heap = heap; prints = prints })) (sub-one (suc depth))
    ∙ ap (λ (ls : List Value). run_from (helped depth shape n) section shape n (record { locals = ls; heap = heap; prints = prints })) opens
    ∙ sym (ap (λ o. if_there o (λ h. run_from (helped depth shape n) h shape n
    (record { locals = arguments ++ map default_local (drop (length arguments) h.locals.items); heap = heap; prints = prints }))) there)
