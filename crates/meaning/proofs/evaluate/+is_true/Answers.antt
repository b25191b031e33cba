use Rattle.std.proofs.Common.{◌∙◌, Ok, Err, sym, ap}
use Rattle.std.proofs.lemmas.Result.{err_from_is_err_and}
use Rattle.core_lang.specs.Meaning.{truth_of}
use Rattle.meaning.proofs.Junctions.{and_more, or_more, and_ends, or_ends}
use Rattle.meaning.proofs.Steps.{and_starts, or_starts}
use Rattle.meaning.proofs.evaluate.+is_true.Goals as goal

pub loop-c-init : goal.loop-c-init
loop-c-init t c = and_starts _ _ _ _ _ _ _ c.in-And.is c.deref-c-items.ensures.value

pub loop-c-2-init : goal.loop-c-2-init
loop-c-2-init t c = or_starts _ _ _ _ _ _ _ c.in-Or.is c.deref-c-items-in-Or.ensures.value

pub loop-c-preserved : goal.loop-c-preserved
loop-c-preserved t c =
    and_more c.deref-c-items.result.now c.loop-c.c-index c.args.shape.now c.args.locals.now c.args.heap.now _ _ c.c-item.result _ c.loop-c-test.true c.c-item.is
    (ap Ok (sym c.if-not-branch.false) ∙ c.in_ok-is_true-in-And.ensures) c.loop-c.invariant

pub loop-c-2-preserved : goal.loop-c-2-preserved
loop-c-2-preserved t c =
    or_more c.deref-c-items-in-Or.result.now c.loop-c-2.c-index c.args.shape.now c.args.locals.now c.args.heap.now _ _ c.c-item-in-loop-c-2.result _ c.loop-c-2-test.true c.c-item-in-loop-c-2.is
    (ap Ok (sym c.if-branch.false) ∙ c.in_ok-is_true-in-Or.ensures) c.loop-c-2.invariant

pub returns-then-not-branch : goal.returns-then-not-branch
returns-then-not-branch t c =
    and_more c.deref-c-items.result.now c.loop-c.c-index c.args.shape.now c.args.locals.now c.args.heap.now _ _ c.c-item.result _ c.loop-c-test.true c.c-item.is
    (ap Ok (sym c.if-not-branch.true) ∙ c.in_ok-is_true-in-And.ensures) c.loop-c.invariant

pub returns-then-branch : goal.returns-then-branch
returns-then-branch t c =
    or_more c.deref-c-items-in-Or.result.now c.loop-c-2.c-index c.args.shape.now c.args.locals.now c.args.heap.now _ _ c.c-item-in-loop-c-2.result _ c.loop-c-2-test.true c.c-item-in-loop-c-2.is
    (ap Ok (sym c.if-branch.true) ∙ c.in_ok-is_true-in-Or.ensures) c.loop-c-2.invariant

pub returns-in_err-is_true-in-And : goal.returns-in_err-is_true-in-And
returns-in_err-is_true-in-And t c =
    let p = err_from_is_err_and c.from_residual-in_err-is_true-in-And.result c.from_residual-in_err-is_true-in-And.ensures.1 in
    p.1 ∙ ap Err p.2
    ∙ and_more c.deref-c-items.result.now c.loop-c.c-index c.args.shape.now c.args.locals.now c.args.heap.now _ _ c.c-item.result _ c.loop-c-test.true c.c-item.is
    c.in_err-is_true-in-And.ensures c.loop-c.invariant

pub returns-in_err-is_true-in-Or : goal.returns-in_err-is_true-in-Or
returns-in_err-is_true-in-Or t c =
    let p = err_from_is_err_and c.from_residual-in_err-is_true-in-Or.result c.from_residual-in_err-is_true-in-Or.ensures.1 in
    p.1 ∙ ap Err p.2
    ∙ or_more c.deref-c-items-in-Or.result.now c.loop-c-2.c-index c.args.shape.now c.args.locals.now c.args.heap.now _ _ c.c-item-in-loop-c-2.result _ c.loop-c-2-test.true c.c-item-in-loop-c-2.is
    c.in_err-is_true-in-Or.ensures c.loop-c-2.invariant

pub returns-after-loop-c : goal.returns-after-loop-c
returns-after-loop-c t c =
    c.is_true-in-And.ensures ∙ ap (λ x. truth_of x c.args.shape.now c.args.locals.now c.args.heap.now) c.deref-in-And.ensures
    ∙ and_ends c.deref-c-items.result.now c.loop-c.c-index c.args.shape.now c.args.locals.now c.args.heap.now _ _ c.loop-c-test.false c.loop-c.invariant

pub returns-after-loop-c-2 : goal.returns-after-loop-c-2
returns-after-loop-c-2 t c =
    c.is_true-in-Or.ensures ∙ ap (λ x. truth_of x c.args.shape.now c.args.locals.now c.args.heap.now) c.deref-in-Or.ensures
    ∙ or_ends c.deref-c-items-in-Or.result.now c.loop-c-2.c-index c.args.shape.now c.args.locals.now c.args.heap.now _ _ c.loop-c-2-test.false c.loop-c-2.invariant
