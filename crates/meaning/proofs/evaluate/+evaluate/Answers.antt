use Rattle.meaning.specs.Working.Chains.{chain_goes}
use Rattle.meaning.proofs.Junctions.{chain_ends}
use Rattle.std.proofs.Common.{sym, ap, ◌∙◌, Ok, Err}
use Rattle.std.proofs.lemmas.Result.{err_from_is_err_and}
use Rattle.core_lang.specs.Meaning.{joined}
use Rattle.meaning.specs.Working.Chains.{chain_starts}
use Rattle.meaning.proofs.Steps.{chain_fails, chain_fails_first}
use Rattle.meaning.proofs.evaluate.+evaluate.Goals as goal

pub evaluate-loop-operation-init : goal.evaluate-loop-operation-init
evaluate-loop-operation-init t c =
    chain_starts _ _ _ _ _ _ _ _ _ c.in-Chain.is c.deref-operation-items.ensures.value c.deref-in-Chain.ensures c.in_ok-value-in-Chain.ensures

pub evaluate-returns-in_err-right-in-Chain : goal.evaluate-returns-in_err-right-in-Chain
evaluate-returns-in_err-right-in-Chain t c =
    let p = err_from_is_err_and c.from_residual-in_err-right-in-Chain.result c.from_residual-in_err-right-in-Chain.ensures.1 in
    rw (p.1, p.2) (chain_fails _ _ _ _ _ _ _ _ _ c.loop-operation-test.true c.operation-item.is
    (ap (joined c.operation-item.result.operator (Ok c.loop-operation.value)) (sym c.in_err-right-in-Chain.ensures)) c.loop-operation.invariant)

pub evaluate-returns-in_err-value-in-Chain-2 : goal.evaluate-returns-in_err-value-in-Chain-2
evaluate-returns-in_err-value-in-Chain-2 t c =
    let p = err_from_is_err_and c.from_residual-in_err-value-in-Chain-2.result c.from_residual-in_err-value-in-Chain-2.ensures.1 in
    rw (p.1, p.2) (chain_fails _ _ _ _ _ _ _ _ _ c.loop-operation-test.true c.operation-item.is
    (ap (joined c.operation-item.result.operator (Ok c.loop-operation.value)) (sym c.in_ok-right-in-Chain.ensures) ∙ sym c.in_err-value-in-Chain-2.ensures) c.loop-operation.invariant)

pub evaluate-loop-operation-preserved : goal.evaluate-loop-operation-preserved
evaluate-loop-operation-preserved t c =
    chain_goes _ _ _ _ _ _ _ _ _ c.loop-operation-test.true c.operation-item.is
    (ap (joined c.operation-item.result.operator (Ok c.loop-operation.value)) (sym c.in_ok-right-in-Chain.ensures) ∙ sym c.in_ok-value-in-Chain-2.ensures) c.loop-operation.invariant

pub evaluate-returns-after-loop-operation : goal.evaluate-returns-after-loop-operation
evaluate-returns-after-loop-operation t c =
    chain_ends c.deref-operation-items.result.now c.loop-operation.operation-index c.args.shape.now c.args.locals.now c.args.heap.now _ _ c.loop-operation-test.false c.loop-operation.invariant

pub evaluate-returns-in_err-value-in-Chain : goal.evaluate-returns-in_err-value-in-Chain
evaluate-returns-in_err-value-in-Chain t c =
    let p = err_from_is_err_and c.from_residual-in_err-value-in-Chain.result c.from_residual-in_err-value-in-Chain.ensures.1 in
    p.1 ∙ ap Err p.2 ∙ chain_fails_first _ _ _ _ _ _ _ _ c.in-Chain.is c.deref-in-Chain.ensures c.in_err-value-in-Chain.ensures
