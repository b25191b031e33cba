use Rattle.std.proofs.Common.{refl}
use Rattle.core_lang_helpers.specs.Working.Scopes.{pairs_of, RenamesOperation}
use Rattle.core_lang_helpers.proofs.Pairs.{zip_one_more}
use Rattle.core_lang_helpers.proofs.Rows.{chain_renamed}
use Rattle.core_lang_helpers.proofs.scope.WrittenScope.+expr.Goals as goal

pub expr-returns-in_ok-rest-in-Chain : goal.expr-returns-in_ok-rest-in-Chain
expr-returns-in_ok-rest-in-Chain t c =
    chain_renamed (pairs_of c.args.self.now) c.args.e.now c.in-Chain.first c.in_ok-first-in-Chain.first c.in-Chain.rest c.in_ok-rest-in-Chain.rest
    c.deref-in-Chain.result.now c.deref-in-Chain-2.result.now c.in-Chain.is c.deref-in-Chain.ensures c.deref-in-Chain-2.ensures.value c.in_ok-first-in-Chain.ensures c.in_ok-rest-in-Chain.ensures

pub operations-loop-operation-preserved : goal.operations-loop-operation-preserved
operations-loop-operation-preserved t c =
    zip_one_more (RenamesOperation (pairs_of c.args.self.now)) c.args.operations.now c.loop-operation.operation-index c.operation-item.result _ c.loop-operation.made.items
    c.push.new.self.items c.loop-operation-test.true c.operation-item.is c.in_ok-push.ensures.items c.loop-operation.invariant (refl, c.in_ok-operand.ensures)
