use Rattle.std.proofs.Common.{arith}
use Rattle.core_lang_helpers.specs.Working.Scopes.{pairs_of}
use Rattle.core_lang_helpers.proofs.Steps.{wrote_let}
use Rattle.core_lang_helpers.proofs.scope.WrittenScope.lets.Goals as goal

pub loop-argument-preserved : goal.loop-argument-preserved
loop-argument-preserved c =
    let number = c.loop-argument.invariant.number in
    record {
      number = omega (arith, number);
      lets = wrote_let c.args.start (pairs_of c.args.self.now) c.args.arguments.now c.loop-argument.argument-index c.argument-item.result _ c.args.first c.loop-argument.local
          c.args.written.now.items c.loop-argument.written.items c.push.new.self.items c.loop-argument-test.true c.argument-item.is number
          c.loop-argument.invariant.lets c.in_ok-expr.ensures c.in_ok-push.ensures.items;
    }
