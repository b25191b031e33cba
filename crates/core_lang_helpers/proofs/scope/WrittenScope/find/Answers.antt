use Rattle.core_lang_helpers.proofs.Pairs.{found}
use Rattle.core_lang_helpers.proofs.scope.WrittenScope.find.Goals as goal

pub returns-then-pair-own : goal.returns-then-pair-own
returns-then-pair-own c =
    found c.args.self.now.pairs.items c.deref-pair-items.result.now c.loop-pair.pair-index record { own = 0; written = 0 } c.args.own
    c.deref-pair-items.ensures.value c.loop-pair-test.true c.if-pair-own.true
