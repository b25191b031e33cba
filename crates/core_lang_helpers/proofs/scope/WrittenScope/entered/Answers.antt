use Rattle.std.proofs.Common.{refl}
use Rattle.core_lang_helpers.proofs.Pairs.{parameter_pushed}
use Rattle.core_lang_helpers.proofs.scope.WrittenScope.entered.Goals as goal

pub loop-k-preserved : goal.loop-k-preserved
loop-k-preserved c =
    parameter_pushed c.loop-k.pairs.items c.push.new.self.items _ c.loop-k.k c.args.first c.in_ok-push.ensures.items refl refl c.loop-k.invariant
