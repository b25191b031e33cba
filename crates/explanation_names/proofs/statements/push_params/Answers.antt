use Rattle.std.proofs.Common.{refl}
use Rattle.explanation_names.proofs.Added.{all_bound, binds_first, param_bound}
use Rattle.explanation_names.proofs.statements.push_params.Goals as goal

pub loop-param-init : goal.loop-param-init
loop-param-init c = binds_first _ _ _

pub loop-param-preserved : goal.loop-param-preserved
loop-param-preserved c =
    param_bound c.args.params.now c.loop-param.param-index c.param-item.result _ c.loop-param-test.true c.param-item.is refl c.loop-param.invariant c.bind.ensures

pub returns : goal.returns
returns c = all_bound c.args.params.now c.loop-param.param-index c.loop-param-test.false c.loop-param.invariant
