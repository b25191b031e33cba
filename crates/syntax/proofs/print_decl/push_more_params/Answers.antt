use Rattle.std.proofs.Common.{refl, map}
use Rattle.syntax.specs.Views.{param_of}
use Rattle.syntax.specs.Working.Printing.{many_text, after_comma, param_text}
use Rattle.syntax.proofs.Added.{followed_by, at_first, item_added, all_added}
use Rattle.syntax.proofs.print_decl.push_more_params.Goals as goal

pub params-init : goal.params-init
params-init c = at_first _ _

pub params-preserved : goal.params-preserved
params-preserved c =
    item_added (λ l. many_text (after_comma param_text) (map param_of l)) c.args.params.now c.params.param-index c.param-item.result c.params-test.true c.param-item.is refl c.params.invariant (followed_by c.push_str.ensures c.push_param.ensures)

pub returns : goal.returns
returns c =
    all_added (λ l. many_text (after_comma param_text) (map param_of l)) c.args.params.now c.params.param-index c.params-test.false refl c.params.invariant
