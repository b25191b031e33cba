use Rattle.std.proofs.Common.{refl, map}
use Rattle.std.specs.List.{flat_map}
use Rattle.syntax.specs.Views.{param_of}
use Rattle.explanation_names.specs.Working.UsesFound.{uses_of_param}
use Rattle.explanation_names.specs.Working.Values.{locals_at}
use Rattle.explanation_names.proofs.Added.{tells_first, item_said, all_said}
use Rattle.explanation_names.proofs.search.NameSearch.in_params.Goals as goal

pub loop-param-init : goal.loop-param-init
loop-param-init c = tells_first _ _ _

pub loop-param-preserved : goal.loop-param-preserved
loop-param-preserved c =
    item_said (λ xs. flat_map (uses_of_param (locals_at c.args.self.now)) (map param_of xs)) c.args.params.now c.loop-param.param-index c.param-item.result c.loop-param-test.true c.param-item.is refl
    c.loop-param.invariant c.in_type.ensures

pub returns : goal.returns
returns c =
    all_said (λ xs. flat_map (uses_of_param (locals_at c.args.self.now)) (map param_of xs)) c.args.params.now c.loop-param.param-index c.loop-param-test.false refl c.loop-param.invariant
