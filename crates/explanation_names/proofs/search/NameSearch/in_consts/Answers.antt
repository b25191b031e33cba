use Rattle.std.proofs.Common.{refl, map}
use Rattle.std.specs.List.{flat_map}
use Rattle.syntax.specs.Views.{const_of}
use Rattle.explanation_names.specs.Working.UsesFound.{uses_of_const}
use Rattle.explanation_names.specs.Working.Values.{locals_at}
use Rattle.explanation_names.proofs.Added.{tells_first, item_said, all_said}
use Rattle.explanation_names.proofs.search.NameSearch.in_consts.Goals as goal

pub loop-c-init : goal.loop-c-init
loop-c-init c = tells_first _ _ _

pub loop-c-preserved : goal.loop-c-preserved
loop-c-preserved c =
    item_said (λ xs. flat_map (uses_of_const (locals_at c.args.self.now)) (map const_of xs)) c.args.constants.now c.loop-c.c-index c.c-item.result c.loop-c-test.true c.c-item.is refl
    c.loop-c.invariant c.in_const.ensures

pub returns : goal.returns
returns c =
    all_said (λ xs. flat_map (uses_of_const (locals_at c.args.self.now)) (map const_of xs)) c.args.constants.now c.loop-c.c-index c.loop-c-test.false refl c.loop-c.invariant
