use Rattle.std.proofs.Common.{refl, map}
use Rattle.std.specs.List.{flat_map}
use Rattle.syntax.specs.Views.{expr_of}
use Rattle.explanation_names.specs.Working.UsesFound.{uses_in}
use Rattle.explanation_names.specs.Working.Values.{locals_at}
use Rattle.explanation_names.proofs.Added.{tells_first, item_said, all_said}
use Rattle.explanation_names.proofs.search.NameSearch.in_exprs.Goals as goal

pub loop-e-init : goal.loop-e-init
loop-e-init c = tells_first _ _ _

pub loop-e-preserved : goal.loop-e-preserved
loop-e-preserved c =
    item_said (λ xs. flat_map (uses_in (locals_at c.args.self.now)) (map expr_of xs)) c.args.exprs.now c.loop-e.e-index c.e-item.result c.loop-e-test.true c.e-item.is refl
    c.loop-e.invariant c.in_expr.ensures

pub returns : goal.returns
returns c =
    all_said (λ xs. flat_map (uses_in (locals_at c.args.self.now)) (map expr_of xs)) c.args.exprs.now c.loop-e.e-index c.loop-e-test.false refl c.loop-e.invariant
