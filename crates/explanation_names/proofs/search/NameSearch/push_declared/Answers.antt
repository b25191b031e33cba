use Rattle.std.proofs.Common.{ap, map}
use Rattle.std.specs.List.{filter_map}
use Rattle.syntax.specs.Views.{decl_of}
use Rattle.explanation_names.specs.Working.Found.{declared_as}
use Rattle.explanation_names.proofs.Added.{at_first, name_added, all_named, spelled}
use Rattle.explanation_names.proofs.search.NameSearch.push_declared.Goals as goal

pub loop-decl-init : goal.loop-decl-init
loop-decl-init c = at_first _ _

pub loop-decl-preserved : goal.loop-decl-preserved
loop-decl-preserved c =
    name_added (declared_as c.args.sought) decl_of c.items-decl-items.result.now c.loop-decl.decl-index c.decl-item.result _ c.loop-decl-test.true c.decl-item.is
    c.declared_as.ensures c.loop-decl.invariant c.push_some.ensures

pub returns : goal.returns
returns c =
    spelled (ap (λ ds. filter_map (declared_as c.args.sought) (map decl_of ds)) c.items-decl-items.ensures)
    (all_named (declared_as c.args.sought) decl_of c.items-decl-items.result.now c.loop-decl.decl-index c.loop-decl-test.false c.loop-decl.invariant)
