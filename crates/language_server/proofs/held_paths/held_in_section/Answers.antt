use Rattle.std.proofs.Common.{ℕ, List, subst}
use Rattle.std.proofs.lemmas.Result.{IfOk-weaker}
use Rattle.core_lang.specs.declared.typed.Typed.{Typed}
use Rattle.code.specs.Working.NumberLists.{number_lists}
use Rattle.points.specs.Working.Points.{ArePointsOf}
use Rattle.language_server.specs.Working.Lines.{AreNumbersOf}
use Rattle.language_server.proofs.Holding.{held_lists}
use Rattle.language_server.proofs.held_paths.held_in_section.Goals as goal

pub returns : goal.returns
returns c =
    let plan = c.args.program.now in
    let points = c.in_ok-points.points in
    IfOk-weaker c.held_at.result _ _
    (λ lists is section there.
    held_lists plan.program section plan.ranks points (number_lists lists.items)
    (subst (λ (t : Typed). ArePointsOf t c.args.number points) c.expanded.ensures.program c.in_ok-points.ensures section there)
    (subst (λ (ranks : List ℕ). AreNumbersOf points ranks (number_lists lists.items)) c.ranks.ensures is))
    c.held_at.ensures
