use Rattle.std.proofs.Common.{ap, ◌∙◌}
use Rattle.std.proofs.lemmas.Result.{IfOk-weaker}
use Rattle.code.specs.Listing.{line}
use Rattle.driver.specs.OrderGraphs as graphs
use Rattle.driver.proofs.ordering.faulty.Goals as goal

pub returns : goal.returns
returns c =
    IfOk-weaker c.refused.result _ _
    (λ answer is. graphs.refused (record {
      fault = c.args.fault.now;
      given = c.requires.given;
      ended = is.0;
      written = is.1;
      told = is.2 ∙ ap line c.in_ok-line.ensures;
    }) c.requires.bare)
    c.refused.ensures
