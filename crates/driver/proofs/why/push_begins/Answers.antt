use Rattle.std.proofs.Common.{◌++◌}
use Rattle.std.specs.Fmt.{decimal}
use Rattle.std.specs.Prelude.{codes}
use Rattle.code.specs.Listing.{line}
use Rattle.driver.proofs.AddedTexts.{both_added}
use Rattle.driver.proofs.why.push_begins.Goals as goal

pub returns : goal.returns
returns c =
    both_added c.push_most.result (codes "expected: B from " ++ decimal c.args.least) (line (codes " to " ++ decimal c.args.most)) c.args.out.now c.push_least.new.out c.push_most.new.out
    c.in_ok-push_least.ensures c.push_most.ensures
