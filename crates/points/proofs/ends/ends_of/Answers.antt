use Rattle.flow.specs.Working.Parts.{skeleton_of}
use Rattle.points.proofs.EndLists.{are_all_there}
use Rattle.points.proofs.ends.ends_of.Goals as goal

pub returns : goal.returns
returns c = are_all_there (skeleton_of c.args.parts.now) c.new-ends.result.items c.push_ends.new.ends.items c.new-ends.ensures.items c.in_ok-push_ends.ensures
