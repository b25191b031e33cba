use Rattle.std.proofs.Common.{[], refl}
use Rattle.flow.specs.Working.Parts.{skeleton_of}
use Rattle.points.specs.declared.dataflow.Join.TheVariants.{Union}
use Rattle.points.proofs.Whole.{may_whole}
use Rattle.points.proofs.dataflow.forward_may.Goals as goal

pub returns-clause-sets : goal.returns-clause-sets
returns-clause-sets c =
    may_whole (record { gens = c.args.gens; kills = record { ref_ptr = (0, 0); now = [] }; join = Union })
    (skeleton_of c.args.parts.now)
    c.new.result c.new.ensures c.in_ok-sets.sets c.forward.new.sets c.in_ok-sets.ensures.items (refl, refl)
    c.in_ok-sets.ensures.len
    c.in_ok-forward.ensures.sets
