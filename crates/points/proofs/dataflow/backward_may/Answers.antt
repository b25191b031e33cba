use Rattle.std.proofs.Common.{◌≡◌, ◌-◌, [], length, arith}
use Rattle.flow.specs.Working.Parts.{skeleton_of}
use Rattle.points.specs.declared.dataflow.Join.TheVariants.{Union}
use Rattle.points.proofs.Whole.{back_whole}
use Rattle.points.proofs.dataflow.backward_may.Goals as goal

pub returns-clause-sets : goal.returns-clause-sets
returns-clause-sets c =
    let start : length c.args.gens.now - c.backward.new.sets.len ≡ 0 =
    omega (arith, c.requires, c.in_ok-backward.ensures.len) in
    back_whole (record { gens = c.args.gens; kills = record { ref_ptr = (0, 0); now = [] }; join = Union })
    (skeleton_of c.args.parts.now)
    c.new.result c.new.ensures c.in_ok-sets.sets c.backward.new.sets c.in_ok-sets.ensures.items _ start
    c.reverse.ensures.items
    c.in_ok-backward.ensures.sets
