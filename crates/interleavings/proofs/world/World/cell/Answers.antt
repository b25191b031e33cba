use Rattle.std.proofs.Common.{ap, ◌∙◌}
use Rattle.interleavings.specs.Threads.{ThreadsOf, cell_in}
use Rattle.interleavings.proofs.Cells.{cell_seen}
use Rattle.interleavings.proofs.world.World.cell.Goals as goal

pub returns : goal.returns
returns c =
    c.cell.ensures ∙ cell_seen c.self.inside.manager c.args.cell ∙ ap (λ (w : ThreadsOf). cell_in w.world c.args.cell) c.self.view_is
