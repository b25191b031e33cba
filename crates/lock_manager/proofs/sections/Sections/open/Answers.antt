use Rattle.std.proofs.Common.{◌∙◌}
use Rattle.std.proofs.Math.ListN.{length-set}
use Rattle.lock_manager.proofs.sections.Sections.open.Goals as goal

pub invariant_of-self : goal.invariant_of-self
invariant_of-self c = (length-set c.self.inside.slots.items c.args.thread _ ∙ c.self.invariant.0, c.self.invariant.1)
