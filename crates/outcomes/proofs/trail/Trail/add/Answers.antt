use Rattle.std.proofs.Common.{[], sym, append-nil}
use Rattle.outcomes.proofs.trail.Trail.add.Goals as goal

pub loop-thread-init : goal.loop-thread-init
loop-thread-init c = record { longer = ([], sym (append-nil c.args.self.now)); within = c.requires.0; order = c.requires.1 }
