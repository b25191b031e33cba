use Rattle.lockpaths.specs.Working.States.{or_local}
use Rattle.lockpaths.proofs.Walked.{read_as_kept}
use Rattle.lockpaths.proofs.forms.Forms.bind.Goals as goal

pub with-requires : goal.with-requires
with-requires c = (
  c.in_ok-other.other,
  read_as_kept c.other.new.self c.branch_of.new.self c.in_ok-branch.ensures.kept c.in_ok-other.other (or_local c.args.local c.args.value) c.in_ok-other.ensures.state,
  c.in_ok-branch.ensures.branch,
  c.bound_state-state.ensures,
)
