use Rattle.std.proofs.Common.{sym}
use Rattle.explanation_names.proofs.Grown.{none_bound}
use Rattle.explanation_names.proofs.name_spaces.bound_name.Goals as goal

pub returns-in-If : goal.returns-in-If
returns-in-If c = sym (none_bound c.args.stmt.now _ c.in-If.is)
