use Rattle.std.proofs.Common.{sym}
use Rattle.explanation_names.proofs.Seen.{none_declared}
use Rattle.explanation_names.proofs.statements.declared_by.Goals as goal

pub returns-in-If : goal.returns-in-If
returns-in-If c = sym (none_declared c.args.s.now _ c.in-If.is)
