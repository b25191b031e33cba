use Rattle.std.proofs.Common.{sym}
use Rattle.explanation_names.proofs.VarStatements.{no_assignment}
use Rattle.explanation_names.proofs.vars.assigns.Goals as goal

pub returns-in_default : goal.returns-in_default
returns-in_default c = sym (no_assignment c.args.text.now c.args.stmt.now c.in_default.not-Assign)
