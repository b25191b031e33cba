use Rattle.std.proofs.Common.{sym, append-nil}
use Rattle.explanations.proofs.Seen.{if_seen}
use Rattle.explanations.proofs.names.push_called.Goals as goal

pub returns-in-If : goal.returns-in-If
returns-in-If c = rw (if_seen c.args.stmt.now c.in-If.field-0 c.in-If.is) (sym (append-nil _))
