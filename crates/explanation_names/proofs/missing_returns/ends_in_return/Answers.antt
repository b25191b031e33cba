use Rattle.std.proofs.Common.{refl}
use Rattle.explanation_names.proofs.Ends.{last_is_return, last_is_other}
use Rattle.explanation_names.proofs.missing_returns.ends_in_return.Goals as goal

pub returns-in-Return : goal.returns-in-Return
returns-in-Return c =
    (λ _. last_is_return c.args.stmts.now c.last-item.result _ _ c.in-len1-up.len_at_least c.last-item.is c.in-Return.is, λ h. refl)

pub returns-in_default : goal.returns-in_default
returns-in_default c =
    (λ e. absurd cc, λ h. absurd (last_is_other c.args.stmts.now c.last-item.result c.in-len1-up.len_at_least c.last-item.is c.in_default.not-Return h))
