use Rattle.std.proofs.Common.{sym, ◌∙◌}
use Rattle.parser.specs.Working.Reading.{choose}
use Rattle.parser.specs.Working.Declarations.{global_at}
use Rattle.parser.proofs.decl.global.Goals as goal

pub returns : goal.returns
unfolding global_at choose
returns c = rw (c.in_ok-value_type.ensures, c.in_ok-name.ensures, sym c.is_sign_next.ensures ∙ c.if-is_sign_next.false) c.variable.ensures

pub returns-then-is_sign_next : goal.returns-then-is_sign_next
unfolding global_at choose
returns-then-is_sign_next c = rw (c.in_ok-value_type.ensures, c.in_ok-name.ensures, sym c.is_sign_next.ensures ∙ c.if-is_sign_next.true) c.array.ensures
