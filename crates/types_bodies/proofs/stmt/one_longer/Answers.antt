use Rattle.std.proofs.Common.{None, refl}
use Rattle.types_bodies.proofs.Blocks.{one_more}
use Rattle.types_bodies.proofs.stmt.one_longer.Goals as goal

pub returns : goal.returns
returns c = one_more (record { stmts = c.push.new.self; result = None }) c.args.stmts.items c.args.stmt c.in_default.ensures.items refl
