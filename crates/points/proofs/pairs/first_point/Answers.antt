use Rattle.std.proofs.Common.{◌<◌, length, sym, arith}
use Rattle.std.proofs.lemmas.Grind.{common_steps}
use Rattle.points.proofs.PairLists.{first_some, first_none}
use Rattle.std.proofs.lemmas.Bool.{eqb-true}
use Rattle.points.proofs.pairs.first_point.Goals as goal

pub returns-else-is_empty : goal.returns-else-is_empty
returns-else-is_empty c =
    let some : 0 < length c.args.parts.now = grind (arith, common_steps, c.is_empty.ensures, c.if-is_empty.false) in
    sym (first_some c.args.parts.now c.args.n c.args.next some)

pub returns-then-is_empty : goal.returns-then-is_empty
returns-then-is_empty c = sym (first_none c.args.parts.now c.args.n c.args.next (eqb-true (length c.args.parts.now) 0 (sym c.if-is_empty.ensures)))
