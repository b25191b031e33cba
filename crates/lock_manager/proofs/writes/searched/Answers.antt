use Rattle.std.proofs.Common.{sym, ap, ◌∙◌}
use Rattle.std.proofs.lemmas.List.{take_all}
use Rattle.code.specs.Memory.{value_at}
use Rattle.lock_manager.proofs.Heaps.{none_before_more, first_found}
use Rattle.lock_manager.proofs.writes.searched.Goals as goal

pub returns-then-number-cell : goal.returns-then-number-cell
returns-then-number-cell c = sym (first_found c.args.writes.now c.loop-number.number-index c.args.cell _ c.loop-number-test.true c.loop-number.invariant c.if-number-cell.true)

pub loop-number-preserved : goal.loop-number-preserved
loop-number-preserved c = none_before_more c.args.writes.now c.loop-number.number-index c.args.cell _ c.loop-number-test.true c.loop-number.invariant c.if-number-cell.false

pub returns : goal.returns
returns c = sym (ap (λ ws. value_at ws c.args.cell) (sym (take_all c.loop-number.number-index c.args.writes.now c.loop-number-test.false)) ∙ c.loop-number.invariant)
