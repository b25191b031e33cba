use Rattle.std.proofs.Common.{◌<◌, ◌≤◌, List, length, subst}
use Rattle.core_lang.specs.declared.value.Value.{Value}
use Rattle.meaning.specs.Working.Execution.{state_of}
use Rattle.meaning.proofs.Leads.{written_within, written_past}
use Rattle.meaning.proofs.execution.Execution.write.Goals as goal

pub returns-clause-follows : goal.returns-clause-follows
returns-clause-follows c =
    written_within c.args.cell c.args.value (state_of c.args.self.now) c.write.new.self.now
    (subst (λ (cells : List Value). c.args.cell < length cells) c.cells.ensures c.if-cell-cells.false) c.in_ok-write.ensures.now

pub returns-then-cell-cells-clause-follows : goal.returns-then-cell-cells-clause-follows
returns-then-cell-cells-clause-follows c =
    written_past c.args.cell c.args.value (state_of c.args.self.now) (subst (λ (cells : List Value). length cells ≤ c.args.cell) c.cells.ensures c.if-cell-cells.true)
