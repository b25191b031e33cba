use Rattle.compiler.proofs.passes.with_cycle.Goals as goal

pub returns-in-Ok-clause-first : goal.returns-in-Ok-clause-first
returns-in-Ok-clause-first c = rw c.program.ensures at c.in-Ok.ensures.first

pub returns-in-Ok-clause-told : goal.returns-in-Ok-clause-told
returns-in-Ok-clause-told c = rw c.program.ensures at c.in-Ok.ensures.of_cycle
