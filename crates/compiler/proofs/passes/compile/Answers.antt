use Rattle.compiler.proofs.passes.compile.Goals as goal

pub returns-in-Err-clause-fault : goal.returns-in-Err-clause-fault
returns-in-Err-clause-fault c = (rw c.in-Err.is at c.in_ok-ordered.ensures.cycle).first
