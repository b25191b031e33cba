use Rattle.explanations.proofs.telling.told_of.Goals as goal

pub told_of_fault-requires-clause-given : goal.told_of_fault-requires-clause-given
told_of_fault-requires-clause-given c = rw c.in-Err-Fault.field-0-is at c.in-Err-Fault.ensures.fault
