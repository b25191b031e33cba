use Rattle.driver.proofs.ordering.order_answer.Goals as goal

pub faulty-requires-clause-given : goal.faulty-requires-clause-given
faulty-requires-clause-given c = rw c.in-Err-Fault.field-0-is at c.in-Err-Fault.ensures.fault
