use Rattle.std.proofs.Common.{arith}
use Rattle.std.proofs.lemmas.Grind.{common_steps}
use Rattle.resolution.specs.Theory.Blocks.{last_push, last_final}
use Rattle.types_bodies.proofs.target.assignee_along.Goals as goal

pub returns-in-Local-clause-value : goal.returns-in-Local-clause-value
returns-in-Local-clause-value c = let h = last_push c.pop.new.self.items c.in-Some-Field.structure c.in-Some-Field.number in grind (arith, common_steps, h)

pub returns-in-Local-clause-faults : goal.returns-in-Local-clause-faults
returns-in-Local-clause-faults c = let h = last_push c.pop.new.self.items c.in-Some-Field.structure c.in-Some-Field.number in grind (arith, common_steps, h)

pub returns-in_default-m : goal.returns-in_default-m
returns-in_default-m c = let h = last_push c.pop.new.self.items c.in-Some-Field.structure c.in-Some-Field.number in grind (arith, common_steps, h)

pub returns-in-Some-Final-clause-value : goal.returns-in-Some-Final-clause-value
returns-in-Some-Final-clause-value c = let h = last_final c.pop.new.self.items c.in-Some-Final.structure c.in-Some-Final.number in grind (arith, common_steps, h)

pub returns-in-Some-Final-clause-faults : goal.returns-in-Some-Final-clause-faults
returns-in-Some-Final-clause-faults c = let h = last_final c.pop.new.self.items c.in-Some-Final.structure c.in-Some-Final.number in grind (arith, common_steps, h)
