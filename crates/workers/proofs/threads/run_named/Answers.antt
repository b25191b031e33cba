use Rattle.std.proofs.Common.{arith, ◌≡◌, length}
use Rattle.workers.specs.Working.Within.{AreInOrder}
use Rattle.workers.proofs.Scripts.{has_script, all_of_scripts}
use Rattle.workers.proofs.threads.run_named.Goals as goal

pub returns-in-Ok-clause-scripts : goal.returns-in-Ok-clause-scripts
returns-in-Ok-clause-scripts g c = λ t below.
    let plan = g.J.Naming.plan in
    let count = c.threads-count.result in
    let long : count ≡ length c.args.program.now.program.threads.items = c.threads-count.ensures in
    let order : AreInOrder plan count c.in-Some.seats.items = rw c.in-Some.is at c.in_ok-seats.ensures in
    has_script plan count c.in-Some.seats.items c.in-Ok.closed.history order c.in-Ok.ensures.answers t (omega (arith, below, long))

pub returns-in-Ok-clause-nobody_else : goal.returns-in-Ok-clause-nobody_else
returns-in-Ok-clause-nobody_else g c =
    let plan = g.J.Naming.plan in
    let order : AreInOrder plan c.threads-count.result c.in-Some.seats.items = rw c.in-Some.is at c.in_ok-seats.ensures in
    all_of_scripts plan c.threads-count.result c.in-Some.seats.items c.in-Ok.closed.history order c.in-Ok.ensures.answers c.in-Ok.ensures.no_other
