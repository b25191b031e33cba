use Rattle.workers.proofs.Asked.{begun_on}
use Rattle.workers.proofs.Guarding.{same-trans}
use Rattle.workers.proofs.Parts.{begins_part, ran_part}
use Rattle.workers.proofs.guarded.Guarded.begin_on.Goals as goal

pub ask_first-requires-clause-part : goal.ask_first-requires-clause-part
ask_first-requires-clause-part g c =
    let plan = g.J.Naming.plan in
    ran_part c.sections_stay_part.ensures plan c.args.front.now _ _ c.in-Ok.running _ c.run.ensures.ran
    (begins_part plan c.args.front.now c.in-Ok.running c.in-Ok.ensures.ok.nothing)

pub returns-in-Ok-ask_first-clause-ok : goal.returns-in-Ok-ask_first-clause-ok
returns-in-Ok-ask_first-clause-ok g c =
    begun_on _ c.in-Ok.running _ c.in-Ok.ensures.ok
    (same-trans c.in-Ok.running _ _ c.run.ensures.same c.in-Ok-ask_first.ensures.ok)
