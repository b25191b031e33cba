use Rattle.std.proofs.Common.{length, subst}
use Rattle.lowering.specs.Plans.{IsCompiled}
use Rattle.workers.proofs.Seats.{answered, noted_still}
use Rattle.workers.proofs.Accepted.{answered_as_accepted}
use Rattle.workers.proofs.Printed.{entry_fits}
use Rattle.workers.proofs.shared.Shared.run.Goals as goal

pub returns-in-Ok-finish-clause-answer : goal.returns-in-Ok-finish-clause-answer
returns-in-Ok-finish-clause-answer g c =
    let section = c.args.request.now.section in
    let arguments = c.args.request.now.arguments.now in
    answered g.J.Naming.plan c.in-Ok-finish.position section arguments c.args.ready _ _ _ _ _ c.args.seen.now c.finish.new.seen
    c.in_ok-room.ensures.ok c.in-Ok.ensures.ok c.entry.ensures
    (noted_still c.shrink_to_fit.new.self
    (c.of-done.ensures
    (entry_fits g.J.Naming.plan _ _ section _ arguments c.args.ready _ _ _ c.no_run_prints_more.ensures c.in_ok-room.ensures.room
    c.in_ok-room.ensures.ok c.in-Ok.ensures.ok c.entry.ensures c.in-Ok-finish.ensures.entered))
    c.shrink_to_fit.ensures.items) c.in-Ok-finish.ensures.entered c.in-Ok-finish.ensures.ok
    c.in-Ok-finish.ensures.own c.in-Ok-finish.ensures.sound

pub returns-in-Ok-finish-clause-accepted : goal.returns-in-Ok-finish-clause-accepted
returns-in-Ok-finish-clause-accepted g c =
    let compiled = subst IsCompiled c.args.self.now.is c.expanded-shown.ensures.compiled in
    answered_as_accepted g.J.Naming.plan c.in-Ok-finish.position c.args.request.now.section (length c.args.seen.now) c.args.request.now.arguments.now c.args.ready _ _ _ _
    c.legal_is_serial.ensures c.compiled_run_alike.ensures c.writing_out_changes_nothing.ensures.serial compiled c.requires.fits
    c.in_ok-room.ensures.ok c.in-Ok.ensures.ok c.entry.ensures
    (noted_still c.shrink_to_fit.new.self
    (c.of-done.ensures
    (entry_fits g.J.Naming.plan _ _ c.args.request.now.section _ c.args.request.now.arguments.now c.args.ready _ _ _ c.no_run_prints_more.ensures
    c.in_ok-room.ensures.room c.in_ok-room.ensures.ok c.in-Ok.ensures.ok c.entry.ensures c.in-Ok-finish.ensures.entered))
    c.shrink_to_fit.ensures.items)
    c.in-Ok-finish.ensures.entered
