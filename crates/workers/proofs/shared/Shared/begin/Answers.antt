use Rattle.workers.proofs.Seats.{has_begun}
use Rattle.workers.proofs.Printed.{room_within, has_room}
use Rattle.workers.proofs.shared.Shared.begin.Goals as goal

pub room-prints-requires : goal.room-prints-requires
room-prints-requires g c =
    room_within g.J.Naming.plan _ c.args.request.now.section c.args.request.now.arguments.now c.args.self.now.rooms c.requires.fits

pub returns-clause-ok : goal.returns-clause-ok
returns-clause-ok g c =
    rw c.awake-next.ensures
    (has_begun g.J.Naming.plan _ c.args.request.now.section c.args.request.now.arguments.now c.args.ready _ _ c.in-Ok-prepare.ensures.ok
    c.args.self.now.is c.in-Ok-begun.ensures.ok)

pub returns-clause-room : goal.returns-clause-room
returns-clause-room g c =
    has_room g.J.Naming.plan _ c.args.request.now.section _ _ c.args.self.now.rooms c.room-prints.ensures c.in-Ok.ensures
