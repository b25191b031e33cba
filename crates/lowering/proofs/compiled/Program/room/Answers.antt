use Rattle.std.proofs.Common.{◌<◌, length, refl, sym, subst}
use Rattle.std.proofs.lemmas.Option.{slice_get_read}
use Rattle.lowering.specs.Plans.{Plan}
use Rattle.lowering.specs.Working.Compiled.{IsRoomAt, written_in}
use Rattle.lowering.proofs.compiled.Program.room.Goals as goal

pub returns : goal.returns
returns c =
    let rooms = c.self.inside.rooms.items in
    let k = c.args.section in
    let asked : k < length (written_in c.self.inside.accepted c.self.inside.written).sections.items =
    subst (λ (plan : Plan). k < length plan.program.sections.items) (sym c.self.view_is) c.requires in
    let there : k < length rooms = subst (λ n. k < n) (sym c.self.invariant.are_rooms.long) asked in
    subst (λ plan. IsRoomAt plan k c.index.result.now) c.self.view_is
    (λ section here. c.self.invariant.are_rooms.each k section c.index.result.now here
    (slice_get_read rooms (length rooms) k c.index.result.now refl there c.index.ensures))
