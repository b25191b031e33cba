use Rattle.std.proofs.Common.{refl, length}
use Rattle.std.proofs.lemmas.Option.{slice_get_read}
use Rattle.explanations.proofs.Found.{class_decides}
use Rattle.explanations.proofs.cycle_teller.CycleWriter.is_of_class.Goals as goal

pub returns : goal.returns
returns c =
    let x = c.args.self.now.found.now in
    let w = c.index-path.result.now in
    class_decides c.args.self.now.program.now c.args.self.now.section.now x c.requires.paths c.args.number c.args.class w
    (slice_get_read x.paths.items (length x.paths.items) c.args.number w refl c.requires.within c.index-path.ensures)
