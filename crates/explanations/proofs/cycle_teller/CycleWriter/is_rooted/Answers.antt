use Rattle.std.proofs.Common.{refl, length}
use Rattle.std.proofs.lemmas.Option.{slice_get_read}
use Rattle.explanations.proofs.Found.{root_decides, other_class}
use Rattle.explanations.proofs.cycle_teller.CycleWriter.is_rooted.Goals as goal

pub returns-then-path-class : goal.returns-then-path-class
returns-then-path-class c =
    let x = c.args.self.now.found.now in
    let w = c.index-path.result.now in
    let there = slice_get_read x.paths.items (length x.paths.items) c.args.number w refl c.requires.within c.index-path.ensures in (
      λ e. absurd cc,
      λ h. absurd (other_class c.args.self.now.program.now c.args.self.now.section.now x c.requires.paths c.args.number c.args.class w there
          c.args.local c.if-path-class.true h),
    )

pub returns : goal.returns
returns c =
    let x = c.args.self.now.found.now in
    let w = c.index-path.result.now in
    let there = slice_get_read x.paths.items (length x.paths.items) c.args.number w refl c.requires.within c.index-path.ensures in
    rw c.begins_at.ensures
    (root_decides c.args.self.now.program.now c.args.self.now.section.now x c.requires.paths c.args.number c.args.class w there
    c.args.local c.if-path-class.false)
