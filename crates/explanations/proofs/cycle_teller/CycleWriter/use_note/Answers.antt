use Rattle.std.proofs.Common.{◌∙◌, refl, sym, ap, subst, length, Some}
use Rattle.std.proofs.lemmas.Option.{slice_get_read, slice_get_within}
use Rattle.flow.specs.Working.PointList.{point_at}
use Rattle.flow.specs.Points.{points}
use Rattle.locks.specs.LockPaths.{LockPath, Uses, lock_path_of}
use Rattle.explanations.proofs.Found.{listed_within, same_path, point_there}
use Rattle.explanations.proofs.cycle_teller.CycleWriter.use_note.Goals as goal

pub returns : goal.returns
returns c =
    let program = c.args.self.now.program.now in
    let section = c.args.self.now.section.now in
    let x = c.args.self.now.found.now in
    let are = c.requires.paths in
    let u = c.used_path-used.ensures in
    let i = c.used_path-used.result in
    let w = c.index.result.now in
    let lt = listed_within program section x are i u.path u.listed in
    let there = slice_get_read x.paths.items (length x.paths.items) i w refl lt c.index.ensures in
    let same = same_path program section x are i c.args.class w there u.path u.listed in
    let q = c.index-points-point.result in
    let within = slice_get_within (points section) c.args.point u.uses.0 u.uses.1 in
    record {
      path = lock_path_of w;
      uses = subst (Uses program section c.args.point) same u.uses;
      of_class = ap (λ (p : LockPath). p.class) (sym same) ∙ u.of_class;
      stands = (point_at q, point_there section c.args.points.now c.args.point q c.requires.listed within c.index-points-point.is, ap Some c.start.ensures);
      words = c.in_ok-words.ensures;
    }
