use Rattle.std.proofs.Common.{◌∙◌, refl, sym, ap, subst, length, Some}
use Rattle.std.proofs.lemmas.Option.{slice_get_read, slice_get_within}
use Rattle.flow.specs.Working.PointList.{point_at}
use Rattle.flow.specs.Points.{points}
use Rattle.locks.specs.LockPaths.{LockPath, Uses, BindsRoot, lock_path_of}
use Rattle.explanations.proofs.Found.{listed_within, same_path, point_there, used_somewhere}
use Rattle.explanations.proofs.cycle_teller.CycleWriter.binding_note.Goals as goal

pub bound_path-bound-requires-clause-point : goal.bound_path-bound-requires-clause-point
bound_path-bound-requires-clause-point c =
    let section = c.args.self.now.section.now in
    let b = c.requires.binds in
    let at = b.3.2 in
    let within = slice_get_within (points section) c.args.point at.0 at.1 in
    point_there section c.args.points.now c.args.point c.index-points-point.result c.requires.listed within c.index-points-point.is

pub returns : goal.returns
returns c =
    let program = c.args.self.now.program.now in
    let section = c.args.self.now.section.now in
    let x = c.args.self.now.found.now in
    let are = c.requires.paths in
    let b = c.bound_path-bound.ensures in
    let i = c.bound_path-bound.result in
    let w = c.index-path.result.now in
    let lt = listed_within program section x are i b.path b.listed in
    let there = slice_get_read x.paths.items (length x.paths.items) i w refl lt c.index-path.ensures in
    let same = same_path program section x are i c.args.class w there b.path b.listed in
    let user = used_somewhere program section x are c.each_path_once.ensures.listed i b.path b.listed in
    let q = c.index-points-point-2.result in
    let at = b.binds.2 in
    let within = slice_get_within (points section) c.args.point at.0 at.1 in
    record {
      path = lock_path_of w;
      user = user.0;
      uses = subst (Uses program section user.0) same user.1;
      binds = subst (BindsRoot section c.args.point) same b.binds;
      of_class = ap (λ (p : LockPath). p.class) (sym same) ∙ b.of_class;
      stands = (point_at q, point_there section c.args.points.now c.args.point q c.requires.listed within c.index-points-point-2.is, ap Some c.start.ensures);
      words = c.in_ok-words.ensures;
    }
