use Rattle.std.proofs.Common.{◌<◌, length, refl, sym, ap, map, ◌∙◌, arith}
use Rattle.std.proofs.lemmas.Option.{slice_get_read, slice_get_within}
use Rattle.flow.specs.Working.PointList.{point_at}
use Rattle.report_check.proofs.edges.Edges.points_at.Goals as goal

pub returns : goal.returns
returns c =
    let x = c.args.self.now in
    let each = x.points.now in
    let list = c.index-self-number.result in
    let within = slice_get_within x.program.now.sections.items c.args.number c.args.section.now c.requires.here in
    let lt : c.args.number < length each = omega (arith, within, c.requires.points.0) in
    let there = slice_get_read each (length each) c.args.number list refl lt c.index-self-number.is in
    ap (map point_at) (c.deref.ensures.value ∙ sym (ap (λ l. l.items) c.index-self-number.is)) ∙ c.requires.points.1 c.args.number list there c.args.section.now c.requires.here
