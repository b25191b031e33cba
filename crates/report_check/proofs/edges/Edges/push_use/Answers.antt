use Rattle.std.proofs.Common.{◌≡◌, List, Some, length, map, refl, string_bytes, subst}
use Rattle.std.specs.Prelude.{slice_get}
use Rattle.std.proofs.lemmas.Option.{slice_get_read}
use Rattle.core_lang.specs.declared.tree.Section.{Section}
use Rattle.flow.specs.Working.PointList.{point_at}
use Rattle.report_check.proofs.Uses.{use_told}
use Rattle.report_check.proofs.edges.Edges.push_use.Goals as goal

pub returns : goal.returns
returns c =
    let x = c.args.self.now in
    let program = x.program.now in
    let k = c.args.edge.section in
    let section = c.in-Some.section.now in
    let all = c.deref.result.now in
    let read = slice_get_read all (length all) k section refl c.in-Some.ensures.lookup.3.0 c.in-Some.ensures.lookup.1 in
    let here = subst (λ (l : List Section). slice_get l k ≡ Some section) c.deref.ensures.value read in
    use_told x.positions.now.text.now program c.args.edge section (map point_at c.points_at-points.result.now) (string_bytes c.args.out.now) _ (string_bytes c.push_numbered.new.out)
    here c.points_at-points.ensures c.in_ok-write.ensures.bytes c.in_ok-push_numbered.ensures
