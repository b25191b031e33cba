use Rattle.std.proofs.Common.{◌∙◌, List, nat_eq, map, ap, sym}
use Rattle.std.specs.List.{find}
use Rattle.std.specs.Option.{option_copied, option_or}
use Rattle.indexmap.specs.IndexMap.{get}
use Rattle.core_lang.specs.declared.tree.Section.{Section}
use Rattle.flow.specs.Points.{Point}
use Rattle.flow.specs.Working.PointList.{point_at}
use Rattle.report_check.specs.Sources.{has_place}
use Rattle.report_check.specs.Working.HelperIndexes.{put_over}
use Rattle.report_check.proofs.FirstHelpers.{last-moved}
use Rattle.report_check.proofs.sources.index_by_place.Goals as goal

pub loop-helper-preserved : goal.loop-helper-preserved
loop-helper-preserved c = λ start.
    let test = has_place start in
    let left = c.next.new.self.iter.rest.now in
    let helper = c.in-Some.helper.now in
    let found = option_copied (get nat_eq c.loop-helper.index start) in
    let all = ap (map point_at) c.deref.ensures.value ∙ c.in_ok-points.ensures in
    ap (option_or (find test left))
    (c.in_ok-put_at.ensures start ∙ ap (λ (ps : List Point). put_over ps helper found start) all)
    ∙ last-moved test left helper found
    ∙ ap (λ (hs : List Section). option_or (find test hs) found) (sym c.in-Some.ensures.steps)
    ∙ c.loop-helper.invariant start
