use Rattle.std.proofs.Common.{◌<◌, ◌∙◌, length, take, ap, arith}
use Rattle.lockpaths.specs.Working.Told.{Seen, seen}
use Rattle.lockpaths.proofs.Going.{final_met, final_behind, field_met, field_behind}
use Rattle.lockpaths.proofs.finder.Finder.along.Goals as goal
use Rattle.lockpaths.proofs.finder.Finder.along.Goals.{in-Final, in-Field+in_ok-field-in-Field}

pub loop-k-preserved : goal.loop-k-preserved
loop-k-preserved c =
    let lt : c.loop-k.k < length c.args.path.now.fields.items = omega (arith, c.len-k-end.ensures, c.loop-k-test.true) in
    let i = c.loop-k.invariant in
    elim c.match-index.branch [
      | in-Final w ↦ record {
        met = final_met c.args.self.now (seen c.loop-k.found) _ c.args.path.now.start c.args.path.now.local c.args.path.now.fields.items c.loop-k.k _ _ c.loop-k.is_behind _ _ c.index.result.now c.index.ensures lt i.met i.behind w.in-Final.is (ap (λ (s : Seen). seen s) w.found-is) w.is_behind-is;
        behind = final_behind c.args.self.now (seen c.loop-k.found) (seen c.match-index.found) c.args.path.now.start c.args.path.now.local c.args.path.now.fields.items c.loop-k.k _ _ c.loop-k.is_behind _ _ c.index.result.now c.index.ensures lt i.met i.behind w.in-Final.is (ap (λ (s : Seen). seen s) w.found-is) w.is_behind-is;
      }
      | in-Field+in_ok-field-in-Field w ↦
          let front = ap (λ l. take c.loop-k.k l) w.deref.ensures.value in
          let same = ap (λ (s : Seen). seen s) w.found-is ∙ w.in_ok-field-in-Field.ensures in
          record {
            met = field_met c.args.self.now (seen c.loop-k.found) (seen c.match-index.found) c.args.path.now.start c.args.path.now.local c.args.path.now.fields.items c.loop-k.k _ _ c.loop-k.is_behind c.match-index.is_behind _ c.index.result.now c.index.ensures lt i.met i.behind w.in-Field.is _ front same;
            behind = λ e. field_behind c.args.self.now (seen c.loop-k.found) (seen c.match-index.found) c.args.path.now.start c.args.path.now.local c.args.path.now.fields.items c.loop-k.k _ _ c.loop-k.is_behind c.match-index.is_behind _ c.index.result.now c.index.ensures lt i.met i.behind w.in-Field.is _ front same;
          }
    ]
