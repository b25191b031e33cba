use Rattle.std.proofs.Common.{◌∙◌, ◌<◌, length, sym, refl, subst, arith}
use Rattle.std.specs.List.{All}
use Rattle.points.specs.declared.table.Points.{Points}
use Rattle.lockorder.specs.Working.Sections.{AreBoundOnce}
use Rattle.lockorder.specs.Working.Tellings.{TellsPoint}
use Rattle.lockorder.proofs.Steps.{section_starts, section_next, section_ends}
use Rattle.lockorder.proofs.telling.Telling.tell.Goals as goal

pub loop-point-init : goal.loop-point-init
loop-point-init c = record {
  classes = refl;
  told = section_starts c.args.points.now c.args.section c.args.self.now.classes c.args.self.now.told.items c.args.self.now.told.items refl;
}

pub loop-point-preserved : goal.loop-point-preserved
loop-point-preserved c =
    let x = c.args.points.now in
    let s = c.args.section in
    let n = c.loop-point.point in
    let i = c.loop-point.invariant in
    let mid = c.loop-point.self in
    let new = c.tell_point.new.self.told.items in
    record {
      classes = c.tell_point.ensures.classes ∙ i.classes;
      told = section_next x s c.args.self.now.classes n c.args.self.now.told.items mid.told.items new i.told
          (subst (λ (y : Points). TellsPoint y s n c.args.self.now.classes mid.told.items new) c.in_ok-bindings.ensures.points
          (subst (λ k. TellsPoint c.in_ok-bindings.bindings.points.now s n k mid.told.items new) i.classes c.tell_point.ensures.told));
    }

pub tell_point-requires-clause-once : goal.tell_point-requires-clause-once
tell_point-requires-clause-once c = subst AreBoundOnce (sym c.in_ok-bindings.ensures.points) c.requires.once

pub tell_point-requires-clause-within : goal.tell_point-requires-clause-within
tell_point-requires-clause-within c =
    subst (λ (y : Points). All (λ k. k < c.loop-point.self.classes) y.classes.items) (sym c.in_ok-bindings.ensures.points)
    (subst (λ n. All (λ k. k < n) c.args.points.now.classes.items) (sym c.loop-point.invariant.classes) c.requires.within)

pub tell_point-requires-clause-point : goal.tell_point-requires-clause-point
tell_point-requires-clause-point c =
    let x = c.args.points.now in
    subst (λ (y : Points). c.loop-point.point < length y.bound.items) (sym c.in_ok-bindings.ensures.points)
    (omega (arith, c.loop-point-test.true, c.len-point-end.ensures, x.of_bound, x.of_used, x.bound.ok.0, x.used.ok.0))

pub returns : goal.returns
returns c =
    let x = c.args.points.now in
    record {
      classes = c.loop-point.invariant.classes;
      told = section_ends x c.args.section c.args.self.now.classes c.loop-point.point c.args.self.now.told.items c.loop-point.self.told.items
          (omega (arith, c.loop-point-test.false, c.len-point-end.ensures, x.used.ok.0)) c.loop-point.invariant.told;
    }
