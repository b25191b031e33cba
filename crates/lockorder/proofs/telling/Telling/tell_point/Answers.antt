use Rattle.std.proofs.Common.{◌∙◌, ◌<◌, length, sym, ap, refl, subst, arith}
use Rattle.std.specs.List.{All}
use Rattle.std.proofs.lemmas.Bool.{both_ways}
use Rattle.locks.specs.declared.path_set.PathSet.{PathSet}
use Rattle.locks.specs.Sets.{has}
use Rattle.lockorder.specs.declared.telling.Telling.{Telling}
use Rattle.lockorder.specs.declared.telling.Usage.{Usage}
use Rattle.lockorder.specs.Working.Sections.{IsIn}
use Rattle.lockorder.specs.Working.Tellings.{TellsClass}
use Rattle.lockorder.proofs.InSection.{class_read, set_read}
use Rattle.lockorder.proofs.Steps.{point_starts, point_next, point_skip, point_ends}
use Rattle.lockorder.proofs.telling.Telling.tell_point.Goals as goal
use Rattle.lockorder.proofs.telling.Telling.tell_point.Goals.{then-contains, else-contains}

pub loop-path-init : goal.loop-path-init
loop-path-init c = record {
  classes = refl;
  told = point_starts c.args.bindings.now.points.now c.args.section c.args.point c.args.self.now.classes c.args.self.now.told.items c.args.self.now.told.items refl;
}

pub loop-path-preserved : goal.loop-path-preserved
loop-path-preserved c =
    let x = c.args.bindings.now.points.now in
    let n = c.loop-path.path in
    let classes = c.args.self.now.classes in
    let old = c.args.self.now.told.items in
    let mid = c.loop-path.self.told.items in
    let new = c.if-contains.self.told.items in
    let i = c.loop-path.invariant in
    let lt : n < length x.classes.items = omega (arith, c.loop-path-test.true, c.len-path-end.ensures, x.classes.ok.0) in
    let within : c.args.point < length x.used.items = omega (arith, c.requires.point, x.of_bound, x.of_used, x.bound.ok.0, x.used.ok.0) in
    let read = set_read x.used.items c.args.point c.index-used.result.now within c.index-used.ensures in
    elim c.if-contains.branch [
      | then-contains w ↦
          let here = w.index-class.result.now in
          let usage : Usage = record { section = c.args.section; point = c.args.point; class = here } in
          let told = subst (λ k. TellsClass x usage k mid w.tell_class.new.self.told.items) i.classes w.tell_class.ensures.told in
          record {
            classes = ap (λ (t : Telling). t.classes) w.self-is ∙ w.tell_class.ensures.classes ∙ i.classes;
            told = point_next x c.args.section c.args.point classes n old mid new here (class_read x n here lt w.index-class.ensures)
                (subst (λ (s : PathSet). IsIn s n) read (sym c.contains.ensures ∙ w.if-contains.true)) i.told
                (subst (λ (t : Telling). TellsClass x usage classes mid t.told.items) (sym w.self-is) told);
          }
      | else-contains w ↦ record {
        classes = ap (λ (t : Telling). t.classes) w.self-is ∙ i.classes;
        told = point_skip x c.args.section c.args.point classes n old mid new
            (λ h. both_ways (has c.index-used.result.now n) (sym c.contains.ensures ∙ w.if-contains.false) (subst (λ (s : PathSet). IsIn s n) (sym read) h))
            (ap (λ (t : Telling). t.told.items) w.self-is) i.told;
      }
    ]

pub tell_class-requires-clause-class : goal.tell_class-requires-clause-class
tell_class-requires-clause-class c =
    let x = c.args.bindings.now.points.now in
    let n = c.loop-path.path in
    let here = c.index-class.result.now in
    let lt : n < length x.classes.items = omega (arith, c.loop-path-test.true, c.len-path-end.ensures, x.classes.ok.0) in
    subst (λ k. here < k) (sym c.loop-path.invariant.classes) (subst (λ k. k < c.args.self.now.classes) (sym c.index-class.ensures) (c.requires.within n here lt))

pub tell_class-requires-clause-within : goal.tell_class-requires-clause-within
tell_class-requires-clause-within c =
    subst (λ n. All (λ k. k < n) c.args.bindings.now.points.now.classes.items) (sym c.loop-path.invariant.classes) c.requires.within

pub returns : goal.returns
returns c =
    let x = c.args.bindings.now.points.now in
    record {
      classes = c.loop-path.invariant.classes;
      told = point_ends x c.args.section c.args.point c.args.self.now.classes c.loop-path.path c.args.self.now.told.items c.loop-path.self.told.items
          (omega (arith, c.loop-path-test.false, c.len-path-end.ensures, x.classes.ok.0)) c.loop-path.invariant.told;
    }
