use Rattle.std.proofs.Common.{◌∙◌, ◌<◌, length, sym, ap, refl, subst, arith}
use Rattle.std.proofs.lemmas.Bool.{both_ways}
use Rattle.locks.specs.Sets.{has}
use Rattle.lockorder.specs.declared.telling.Telling.{Telling}
use Rattle.lockorder.specs.Working.Tellings.{TellsPair}
use Rattle.lockorder.proofs.InSection.{class_read}
use Rattle.lockorder.proofs.Steps.{class_starts, class_next, class_skip, class_ends}
use Rattle.lockorder.proofs.telling.Telling.tell_class.Goals as goal
use Rattle.lockorder.proofs.telling.Telling.tell_class.Goals.{then-contains, else-contains}

pub loop-path-init : goal.loop-path-init
loop-path-init c = record {
  classes = refl;
  told = class_starts c.args.bindings.now.points.now c.args.usage c.behind-behind.result c.args.self.now.classes c.args.self.now.told.items c.args.self.now.told.items refl;
}

pub loop-path-preserved : goal.loop-path-preserved
loop-path-preserved c =
    let x = c.args.bindings.now.points.now in
    let n = c.loop-path.path in
    let classes = c.args.self.now.classes in
    let old = c.args.self.now.told.items in
    let mid = c.loop-path.self.told.items in
    let new = c.if-contains.self.told.items in
    let i = c.loop-path.invariant in
    let lt : n < length x.classes.items = omega (arith, c.loop-path-test.true, c.len-path-end.ensures, x.classes.ok.0) in
    elim c.if-contains.branch [
      | then-contains w ↦
          let here = w.index.result.now in
          let told = subst (λ k. TellsPair x c.args.usage here k mid w.tell_pair.new.self.told.items) i.classes w.tell_pair.ensures.told in
          record {
            classes = ap (λ (t : Telling). t.classes) w.self-is ∙ w.tell_pair.ensures.classes ∙ i.classes;
            told = class_next x c.args.usage c.behind-behind.result classes n old mid new i.told here (class_read x n here lt w.index.ensures)
                (subst (λ (t : Telling). TellsPair x c.args.usage here classes mid t.told.items) (sym w.self-is) told);
          }
      | else-contains w ↦ record {
        classes = ap (λ (t : Telling). t.classes) w.self-is ∙ i.classes;
        told = class_skip x c.args.usage c.behind-behind.result classes n old mid new i.told
            (λ h. both_ways (has c.behind-behind.result n) (sym c.contains.ensures ∙ w.if-contains.false) h) (ap (λ (t : Telling). t.told.items) w.self-is);
      }
    ]

pub tell_pair-requires-clause-class : goal.tell_pair-requires-clause-class
tell_pair-requires-clause-class c = subst (λ n. c.args.usage.class < n) (sym c.loop-path.invariant.classes) c.requires.class

pub tell_pair-requires-clause-next : goal.tell_pair-requires-clause-next
tell_pair-requires-clause-next c =
    let x = c.args.bindings.now.points.now in
    let n = c.loop-path.path in
    let here = c.index.result.now in
    let lt : n < length x.classes.items = omega (arith, c.loop-path-test.true, c.len-path-end.ensures, x.classes.ok.0) in
    subst (λ k. here < k) (sym c.loop-path.invariant.classes) (subst (λ k. k < c.args.self.now.classes) (sym c.index.ensures) (c.requires.within n here lt))

pub returns : goal.returns
returns c =
    let x = c.args.bindings.now.points.now in
    record {
      classes = c.loop-path.invariant.classes;
      told = class_ends x c.args.usage c.behind-behind.result c.args.self.now.classes c.loop-path.path c.args.self.now.told.items c.loop-path.self.told.items
          (omega (arith, c.loop-path-test.false, c.len-path-end.ensures, x.classes.ok.0)) c.behind-behind.ensures c.loop-path.invariant.told;
    }
