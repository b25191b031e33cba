use Rattle.std.proofs.Common.{◌∙◌, ◌<◌, sym, ap, refl, below_more, arith}
use Rattle.std.proofs.lemmas.Option.{none-some}
use Rattle.syntax.specs.Trees.{ClassName}
use Rattle.syntax.specs.Views.{class_name_of}
use Rattle.explanation_names.proofs.ClassFirsts.{class_at, same_read, found_before, within_before, class_within}
use Rattle.explanation_names.proofs.same_names.first_of_classes.Goals as goal
use Rattle.explanation_names.proofs.same_names.first_of_classes.Goals.{then-class-at+in_default, else-class-at}

pub returns-in-Some : goal.returns-in-Some
returns-in-Some c = record {
  place = c.loop-j.j;
  class = class_name_of c.index-classes-j.result;
  listed = class_at c.args.classes.now c.loop-j.j c.index-classes-j.result c.index-classes-j.is c.loop-j-test.true;
  starts = c.if-class-at.true;
  before = c.in-Some.i;
  found = found_before c.args.classes.now c.loop-j.j (class_name_of c.index-classes-j.result) (class_name_of c.index-classes-j.result) _
      c.in-Some.ensures.place refl;
  is_first = class_at c.args.classes.now c.in-Some.i c.index-classes-i.result c.index-classes-i.is
      (within_before c.args.classes.now c.in-Some.i c.loop-j.j c.in-Some.ensures.within c.loop-j-test.true);
}

pub loop-j-preserved : goal.loop-j-preserved
loop-j-preserved c =
    below_more _ _ c.loop-j.invariant
    (λ x at starts.
    let same = same_read c.args.classes.now c.loop-j.j c.index-classes-j.result x c.index-classes-j.is c.loop-j-test.true at in
    elim c.if-class-at.branch [
      | then-class-at+in_default w ↦
          found_before c.args.classes.now c.loop-j.j _ _ _ (sym w.in_default.is ∙ w.class_place.ensures.place) same
      | else-class-at w ↦ absurd (w.if-class-at.false (ap (λ (y : ClassName). y.structure.span.start) same ∙ starts))
    ])

pub returns : goal.returns
returns c x is =
    let within = class_within c.args.classes.now is.place is.class is.listed in
    let lt : is.place < c.loop-j.j = omega arith in
    absurd (none-some _ (sym (c.loop-j.invariant is.place lt is.class is.listed is.starts) ∙ is.found))
