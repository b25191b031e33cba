use Rattle.std.proofs.Common.{◌∙◌, ◌<◌, sym, ap, below_more, arith}
use Rattle.std.proofs.lemmas.Option.{none-some}
use Rattle.explanation_names.specs.Working.Values.{ident_at}
use Rattle.syntax.specs.Trees.{Ident}
use Rattle.explanation_names.proofs.Firsts.{named_at, same_name, found_among, place_within}
use Rattle.explanation_names.proofs.same_names.first_of_others.Goals as goal
use Rattle.explanation_names.proofs.same_names.first_of_others.Goals.{then-name-at+in_default, else-name-at}

pub returns-in-Some : goal.returns-in-Some
returns-in-Some c = record {
  place = c.loop-name.name-index;
  name = ident_at c.name-item.result;
  listed = named_at c.args.names.now c.loop-name.name-index c.name-item.result c.name-item.is c.loop-name-test.true;
  starts = c.if-name-at.true;
  first = c.in-Some.i;
  found = found_among c.args.others.now _ _ _ c.in-Some.ensures.place c.as_str.ensures.value;
  is_first = named_at c.args.others.now c.in-Some.i c.index-others-i.result c.index-others-i.is c.in-Some.ensures.within;
}

pub loop-name-preserved : goal.loop-name-preserved
loop-name-preserved c =
    below_more _ _ c.loop-name.invariant
    (λ x at starts.
    let same = same_name c.args.names.now c.loop-name.name-index c.name-item.result x c.name-item.is c.loop-name-test.true at in
    elim c.if-name-at.branch [
      | then-name-at+in_default w ↦
          found_among c.args.others.now _ _ _ (sym w.in_default.is ∙ w.first_place.ensures.place)
          (w.as_str.ensures.value ∙ ap (λ (y : Ident). y.text) same)
      | else-name-at w ↦ absurd (w.if-name-at.false (ap (λ (y : Ident). y.span.start) same ∙ starts))
    ])

pub returns : goal.returns
returns c x is =
    let within = place_within c.args.names.now is.place is.name is.listed in
    let lt : is.place < c.loop-name.name-index = omega arith in
    absurd (none-some _ (sym (c.loop-name.invariant is.place lt is.name is.listed is.starts) ∙ is.found))
