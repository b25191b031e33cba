use Rattle.std.proofs.Common.{◌≡◌, ◌∙◌, ℕ, List, [], Some, None, option_to_list, ap, sym, subst, refl, arith}
use Rattle.std.proofs.lemmas.Option.{same_Some}
use Rattle.source.specs.Tokens.{Tok, seen}
use Rattle.explanation_tokens.specs.declared.trial.TokenPlace.{TokenPlace}
use Rattle.explanation_tokens.specs.Advice.{advice_on}
use Rattle.explanation_tokens.specs.Expected.{AreInOrder, CanCome, IsBehind}
use Rattle.explanation_tokens.specs.Working.Trials.{before_in, notes_on}
use Rattle.explanation_tokens.proofs.Advised.{are_advised, at_most_one, none_advised}
use Rattle.explanation_tokens.proofs.Spots.{are_expected, few_expected, place_behind, before_spot, spot_behind}
use Rattle.explanation_tokens.proofs.Told.{append_nothing, none_expected, true_notes, some_told, one_told}
use Rattle.explanation_tokens.proofs.notes.token_notes.Goals as goal

pub returns-in_default : goal.returns-in_default
returns-in_default c =
    let ts = seen c.args.tokens.items in
    let start = c.args.fault.now.start in
    let code = c.args.fault.now.code in
    rw c.new.ensures.items
    (record {
      advice = [];
      expected = [];
      parts = refl;
      advised = none_advised ts code start (λ order is before behind. c.in_default.not-UnexpectedToken is);
      few = omega arith;
      are_expected = none_expected ts code start (λ order told. c.in_default.not-UnexpectedToken told.unexpected);
    })

pub returns-in_default-place_of : goal.returns-in_default-place_of
returns-in_default-place_of c =
    let tokens = c.args.tokens.items in
    let start = c.args.fault.now.start in
    let code = c.args.fault.now.code in
    let nowhere = λ (order : AreInOrder (seen tokens) start) (before : List Tok) (behind : IsBehind (seen tokens) start before).
    let spot = spot_behind before start in
    let at = place_behind tokens start before behind (order.rise before behind) in
    let found : None ≡ Some spot = (rw c.deref.ensures.value at c.in_default-place_of.ensures.only) spot (omega (arith, order.low)) at in
    let no : ⊥ = cc in no in
    rw c.new-in_default-place_of.ensures.items
    (record {
      advice = [];
      expected = [];
      parts = refl;
      advised = none_advised (seen tokens) code start (λ order is before behind. nowhere order before behind);
      few = omega arith;
      are_expected = none_expected (seen tokens) code start (λ order told. nowhere order told.before told.place);
    })

pub returns-then-place-gt-MOST_READ : goal.returns-then-place-gt-MOST_READ
returns-then-place-gt-MOST_READ c =
    let tokens = c.args.tokens.items in
    let start = c.args.fault.now.start in
    let code = c.args.fault.now.code in
    let at = rw c.deref.ensures.value at c.in-Some.ensures.found in
    let advice = advice_on (seen tokens) c.in-Some.place.number in
    rw (c.in_ok-notes.ensures, c.deref-2.ensures.value)
    (record {
      advice = option_to_list advice;
      expected = [];
      parts = sym (append_nothing (option_to_list advice));
      advised = are_advised tokens start c.in-Some.place at code c.in-UnexpectedToken.is;
      few = at_most_one advice;
      are_expected = none_expected (seen tokens) code start (λ order told.
          let spot = spot_behind told.before start in
          let there = place_behind tokens start told.before told.place (order.rise told.before told.place) in
          let found : Some c.in-Some.place ≡ Some spot = (rw c.deref.ensures.value at c.in-Some.ensures.only) spot (omega (arith, order.low)) there in
          let is : c.in-Some.place ≡ spot = same_Some c.in-Some.place spot found in
          omega (arith, ap (λ (s : TokenPlace). s.number) is, told.few, c.if-place-gt-MOST_READ.true));
    })

pub returns : goal.returns
returns c =
    let tokens = c.args.tokens.items in
    let start = c.args.fault.now.start in
    let code = c.args.fault.now.code in
    let list = c.in_ok-candidates.candidates.items in
    let at = rw c.deref.ensures.value at c.in-Some.ensures.found in
    let advice = advice_on (seen tokens) c.in-Some.place.number in
    rw (c.in_ok-push_expected.ensures, c.in_ok-notes.ensures, c.deref-2.ensures.value, c.deref-3.ensures.value)
    (record {
      advice = option_to_list advice;
      expected = notes_on list;
      parts = refl;
      advised = are_advised tokens start c.in-Some.place at code c.in-UnexpectedToken.is;
      few = at_most_one advice;
      are_expected = record {
        are_true = true_notes (seen tokens) code start list c.in-UnexpectedToken.is (are_expected tokens start c.in-Some.place list at c.in_ok-candidates.ensures)
            (few_expected tokens start c.in-Some.place list at c.in_ok-candidates.ensures (omega (arith, c.if-place-gt-MOST_READ.false)));
        few = one_told list;
        told = λ order told.
            let spot = spot_behind told.before start in
            let place = c.in-Some.place in
            let there = place_behind tokens start told.before told.place (order.rise told.before told.place) in
            let found : Some place ≡ Some spot = (rw c.deref.ensures.value at c.in-Some.ensures.only) spot (omega (arith, order.low)) there in
            let is : place ≡ spot = same_Some place spot found in
            let before : before_in place tokens ≡ told.before = ap (λ (s : TokenPlace). before_in s tokens) is ∙ before_spot tokens start told.before told.place in
            some_told (CanCome (before_in place tokens) place.span.start) list told.candidate c.in_ok-candidates.ensures
            (subst (λ (l : List Tok). CanCome l place.span.start told.candidate) (sym before)
            (subst (λ (k : ℕ). CanCome told.before k told.candidate) (sym (ap (λ (s : TokenPlace). s.span.start) is)) told.can_come));
      };
    })
