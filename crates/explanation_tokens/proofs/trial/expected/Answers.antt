use Rattle.std.proofs.Common.{◌∙◌, refl, arith}
use Rattle.std.proofs.lemmas.Bool.{both_ways}
use Rattle.explanation_tokens.specs.declared.candidate.Candidate.TheVariants.{Name}
use Rattle.explanation_tokens.specs.Expected.{no_more, CanCome, all_candidates}
use Rattle.explanation_tokens.specs.Working.Trials.{before_in}
use Rattle.explanation_tokens.proofs.Told.{one_more_is, one_more_is_not}
use Rattle.explanation_tokens.proofs.trial.expected.Goals as goal
use Rattle.explanation_tokens.proofs.trial.expected.Goals.{then-branch+in_ok-push, else-branch}

pub loop-candidate-init : goal.loop-candidate-init
loop-candidate-init c = record { behind = c.requires; before = refl; those = rw c.new-list.ensures.items no_more }

pub loop-candidate-preserved : goal.loop-candidate-preserved
loop-candidate-preserved c =
    let list = c.loop-candidate.list.items in
    let i = c.loop-candidate.candidate-index in
    let those = c.loop-candidate.invariant.those in
    record {
      behind = c.in_ok-can_come.ensures.behind;
      before = c.in_ok-can_come.ensures.before ∙ c.loop-candidate.invariant.before;
      those = elim c.if-branch.branch [
        | then-branch+in_ok-push w ↦ (
            let can = rw c.loop-candidate.invariant.before at (c.in_ok-can_come.ensures.can w.if-branch.true) in
            rw (w.list-is, w.in_ok-push.ensures.items)
            (one_more_is (CanCome (before_in c.args.place c.args.tokens.items) c.args.place.span.start) all_candidates list i Name (omega (arith, c.loop-candidate-test.true)) those can))
        | else-branch w ↦ (
            let cannot = rw c.loop-candidate.invariant.before at c.in_ok-can_come.ensures.cannot in
            rw w.list-is
            (one_more_is_not (CanCome (before_in c.args.place c.args.tokens.items) c.args.place.span.start) all_candidates list i Name (omega (arith, c.loop-candidate-test.true)) those
            (λ can. let yes = cannot can in both_ways c.in_ok-can_come.field-0 w.if-branch.false yes)))
      ];
    }
