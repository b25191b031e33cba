-- Runs that were seen one after another.
use Rattle.std.proofs.Common.{◌≡◌, ℕ, ◌+◌, List, [], ◌∷◌, ◌++◌, length, refl, sym, ap, subst, ◌∙◌, length-append, arith, string_bytes, Some}
use Rattle.std.specs.List.{All}
use Rattle.std.proofs.lemmas.List.Elements.{All-push}
use Rattle.core_lang.specs.declared.typed.Typed.{Typed}
use Rattle.core_lang.specs.declared.value.Value.{Value}
use Rattle.history.specs.Commits.{Commit}
use Rattle.lowering.specs.Plans.{Plan}
use Rattle.report_runs.specs.declared.seen.Seen.{Seen}
use Rattle.report_runs.specs.Runs.{Run, runs_text}
use Rattle.report_runs.specs.Working.Seeing.{HasSeen}
use Rattle.rope.specs.Working.Ropes.{rope_text}
use Rattle.driver.specs.declared.answer.Answer.{Answer}
use Rattle.driver.specs.declared.status.Status.TheVariants.{Done}
use Rattle.driver.specs.ThreadRuns.{IsRunOf, IsThreadsRun, written}
use Rattle.driver.specs.Working.Answering.{Meets}
use Rattle.driver.specs.Working.ThreadRunning.{HasSeenRuns}

pub no_run_seen : (plan : Plan) (program : Typed) (seen : Seen) → program ≡ plan.program → HasSeen program [] seen → HasSeenRuns plan 0 seen
no_run_seen plan program seen same has = record {
  runs = [];
  as_many = refl;
  are_runs = λ k d within. absurd (omega arith);
  kept = subst (λ (p : Typed). HasSeen p [] seen) same has;
}

pub one_more_seen : (plan : Plan) (count : ℕ) (run : Run) (log : List Commit) (values : List Value) (old new : Seen) → HasSeenRuns plan count old → IsRunOf plan run →
    log ≡ run.log → values ≡ run.values →
    ((program : Typed) (runs : List Run) → HasSeen program runs old → HasSeen program (runs ++ record { log = log; values = values } ∷ []) new) →
    HasSeenRuns plan (count + 1) new
one_more_seen plan count run log values old new had is same_log same_values more =
    let added : Run = record { log = log; values = values } in
    let same : added ≡ run = λ i. record { log = same_log i; values = same_values i } in
    record {
      runs = had.runs ++ added ∷ [];
      as_many = length-append had.runs (added ∷ []) ∙ ap (λ (n : ℕ). n + 1) had.as_many;
      are_runs = All-push (IsRunOf plan) had.runs added had.are_runs (subst (IsRunOf plan) (sym same) is);
      kept = more plan.program had.runs had.kept;
    }

pub told_of_seen : (plan : Plan) (times count : ℕ) (seen : Seen) (text : List ℕ) (answer : Answer) → count ≡ times → HasSeenRuns plan count seen →
    ((program : Typed) (runs : List Run) → HasSeen program runs seen → text ≡ runs_text program runs) →
    (answer.status ≡ Done) × (rope_text answer.out ≡ text) × (string_bytes answer.err ≡ []) → Meets (IsThreadsRun (Some times) plan) answer
told_of_seen plan times count seen text answer all had tells is = written (record {
  runs = had.runs;
  as_many = had.as_many ∙ all;
  are_runs = had.are_runs;
  ended = is.0;
  written = is.1 ∙ tells plan.program had.runs had.kept;
  told = is.2;
})
