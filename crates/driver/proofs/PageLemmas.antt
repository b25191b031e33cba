-- An engine whose page went out, or that had no memory, has served it.
use Rattle.std.proofs.Common.{◌≡◌, Bool, true, false, ℕ, List, [], Option, Result, Ok, Err, IfOk, refl, sym, subst, ◌∙◌}
use Rattle.driver.specs.declared.answer.Answer.{Answer}
use Rattle.driver.specs.declared.streams.Streams.{Streams}
use Rattle.driver.specs.declared.status.Status.{Status}
use Rattle.driver.specs.declared.status.Status.TheVariants.{BadWords, Done, Failed, OutOfMemory}
use Rattle.driver.specs.Pages.{ServesPage}
use Rattle.driver.specs.Working.PagesAnswered.{IsPage}
use Rattle.driver.specs.Working.Serving.{IsOut, IsGiven}
use Rattle.source.specs.declared.memory.NoMemory.{NoMemory}
use Rattle.driver.specs.Streams.{writing_failed, Writes, Tells}

module _ {O E : Type 0} (page : List ℕ) (contents : O → Option (List ℕ)) (told : E → Option (List ℕ)) (old new : Streams O E)
    (status : Status) where
  gone : (answer : Answer) → IsPage page answer → (failed : Bool) → writing_failed new.out ≡ failed →
      IsOut contents told answer old new status failed → ServesPage page contents told old new status
  gone answer is true wrong g =
      record {
        written = λ fine memory. absurd (fine g.0);
        words = λ e. cc;
        failed = (λ e. wrong, λ e. g.0);
        unwritten = λ e. g.1;
        memory = λ e. absurd cc;
      }
  gone answer is false right g =
      let ended : status ≡ Done = g.0 ∙ is.0 in
      record {
        written = λ fine memory. (
          ended,
          subst (Writes contents old.out new.out) is.1 g.1,
          subst (Tells told old.err new.err) is.2 g.2,
        );
        words = λ e. cc;
        failed = (λ e. absurd cc, λ e. absurd cc);
        unwritten = λ e. absurd cc;
        memory = λ e. absurd cc;
      }

  pub page_served : (result : Result Answer NoMemory) → writing_failed old.out ≡ false → IfOk result (IsPage page) →
      IsGiven contents told result old new status → ServesPage page contents told old new status
  page_served (Ok answer) writable is given = gone answer is (writing_failed new.out) refl given
  page_served (Err none) writable is given =
      let unfailed : writing_failed new.out ≡ false = rw given.1 writable in
      record {
        written = λ fine memory. absurd (memory given.0);
        words = λ e. let s : status ≡ OutOfMemory = given.0 in cc;
        failed = (λ e. absurd (let s : status ≡ OutOfMemory = given.0 in cc), λ e. absurd cc);
        unwritten = λ e. absurd cc;
        memory = λ e. (given.1, given.2);
      }
