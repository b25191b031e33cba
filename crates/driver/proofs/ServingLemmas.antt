-- An engine that could not read, or had no memory, or whose answer went out, has served its request.
use Rattle.std.proofs.Common.{◌≡◌, ◌≢◌, Bool, true, false, ℕ, List, [], ◌∷◌, Option, Some, None, Result, Ok, Err}
use Rattle.std.proofs.Common.{IfOk, zero, suc, arith, refl, sym, subst, ◌∙◌, string_bytes}
use Rattle.std.specs.List.{All}
use Rattle.rope.specs.Working.Ropes.{rope_text}
use Rattle.driver.specs.declared.answer.Answer.{Answer}
use Rattle.driver.specs.declared.streams.Streams.{Streams}
use Rattle.driver.specs.declared.status.Status.{Status}
use Rattle.driver.specs.declared.status.Status.TheVariants.{Done, Refused, BadWords, Failed, OutOfMemory, Differs}
use Rattle.driver.specs.declared.status.Status.TheVariants.{BadInput, Unsettled, Strange, Unexpected}
use Rattle.driver.specs.Engines.{Serves, Reading, Gave, first_unread, IsReadOut, IsReadOrLong}
use Rattle.driver.specs.Messages.{cannot_read, no_memory}
use Rattle.driver.specs.Working.Serving.{IsOut, GoesOut, IsGiven, IsUnread, of_reader, of_memory}
use Rattle.source.specs.declared.memory.NoMemory.{NoMemory}
use Rattle.driver.specs.Streams.{writing_failed, Tells}

-- statuses that no text is answered with
pub record IsAnswered (status : Status) : Type 0 where
  pub words : status ≢ BadWords
  pub failed : status ≢ Failed
  pub memory : status ≢ OutOfMemory

pub done : {status : Status} → status ≡ Done → IsAnswered status
done is = rw is (record { words = λ e. cc; failed = λ e. cc; memory = λ e. cc })

pub refused : {status : Status} → status ≡ Refused → IsAnswered status
refused is = rw is (record { words = λ e. cc; failed = λ e. cc; memory = λ e. cc })

pub bad_input : {status : Status} → status ≡ BadInput → IsAnswered status
bad_input is = rw is (record { words = λ e. cc; failed = λ e. cc; memory = λ e. cc })

pub unsettled : {status : Status} → status ≡ Unsettled → IsAnswered status
unsettled is = rw is (record { words = λ e. cc; failed = λ e. cc; memory = λ e. cc })

-- a property of one element holds of the list of it
pub All_one : {A : Type 0} (P : A → Type 0) {x : A} → P x → All P (x ∷ [])
All_one P {x = x} is zero d within = is
All_one P {x = x} is (suc k) d within = absurd (omega arith)

-- what an answer must be: an answer for the texts that the files had
pub record IsRight (Answers : List ℕ → List (List ℕ) → Status → List ℕ → List ℕ → Type 0) (program : Reading) (others : List Reading)
    (answer : Answer) : Type 0 where
  pub text : List ℕ
  pub texts : List (List ℕ)
  pub gave : Gave (program ∷ others) (text ∷ texts)
  pub answers : Answers text texts answer.status (rope_text answer.out) (string_bytes answer.err)
  pub answered : IsAnswered answer.status

pub differs : {status : Status} → status ≡ Differs → IsAnswered status
differs is = rw is (record { words = λ e. cc; failed = λ e. cc; memory = λ e. cc })

pub unexpected : {status : Status} → status ≡ Unexpected → IsAnswered status
unexpected is = rw is (record { words = λ e. cc; failed = λ e. cc; memory = λ e. cc })

pub strange : {status : Status} → status ≡ Strange → IsAnswered status
strange is = rw is (record { words = λ e. cc; failed = λ e. cc; memory = λ e. cc })

module _ {O E : Type 0} (Answers : List ℕ → List (List ℕ) → Status → List ℕ → List ℕ → Type 0) (program : Reading)
    (others : List Reading) (contents : O → Option (List ℕ)) (told : E → Option (List ℕ)) (old new : Streams O E) (status : Status) where
  -- a file could not be read
  pub unread_served : (file : Reading) → first_unread (program ∷ others) ≡ Some file → status ≡ Failed →
      new.out ≡ old.out →
      Tells told old.err new.err (cannot_read file.name) → Serves Answers program others contents told old new status
  unread_served file is failed same tells =
      record {
        answers = λ fine memory. absurd (fine failed);
        read = λ fine memory. absurd (fine failed);
        words = λ e. cc;
        failed = (λ e. rw is refl, λ e. failed);
        unread = λ f first. let e : f ≡ file = cc in (same, rw e tells);
        unwritten = λ none e. absurd cc;
        memory = λ e. absurd cc;
      }

  -- memory ran out
  pub unmade_served : first_unread (program ∷ others) ≡ None → status ≡ OutOfMemory → writing_failed old.out ≡ false →
      new.out ≡ old.out → Tells told old.err new.err no_memory → Serves Answers program others contents told old new status
  unmade_served none out_of writable same tells =
      let unfailed : writing_failed new.out ≡ false = rw same writable in
      record {
        answers = λ fine memory. absurd (memory out_of);
        read = λ fine memory. absurd (memory out_of);
        words = λ e. cc;
        failed = (λ e. absurd cc, λ e. absurd (let f : false ≡ true = rw (none, unfailed) at e in cc));
        unread = λ f first. absurd cc;
        unwritten = λ e written. absurd cc;
        memory = λ e. (same, tells);
      }

  -- an answer went out
  module _ (answer : Answer) (text : List ℕ) (texts : List (List ℕ)) (none : first_unread (program ∷ others) ≡ None)
      (gave : Gave (program ∷ others) (text ∷ texts)) (read : IsReadOrLong program × All IsReadOut others)
      (answers : Answers text texts answer.status (rope_text answer.out) (string_bytes answer.err))
      (answered : IsAnswered answer.status) where
    gone : (failed : Bool) → writing_failed new.out ≡ failed → IsOut contents told answer old new status failed →
        Serves Answers program others contents told old new status
    gone true wrong g =
        record {
          answers = λ fine memory. absurd (fine g.0);
          read = λ fine memory. absurd (fine g.0);
          words = λ e. cc;
          failed = (λ e. rw (none, wrong) refl, λ e. g.0);
          unread = λ f first. absurd cc;
          unwritten = λ e written. g.1;
          memory = λ e. absurd cc;
        }
    gone false right g =
        record {
          answers = λ fine memory. (
            text,
            texts,
            rope_text answer.out,
            string_bytes answer.err,
            gave,
            subst (λ s. Answers text texts s (rope_text answer.out) (string_bytes answer.err)) (sym g.0) answers,
            g.1,
            g.2,
          );
          read = λ fine memory. read;
          words = λ e. answered.words (sym g.0 ∙ e);
          failed = (λ e. absurd (answered.failed (sym g.0 ∙ e)), λ e. absurd (let f : false ≡ true = rw (none, right) at e in cc));
          unread = λ f first. absurd cc;
          unwritten = λ e written. absurd cc;
          memory = λ e. absurd (answered.memory (sym g.0 ∙ e));
        }

    pub answer_served : GoesOut contents told answer old new status →
        Serves Answers program others contents told old new status
    answer_served = gone (writing_failed new.out) refl

  -- an answer was given, or memory ran out before
  pub given_served : (result : Result Answer NoMemory) → first_unread (program ∷ others) ≡ None →
      writing_failed old.out ≡ false →
      IsReadOrLong program × All IsReadOut others → IfOk result (IsRight Answers program others) → IsGiven contents told result old new status →
      Serves Answers program others contents told old new status
  given_served (Ok answer) none writable read is given =
      answer_served answer is.text is.texts none is.gave read is.answers is.answered given
  given_served (Err e) none writable read is given = unmade_served none given.0 writable given.1 given.2

  -- the program's file was not read
  pub program_unread : writing_failed old.out ≡ false → new.out ≡ old.out → first_unread others ≡ None →
      IsUnread program.name program.failed (Tells told old.err new.err) status →
      Serves Answers program others contents told old new status
  program_unread writable same none (of_reader failed marked tells) = unread_served program (rw marked refl) failed same tells
  program_unread writable same none (of_memory out_of unmarked tells) =
      unmade_served (rw unmarked none) out_of writable same tells

-- the other file was not read
pub other_unread : {O E : Type 0} (Answers : List ℕ → List (List ℕ) → Status → List ℕ → List ℕ →
    Type 0) (program other : Reading)
    (contents : O → Option (List ℕ)) (told : E → Option (List ℕ)) (old new : Streams O E) (status : Status) →
    program.failed ≡ false → writing_failed old.out ≡ false → new.out ≡ old.out →
    IsUnread other.name other.failed (Tells told old.err new.err) status →
    Serves Answers program (other ∷ []) contents told old new status
other_unread Answers program other contents told old new status read writable same (of_reader failed marked tells) =
    unread_served Answers program (other ∷ []) contents told old new status other (rw (read, marked) refl) failed same tells
other_unread Answers program other contents told old new status read writable same (of_memory out_of unmarked tells) =
    unmade_served Answers program (other ∷ []) contents told old new status (rw (read, unmarked) refl) out_of writable same tells
