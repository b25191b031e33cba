-- What an engine that reads no file does with its outputs.
use Rattle.std.specs.Prelude.{◌≡◌, ◌≢◌, ◌↔◌, ℕ, true, List, [], Option}
use Rattle.driver.specs.declared.status.Status.{Status}
use Rattle.driver.specs.declared.status.Status.TheVariants.{BadWords, Done, Failed, OutOfMemory}
use Rattle.driver.specs.declared.streams.Streams.{Streams}
use Rattle.driver.specs.Messages.{cannot_write, no_memory}
use Rattle.driver.specs.Streams.{writing_failed, Writes, Tells}

-- an engine that reads no file ended with this status: the page is written and nothing is reported, unless writing
-- failed; nothing is written where memory ran out
pub record ServesPage {O E : Type 0} (page : List ℕ) (contents : O → Option (List ℕ)) (told : E → Option (List ℕ))
    (old new : Streams O E) (status : Status) : Type 0 where
  -- the page is written, and nothing is reported
  pub written : status ≢ Failed → status ≢ OutOfMemory →
      (status ≡ Done) × Writes contents old.out new.out page × Tells told old.err new.err []
  -- an engine does not judge the command line
  pub words : status ≢ BadWords
  -- it fails exactly where writing failed
  pub failed : (status ≡ Failed) ↔ (writing_failed new.out ≡ true)
  pub unwritten : writing_failed new.out ≡ true → Tells told old.err new.err cannot_write
  -- where memory runs out, nothing is written
  pub memory : status ≡ OutOfMemory → (new.out ≡ old.out) × Tells told old.err new.err no_memory
