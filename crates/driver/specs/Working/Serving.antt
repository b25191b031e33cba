-- What this crate's functions tell each other of files and outputs. It mirrors the code: nobody has to believe it.
use Rattle.std.specs.Prelude.{◌≡◌, ℕ, Bool, true, false, List, Option, string_bytes, Result, Ok, Err}
use Rattle.source.specs.declared.memory.NoMemory.{NoMemory}
use Rattle.rope.specs.Working.Ropes.{rope_text}
use Rattle.driver.specs.declared.answer.Answer.{Answer}
use Rattle.driver.specs.declared.status.Status.{Status}
use Rattle.driver.specs.declared.status.Status.TheVariants.{Failed, OutOfMemory}
use Rattle.driver.specs.declared.streams.Streams.{Streams}
use Rattle.driver.specs.Messages.{cannot_read, cannot_write, no_memory}
use Rattle.driver.specs.Streams.{writing_failed, Writes, Tells}

-- a file was not read and the message says why: reading it failed, or memory ran out
pub data IsUnread (file : List ℕ) (failed : Bool) (Told : List ℕ → Type 0) (status : Status) : Type 0 where
  of_reader : status ≡ Failed → failed ≡ true → Told (cannot_read file) → IsUnread file failed Told status
  of_memory : status ≡ OutOfMemory → failed ≡ false → Told no_memory → IsUnread file failed Told status

-- the whole answer was written; or the writer failed, and the message says this
abbrev pub IsOut : {O E : Type 0} → (O → Option (List ℕ)) → (E → Option (List ℕ)) → Answer → Streams O E → Streams O E →
    Status → Bool → Type 0
IsOut contents told answer old new status true = (status ≡ Failed) × Tells told old.err new.err cannot_write
IsOut contents told answer old new status false =
    (status ≡ answer.status) × Writes contents old.out new.out (rope_text answer.out)
    × Tells told old.err new.err (string_bytes answer.err)

abbrev pub GoesOut : {O E : Type 0} → (O → Option (List ℕ)) → (E → Option (List ℕ)) → Answer → Streams O E →
    Streams O E →
    Status → Type 0
GoesOut contents told answer old new status = IsOut contents told answer old new status (writing_failed new.out)

-- the same, or memory ran out before there was an answer
abbrev pub IsGiven : {O E : Type 0} → (O → Option (List ℕ)) → (E → Option (List ℕ)) → Result Answer NoMemory →
    Streams O E → Streams O E → Status → Type 0
IsGiven contents told (Ok answer) old new status = GoesOut contents told answer old new status
IsGiven contents told (Err none) old new status =
    (status ≡ OutOfMemory) × (new.out ≡ old.out) × Tells told old.err new.err no_memory
