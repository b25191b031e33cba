-- What an engine does with its files and outputs.
use Rattle.std.specs.Prelude.{◌≡◌, ◌≢◌, ◌⊎◌, ◌||◌, ◌↔◌, ◌<◌, ℕ, Bool, true, false, List, [], ◌∷◌, length, Option}
use Rattle.std.specs.Prelude.{Some, None, IfSome, ⊤, if◌then◌else◌}
use Rattle.std.specs.List.{All}
use Rattle.std.specs.Option.{is_some}
use Rattle.std.specs.Io.KnownBytes.{IsAtEnd}
use Rattle.source.specs.Texts.{SOURCE_LIMIT}
use Rattle.driver.specs.declared.source_text.SourceText.{SourceText}
use Rattle.driver.specs.declared.streams.Streams.{Streams}
use Rattle.driver.specs.declared.status.Status.{Status}
use Rattle.driver.specs.declared.status.Status.TheVariants.{BadWords, Failed, OutOfMemory}
use Rattle.driver.specs.Messages.{cannot_read, cannot_write, no_memory}
use Rattle.driver.specs.Streams.{name_of, reader_of, left_in, reading_failed, writing_failed, Writes, Tells}

-- the use of a file: its name, whether it could be opened, the bytes that its reader had left before and has left after
-- (where it reports them), and whether reading it failed
pub record Reading : Type 0 where
  pub name : List ℕ
  pub opened : Bool
  pub had : Option (List ℕ)
  pub left : Option (List ℕ)
  pub failed : Bool

-- the reading of a file, by what it was and what it is after the engine
abbrev pub reading_of : {R : Type 0} → (R → Option (List ℕ)) → SourceText R → SourceText R → Reading
reading_of remaining old new = record {
  name = name_of old;
  opened = is_some (reader_of old);
  had = left_in remaining old;
  left = left_in remaining new;
  failed = reading_failed new;
}

-- the texts are the bytes that the files had; for a reader that doesn't report its bytes this says nothing
abbrev pub Gave : List Reading → List (List ℕ) → Type 0
Gave [] [] = ⊤
Gave [] (text ∷ texts) = ⊥
Gave (file ∷ files) [] = ⊥
Gave (file ∷ files) (text ∷ texts) = IfSome file.had (λ bytes. text ≡ bytes) × Gave files texts

-- the first file that could not be read
abbrev pub first_unread : List Reading → Option Reading
first_unread [] = None
first_unread (file ∷ files) = if file.failed then Some file else first_unread files

-- the file was opened, and read to its end
abbrev pub IsReadOut : Reading → Type 0
IsReadOut file = (file.opened ≡ true) × IsAtEnd file.left

-- the program's file was opened, and read to its end or longer than the source limit
abbrev pub IsReadOrLong : Reading → Type 0
IsReadOrLong file = (file.opened ≡ true) × (IsAtEnd file.left ⊎ IfSome file.had (λ bytes. SOURCE_LIMIT < length bytes))

-- an engine ended with this status, and answered the program's text and the texts of the other files as `Answers` says:
-- the exact bytes of both outputs at each status, what was read, what is reported; nothing is written where reading
-- failed or memory ran out
pub record Serves {O E : Type 0} (Answers : List ℕ → List (List ℕ) → Status → List ℕ → List ℕ → Type 0)
    (program : Reading) (others : List Reading) (contents : O → Option (List ℕ)) (told : E → Option (List ℕ))
    (old new : Streams O E) (status : Status) : Type 0 where
  -- the text and the message that are written answer the texts of the files
  pub answers : status ≢ Failed → status ≢ OutOfMemory →
      (text : List ℕ) × (texts : List (List ℕ)) × (wrote : List ℕ) × (said : List ℕ)
      × Gave (program ∷ others) (text ∷ texts) × Answers text texts status wrote said
      × Writes contents old.out new.out wrote × Tells told old.err new.err said
  -- all files are read before any is judged
  pub read : status ≢ Failed → status ≢ OutOfMemory → IsReadOrLong program × All IsReadOut others
  -- an engine does not judge the command line
  pub words : status ≢ BadWords
  -- it fails exactly where reading or writing failed
  pub failed : (status ≡ Failed) ↔ ((is_some (first_unread (program ∷ others)) || writing_failed new.out) ≡ true)
  -- where a file could not be read, nothing is written, and the first such file is reported
  pub unread : (file : Reading) → first_unread (program ∷ others) ≡ Some file →
      (new.out ≡ old.out) × Tells told old.err new.err (cannot_read file.name)
  pub unwritten : first_unread (program ∷ others) ≡ None → writing_failed new.out ≡ true →
      Tells told old.err new.err cannot_write
  -- where memory runs out, nothing is written
  pub memory : status ≡ OutOfMemory → (new.out ≡ old.out) × Tells told old.err new.err no_memory
