-- The answers of `emit`.
use Rattle.std.specs.Prelude.{◌≡◌, ℕ, if◌then◌else◌, List, [], Option, Some, None}
use Rattle.c_text.specs.Files.{Source, header_text, file_text}
use Rattle.c_threads.specs.Meanings.{SectionsMean, ThreadsMean}
use Rattle.driver_words.specs.declared.line.Emission.{Emission}
use Rattle.lowering.specs.Plans.{Plan}
use Rattle.driver.specs.declared.status.Status.{Status}
use Rattle.driver.specs.declared.status.Status.TheVariants.{Done}

-- the name and text of the program's file, where its lines are asked for
abbrev pub source_in : Emission → List ℕ → Option Source
source_in emission text = if emission.lines then Some (record { name = emission.file.now; text = text }) else None

-- the C text of a program with this text, or its header
abbrev pub emitted_text : Emission → List ℕ → Plan → List ℕ
emitted_text emission text plan =
    if emission.header then header_text emission.prefix.now plan.program plan.lists
    else file_text emission.prefix.now plan.program plan.lists (source_in emission text)

-- out is that text: each section in C means the section, and sections that threads call run as their calls one after
-- another; err is empty
pub record IsEmitted (emission : Emission) (text : List ℕ) (plan : Plan) (status : Status) (out err : List ℕ) : Type 0 where
  pub ended : status ≡ Done
  pub written : out ≡ emitted_text emission text plan
  pub sections : SectionsMean plan
  pub threads : ThreadsMean plan
  pub told : err ≡ []
