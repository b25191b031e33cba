-- The answers of `explain`.
use Rattle.std.specs.Prelude.{◌≡◌, ℕ, Bool, List, [], if◌then◌else◌}
use Rattle.explanation.specs.Explanation.{accepted_text, explanation_text}
use Rattle.explanation.specs.Further.{Further}
use Rattle.explanation.specs.Notes.{Note}
use Rattle.explanation.specs.Warnings.{Warning}
use Rattle.explanation.specs.Json.{accepted_json, fault_json}
use Rattle.explanations.specs.Told.{IsToldOf, accepted, faulty}
use Rattle.source.specs.declared.fault.Fault.{Fault}
use Rattle.driver_words.specs.declared.line.Color.{Color}
use Rattle.driver_words.specs.declared.line.Color.TheVariants.{Auto, Always, Never}
use Rattle.painting.specs.Painted.{painted}
use Rattle.driver.specs.declared.status.Status.{Status}
use Rattle.driver.specs.declared.status.Status.TheVariants.{Done, Refused}

-- a text in colours, where they are asked for; the program has settled `Auto` before
abbrev pub in_color : Color → List ℕ → List ℕ
in_color Always text = painted text
in_color Auto text = text
in_color Never text = text

-- the explanation of a fault, and the report of an accepted program: as JSON, or as a text
abbrev pub fault_told : Bool → Color → List ℕ → List ℕ → Fault → List Note → Further → List ℕ
fault_told json color file text fault notes further =
    if json then fault_json file text fault notes further
    else in_color color (explanation_text file text fault notes further)

-- the text of `explain` on an accepted program, as JSON or in colours
abbrev pub acceptance_told : Bool → Color → List ℕ → List ℕ → List Note → List Warning → List ℕ
acceptance_told json color file text notes warnings =
    if json then accepted_json file text notes warnings else in_color color (accepted_text file text notes warnings)

-- the text has a fault, with notes and further faults: out explains it; err is empty
pub record IsExplained (json : Bool) (color : Color) (file text : List ℕ) (status : Status) (out err : List ℕ) : Type 0 where
  pub fault : Fault
  pub notes : List Note
  pub further : Further
  pub tell : IsToldOf text (faulty fault notes further)
  pub ended : status ≡ Refused
  pub written : out ≡ fault_told json color file text fault notes further
  pub told : err ≡ []

-- the text is accepted: out says that, with notes on the order of its lock classes, and its warnings; err is empty
pub record IsFaultless (json : Bool) (color : Color) (file text : List ℕ) (status : Status) (out err : List ℕ) : Type 0 where
  pub notes : List Note
  pub warnings : List Warning
  pub tell : IsToldOf text (accepted notes warnings)
  pub ended : status ≡ Done
  pub written : out ≡ acceptance_told json color file text notes warnings
  pub told : err ≡ []

-- the answers of `explain` for a text
pub data ExplainAnswers (json : Bool) (color : Color) (file text : List ℕ) (status : Status) (out err : List ℕ) : Type 0 where
  faultless : IsFaultless json color file text status out err → ExplainAnswers json color file text status out err
  explained : IsExplained json color file text status out err → ExplainAnswers json color file text status out err
