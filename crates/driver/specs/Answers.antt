-- The answer for a program's text: the requested one for the program, or the text's fault.
use Rattle.std.specs.Prelude.{◌≡◌, ℕ, List, [], ◌∷◌}
use Rattle.code.specs.Listing.{line}
use Rattle.compiler.specs.Programs.{Accepts, IsOfFirstPass}
use Rattle.lowering.specs.Plans.{Plan, IsCompiled}
use Rattle.source.specs.declared.fault.Fault.{Fault}
use Rattle.source.specs.Faults.{fault_text}
use Rattle.driver.specs.declared.status.Status.{Status}
use Rattle.driver.specs.declared.status.Status.TheVariants.{Refused}

-- the text has a true fault of the first pass: nothing is written, and the fault's line is reported
pub record IsRefused (file text : List ℕ) (status : Status) (out err : List ℕ) : Type 0 where
  pub fault : Fault
  pub given : IsOfFirstPass text fault
  pub ended : status ≡ Refused
  pub written : out ≡ []
  pub told : err ≡ line (fault_text file text fault)

-- the text is accepted, and the answer is the requested one for its program; or the text has a fault
pub data TextAnswers (Wanted : Plan → Status → List ℕ → List ℕ → Type 0) (file text : List ℕ) (status : Status)
    (out err : List ℕ) : Type 0 where
  accepted : (plan : Plan) → Accepts text plan.accepted → IsCompiled plan → Wanted plan status out err →
      TextAnswers Wanted file text status out err
  refused : IsRefused file text status out err → TextAnswers Wanted file text status out err

-- the answers of an engine that reads one file, and of one that reads two
abbrev pub OfOne : (List ℕ → Status → List ℕ → List ℕ → Type 0) →
    List ℕ → List (List ℕ) → Status → List ℕ → List ℕ → Type 0
OfOne Answers text texts = Answers text

-- an answer that depends on the texts of two files
abbrev pub OfTwo : (List ℕ → List ℕ → Status → List ℕ → List ℕ → Type 0) →
    List ℕ → List (List ℕ) → Status → List ℕ → List ℕ → Type 0
OfTwo Answers text [] status out err = ⊥
OfTwo Answers text (other ∷ texts) status out err = Answers text other status out err
