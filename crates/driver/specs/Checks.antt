-- The answers of `check`.
use Rattle.std.specs.Prelude.{◌≡◌, ℕ, Bool, if◌then◌else◌, List, []}
use Rattle.lowering.specs.Plans.{Plan}
use Rattle.report_check.specs.Check.{check_text}
use Rattle.report_check.specs.Sources.{sourced_check_text}
use Rattle.driver.specs.declared.status.Status.{Status}
use Rattle.driver.specs.declared.status.Status.TheVariants.{Done}

-- the ranks and lists of a program with this text, with its helpers and source lines where `source` is true
abbrev pub checked_text : Bool → List ℕ → Plan → List ℕ
checked_text source text plan =
    if source then sourced_check_text text plan.accepted.shape.helpers.items plan.program plan.ranks plan.lists
    else check_text text plan.program plan.ranks plan.lists

-- out has the ranks of the program's lock classes, and the lists before its points; err is empty
pub record IsCheckReport (source : Bool) (text : List ℕ) (plan : Plan) (status : Status)
    (out err : List ℕ) : Type 0 where
  pub ended : status ≡ Done
  pub written : out ≡ checked_text source text plan
  pub told : err ≡ []
