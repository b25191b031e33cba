-- The answers of `listing`.
use Rattle.std.specs.Prelude.{◌≡◌, ℕ, Bool, if◌then◌else◌, List, []}
use Rattle.code.specs.Listing.{listing_text, listing_with_places_text}
use Rattle.lowering.specs.Plans.{Plan}
use Rattle.driver.specs.declared.status.Status.{Status}
use Rattle.driver.specs.declared.status.Status.TheVariants.{Done}

-- the instructions of a program with this text, with the places of their statements where `places` is true
abbrev pub listed_text : Bool → List ℕ → Plan → List ℕ
listed_text places text plan =
    if places then listing_with_places_text text plan.program plan.lists else listing_text plan.program plan.lists

-- out lists the program, with the plan's lists; err is empty
pub record IsListed (places : Bool) (text : List ℕ) (plan : Plan) (status : Status) (out err : List ℕ) : Type 0 where
  pub ended : status ≡ Done
  pub written : out ≡ listed_text places text plan
  pub told : err ≡ []
