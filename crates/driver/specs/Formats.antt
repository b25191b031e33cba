-- The answers of `format`.
use Rattle.std.specs.Prelude.{◌≡◌, ℕ, List, [], string_bytes}
use Rattle.code.specs.Listing.{line}
use Rattle.formatting.specs.Formatted.{HasFault, IsFormatted, IsProgram}
use Rattle.source.specs.declared.fault.Fault.{Fault}
use Rattle.source.specs.Faults.{fault_text}
use Rattle.driver.specs.declared.status.Status.{Status}
use Rattle.driver.specs.declared.status.Status.TheVariants.{Done, Refused}

-- the tokens of the text have a right tree: out is the text in its layout; err is empty
pub record IsLaidOut (text : List ℕ) (status : Status) (out err : List ℕ) : Type 0 where
  pub program : IsProgram text
  pub ended : status ≡ Done
  pub written : IsFormatted text out
  pub told : err ≡ []

-- the text or its tokens have a true fault, without a detail: nothing is written, and the fault's line is reported
pub record IsUnformatted (file text : List ℕ) (status : Status) (out err : List ℕ) : Type 0 where
  pub fault : Fault
  pub given : HasFault text fault.code fault.start
  pub bare : string_bytes fault.detail ≡ []
  pub ended : status ≡ Refused
  pub written : out ≡ []
  pub told : err ≡ line (fault_text file text fault)

-- what `format` answers: the layout of the text, or its fault
pub data FormatAnswers (file text : List ℕ) (status : Status) (out err : List ℕ) : Type 0 where
  laid_out : IsLaidOut text status out err → FormatAnswers file text status out err
  unformatted : IsUnformatted file text status out err → FormatAnswers file text status out err
