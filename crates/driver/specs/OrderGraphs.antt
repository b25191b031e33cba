-- The answers of `order`.
use Rattle.std.specs.Prelude.{◌≡◌, ℕ, List, [], string_bytes}
use Rattle.code.specs.Listing.{line}
use Rattle.compiler.specs.Cycles.{IsWrittenProgram}
use Rattle.compiler.specs.Programs.{Accepts, IsOfFirstPass}
use Rattle.core_lang.specs.declared.typed.Typed.{Typed}
use Rattle.core_lang_helpers.specs.Data.{IsExpanded}
use Rattle.lockorder.specs.declared.ranks.ClassPair.{ClassPair}
use Rattle.lockorder.specs.declared.ranks.Edge.{Edge}
use Rattle.lockorder.specs.ClassPairs.{AreClassPairs}
use Rattle.lockorder.specs.Edges.{AreRanksOf}
use Rattle.lockorder.specs.Faults.{IsCycleOf, IsFaultOf}
use Rattle.report_check.specs.Order.{order_text, cyclic_order_text}
use Rattle.source.specs.declared.fault.Fault.{Fault}
use Rattle.source.specs.Faults.{fault_text}
use Rattle.driver.specs.declared.status.Status.{Status}
use Rattle.driver.specs.declared.status.Status.TheVariants.{Done, Refused}
use Rattle.driver.specs.Answers.{IsRefused}

-- the text is accepted: out has the ranks of the lock classes of its expanded program, and the pairs of classes of
-- which the first has to come before the second, each with its reason; err is empty
pub record IsOrderGraph (text : List ℕ) (status : Status) (out err : List ℕ) : Type 0 where
  pub program : Typed
  pub accepts : Accepts text program
  pub written_out : Typed
  pub expanded : IsExpanded program written_out
  pub ranks : List ℕ
  pub are_ranks : AreRanksOf written_out ranks
  pub pairs : List ClassPair
  pub are : AreClassPairs written_out pairs
  pub ended : status ≡ Done
  pub written : out ≡ order_text text written_out ranks pairs
  pub told : err ≡ []

-- the text's fault is that of a cycle of lock classes: out has the pairs of the program that the text means, with the
-- edges of this cycle marked; the fault's line is reported
pub record IsCyclicGraph (file text : List ℕ) (status : Status) (out err : List ℕ) : Type 0 where
  pub fault : Fault
  pub given : IsOfFirstPass text fault
  pub accepted : Typed
  pub program : Typed
  pub meant : IsWrittenProgram text accepted program
  pub edges : List Edge
  pub cycle : IsCycleOf program edges
  pub of_cycle : IsFaultOf program edges fault
  pub pairs : List ClassPair
  pub are : AreClassPairs program pairs
  pub ended : status ≡ Refused
  pub written : out ≡ cyclic_order_text text program pairs edges
  pub told : err ≡ line (fault_text file text fault)

-- the answers of `order` for a text; a text with another fault is answered as by all engines
pub data OrderAnswers (file text : List ℕ) (status : Status) (out err : List ℕ) : Type 0 where
  ordered : IsOrderGraph text status out err → OrderAnswers file text status out err
  cyclic : IsCyclicGraph file text status out err → OrderAnswers file text status out err
  refused : (is : IsRefused file text status out err) → string_bytes is.fault.detail ≡ [] → OrderAnswers file text status out err
