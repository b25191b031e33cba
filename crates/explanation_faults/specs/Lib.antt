pub mod Inits
pub mod LimitsPassed
pub mod AmountsPassed
pub mod HelperLimits
pub mod PathsPassed
pub mod Words
pub mod VarNotes
pub mod ReasonNotes
pub mod LocksAtHand
pub mod MissingInits
pub mod FaultNotes
pub mod TextNotes
pub mod FurtherFaults
pub mod Working
-- the definitions that the public clauses cite
pub use Rattle.explanation_faults.specs.TextNotes.{AreTextNotes}
pub use Rattle.explanation_faults.specs.FurtherFaults.{AreFurther}
