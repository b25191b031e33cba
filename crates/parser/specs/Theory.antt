-- The law of readers, and that tokens with a tree are read: single tokens, lists and small parts. Nobody has to believe
-- these files: they are checked, and are here for proofs of this crate and of the crates above.
pub mod First
pub mod Readers
pub mod Ended
pub mod Signs
pub mod Many
pub mod Loops
pub mod Law
pub mod Laws
pub mod Joined
pub mod PartLaws
pub mod Shorter
pub mod Finding
pub mod PartsFound
pub mod Productions
pub mod Chains
pub mod ShorterStatements
pub mod Complete
pub mod StatementLaws
pub mod StatementTurns
pub mod StatementsFound
