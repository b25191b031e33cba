pub mod Blocks
pub mod Calls
pub mod Chains
pub mod CoreRows
pub mod Elements
pub mod Indices
pub mod Lasts
pub mod StatementRows
