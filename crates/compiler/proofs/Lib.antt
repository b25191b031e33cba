pub mod RefusalLemmas
pub mod Alike
pub mod OrderAlike
pub mod FaultlessLemmas
pub mod WrittenAlike
pub mod LocalsAlike
pub mod ExpandedAlike
pub mod Alone
