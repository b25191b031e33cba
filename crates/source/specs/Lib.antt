pub mod Codes
pub mod Faults
pub mod Limits
pub mod Tokens
pub mod Texts
pub mod Mistakes
pub mod Theory
-- the definitions that public clauses cite
pub use Rattle.source.specs.Codes.{code_name, code_text}
pub use Rattle.source.specs.Faults.{place_text, fault_text, shown_code, shown_fault, IsBare, IsFaultAt, IsGiven}
pub use Rattle.source.specs.Mistakes.{code_number, goes_before, lesser, least_of, IsLeastOf}
pub use Rattle.source.specs.Tokens.{Tok, seen_token, seen}
pub use Rattle.source.specs.Texts.{keyword_text, sign_text, HasTokens}
