pub mod Working
pub mod Theory
-- the definitions that public clauses cite
pub use Rattle.source.specs.Faults.{IsFaultAt, IsGiven}
pub use Rattle.source.specs.Tokens.{Tok, seen, word, mark, end}
pub use Rattle.syntax.specs.Trees.{Decl}
pub use Rattle.syntax.specs.Views.{tree_of, ident, type_of, const_of, param_of, protection_of, option_of, stmts_of}
pub use Rattle.syntax.specs.Grammar.{HasTree}
pub use Rattle.parser.specs.Working.TreesFound.{IsTreeOf}
pub use Rattle.syntax.specs.Faults.{HasRightTree, IsMisplaced, IsRefusal, IsTooDeep, IsUnexpected}
pub use Rattle.parser.specs.Working.Reading.{Gives, same_sign, is_next, closing}
unfoldable pub use Rattle.parser.specs.Working.Reading.{sign_at, open_at, word_at, name_at, int_at, skip_at}
unfoldable pub use Rattle.parser.specs.Working.Reading.{listed_at, after_each}
pub use Rattle.parser.specs.Working.Parts.{maybe_protection, maybe_value, maybe_result}
unfoldable pub use Rattle.parser.specs.Working.Parts.{type_at, index_at, const_at, params_at}
pub use Rattle.parser.specs.Working.Statements.{braced_at}
