-- The warnings on a text.
use Rattle.std.specs.Prelude.{◌≡◌, ◌≤◌, ◌++◌, ℕ, List, length}
use Rattle.core_lang.specs.declared.typed.Typed.{Typed}
use Rattle.source.specs.Texts.{HasTokens, SOURCE_LIMIT}
use Rattle.source.specs.Tokens.{Tok}
use Rattle.syntax.specs.Grammar.{HasTree}
use Rattle.syntax.specs.Trees.{Decl}
use Rattle.explanation.specs.Warnings.{Warning}
use Rattle.explanations.specs.ListedClasses.{listed_warnings}
use Rattle.explanations.specs.Warnings.{AreWarnings}

-- the warnings on a tree, and then those on the listed classes of the program that it means
pub record AreAllWarnings (tree : List Decl) (program : Typed) (warnings : List Warning) : Type 0 where
  pub of_tree : List Warning
  pub are : AreWarnings tree of_tree
  pub whole : warnings ≡ of_tree ++ listed_warnings program tree

-- the warnings on the tree of a text and on its expanded program, if the text is within the limit and has a tree
abbrev pub AreTextWarnings : List ℕ → Typed → List Warning → Type 0
AreTextWarnings text program warnings =
    (tokens : List Tok) (tree : List Decl) → length text ≤ SOURCE_LIMIT → HasTokens text tokens → HasTree tokens tree →
    AreAllWarnings tree program warnings
