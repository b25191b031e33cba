-- The tree of tokens, if they have one.
use Rattle.std.specs.Prelude.{List, Option, Some, None}
use Rattle.source.specs.Tokens.{Tok}
use Rattle.syntax.specs.declared.tree.Tree.{Tree}
use Rattle.syntax.specs.Grammar.{HasTree}
use Rattle.syntax.specs.Trees.{Decl}
use Rattle.syntax.specs.Views.{tree_of}

abbrev pub IsTreeOf : List Tok → Option Tree → Type 0
IsTreeOf ts (Some tree) = HasTree ts (tree_of tree)
IsTreeOf ts None = (ds : List Decl) → HasTree ts ds → ⊥
