-- Whether `null`, the only keyword that can be where a name is, may be meant by a name.
use Rattle.std.specs.Prelude.{◌≡◌, ◌==◌, ℕ, List, map, Some, if◌then◌else◌}
use Rattle.source.specs.declared.token.Keyword.TheVariants.{Null}
use Rattle.source.specs.Texts.{keyword_text}
use Rattle.source.specs.Tokens.{Tok, word}
use Rattle.syntax.specs.Grammar.{HasTree}
use Rattle.syntax.specs.Trees.{Decl}
use Rattle.explanation_names.specs.NearNames.{IsNear}
use Rattle.explanation_names.specs.TokensThere.{name_there}

-- the token `null` at a byte
abbrev pub null_at : ℕ → Tok
null_at at = record { kind = word Null; span = record { start = at; end = at } }

-- the token, or `null`, if it begins there
abbrev pub put_null : ℕ → Tok → Tok
put_null at t = if t.span.start == at then null_at t.span.start else t

-- the tokens, with `null` in the place of what begins there
abbrev pub with_null : ℕ → List Tok → List Tok
with_null at tokens = map (put_null at) tokens

-- `null` is near to the name, and with it the tokens have a tree
pub record IsNullMeantBy (tokens : List Tok) (at : ℕ) (unknown : List ℕ) : Type 0 where
  pub near : IsNear unknown (keyword_text Null)
  pub decls : List Decl
  pub has_tree : HasTree (with_null at tokens) decls

-- `null` may be meant by the name that begins at the byte
pub record IsNullMeant (tokens : List Tok) (at : ℕ) : Type 0 where
  pub unknown : List ℕ
  pub there : name_there at tokens ≡ Some unknown
  pub meant : IsNullMeantBy tokens at unknown
