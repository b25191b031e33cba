-- Which text is the layout of which, and why a text has none.
use Rattle.std.specs.Prelude.{◌≡◌, ℕ, ◌≤◌, List, [], map, length, string_bytes, Result, MatchResult}
use Rattle.source.specs.declared.fault.Code.{Code}
use Rattle.source.specs.Faults.{IsFaultAt}
use Rattle.source.specs.declared.fault.Refusal.{Refusal}
use Rattle.source.specs.declared.fault.Refusal.TheVariants.{Fault, NoMemory}
use Rattle.source.specs.Tokens.{Lexeme, Tok}
use Rattle.source.specs.Texts as text
use Rattle.syntax.specs.Trees.{Decl}
use Rattle.syntax.specs.Faults as grammar
use Rattle.formatting.specs.Pieces.{Piece, HasPieces, items_of}
use Rattle.formatting.specs.Layout.{START, laid}

-- `out` is the layout of the text's pieces
pub record IsFormatted (source out : List ℕ) : Type 0 where
  pub tokens : List Tok
  pub pieces : List Piece
  pub has_pieces : HasPieces source tokens pieces
  pub is_laid : out ≡ laid START 0 pieces

-- a text within the limit, whose tokens have a right tree
pub record IsProgram (source : List ℕ) : Type 0 where
  pub within : length source ≤ text.SOURCE_LIMIT
  pub tokens : List Tok
  pub tree : List Decl
  pub has_tokens : text.HasTokens source tokens
  pub has_tree : grammar.HasRightTree tokens tree

-- a fault of the text, or a fault of its tokens if the text is within the limit and has tokens
pub data HasFault (source : List ℕ) (code : Code) (start : ℕ) : Type 0 where
  of_text : text.IsFault source code start → HasFault source code start
  of_tokens : (tokens : List Tok) → length source ≤ text.SOURCE_LIMIT → text.HasTokens source tokens →
      grammar.IsFault tokens code start → HasFault source code start

-- the refusal is such a fault, with no detail, or the failure of an allocation
abbrev pub IsRefusal : List ℕ → Refusal → Type 0
IsRefusal source NoMemory = Unit {0}
IsRefusal source (Fault f) = HasFault source f.code f.start × (string_bytes f.detail ≡ [])

-- the result is a refusal with this fault, or the failure of an allocation
abbrev pub IsRefusedAt : {X : Type 0} → Code → ℕ → Result X Refusal → Type 0
IsRefusedAt code start r = MatchResult r (λ _. ⊥) (IsFaultAt code start)

-- the kind of a token
abbrev pub kind : Tok → Lexeme
kind t = t.kind

-- the two texts have the same tokens, and the same tokens and comments, byte for byte, in the same order
pub record KeepsTokens (source out : List ℕ) : Type 0 where
  pub tokens : List Tok
  pub others : List Tok
  pub pieces : List Piece
  pub other_pieces : List Piece
  pub has_pieces : HasPieces source tokens pieces
  pub other_has_pieces : HasPieces out others other_pieces
  pub has_tokens : text.HasTokens source tokens
  pub other_has_tokens : text.HasTokens out others
  pub same_tokens : map kind others ≡ map kind tokens
  pub same_items : items_of other_pieces ≡ items_of pieces
