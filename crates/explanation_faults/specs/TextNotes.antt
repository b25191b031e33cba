-- The notes on a fault of a text.
use Rattle.std.specs.List.{starts_with}
use Rattle.std.specs.Prelude.{◌≡◌, ◌<◌, ◌≤◌, ℕ, Bool, true, ◌||◌, nat_eq, List, [], ◌∷◌, ◌++◌, All, codes, length, slice_get, Some}
use Rattle.explanation.specs.Notes.{Note}
use Rattle.source.specs.declared.fault.Code.{Code}
use Rattle.source.specs.declared.fault.Code.TheVariants.{BadCharacter, LimitExceeded, UnexpectedToken}
use Rattle.source.specs.Texts.{HasTokens, IsOver, SOURCE_LIMIT}
use Rattle.source.specs.Tokens.{Tok, name}
use Rattle.syntax.specs.Faults.{IsUnexpected}
use Rattle.syntax.specs.Grammar.{HasTree}
use Rattle.explanation_tokens.specs.Expected.{IsTrueTokenNote, IsTokenTold}
use Rattle.explanation_tokens.specs.Told.{IsAdvice}
use Rattle.syntax.specs.Trees.{Decl}
use Rattle.explanation_faults.specs.FaultNotes.{IsTrueNote, IsTold}
use Rattle.explanation_faults.specs.Words.{note_of_all}

-- the text's tokens and their tree, wherever its returns stand
pub record HasTextTree (text : List ℕ) (tokens : List Tok) (decls : List Decl) : Type 0 where
  pub has_tokens : HasTokens text tokens
  pub has_tree : HasTree tokens decls

-- E15, for a text that is too long, which is then its one fault, and for a name of it
pub data IsTextLimit (text : List ℕ) : ℕ → List ℕ → Type 0 where
  source : SOURCE_LIMIT < length text → IsTextLimit text 0 (codes "a source has at most 1048576 bytes")
  a_name : {at : ℕ} (x : List ℕ) →
      length text ≤ SOURCE_LIMIT → IsOver (length text) text at (name x) → IsTextLimit text at (codes "a name has at most 64 bytes")

-- the text begins with a byte order mark: that of UTF-8, or one of UTF-16
abbrev pub has_mark : List ℕ → Bool
has_mark text =
    starts_with nat_eq text (239 ∷ 187 ∷ 191 ∷ []) || starts_with nat_eq text (254 ∷ 255 ∷ []) || starts_with nat_eq text (255 ∷ 254 ∷ [])

-- a fault of this code at this byte is that mark
pub record IsMarkFault (text : List ℕ) (code : Code) (at : ℕ) : Type 0 where
  pub few : length text ≤ SOURCE_LIMIT
  pub bad : code ≡ BadCharacter
  pub first : at ≡ 0
  pub marked : has_mark text ≡ true

-- E01, for a byte order mark (EF BB BF, FE FF or FF FE) at the first byte
abbrev pub mark_words : List ℕ
mark_words = codes "the file begins with a byte order mark: save it as ASCII or UTF-8 without one"

-- the note is true for a fault of this code at this byte of the text; for a text that is too long it can only be the
-- note that says so
pub data IsTrueTextNote (text : List ℕ) (code : Code) (at : ℕ) (note : Note) : Type 0 where
  of_tree : {tokens : List Tok} {decls : List Decl} →
      length text ≤ SOURCE_LIMIT → HasTextTree text tokens decls → IsTrueNote tokens decls code at note → IsTrueTextNote text code at note
  of_tokens : {tokens : List Tok} →
      length text ≤ SOURCE_LIMIT → HasTokens text tokens → IsTrueTokenNote tokens code at note → IsTrueTextNote text code at note
  of_advice : {tokens : List Tok} →
      length text ≤ SOURCE_LIMIT → HasTokens text tokens → IsAdvice tokens code at note → IsTrueTextNote text code at note
  of_mark : IsMarkFault text code at → note ≡ note_of_all mark_words → IsTrueTextNote text code at note
  of_limit : {words : List ℕ} →
      code ≡ LimitExceeded → IsTextLimit text at words → note ≡ note_of_all words → IsTrueTextNote text code at note

-- all these notes are true for a fault of this code at this byte
abbrev pub AreTrueTextNotes : List ℕ → Code → ℕ → List Note → Type 0
AreTrueTextNotes text code at notes = All (IsTrueTextNote text code at) notes

-- the notes on an unexpected token: the advice, and then what could be there, each at most once; the latter is there
-- where the tokens require it
pub record AreEachOnce (tokens : List Tok) (code : Code) (at : ℕ) (notes : List Note) : Type 0 where
  pub advice : List Note
  pub expected : List Note
  pub parts : notes ≡ advice ++ expected
  pub are_advice : All (IsAdvice tokens code at) advice
  pub one_advice : length advice ≤ 1
  pub are_expected : All (IsTrueTokenNote tokens code at) expected
  pub one_expected : length expected ≤ 1
  pub told : IsUnexpected tokens at → IsTokenTold tokens code at → 1 ≤ length expected

-- the advice on an unexpected token, if there is one, is the first note
abbrev pub IsAdviceTold : List ℕ → Code → ℕ → List Note → Type 0
IsAdviceTold text code at notes =
    (tokens : List Tok) (note : Note) → length text ≤ SOURCE_LIMIT → HasTokens text tokens → IsUnexpected tokens at →
    IsAdvice tokens code at note → slice_get notes 0 ≡ Some note

-- the notes are true, at most one is given unless the fault is an unexpected token, and there is one where one is
-- required
pub record AreTextNotes (text : List ℕ) (code : Code) (at : ℕ) (notes : List Note) : Type 0 where
  pub are_true : AreTrueTextNotes text code at notes
  pub single : (code ≡ UnexpectedToken → ⊥) → length notes ≤ 1
  pub told : (tokens : List Tok) (decls : List Decl) → length text ≤ SOURCE_LIMIT → HasTextTree text tokens decls →
      IsTold tokens decls code at →
      1 ≤ length notes
  pub each_once : (tokens : List Tok) → code ≡ UnexpectedToken → length text ≤ SOURCE_LIMIT → HasTokens text tokens →
      AreEachOnce tokens code at notes
  pub advised : IsAdviceTold text code at notes
  pub marked : IsMarkFault text code at → 1 ≤ length notes
  pub limited : (words : List ℕ) → code ≡ LimitExceeded → IsTextLimit text at words → 1 ≤ length notes
