-- The tokens that could be in the place of another.
use Rattle.std.specs.Prelude.{◌≡◌, ℕ, ◌+◌, ◌<◌, ◌≤◌, List, [], ◌∷◌, ◌++◌, All, None, codes, length}
use Rattle.std.specs.List.{flat_map}
use Rattle.source.specs.declared.fault.Code.{Code}
use Rattle.source.specs.declared.fault.Code.TheVariants.{UnexpectedToken}
use Rattle.source.specs.declared.token.Keyword.TheVariants as keyword
use Rattle.source.specs.declared.token.Sign.TheVariants as sign
use Rattle.source.specs.Texts.{keyword_text, sign_text}
use Rattle.source.specs.Tokens.{Lexeme, name, int, word, mark, Tok}
use Rattle.syntax.specs.Grammar.{Spells, IsShallow}
use Rattle.syntax.specs.Trees.{Decl}
use Rattle.explanation.specs.Notes.{Note}
use Rattle.explanation_tokens.specs.declared.candidate.Candidate.{Candidate}
use Rattle.explanation_tokens.specs.declared.candidate.Candidate.TheVariants.{Name, Number, Word, Mark}

-- ---- kinds of tokens

-- all kinds but the end of the text: a name, a number, each reserved word, each sign
abbrev pub all_candidates : List Candidate
all_candidates =
    Name ∷ Number
    ∷ Word keyword.Lock ∷ Word keyword.Struct ∷ Word keyword.Final ∷ Word keyword.Ref ∷ Word keyword.Int ∷ Word keyword.Global
    ∷ Word keyword.ProtectedBy ∷ Word keyword.Pool ∷ Word keyword.Init ∷ Word keyword.Atomic ∷ Word keyword.Let ∷ Word keyword.Var
    ∷ Word keyword.If ∷ Word keyword.Else ∷ Word keyword.While ∷ Word keyword.Print ∷ Word keyword.Return ∷ Word keyword.Thread
    ∷ Word keyword.Repeat ∷ Word keyword.Null ∷ Word keyword.Where ∷ Word keyword.Call
    ∷ Mark sign.OpenBrace ∷ Mark sign.CloseBrace ∷ Mark sign.OpenParen ∷ Mark sign.CloseParen ∷ Mark sign.OpenBracket ∷ Mark sign.CloseBracket
    ∷ Mark sign.Semicolon ∷ Mark sign.Comma ∷ Mark sign.Colon ∷ Mark sign.Dot ∷ Mark sign.Equals ∷ Mark sign.DoubleEquals ∷ Mark sign.NotEquals
    ∷ Mark sign.Less ∷ Mark sign.LessEquals ∷ Mark sign.Greater ∷ Mark sign.GreaterEquals ∷ Mark sign.Plus ∷ Mark sign.Minus ∷ Mark sign.Star
    ∷ Mark sign.Slash ∷ Mark sign.Percent ∷ Mark sign.And ∷ Mark sign.Or ∷ Mark sign.Not ∷ []

-- a token of this kind: `a` stands for any name, and 0 for any number
abbrev pub lexeme_of : Candidate → Lexeme
lexeme_of Name = name (codes "a")
lexeme_of Number = int 0
lexeme_of (Word w) = word w
lexeme_of (Mark s) = mark s

-- a token of this kind that begins at this byte
abbrev pub token_at : Candidate → ℕ → Tok
token_at candidate start = record { kind = lexeme_of candidate; span = record { start = start; end = start + 1 } }

-- ---- what can come

-- some program begins with these tokens and the candidate after them, and none of their opening signs is too deep
pub record CanCome (before : List Tok) (start : ℕ) (candidate : Candidate) : Type 0 where
  pub decls : List Decl
  pub others : List Tok
  pub begins : Spells decls (before ++ token_at candidate start ∷ others)
  pub shallow : IsShallow (before ++ token_at candidate start ∷ [])

-- a token begins at this byte, after these
pub record IsBehind (ts : List Tok) (start : ℕ) (before : List Tok) : Type 0 where
  pub token : Tok
  pub after : List Tok
  pub parts : ts ≡ before ++ token ∷ after
  pub place : token.span.start ≡ start

-- the items of a list that have a property, in its order
pub data AreThose {A : Type 0} (Is : A → Type 0) : List A → List A → Type 0 where
  no_more : AreThose Is [] []
  it_is : {x : A} {xs those : List A} → Is x → AreThose Is xs those → AreThose Is (x ∷ xs) (x ∷ those)
  it_is_not : {x : A} {xs those : List A} → (Is x → ⊥) → AreThose Is xs those → AreThose Is (x ∷ xs) those

-- all kinds of tokens that can be in the place of the one that begins there
pub record AreExpected (ts : List Tok) (start : ℕ) (list : List Candidate) : Type 0 where
  pub before : List Tok
  pub place : IsBehind ts start before
  pub those : AreThose (CanCome before start) all_candidates list

-- ---- what is said

-- a kind of token in words: a name, a number, or a word or sign in backquotes
abbrev pub candidate_text : Candidate → List ℕ
candidate_text Name = codes "a name"
candidate_text Number = codes "a number"
candidate_text (Word w) = codes "`" ++ keyword_text w ++ codes "`"
candidate_text (Mark s) = codes "`" ++ sign_text s ++ codes "`"

-- the words for each kind, each after a comma
abbrev pub candidate_texts : List Candidate → List ℕ
candidate_texts others = flat_map (λ (candidate : Candidate). codes ", " ++ candidate_text candidate) others

-- E03, after at most 4,096 tokens: all that can come there, `a name` and `a number` first, then keywords and signs in
-- the order of LANGUAGE.md
abbrev pub expected_words : Candidate → List Candidate → List ℕ
expected_words first others = codes "expected " ++ candidate_text first ++ candidate_texts others

-- the most tokens that are read again
abbrev pub READ_LIMIT : ℕ
READ_LIMIT = 4096

-- a note on an unexpected token with at most that many tokens before it lists all kinds that can be in its place
pub record IsTrueTokenNote (ts : List Tok) (code : Code) (start : ℕ) (note : Note) : Type 0 where
  pub unexpected : code ≡ UnexpectedToken
  pub first : Candidate
  pub others : List Candidate
  pub expected : AreExpected ts start (first ∷ others)
  pub few : length expected.before ≤ READ_LIMIT
  pub said : note ≡ record { start = None; words = expected_words first others }

-- a note has to be given: on an unexpected token with at most that many tokens before it, if some kind can be in its
-- place
pub record IsTokenTold (ts : List Tok) (code : Code) (start : ℕ) : Type 0 where
  pub unexpected : code ≡ UnexpectedToken
  pub before : List Tok
  pub place : IsBehind ts start before
  pub few : length before ≤ READ_LIMIT
  pub candidate : Candidate
  pub can_come : CanCome before start candidate

-- the tokens begin before this byte
abbrev pub StartBefore : List Tok → ℕ → Type 0
StartBefore ts start = All (λ (t : Tok). t.span.start < start) ts

-- as in a text: the tokens before one that begins there begin before it, and the place is followed by another byte
pub record AreInOrder (ts : List Tok) (start : ℕ) : Type 0 where
  pub low : start < 4294967295
  pub rise : (before : List Tok) → IsBehind ts start before → StartBefore before start

-- the notes are true, at most one is given, and for tokens in order one is given if it has to be
pub record AreTokenNotes (ts : List Tok) (code : Code) (start : ℕ) (notes : List Note) : Type 0 where
  pub are_true : All (IsTrueTokenNote ts code start) notes
  pub few : length notes ≤ 1
  pub told : AreInOrder ts start → IsTokenTold ts code start → 1 ≤ length notes
