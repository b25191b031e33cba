-- The advice on an unexpected token: a table of rows, of which the first that fits is reported.
use Rattle.std.specs.Fmt.{decimal}
use Rattle.std.specs.List.{flat_map}
use Rattle.std.specs.Option.{option_map}
use Rattle.std.specs.Prelude.{ℕ, ◌+◌, ◌-◌, Bool, if◌then◌else◌, ◌&&◌, nat_le, List, [], ◌∷◌, ◌++◌, codes, find}
use Rattle.std.specs.Prelude.{slice_get, Option, Some, None}
use Rattle.source.specs.declared.token.Keyword.TheVariants as key
use Rattle.source.specs.declared.token.Sign.TheVariants as sign
use Rattle.source.specs.Texts.{is_between, keyword_text, sign_text}
use Rattle.source.specs.Tokens.{Lexeme, name, int, word, mark, end, Tok}
use Rattle.explanation.specs.Notes.{Note}
use Rattle.explanation_tokens.specs.declared.advice.Advice.{Advice}
use Rattle.explanation_tokens.specs.declared.advice.Advice.TheVariants as advice
use Rattle.explanation_tokens.specs.declared.area.Area.{Area}
use Rattle.explanation_tokens.specs.declared.area.Area.TheVariants.{Anywhere, Body, Calls, Fields, Guarded}
use Rattle.explanation_tokens.specs.declared.area.Area.TheVariants.{Head, Top}
use Rattle.explanation_tokens.specs.declared.area.Inner.{Inner}
use Rattle.explanation_tokens.specs.declared.area.Inner.TheVariants.{Brace, Either, Paren}
use Rattle.explanation_tokens.specs.declared.area.Opened.{Opened}
use Rattle.explanation_tokens.specs.declared.pattern.Foreign.TheVariants as foreign
use Rattle.explanation_tokens.specs.declared.pattern.Pattern.{Pattern}
use Rattle.explanation_tokens.specs.declared.pattern.Pattern.TheVariants.{Any, Begins, Compares, Computes}
use Rattle.explanation_tokens.specs.declared.pattern.Pattern.TheVariants.{Declares, Ends, Mark, Member, Name}
use Rattle.explanation_tokens.specs.declared.pattern.Pattern.TheVariants.{Near, Number, Outer, Spelt, Starts}
use Rattle.explanation_tokens.specs.declared.pattern.Pattern.TheVariants.{TextEnd, Value, Word}
use Rattle.explanation_tokens.specs.declared.rows.Row.{Row}
use Rattle.explanation_tokens.specs.declared.rows.Shape.{Shape}
use Rattle.explanation_tokens.specs.Around.{around, area_of, fits_area, fits_inner, inner_of}
use Rattle.explanation_tokens.specs.Patterns.{fits_there}

-- ---- the table

-- a row: the part of a declaration that the unexpected token is in, the innermost open sign, what five tokens before
-- it, it and one after it have to be, in the order of the text, and the advice
abbrev pub row : Area → Inner → Pattern → Pattern → Pattern → Pattern → Pattern → Pattern → Pattern → Advice → Row
row area inner a b c d e f g told = record {
  0 = area;
  1 = inner;
  2 = record { 0 = a; 1 = b; 2 = c; 3 = d; 4 = e; 5 = f; 6 = g };
  3 = told;
}

-- the rows on syntax of other languages
unfoldable pub foreign_rows : List Row
foreign_rows =
    row Body Either Any Any Any Starts (Spelt foreign.Do) (Mark sign.OpenBrace) Any advice.Do
    ∷ row Body Either Any Any Any Starts (Spelt foreign.Switch) (Mark sign.OpenParen) Any advice.Switch
    ∷ row Top Either Any Any Any Any Any (Spelt foreign.Void) Name advice.Void
    ∷ row Body Paren Any Any Any Any Any (Mark sign.Equals) Any advice.Equality
    ∷ row Top Either Any Any Any Any Any (Mark sign.CloseBrace) Any advice.Unopened
    ∷ row Anywhere Either Any Any Any Any Number (Mark sign.Dot) Number advice.Whole
    ∷ row Anywhere Either Any Any Any Any Number Name (Mark sign.Semicolon) advice.Decimal
    ∷ row Top Either Any Any (Word key.Pool) Name Name (Mark sign.Semicolon) Any advice.PoolSize
    ∷ row Body Either Any Any Any Any Any (Word key.Lock) Any advice.NoLocking
    ∷ row Head Either Any Any Any Any Any (Word key.Lock) (Mark sign.OpenParen) advice.ListedClasses
    ∷ []

-- the rows on what is left out, or written in another order
unfoldable pub usual_rows : List Row
usual_rows =
    row Anywhere Either Any Any Any Any Any (Mark sign.Slash) (Mark sign.Star) advice.Comment
    ∷ row Anywhere Either Any Any Any Any (Mark sign.Slash) (Mark sign.Star) Any advice.Comment
    ∷ row Body Either Any Any Any Any (Spelt foreign.For) Any Any advice.For
    ∷ row Body Either Any Any Any Any (Spelt foreign.Break) (Mark sign.Semicolon) Any advice.Leave
    ∷ row Body Either Any Any Any Any (Spelt foreign.Continue) (Mark sign.Semicolon) Any advice.Skip
    ∷ row Body Either Any Any Any Any (Word key.Else) (Word key.If) Any advice.ElseIf
    ∷ row Body Either Any Any Any Any (Word key.Else) Any Any advice.ElseBlock
    ∷ row Body Either Any Any Any Any (Word key.If) Any Any advice.Condition
    ∷ row Body Either Any Any Any Any (Word key.While) Any Any advice.Condition
    ∷ row Guarded Either Any Any Any Any Any Begins Any advice.Block
    ∷ row Guarded Either Any Any Any Any Any Name Any advice.Block
    ∷ row Guarded Either Any Any Any Any Any (Mark sign.Semicolon) Any advice.Block
    ∷ row Body Either Any Any Any Any (Word key.Let) (Word key.Int) Name advice.NameFirst
    ∷ row Body Either Any Any Any Any (Word key.Var) (Word key.Int) Name advice.NameFirst
    ∷ row Body Either Any Any Any (Word key.Let) Name (Mark sign.Equals) Any advice.TypeMissing
    ∷ row Body Either Any Any Any (Word key.Var) Name (Mark sign.Equals) Any advice.TypeMissing
    ∷ row Body Either Any (Word key.Var) Name (Mark sign.Colon) (Word key.Int) (Mark sign.Semicolon) Any advice.ValueMissing
    ∷ row Body Either Any (Word key.Let) Name (Mark sign.Colon) (Word key.Int) (Mark sign.Semicolon) Any advice.ValueMissing
    ∷ row Body Either Any Any Any Any Any (Word key.Int) Name advice.LocalInt
    ∷ row Body Either Any Any Any Any Any (Word key.Ref) Name advice.LocalRef
    ∷ row Anywhere Either Any Any Any Any Any (Spelt foreign.Bool) Any advice.Truth
    ∷ row Body Either Any Any Any Any (Spelt foreign.Bool) Name Any advice.Truth
    ∷ row Top Either Any Any Any Any (Spelt foreign.True) (Mark sign.Semicolon) Any advice.TrueValue
    ∷ row Top Either Any Any Any Any (Spelt foreign.False) (Mark sign.Semicolon) Any advice.FalseValue
    ∷ row Anywhere Either Any Any Any Any Any (Spelt foreign.True) Any advice.TrueValue
    ∷ row Anywhere Either Any Any Any Any Any (Spelt foreign.False) Any advice.FalseValue
    ∷ row Body Either Any Any Any Any (Spelt foreign.New) Name Any advice.New
    ∷ row Body Either Any Any Any Any (Near key.Let) Name (Mark sign.Colon) (advice.Meant key.Let)
    ∷ row Body Either Any Any Any Any (Near key.Var) Name (Mark sign.Colon) (advice.Meant key.Var)
    ∷ row Body Either Any Any Any Starts (Near key.Print) Any Any (advice.Meant key.Print)
    ∷ row Body Either Any Any Any Starts (Near key.Return) Any Any (advice.Meant key.Return)
    ∷ row Body Either Any Any Any Any (Near key.Call) Name (Mark sign.OpenParen) (advice.Meant key.Call)
    ∷ row Body Either Any Any Any Starts (Near key.If) (Mark sign.OpenParen) Any (advice.Meant key.If)
    ∷ row Body Either Any Any Any Starts (Near key.While) (Mark sign.OpenParen) Any (advice.Meant key.While)
    ∷ row Body Either Any Any Any Any (Near key.Else) (Mark sign.OpenBrace) Any (advice.Meant key.Else)
    ∷ row Body Either Any Any Any Any Any (Near key.Where) Name (advice.Meant key.Where)
    ∷ row Calls Either Any Any Any Any (Near key.Repeat) Number (Mark sign.OpenBrace) (advice.Meant key.Repeat)
    ∷ row Anywhere Either Any Any Any Any (Mark sign.Colon) (Near key.Int) Any (advice.Meant key.Int)
    ∷ row Head Either Any Any Any Any Any (Near key.Int) Name (advice.Meant key.Int)
    ∷ row Fields Either Any Any Any Any Any (Near key.Int) Name (advice.Meant key.Int)
    ∷ row Top Either Any Any Any Any (Word key.Global) (Near key.Int) Name (advice.Meant key.Int)
    ∷ row Anywhere Either Any Any Any Any (Mark sign.Colon) (Near key.Ref) Any (advice.Meant key.Ref)
    ∷ row Head Either Any Any Any Any Any (Near key.Ref) Name (advice.Meant key.Ref)
    ∷ row Fields Either Any Any Any Any Any (Near key.Ref) Name (advice.Meant key.Ref)
    ∷ row Top Either Any Any Any Any (Word key.Global) (Near key.Ref) Name (advice.Meant key.Ref)
    ∷ row Top Either Any Any Any (Mark sign.Equals) (Near key.Null) Any Any (advice.Meant key.Null)
    ∷ row Calls Either Any Any Any Any (Near key.Null) Any Any (advice.Meant key.Null)
    ∷ row Fields Either Any Any Any Any Any (Near key.Lock) Any (advice.Meant key.Lock)
    ∷ row Fields Either Any Any Any Any Any (Near key.Final) Any (advice.Meant key.Final)
    ∷ row Fields Either Any Any Any Any Any (Near key.ProtectedBy) (Mark sign.OpenParen) (advice.Meant key.ProtectedBy)
    ∷ row Top Either Any Any Any Any Any (Near key.ProtectedBy) (Mark sign.OpenParen) (advice.Meant key.ProtectedBy)
    ∷ row Top Either Any Any Any Any Any (Near key.Lock) Any (advice.Meant key.Lock)
    ∷ row Top Either Any Any Any Any Any (Near key.Struct) Any (advice.Meant key.Struct)
    ∷ row Top Either Any Any Any Any Any (Near key.Global) Any (advice.Meant key.Global)
    ∷ row Top Either Any Any Any Any Any (Near key.Pool) Any (advice.Meant key.Pool)
    ∷ row Top Either Any Any Any Any Any (Near key.Init) Any (advice.Meant key.Init)
    ∷ row Top Either Any Any Any Any Any (Near key.Atomic) Any (advice.Meant key.Atomic)
    ∷ row Top Either Any Any Any Any Any (Near key.Thread) Any (advice.Meant key.Thread)
    ∷ row Top Either Any Any Any Any Any (Near key.Call) Any (advice.Meant key.Call)
    ∷ row Body Either Any Any Any Starts Name Name (Mark sign.Equals) advice.LocalTyped
    ∷ row Body Either Any Any Any Starts Name Computes (Mark sign.Equals) advice.Update
    ∷ row Body Either Any Starts Name (Mark sign.Dot) Name Computes (Mark sign.Equals) advice.UpdateField
    ∷ row Body Either Any Any Any Any Any Computes (Mark sign.Equals) advice.UpdatePlace
    ∷ row Body Either Any Any Any Starts Name (Mark sign.Plus) (Mark sign.Plus) advice.Step
    ∷ row Body Either Any Any Any Starts Name (Mark sign.Minus) (Mark sign.Minus) advice.Step
    ∷ row Body Either Any Any Any Starts Name (Mark sign.Minus) (Mark sign.Greater) advice.Arrow
    ∷ row Body Either Any Starts Name (Mark sign.Dot) Name (Mark sign.Plus) (Mark sign.Plus) advice.StepField
    ∷ row Body Either Any Starts Name (Mark sign.Dot) Name (Mark sign.Minus) (Mark sign.Minus) advice.StepField
    ∷ row Body Either Any Any Any Any Any (Mark sign.Plus) (Mark sign.Plus) advice.StepPlace
    ∷ row Body Either Any Any Any Any Any (Mark sign.Minus) (Mark sign.Minus) advice.StepPlace
    ∷ row Body Either Any Any Any Any (Mark sign.Plus) (Mark sign.Plus) Any advice.NoStep
    ∷ row Body Either Any Any Any (Mark sign.Minus) (Mark sign.Minus) (Mark sign.Semicolon) Any advice.NoStepDown
    ∷ row Body Either Any Any Any Any (Mark sign.Minus) (Mark sign.Minus) Any advice.TwiceMinus
    ∷ row Body Either Any Any Any Any (Mark sign.Not) (Mark sign.Not) Any advice.TwiceNot
    ∷ row Body Either Any Any Any Name (Mark sign.Minus) (Mark sign.Greater) Any advice.ArrowValue
    ∷ row Body Either Any Any Any Any (Mark sign.Less) (Mark sign.Less) Any advice.ShiftLeft
    ∷ row Body Either Any Any Any Any (Mark sign.Greater) (Mark sign.Greater) Any advice.ShiftRight
    ∷ row Body Either Any Any Value Compares Value Compares Value advice.Chain
    ∷ row Body Either Any Any Any Compares Value Compares Any advice.ChainOf
    ∷ row Body Either Any Any Any (Word key.Print) Value (Mark sign.Comma) Any advice.PrintOne
    ∷ row Body Either Any Name (Mark sign.OpenBracket) Value (Mark sign.CloseBracket) (Mark sign.Dot) Name advice.Element
    ∷ row Body Either Any Any Any Any (Mark sign.CloseBracket) (Mark sign.Dot) Name advice.ElementOf
    ∷ row Body Either Any Any Any Any (Mark sign.CloseParen) (Mark sign.Dot) Name advice.ElementOf
    ∷ row Body Either Any Any Any (Word key.Where) Name Any Any advice.WhereEquals
    ∷ row Body Either Any (Word key.Where) Name (Mark sign.DoubleEquals) Name (Mark sign.Dot) Name advice.WhereName
    ∷ row Body Either Any Any Any Any Ends (Word key.Where) Any advice.WhereLet
    ∷ row Body Either Any Any Any Any Name (Mark sign.OpenParen) Any advice.CallMissing
    ∷ row Body Either Any Any Any Any (Word key.Return) (Mark sign.Semicolon) Any advice.NoReturn
    ∷ row Anywhere Either Any Any Any Any (Word key.Atomic) (Word key.Int) Any advice.ResultBehind
    ∷ row Head Either Any Any Any Any (Word key.Call) (Word key.Int) Any advice.ResultBehind
    ∷ row Head Either Any Any Any Any (Mark sign.OpenParen) Name (Mark sign.Colon) advice.ParameterType
    ∷ row Head Either Any Any Any Any (Mark sign.Comma) Name (Mark sign.Colon) advice.ParameterType
    ∷ row Top Either Any Any Any Any Any (Word key.Int) Name advice.TopInt
    ∷ row Top Either Any Any Any Any Any (Word key.Ref) Name advice.TopRef
    ∷ row Top Either Any Any Any (Word key.Lock) Name (Mark sign.OpenBracket) Any advice.LockArray
    ∷ row Fields Either Any Any Any (Word key.Lock) Name (Mark sign.OpenBracket) Any advice.LockArray
    ∷ row Fields Either Any Any Any Any Name (Mark sign.OpenBracket) Any advice.FieldArray
    ∷ row Top Either Any Any Any Any (Word key.Global) Name Name advice.GlobalStruct
    ∷ row Body Either Any Any Any Starts Name (Mark sign.Semicolon) Any advice.NameAlone
    ∷ row Body Either Any Any Any Starts Name (Mark sign.CloseBrace) Any advice.NameAlone
    ∷ row Body Either Any Any Any Starts Name Begins Any advice.NameAlone
    ∷ row Anywhere Either Any Any Any Any Starts (Mark sign.Semicolon) Any advice.NoSemicolon
    ∷ row Body Brace Any Any Any Any Ends Begins Any advice.Semicolon
    ∷ row Body Brace Any Any Any Any Ends (Mark sign.CloseBrace) Any advice.Semicolon
    ∷ row Fields Brace Any Any Any Any Ends Member Any advice.Semicolon
    ∷ row Fields Brace Any Any Any Any Ends (Mark sign.CloseBrace) Any advice.Semicolon
    ∷ row Calls Brace Any Any Any Any (Mark sign.CloseParen) Name Any advice.Semicolon
    ∷ row Calls Brace Any Any Any Any (Mark sign.CloseParen) (Word key.Repeat) Any advice.Semicolon
    ∷ row Calls Brace Any Any Any Any (Mark sign.CloseParen) (Mark sign.CloseBrace) Any advice.Semicolon
    ∷ row Top Either Any Any Any Any Ends Declares Any advice.Semicolon
    ∷ row Body Brace Any Any Any Any Ends Name (Mark sign.Equals) advice.Semicolon
    ∷ row Body Brace Any Any Any Any Ends Name (Mark sign.Dot) advice.Semicolon
    ∷ row Body Either Any Any Any Any Any (Word key.Call) Name advice.CallBound
    ∷ row Anywhere Paren Any Any Any Any Any (Mark sign.Semicolon) Any advice.OpenParen
    ∷ row Anywhere Paren Any Any Any Any Any (Mark sign.OpenBrace) Any advice.OpenParen
    ∷ row Anywhere Paren Any Any Any Any Any (Mark sign.CloseBrace) Any advice.OpenParen
    ∷ row Anywhere Paren Any Any Any Any Any Outer Any advice.OpenParen
    ∷ row Anywhere Paren Any Any Any Any Any TextEnd Any advice.OpenParen
    ∷ row Anywhere Brace Any Any Any Any Any Outer Any advice.OpenBrace
    ∷ row Anywhere Brace Any Any Any Any Any TextEnd Any advice.OpenBrace
    ∷ []

-- all rows; the first that fits is reported
abbrev pub rows : List Row
rows = foreign_rows ++ usual_rows

-- ---- which row is reported

-- the token at a column of a shape that is laid over the tokens, so that the one after the first n is at column 5
abbrev pub there : List Tok → ℕ → ℕ → Option Tok
there ts n column = if nat_le 5 (n + column) then slice_get ts (n + column - 5) else None

-- the tokens around the n-th fit the shape
abbrev pub fits_shape : List Tok → ℕ → Shape → Bool
fits_shape ts n s =
    fits_there s.5 (there ts n 5)
    && fits_there s.4 (there ts n 4)
    && fits_there s.6 (there ts n 6)
    && fits_there s.3 (there ts n 3)
    && fits_there s.2 (there ts n 2)
    && fits_there s.1 (there ts n 1)
    && fits_there s.0 (there ts n 0)

-- the row fits the token after the first n
abbrev pub row_fits : List Tok → ℕ → Row → Bool
row_fits ts n r =
    fits_area (area_of (around n ts)) r.0 && fits_inner (inner_of (around n ts).opened) r.1 && fits_shape ts n r.2

-- the first row that fits the token after the first n
abbrev pub first_row : List Tok → ℕ → Option Row
first_row ts n = find (row_fits ts n) rows

-- ---- words

-- the words of the advice, in which `A` to `G` stand for the tokens of the shape
abbrev pub words : Advice → List ℕ
words (advice.Meant w) = codes " could be meant"
words advice.Do = codes "there is no `do`: write the block once ahead of `while (..) { .. }`"
words advice.Switch = codes "there is no `switch`: write `if (..) { .. } else { if (..) { .. } }`"
words advice.Void = codes "a section is declared by `atomic G(..) { .. }`, a helper by `call G(..) { .. }`"
words advice.Equality = codes "two values are compared by `==`, and an `=` stands in a statement of its own"
words advice.Unopened = codes "this `}` closes nothing: it is one too many, or a `{` is missing before it"
words advice.Whole = codes "numbers are whole: there are no fractions"
words advice.Decimal = codes "a number is written with decimal digits alone"
words advice.PoolSize = codes "a pool says how many objects it has: `pool D E[1];`"
words advice.NoLocking = codes "leave it out: the compiler takes the locks and gives them back"
words advice.ListedClasses = codes "`lock(S.l)` stands once, after the result's type, in the head of an `atomic`; a helper's locks are those of what calls it"
words advice.Comment = codes "a comment begins with `//`, and goes to the end of the line"
words advice.For = codes "there is no `for`: write `while (..) { .. }`"
words advice.Leave = codes "there is no `E`: make the condition of the `while` false"
words advice.Skip = codes "there is no `E`: put the rest of the turn into an `if`"
words advice.ElseIf = codes "write `else { if (..) { .. } }`"
words advice.ElseBlock = codes "what follows `else` is put between `{` and `}`"
words advice.Condition = codes "a condition stands in parentheses: `E (..) { .. }`"
words advice.Block = codes "what an `if` or a `while` guards is put between `{` and `}`"
words advice.NameFirst = codes "the name comes first: `E G: int = ..;`"
words advice.TypeMissing = codes "a local is declared with its type: `D E: int = ..;`, or `D E: ref S = ..;`"
words advice.ValueMissing = codes "a local begins with a value: `B C: int = 0;`"
words advice.LocalInt = codes "a local is declared by `let G: int = ..;`, or by `var G: int = ..;` if it is assigned to"
words advice.LocalRef = codes "a reference is bound by `let n: ref G = ..;`"
words advice.Truth = codes "there is no `bool`: take an `int`, and write `x == 1` for a condition"
words advice.TrueValue = codes "there is no `true`: take an `int`, and write 1 for it"
words advice.FalseValue = codes "there is no `false`: take an `int`, and write 0 for it"
words advice.New = codes "there is no `new`: the objects of F are those of its pools, as `pool F p[1];` declares them"
words advice.LocalTyped = codes "a local is declared by `let F: int = ..;`, or `let F: ref E = ..;`"
words advice.Update = codes "there is no `FG`: write `E = E F ..;`"
words advice.UpdateField = codes "there is no `FG`: write `C.E = C.E F ..;`"
words advice.UpdatePlace = codes "there is no `FG`: write the place on both sides of an `=`"
words advice.Step = codes "there is no `FG`: write `E = E F 1;`"
words advice.Arrow = codes "write `E.` for `E->`"
words advice.StepField = codes "there is no `FG`: write `C.E = C.E F 1;`"
words advice.StepPlace = codes "there is no `FG`: write the place on both sides of an `=`"
words advice.NoStep = codes "there is no `++`: write `x = x + 1;`, and `x` where its value is needed"
words advice.NoStepDown = codes "there is no `--`: write `x = x - 1;`, and `x` where its value is needed"
words advice.TwiceMinus = codes "write `-(-..)`"
words advice.TwiceNot = codes "write `!(!..)`"
words advice.ArrowValue = codes "write `D.` for `D->`"
words advice.ShiftLeft = codes "there are no shifts: multiply by a power of two"
words advice.ShiftRight = codes "there are no shifts: divide by a power of two"
words advice.Chain = codes "comparisons are not chained: write `C D E && E F G`"
words advice.ChainOf = codes "comparisons are not chained: join two of them by `&&`"
words advice.PrintOne = codes "`print` prints one value: write `print E;`, and a `print` of its own for the next"
words advice.Element = codes "bind the object first: `let m: ref S = B[D];` with its struct for S, and then `m.G`"
words advice.ElementOf = codes "bind the object first: `let m: ref S = ..;` with its struct for S, and then `m.G`"
words advice.WhereEquals = codes "a `where` has two names: `where E == ..`"
words advice.WhereName = codes "a `where` ends with a name: bind `E.G` by a `let` first"
words advice.WhereLet = codes "only a `let` has a `where`, as in `let n: ref S = .. where ..;`"
words advice.CallMissing = codes "a helper is called by `call E(..);`, or by `let y: int = call E(..);`"
words advice.NoReturn = codes "leave it out: a section without a result ends where its body does"
words advice.ResultBehind = codes "the type of a result follows the parameters: `E f(..) : int { .. }`"
words advice.ParameterType = codes "a parameter begins with its type: `int F`, or `ref S F`"
words advice.TopInt = codes "a section is declared by `atomic G(..) : int { .. }`, data by `global int G protected_by(..);`"
words advice.TopRef = codes "data is declared by `global ref G .. protected_by(..);`"
words advice.LockArray = codes "there are no arrays of locks: put the lock into a struct, and declare a pool of it"
words advice.FieldArray = codes "a struct has no arrays: declare a pool of what they would hold, or a global array"
words advice.GlobalStruct = codes "objects are declared by a pool: `pool F G[1];`"
words advice.NameAlone = codes "a name alone is not a statement: write `E = ..;`"
words advice.NoSemicolon = codes "leave this `;` out"
words advice.Semicolon = codes "a `;` may be missing after this"
words advice.CallBound = codes "bind the result first: `let y: int = call G(..);`"
words advice.OpenParen = codes "this `(` is not closed"
words advice.OpenBrace = codes "this `{` is not closed"

-- a token as it is written, without leading zeros
abbrev pub lexeme_text : Lexeme → List ℕ
lexeme_text (name x) = x
lexeme_text (int n) = decimal n
lexeme_text (word w) = keyword_text w
lexeme_text (mark s) = sign_text s
lexeme_text end = []

-- the text of a token
abbrev pub token_text : Tok → List ℕ
token_text t = lexeme_text t.kind

-- the token at this column, if there is one
abbrev pub text_there : Option Tok → List ℕ
text_there (Some t) = token_text t
text_there None = []

-- the text of the token at a column
abbrev pub column_text : List Tok → ℕ → ℕ → List ℕ
column_text ts n column = text_there (there ts n column)

-- a byte of the words, or the token that it stands for
abbrev pub filled : List Tok → ℕ → ℕ → List ℕ
filled ts n b =
    if is_between 65 71 b then column_text ts n (b - 65) else if is_between 32 126 b then b ∷ [] else []

-- the keyword that may be meant, which precedes the words
abbrev pub said_first : Advice → List ℕ
said_first (advice.Meant w) = codes "`" ++ keyword_text w ++ codes "`"
said_first _ = []

-- E03, if a row of the table of advice fits: the words of the first such row, for a missing `;` at the token before,
-- and for a sign that is not closed at this sign
abbrev pub advice_words : List Tok → ℕ → Advice → List ℕ
advice_words ts n told = said_first told ++ flat_map (filled ts n) (words told)

-- ---- places

-- the first byte of the open sign
abbrev pub opened_start : Option Opened → Option ℕ
opened_start (Some o) = Some o.start
opened_start None = None

-- the place of the advice: the token before, the open sign, or none
abbrev pub told_place : List Tok → ℕ → Option Opened → Advice → Option ℕ
told_place ts n inner advice.Semicolon = option_map (λ (t : Tok). t.span.start) (there ts n 4)
told_place ts n inner advice.OpenParen = opened_start inner
told_place ts n inner advice.OpenBrace = opened_start inner
told_place ts n inner _ = None

-- ---- the note

-- the note of a row on the token after the first n
abbrev pub note_of_row : List Tok → ℕ → Row → Note
note_of_row ts n r = record { start = told_place ts n (inner_of (around n ts).opened) r.3; words = advice_words ts n r.3 }

-- the note on the token after the first n, if a row fits it
abbrev pub advice_on : List Tok → ℕ → Option Note
advice_on ts n = option_map (note_of_row ts n) (first_row ts n)
