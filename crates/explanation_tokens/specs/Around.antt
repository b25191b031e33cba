-- The context of a token: the open signs, and the part of a declaration.
use Rattle.std.specs.Prelude.{ℕ, ◌-◌, Bool, true, false, if◌then◌else◌, List, [], ◌∷◌, ◌++◌, fold, length, take, slice_get}
use Rattle.std.specs.Prelude.{Option, Some, None}
use Rattle.std.specs.Option.{option_map}
use Rattle.source.specs.declared.token.Keyword.{Keyword}
use Rattle.source.specs.declared.token.Keyword.TheVariants as key
use Rattle.source.specs.declared.token.Sign.TheVariants as sign
use Rattle.source.specs.Tokens.{Lexeme, word, mark, Tok}
use Rattle.explanation_tokens.specs.declared.area.Area.{Area}
use Rattle.explanation_tokens.specs.declared.area.Area.TheVariants.{Anywhere, Top, Head, Fields, Calls, Guarded, Body}
use Rattle.explanation_tokens.specs.declared.area.Inner.{Inner}
use Rattle.explanation_tokens.specs.declared.area.Inner.TheVariants.{Either, Brace, Paren}
use Rattle.explanation_tokens.specs.declared.area.Last.{Last}
use Rattle.explanation_tokens.specs.declared.area.Last.TheVariants.{Guard, ConditionEnd, Other}
use Rattle.explanation_tokens.specs.declared.area.Opened.{Opened}
use Rattle.explanation_tokens.specs.declared.area.Opener.{Opener}
use Rattle.explanation_tokens.specs.declared.area.Opener.TheVariants.{Block, Condition, Group}
use Rattle.explanation_tokens.specs.Patterns.{declares}

-- the open signs, the innermost last, the first word of the declaration, and the last token
pub record Around : Type 0 where
  pub opened : List Opened
  pub decl : Option Keyword
  pub last : Last

-- the context before the first token
abbrev pub at_first : Around
at_first = record { opened = []; decl = None; last = Other }

-- ---- one token more

-- what a parenthesis opens: after `if` or `while` a condition
abbrev pub opens_paren : Last → Opener
opens_paren Guard = Condition
opens_paren _ = Group

-- what a token opens
abbrev pub opener_of : Last → Lexeme → Option Opener
opener_of last (mark sign.OpenBrace) = Some Block
opener_of last (mark sign.OpenParen) = Some (opens_paren last)
opener_of last _ = None

-- the token closes a brace or a parenthesis
abbrev pub closes : Lexeme → Bool
closes (mark sign.CloseBrace) = true
closes (mark sign.CloseParen) = true
closes _ = false

-- the open signs without the innermost
abbrev pub but_last : List Opened → List Opened
but_last opened = take (length opened - 1) opened

-- the open signs after a token
abbrev pub opened_by : Option Opener → List Opened → Tok → List Opened
opened_by (Some opener) opened t = opened ++ record { start = t.span.start; opener = opener } ∷ []
opened_by None opened t = if closes t.kind then but_last opened else opened

-- the innermost open sign
abbrev pub inner_of : List Opened → Option Opened
inner_of opened = slice_get opened (length opened - 1)

-- what the open sign opens
abbrev pub opener_there : Option Opened → Option Opener
opener_there here = option_map (λ (o : Opened). o.opener) here

-- what the last token is after a parenthesis that closes this
abbrev pub closing : Option Opener → Last
closing (Some Condition) = ConditionEnd
closing _ = Other

-- what the last token is
abbrev pub last_after : List Opened → Lexeme → Last
last_after opened (word key.If) = Guard
last_after opened (word key.While) = Guard
last_after opened (mark sign.CloseParen) = closing (opener_there (inner_of opened))
last_after opened _ = Other

-- the first word of a declaration, outside of all open signs
abbrev pub word_outside : Option Keyword → Lexeme → Option Keyword
word_outside decl (word w) = if declares (word w) then Some w else decl
word_outside decl _ = decl

-- no first word, after the last brace of a declaration
abbrev pub word_inside : Option Keyword → Lexeme → Option Keyword
word_inside decl (mark sign.CloseBrace) = None
word_inside decl _ = decl

-- the first word of a declaration after a token
abbrev pub word_after : List Opened → Option Keyword → Lexeme → Option Keyword
word_after [] decl k = word_outside decl k
word_after (o ∷ []) decl k = word_inside decl k
word_after (o ∷ p ∷ opened) decl k = decl

-- the context after one more token
abbrev pub step : Around → Tok → Around
step s t = record {
  opened = opened_by (opener_of s.last t.kind) s.opened t;
  decl = word_after s.opened s.decl t.kind;
  last = last_after s.opened t.kind;
}

-- the context after these tokens
abbrev pub behind_all : List Tok → Around
behind_all ts = fold step at_first ts

-- the context after the given number of these tokens
abbrev pub around : ℕ → List Tok → Around
around n ts = behind_all (take n ts)

-- ---- parts of declarations

-- the part of a declaration with this first word, outside of its braces
abbrev pub area_outside : Option Keyword → Area
area_outside (Some key.Struct) = Head
area_outside (Some key.Thread) = Head
area_outside (Some key.Atomic) = Head
area_outside (Some key.Call) = Head
area_outside _ = Top

-- the part after the parenthesis that closes a condition, or elsewhere in a section or a helper
abbrev pub area_behind : Last → Area
area_behind ConditionEnd = Guarded
area_behind _ = Body

-- the part of a declaration with this first word, in its braces
abbrev pub area_inside : Option Keyword → Last → Area
area_inside (Some key.Struct) last = Fields
area_inside (Some key.Thread) last = Calls
area_inside _ last = area_behind last

-- the part inside if the outermost open sign is a brace
abbrev pub area_at : Opener → Option Keyword → Last → Area
area_at Block decl last = area_inside decl last
area_at _ decl last = area_outside decl

-- the part of a declaration, given the open signs
abbrev pub area_in : List Opened → Option Keyword → Last → Area
area_in [] decl last = area_outside decl
area_in (o ∷ opened) decl last = area_at o.opener decl last

-- the part of a declaration in a context
abbrev pub area_of : Around → Area
area_of s = area_in s.opened s.decl s.last

-- ---- what a row requires

-- a token in the first part fits a row for the second
abbrev pub fits_area : Area → Area → Bool
fits_area here Anywhere = true
fits_area Top Top = true
fits_area Head Head = true
fits_area Fields Fields = true
fits_area Calls Calls = true
fits_area Guarded Guarded = true
fits_area Body Body = true
fits_area _ _ = false

-- the sign is a brace
abbrev pub is_brace : Option Opener → Bool
is_brace (Some Block) = true
is_brace _ = false

-- the sign is a parenthesis
abbrev pub is_paren : Option Opener → Bool
is_paren (Some Condition) = true
is_paren (Some Group) = true
is_paren _ = false

-- the innermost open sign is of the required kind
abbrev pub fits_inner : Option Opened → Inner → Bool
fits_inner here Either = true
fits_inner here Brace = is_brace (opener_there here)
fits_inner here Paren = is_paren (opener_there here)
