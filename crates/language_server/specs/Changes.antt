-- The changes that the notes on a text's fault propose.
use Rattle.std.specs.Prelude.{ℕ, Bool, true, false, ◌&&◌, ◌==◌, nat_le, List, [], ◌∷◌, ◌++◌, codes}
use Rattle.std.specs.Prelude.{Option, Some, None, if◌then◌else◌}
use Rattle.std.specs.List.{before_first}
use Rattle.std.specs.Str.{bytes_eq}
use Rattle.explanation.specs.Notes.{Note}
use Rattle.explanation.specs.Json.{end_of}
use Rattle.explanation_tokens.specs.Advice as advised
use Rattle.explanation_tokens.specs.declared.advice.Advice.TheVariants as advice
use Rattle.source.specs.declared.fault.Code.{Code}
use Rattle.source.specs.declared.fault.Code.TheVariants.{UnexpectedToken, UnknownName, NeitherFinalNorProtected}
use Rattle.source.specs.declared.fault.Fault.{Fault}
use Rattle.source.specs.declared.token.Sign.TheVariants.{Equals, Semicolon}
use Rattle.source.specs.Tokens.{Lexeme, mark, Tok}

-- `new` in place of the bytes from `start` up to `end`, and the title of the change
pub record Change : Type 0 where
  pub start : ℕ
  pub end : ℕ
  pub new : List ℕ
  pub title : List ℕ

-- the title of a change that writes these words
abbrev pub writing : List ℕ → List ℕ
writing words = codes "write " ++ words

-- the first word of a note, which is the name that the note is on
abbrev pub first_word : List ℕ → List ℕ
first_word words = before_first (λ b. b == 32) words

-- ---- an unknown name

-- the change that writes a word in place of these bytes
abbrev pub replaced : ℕ → ℕ → List ℕ → Change
replaced start end word = record { start = start; end = end; new = word; title = writing word }

-- the name that the note is on; `null`, where the note does not have a place
abbrev pub meant_by : Option ℕ → List ℕ → List ℕ
meant_by (Some start) words = first_word words
meant_by None words = codes "null"

-- the name that could be meant, or `null`
abbrev pub meant : Note → List ℕ
meant note = meant_by note.start note.words

-- ---- what no lock protects

-- protected_by(LOCK)
abbrev pub annotation : List ℕ → List ℕ
annotation lock = codes "protected_by(" ++ lock ++ codes ")"

-- an annotation may stand before this token: `=` or `;`
abbrev pub follows_annotation : Lexeme → Bool
follows_annotation (mark Equals) = true
follows_annotation (mark Semicolon) = true
follows_annotation _ = false

-- the end of the last token before the next `=` or `;`, starting at a byte
abbrev pub place_behind : ℕ → ℕ → List Tok → ℕ
place_behind place from [] = place
place_behind place from (t ∷ ts) =
    if nat_le from t.span.start && follows_annotation t.kind then place else place_behind t.span.end from ts

-- the place for an annotation of what has its name at the byte
abbrev pub annotation_place : List Tok → ℕ → ℕ
annotation_place tokens name = place_behind 0 name tokens

-- the change that writes an annotation at a place
abbrev pub annotated : ℕ → List ℕ → Change
annotated place lock =
    record { start = place; end = place; new = codes " " ++ annotation lock; title = writing (annotation lock) }

-- ---- an unexpected token

-- the advice that a `;` may be missing after a token
abbrev pub MISSING : List ℕ
MISSING = advised.words advice.Semicolon

-- the advice that a `;` may be left out
abbrev pub NEEDLESS : List ℕ
NEEDLESS = advised.words advice.NoSemicolon

-- the end of the token that begins at the byte
abbrev pub token_end : List Tok → ℕ → ℕ
token_end [] start = start
token_end (t ∷ ts) start = if t.span.start == start then t.span.end else token_end ts start

-- the change that writes a `;` at a place
abbrev pub ended : ℕ → Change
ended place = record { start = place; end = place; new = codes ";"; title = writing (codes ";") }

-- the change that leaves these bytes out
abbrev pub left_out : ℕ → ℕ → Change
left_out start end = record { start = start; end = end; new = []; title = codes "leave it out" }

-- the change, given the place of the note and its words
abbrev pub advised_at : List ℕ → List Tok → ℕ → Option ℕ → List ℕ → Option Change
advised_at text tokens at (Some start) words =
    if bytes_eq words MISSING then Some (ended (token_end tokens start)) else None
advised_at text tokens at None words =
    if bytes_eq words NEEDLESS then Some (left_out at (end_of text at)) else None

-- ---- the change, given the fault's code

-- the change that a note on a fault of this code at this byte proposes, if it proposes one
abbrev pub proposed_for : Code → List ℕ → List Tok → ℕ → Note → Option Change
proposed_for UnexpectedToken text tokens at note = advised_at text tokens at note.start note.words
proposed_for UnknownName text tokens at note = Some (replaced at (end_of text at) (meant note))
proposed_for NeitherFinalNorProtected text tokens at note =
    Some (annotated (annotation_place tokens at) (first_word note.words))
proposed_for _ text tokens at note = None

-- the change that a note on a fault of the text proposes
abbrev pub proposed : List ℕ → List Tok → Fault → Note → Option Change
proposed text tokens fault note = proposed_for fault.code text tokens fault.start note
