-- The request of a command line, given clap's matches.
use Rattle.std.specs.Prelude.{◌≡◌, ◌⊎◌, ℕ, ◌^◌, ◌<◌, leb, Bool, true, false, ◌&&◌, if◌then◌else◌, List, [], ◌∷◌, length, ⊤}
use Rattle.std.specs.Prelude.{Option, Some, None, codes, unwrap_or, option_map}
use Rattle.std.specs.Char.{is_ascii_alphabetic, is_ascii_alphanumeric}
use Rattle.std.specs.List.{list_all}
use Rattle.std.specs.Str.{bytes_eq}
use Rattle.std.specs.Str.Parse.{IsNumeral, digits_value, without_leading_plus}
use Rattle.clap.specs.Words.{HasKind, Row, Text, fault_of, first_of, one_of, subcommand_of}
use Rattle.clap.specs.Values.{kind_of}
use Rattle.clap.specs.declared.error.Error.{Error}
use Rattle.driver_words.specs.Codes.{code_named, is_code_word}
use Rattle.driver_words.specs.Commands.{autolock}
use Rattle.driver_words.specs.declared.line.Alone.{Alone}
use Rattle.driver_words.specs.declared.line.Alone.TheVariants.{Report, Order, Explain, Format, Run}
use Rattle.driver_words.specs.declared.line.Color.{Color}
use Rattle.driver_words.specs.declared.line.Color.TheVariants.{Auto, Always, Never}
use Rattle.driver_words.specs.declared.line.Beside.{Beside}
use Rattle.driver_words.specs.declared.line.Beside.TheVariants.{Simulate, Trace, Replay}
use Rattle.driver_words.specs.declared.line.Line.{Line}
use Rattle.driver_words.specs.declared.line.OutcomesOptions.{OutcomesOptions}
use Rattle.driver_words.specs.declared.line.Report.TheVariants.{Check, Listing, Serial, Outcomes, Schedule, Emit}
use Rattle.driver_words.specs.declared.line.Request.{Request}
use Rattle.driver_words.specs.declared.line.Request.TheVariants as request
use Rattle.driver_words.specs.declared.unasked.Unasked.{Unasked}
use Rattle.driver_words.specs.declared.unasked.Unasked.TheVariants as unasked
use Rattle.driver_words.specs.Unasked.{kind_for}

-- the value of a name, or the empty text
abbrev pub name_in : Text → List Row → Text
name_in id rows = unwrap_or (first_of id rows) []

-- the number that the value of a name writes, which may begin with a plus; without a value, the other number
pub record IsNumber (id : Text) (otherwise : ℕ) (rows : List Row) (number : ℕ) : Type 0 where
  pub given : (text : Text) → one_of id rows ≡ Some text → IsNumeral 10 (without_leading_plus text)
      → digits_value 10 (without_leading_plus text) < 2 ^ 64 → number ≡ digits_value 10 (without_leading_plus text)
  pub default : one_of id rows ≡ None → number ≡ otherwise

-- the number of `turns`; without one, 1000000
abbrev pub IsTurns : List Row → ℕ → Type 0
IsTurns rows turns = IsNumber (codes "turns") 1000000 rows turns

-- the number that the value of a name writes, which may begin with a plus; none without a value
pub record IsChoice (id : Text) (rows : List Row) (choice : Option ℕ) : Type 0 where
  pub given : (text : Text) → one_of id rows ≡ Some text → IsNumeral 10 (without_leading_plus text)
      → digits_value 10 (without_leading_plus text) < 2 ^ 64 → choice ≡ Some (digits_value 10 (without_leading_plus text))
  pub default : one_of id rows ≡ None → choice ≡ None

-- whether a flag is among the words, as clap reports it
pub record IsFlag (id : Text) (rows : List Row) (is : Bool) : Type 0 where
  pub given : one_of id rows ≡ Some (codes "true") → is ≡ true
  pub withheld : one_of id rows ≡ Some (codes "false") → is ≡ false
  pub default : one_of id rows ≡ None → is ≡ false

-- the values of the options of `outcomes`
pub record IsLooking (rows : List Row) (looking : OutcomesOptions) : Type 0 where
  pub turns : IsTurns rows looking.turns
  pub count : IsNumber (codes "count") 100000 rows looking.count
  pub seed : IsNumber (codes "seed") 0 rows looking.seed
  pub cells : option_map (λ names. names.now) looking.cells ≡ first_of (codes "cells") rows
  pub answers : IsFlag (codes "answers") rows looking.answers
  pub full : IsFlag (codes "full") rows looking.full
  pub expect : option_map (λ text. text.now) looking.expect ≡ first_of (codes "expect") rows

-- when colours are used, by the word for that
abbrev pub color_named : Text → Option Color
color_named text =
    if bytes_eq text (codes "auto") then Some Auto
    else if bytes_eq text (codes "always") then Some Always
    else if bytes_eq text (codes "never") then Some Never
    else None

abbrev pub IsColor : List Row → Color → Type 0
IsColor rows color = color_named (name_in (codes "color") rows) ≡ Some color

-- ---- codes

abbrev pub word_in : List Row → Text
word_in rows = name_in (codes "FILE") rows

-- `explain` has a word that is written like a code, and JSON is not requested
pub record GivesCode (command : Text) (rows : List Row) : Type 0 where
  pub explains : command ≡ codes "explain"
  pub as_text : IsFlag (codes "json") rows false
  pub is_code : is_code_word (word_in rows) ≡ true

-- `explain` has a file: JSON is requested, or the word is not written like a code
abbrev pub GivesFile : Bool → List Row → Type 0
GivesFile json rows = (json ≡ true) ⊎ (is_code_word (word_in rows) ≡ false)

-- ---- requests

-- the request about the program's file alone is this command, with the values of its options
abbrev pub IsAlone : Text → List Row → Alone → Type 0
IsAlone command rows (Report (Check source)) = (command ≡ codes "check") × IsFlag (codes "source") rows source
IsAlone command rows (Report (Listing places)) = (command ≡ codes "listing") × IsFlag (codes "places") rows places
IsAlone command rows (Report (Serial turns changed)) =
    (command ≡ codes "serial") × IsTurns rows turns × IsFlag (codes "changed") rows changed
IsAlone command rows (Report (Outcomes looking)) =
    (command ≡ codes "outcomes") × IsLooking rows looking
IsAlone command rows (Report (Schedule scheduling)) =
    (command ≡ codes "schedule") × IsNumber (codes "seed") 0 rows scheduling.seed
    × IsNumber (codes "length") 100 rows scheduling.length × IsFlag (codes "worst") rows scheduling.worst
IsAlone command rows (Report (Emit emission)) =
    (command ≡ codes "emit") × IsFlag (codes "header") rows emission.header
    × (emission.prefix.now ≡ name_in (codes "prefix") rows)
    × IsFlag (codes "lines") rows emission.lines
    × (emission.file.now ≡ name_in (codes "FILE") rows)
IsAlone command rows Order = command ≡ codes "order"
IsAlone command rows (Explain json color) =
    (command ≡ codes "explain") × IsFlag (codes "json") rows json × IsColor rows color × GivesFile json rows
IsAlone command rows Format = command ≡ codes "format"
IsAlone command rows (Run running) =
    (command ≡ codes "run") × IsChoice (codes "seed") rows running.seed × IsChoice (codes "times") rows running.times

-- the request about the program's file and another file is this command
abbrev pub IsBeside : Text → List Row → Beside → Text → Type 0
IsBeside command rows Simulate other = (command ≡ codes "simulate") × (other ≡ name_in (codes "STEPS") rows)
IsBeside command rows (Trace sections all) other =
    (command ≡ codes "trace") × (other ≡ name_in (codes "STEPS") rows)
    × IsFlag (codes "sections") rows sections × IsFlag (codes "all") rows all
IsBeside command rows (Replay judging) other =
    (command ≡ codes "replay") × (other ≡ name_in (codes "HISTORY") rows)
    × IsTurns rows judging.turns × IsFlag (codes "why") rows judging.why × IsFlag (codes "open") rows judging.open

abbrev pub IsRequest : Text → List Row → Request → Type 0
IsRequest command rows (request.Code code) = GivesCode command rows × (code_named (word_in rows) ≡ Some code)
IsRequest command rows request.Lsp = command ≡ codes "lsp"
IsRequest command rows (request.Alone alone) = IsAlone command rows alone
IsRequest command rows (request.Beside beside other) = IsBeside command rows beside other.now

-- the line is this command, with the values of its arguments
abbrev pub IsLine : Text → List Row → Line → Type 0
IsLine command rows line = (line.file.now ≡ name_in (codes "FILE") rows) × IsRequest command rows line.request

-- the line is the subcommand that was matched
abbrev pub IsLineOf : Option (Text × List Row) → Line → Type 0
IsLineOf None line = ⊥
IsLineOf (Some (command, rows)) line = IsLine command rows line

-- a name of the program's own subcommands
abbrev pub IsOwnName : Text → Type 0
IsOwnName command =
    (command ≡ codes "check") ⊎ ((command ≡ codes "explain") ⊎ ((command ≡ codes "format") ⊎ ((command ≡ codes "order")
    ⊎ ((command ≡ codes "listing") ⊎ ((command ≡ codes "emit") ⊎ ((command ≡ codes "serial") ⊎ ((command ≡ codes "outcomes")
    ⊎ ((command ≡ codes "schedule") ⊎ ((command ≡ codes "simulate") ⊎ ((command ≡ codes "trace") ⊎ ((command ≡ codes "run")
    ⊎ ((command ≡ codes "replay") ⊎ (command ≡ codes "lsp")))))))))))))

-- ---- the prefixes of names of C

-- the prefixes of the names that all C files share
abbrev pub IsReserved : Text → Type 0
IsReserved prefix = (prefix ≡ codes "AL") ⊎ (prefix ≡ codes "autolock")

-- the text begins with a letter
abbrev pub starts_with_letter : Text → Bool
starts_with_letter [] = false
starts_with_letter (c ∷ cs) = is_ascii_alphabetic c

-- the text is a letter, then letters and digits, at most 32 in all
abbrev pub is_word : Text → Bool
is_word prefix = starts_with_letter prefix && list_all is_ascii_alphanumeric prefix && leb (length prefix) 32

-- the prefix of names of C is valid
abbrev pub IsPrefix : Text → Type 0
IsPrefix prefix = (is_word prefix ≡ true) × (IsReserved prefix → ⊥)

-- the prefix of a request is valid, if it has one
abbrev pub HasPrefix : Request → Type 0
HasPrefix (request.Alone (Report (Emit emission))) = IsPrefix emission.prefix.now
HasPrefix _ = ⊤

-- ---- refusals

-- a line of the command has an invalid prefix
pub record HasBadPrefix (command : Text) (rows : List Row) : Type 0 where
  pub line : Line
  pub meant : IsLine command rows line
  pub bad : HasPrefix line.request → ⊥

-- why a command requests nothing: it is not one of the program's own, its code does not exist, its prefix is invalid,
-- or its word for when colours are used is
abbrev pub IsUnasked : Text → List Row → Unasked → Type 0
IsUnasked command rows unasked.NoCommand = IsOwnName command → ⊥
IsUnasked command rows unasked.NoCode = GivesCode command rows × (code_named (word_in rows) ≡ None)
IsUnasked command rows unasked.BadPrefix = HasBadPrefix command rows
IsUnasked command rows unasked.BadColor = (command ≡ codes "explain") × (color_named (name_in (codes "color") rows) ≡ None)

-- why the subcommand that was matched requests nothing, or that none was matched
abbrev pub IsUnaskedOf : Option (Text × List Row) → Unasked → Type 0
IsUnaskedOf None why = why ≡ unasked.NoCommand
IsUnaskedOf (Some (command, rows)) why = IsUnasked command rows why

-- the words request nothing, and the error is of the kind for that
pub record AsksNothing (words : List Text) (error : Error) : Type 0 where
  pub why : Unasked
  pub unasked : IsUnaskedOf (subcommand_of autolock words) why
  pub kind : kind_of error ≡ kind_for why

-- why words are refused: memory ran out, clap's definitions refuse them, or they request nothing
abbrev pub IsRefused : List Text → Error → Type 0
IsRefused words error = HasKind (fault_of autolock words) error ⊎ AsksNothing words error
