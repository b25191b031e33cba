-- The lines of a header.
use Rattle.std.specs.Prelude.{ℕ, ◌+◌, ◌-◌, ◌*◌, Bool, ◌&&◌, ◌||◌, ◌==◌, nat_le, List, [], ◌∷◌, length, take, drop, map, codes, Option, Some, None}
use Rattle.std.specs.Prelude.{option_and_then, if◌then◌else◌}
use Rattle.std.specs.Char.{is_ascii_digit, to_ascii_lowercase}
use Rattle.std.specs.List.{prefix_len}
use Rattle.std.specs.Io.BufRead.{strip_last}
use Rattle.std.specs.Str.{bytes_eq}
use Rattle.lsp_protocol.specs.declared.fields.TheConstants.{BODY_LIMIT}
use Rattle.lsp_protocol.specs.declared.fields.Field.{Field}
use Rattle.lsp_protocol.specs.declared.fields.Field.TheVariants.{End, Length, Wrong, Other}

-- ---- the length

-- space, tab
abbrev pub is_blank : ℕ → Bool
is_blank b = (b == 32) || (b == 9)

-- the number with one digit more, if it is a digit and the number can be that of a body
abbrev pub with_digit : ℕ → ℕ → Option ℕ
with_digit n d = let longer = 10 * n + (d - 48) in if is_ascii_digit d && nat_le longer BODY_LIMIT then Some longer else None

-- the number with all these digits more
abbrev pub number_after : ℕ → List ℕ → Option ℕ
number_after n [] = Some n
number_after n (d ∷ ds) = option_and_then (λ longer. number_after longer ds) (with_digit n d)

-- the length after the colon: blanks, and then at least one digit
abbrev pub length_in : List ℕ → Option ℕ
length_in value = let digits = drop (prefix_len is_blank value) value in if length digits == 0 then None else number_after 0 digits

-- ---- the lines

-- the name of the length field
abbrev pub NAME : List ℕ
NAME = codes "content-length:"

-- the line begins with the name of the length field, in any case
abbrev pub names_length : List ℕ → Bool
names_length text = bytes_eq (map to_ascii_lowercase (take 15 text)) NAME

-- the field of a length, or of an invalid one
abbrev pub length_field : Option ℕ → Field
length_field (Some n) = Length n
length_field None = Wrong

-- the line without a carriage return at its end
abbrev pub text_of : List ℕ → List ℕ
text_of line = strip_last 13 line

-- the field of a line without its carriage return
abbrev pub text_field : List ℕ → Field
text_field text = if length text == 0 then End else if names_length text then length_field (length_in (drop 15 text)) else Other

-- the content of a line, which is given without its line feed
abbrev pub field_of : List ℕ → Field
field_of line = text_field (text_of line)
