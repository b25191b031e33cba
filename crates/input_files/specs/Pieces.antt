-- The parts of a history's lines: names, numbers and values, and cutting a text at a byte.
use Rattle.std.specs.Prelude.{ℕ, ℤ, pos, negsuc, ◌-◌, ◌^◌, Bool, false, ◌==◌, ◌&&◌, ◌||◌, not, nat_lt, nat_le, List, [], ◌∷◌, length}
use Rattle.std.specs.Prelude.{codes, Option, Some, None, ◌+◌, if◌then◌else◌}
use Rattle.std.specs.List.{list_all, before_first, after_first, slice_split, starts_with}
use Rattle.std.specs.Str.{bytes_eq}
use Rattle.source.specs.Texts.{is_letter, is_name_byte, is_digit, value_of}

-- ---- cutting

-- the text before the first such byte, or all of it
abbrev pub before : ℕ → List ℕ → List ℕ
before byte text = before_first (λ b. b == byte) text

-- the text after the first such byte, or nothing
abbrev pub behind : ℕ → List ℕ → List ℕ
behind byte text = after_first (λ b. b == byte) text

-- the text begins with this word
abbrev pub begins : List ℕ → List ℕ → Bool
begins word text = starts_with (λ a b. a == b) text word

-- ---- names

-- the text is a keyword of the language
abbrev pub is_keyword : List ℕ → Bool
is_keyword text =
    bytes_eq text (codes "lock") || (bytes_eq text (codes "struct") || (bytes_eq text (codes "final")
    || (bytes_eq text (codes "ref") || (bytes_eq text (codes "int") || (bytes_eq text (codes "global")
    || (bytes_eq text (codes "protected_by") || (bytes_eq text (codes "pool") || (bytes_eq text (codes "init")
    || (bytes_eq text (codes "atomic") || (bytes_eq text (codes "let") || (bytes_eq text (codes "var")
    || (bytes_eq text (codes "if") || (bytes_eq text (codes "else") || (bytes_eq text (codes "while")
    || (bytes_eq text (codes "print") || (bytes_eq text (codes "return") || (bytes_eq text (codes "thread")
    || (bytes_eq text (codes "repeat") || (bytes_eq text (codes "null") || (bytes_eq text (codes "where")
    || bytes_eq text (codes "call")))))))))))))))))))))

-- a letter or `_`, then letters, digits and `_`, but not a keyword
abbrev pub is_name : List ℕ → Bool
is_name [] = false
is_name (first ∷ rest) = is_letter first && (list_all is_name_byte rest && not (is_keyword (first ∷ rest)))

-- ---- numbers

-- 0, or digits of which the first is not 0
abbrev pub is_numeral : List ℕ → Bool
is_numeral [] = false
is_numeral (first ∷ rest) = list_all is_digit (first ∷ rest) && ((length rest == 0) || not (first == 48))

-- a number from 0 to the largest signed 64-bit number
abbrev pub is_count : List ℕ → Bool
is_count text = is_numeral text && nat_lt (value_of text) (2 ^ 63)

-- the number that such a text writes
abbrev pub count_in : List ℕ → Option ℕ
count_in text = if is_count text then Some (value_of text) else None

-- the text can follow the `-` of a negative number: digits of a number from 1 to 2^63
abbrev pub is_negative : List ℕ → Bool
is_negative digits = is_numeral digits && (nat_lt 0 (value_of digits) && nat_le (value_of digits) (2 ^ 63))

-- a signed 64-bit number, with a `-` in front if it is negative
abbrev pub is_number : List ℕ → Bool
is_number [] = false
is_number (first ∷ rest) = if first == 45 then is_negative rest else is_count (first ∷ rest)

-- the signed 64-bit number that a text of this form writes
abbrev pub signed_value : List ℕ → ℤ
signed_value [] = pos 0
signed_value (first ∷ rest) = if first == 45 then negsuc (value_of rest - 1) else pos (value_of (first ∷ rest))

-- the signed 64-bit number that a text writes, if it writes one
abbrev pub number_in : List ℕ → Option ℤ
number_in text = if is_number text then Some (signed_value text) else None

-- ---- values

-- a number and a closing bracket, and nothing after it
abbrev pub is_index : List ℕ → Bool
is_index text = (length (behind 93 text) == 0) && (is_count (before 93 text) && (length text == length (before 93 text) + 1))

-- an element of an array or a member of a pool, as a[0]
abbrev pub is_member : List ℕ → Bool
is_member text = is_name (before 91 text) && is_index (behind 91 text)

-- a number, `null` or a member
abbrev pub is_value : List ℕ → Bool
is_value text = is_number text || (bytes_eq text (codes "null") || is_member text)

-- a value after a space
abbrev pub is_next_value : List ℕ → Bool
is_next_value [] = false
is_next_value (first ∷ rest) = (first == 32) && is_value rest

-- values with a comma between them; each but the first follows a space
abbrev pub are_values : List (List ℕ) → Bool
are_values [] = false
are_values (first ∷ rest) = is_value first && list_all is_next_value rest

-- nothing, or values with a comma and a space between them
abbrev pub are_arguments : List ℕ → Bool
are_arguments text = (length text == 0) || are_values (slice_split (λ b. b == 44) text)
