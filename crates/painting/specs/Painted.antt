-- The colours of the text that explains a fault.
use Rattle.std.specs.Prelude.{◌==◌, ◌&&◌, ◌||◌, ℕ, nat_lt, Bool, false, if◌then◌else◌, List, [], ◌∷◌, ◌++◌, length, codes}
use Rattle.std.specs.Char.{is_ascii_digit}
use Rattle.std.specs.List.{after_first, before_first, flat_map, list_all, position_or_len, slice_split}
use Rattle.std.specs.Str.{bytes_eq}
use Rattle.painting.specs.declared.style.Style.{Style}
use Rattle.painting.specs.declared.style.Style.TheVariants.{Plain, Bold, Red, Yellow, Cyan}

-- ---- styles

-- an escape sequence: ESC, [, parameters, m
abbrev pub escape : List ℕ → List ℕ
escape parameters = 27 ∷ codes "[" ++ parameters ++ codes "m"

-- the escape sequence before a text in this style
abbrev pub begin : Style → List ℕ
begin Plain = []
begin Bold = escape (codes "1")
begin Red = escape (codes "1;31")
begin Yellow = escape (codes "1;33")
begin Cyan = escape (codes "1;36")

-- the escape sequence after a text in this style
abbrev pub end : Style → List ℕ
end Plain = []
end Bold = escape (codes "0")
end Red = escape (codes "0")
end Yellow = escape (codes "0")
end Cyan = escape (codes "0")

-- a text in this style
abbrev pub styled : Style → List ℕ → List ℕ
styled style text = begin style ++ text ++ end style

-- ---- words

-- E and two digits
abbrev pub is_code : List ℕ → Bool
is_code (e ∷ tens ∷ ones ∷ []) = (e == 69) && is_ascii_digit tens && is_ascii_digit ones
is_code _ = false

-- the style of the first word of a line: a place, or the kind of the line
abbrev pub style_of_start : List ℕ → Style
style_of_start word =
    if bytes_eq word [] then Plain
    else if bytes_eq word (codes "note:") || bytes_eq word (codes "help:") then Cyan
    else Bold

-- the style of the word after a place
abbrev pub style_of_word : List ℕ → Style
style_of_word word =
    if bytes_eq word (codes "note:") then Cyan
    else if bytes_eq word (codes "warning:") then Yellow
    else if is_code word then Red
    else Plain

-- ---- lines

-- the byte is a space
abbrev pub is_space : ℕ → Bool
is_space byte = byte == 32

-- the text up to the first space; the space belongs to what follows
abbrev pub first_word : List ℕ → List ℕ
first_word text = before_first is_space text

-- a space and what follows the first one, if the text has a space
abbrev pub behind_word : List ℕ → (List ℕ → List ℕ) → List ℕ
behind_word text told =
    if nat_lt (position_or_len is_space text) (length text) then 32 ∷ told (after_first is_space text) else []

-- the second word of a line in its style, and what follows it
abbrev pub painted_words : List ℕ → List ℕ
painted_words text = styled (style_of_word (first_word text)) (first_word text) ++ behind_word text (λ (more : List ℕ). more)

-- a line that is not of the source
abbrev pub painted_told : List ℕ → List ℕ
painted_told line = styled (style_of_start (first_word line)) (first_word line) ++ behind_word line painted_words

-- a line of the source, or the one with a caret below it
abbrev pub is_source : List ℕ → Bool
is_source (first ∷ second ∷ rest) = is_space first && is_space second
is_source _ = false

-- the style of a line of the source: spaces and carets are red
abbrev pub style_of_source : List ℕ → Style
style_of_source line = if list_all (λ byte. is_space byte || (byte == 94)) line then Red else Plain

-- a line in colours
abbrev pub painted_line : List ℕ → List ℕ
painted_line line = if is_source line then styled (style_of_source line) line else painted_told line

-- a line feed and a line in colours
abbrev pub behind_line_feed : List ℕ → List ℕ
behind_line_feed line = 10 ∷ painted_line line

-- with line feeds between them
abbrev pub painted_lines : List (List ℕ) → List ℕ
painted_lines [] = []
painted_lines (first ∷ others) = painted_line first ++ flat_map behind_line_feed others

-- the text in colours
abbrev pub painted : List ℕ → List ℕ
painted text = painted_lines (slice_split (λ byte. byte == 10) text)
