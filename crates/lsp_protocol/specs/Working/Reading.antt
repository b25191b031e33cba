-- The bytes that each step of reading a frame takes off the rest of the input.
use Rattle.std.specs.Prelude.{◌≡◌, ◌<◌, ℕ, List, length, Option, Some, None, ⊤}
use Rattle.std.specs.Io.BufRead.{drop_through}
use Rattle.std.specs.Io.KnownBytes.{Consumes}
use Rattle.lsp_protocol.specs.declared.frame_reading.TheConstants.{HEADER_LIMIT}
use Rattle.lsp_protocol.specs.declared.fields.Field.{Field}
use Rattle.lsp_protocol.specs.Frames.{first_field, header_of}

-- the first line was taken, which has this content
abbrev pub TakesField : Option (List ℕ) → Option (List ℕ) → Field → Type 0
TakesField None new field = ⊤
TakesField (Some bytes) new field = (new ≡ Some (drop_through 10 bytes)) × (field ≡ first_field bytes)

-- a header was taken that states this length, or the bytes begin with none
abbrev pub TakesHeader : Option (List ℕ) → Option (List ℕ) → Option ℕ → Type 0
TakesHeader None new found = ⊤
TakesHeader (Some bytes) new None = header_of HEADER_LIMIT None bytes ≡ None
TakesHeader (Some bytes) new (Some n) = (rest : List ℕ) × (new ≡ Some rest) × (header_of HEADER_LIMIT None bytes ≡ Some (n, rest))

-- lines of a header were taken, so that the rest is a header of the given number of lines, after this length
abbrev pub IsWithinHeader : Option (List ℕ) → Option (List ℕ) → ℕ → Option ℕ → Type 0
IsWithinHeader None new lines stated = ⊤
IsWithinHeader (Some bytes) new lines stated =
    (rest : List ℕ) × (new ≡ Some rest) × (header_of HEADER_LIMIT None bytes ≡ header_of lines stated rest)

-- the given number of bytes was taken
abbrev pub IsBody : Option (List ℕ) → Option (List ℕ) → ℕ → List ℕ → Type 0
IsBody old new n body = Consumes old new body × (length body ≡ n)

-- fewer than the given number of bytes are left
abbrev pub IsShort : Option (List ℕ) → ℕ → Type 0
IsShort None n = ⊤
IsShort (Some bytes) n = length bytes < n
