-- The frames of the base protocol of language servers: the bytes of a frame, and the bodies of an input.
use Rattle.std.specs.Prelude.{◌≡◌, ℕ, zero, suc, nat_le, List, [], ◌∷◌, ◌++◌, length, take, drop, codes, decimal, Option, Some, None, option_map}
use Rattle.std.specs.Prelude.{option_and_then, ⊤, if◌then◌else◌}
use Rattle.std.specs.Io.KnownBytes.{Appends}
use Rattle.std.specs.Io.BufRead.{take_through, drop_through, ends_with_byte, strip_last}
use Rattle.lsp_protocol.specs.declared.frame_reading.TheConstants.{HEADER_LIMIT}
use Rattle.lsp_protocol.specs.declared.fields.Field.{Field}
use Rattle.lsp_protocol.specs.declared.fields.Field.TheVariants.{End, Length, Wrong, Other}
use Rattle.lsp_protocol.specs.Headers.{field_of}

-- ---- one frame

-- the content of the first line; a line ends in a line feed
abbrev pub first_field : List ℕ → Field
first_field bytes = if ends_with_byte 10 (take_through 10 bytes) then field_of (strip_last 10 (take_through 10 bytes)) else Wrong

-- the rest of a header after a line: the header ends with this length, or goes on
abbrev pub after_field : {A : Type 0} → Field → Option ℕ → (Option ℕ → Option A) → (Option ℕ → Option A) → Option A
after_field End stated ends goes_on = ends stated
after_field (Length n) stated ends goes_on = goes_on (Some n)
after_field Wrong stated ends goes_on = None
after_field Other stated ends goes_on = goes_on stated

-- the last length in a header of at most the given number of lines, with the bytes after it; a length may have been
-- stated before
unfoldable pub header_of : ℕ → Option ℕ → List ℕ → Option (ℕ × List ℕ)
header_of zero stated bytes = None
header_of (suc lines) stated bytes = after_field (first_field bytes) stated (λ last. option_map (λ n. (n, drop_through 10 bytes)) last) (λ last. header_of lines last (drop_through 10 bytes))

-- a body of the given number of bytes, and the bytes after it
abbrev pub body_of : ℕ → List ℕ → Option (List ℕ × List ℕ)
body_of n bytes = if nat_le n (length bytes) then Some (take n bytes, drop n bytes) else None

-- the body of the frame that the bytes begin with, and the bytes after that frame
unfoldable pub frame_of : List ℕ → Option (List ℕ × List ℕ)
frame_of bytes = option_and_then (λ header. body_of header.0 header.1) (header_of HEADER_LIMIT None bytes)

-- ---- an input

-- the input is the frames of these bodies, one after another, and then the rest
abbrev pub AreFramesOf : List ℕ → List (List ℕ) → List ℕ → Type 0
AreFramesOf bytes [] rest = rest ≡ bytes
AreFramesOf bytes (body ∷ bodies) rest = (behind : List ℕ) × (frame_of bytes ≡ Some (body, behind)) × AreFramesOf behind bodies rest

-- ---- facts about a reader and a writer

-- the rest of the input does not begin with a frame
abbrev pub NoFrameIn : Option (List ℕ) → Type 0
NoFrameIn None = ⊤
NoFrameIn (Some bytes) = frame_of bytes ≡ None

-- a frame with this body was taken off the rest of the input
abbrev pub TakesFrame : Option (List ℕ) → Option (List ℕ) → List ℕ → Type 0
TakesFrame None new body = ⊤
TakesFrame (Some bytes) new body = (behind : List ℕ) × (new ≡ Some behind) × (frame_of bytes ≡ Some (body, behind))

-- frames with these bodies were taken off the rest of the input
abbrev pub TakesFrames : Option (List ℕ) → Option (List ℕ) → List (List ℕ) → Type 0
TakesFrames None new bodies = ⊤
TakesFrames (Some bytes) new bodies = (rest : List ℕ) × (new ≡ Some rest) × AreFramesOf bytes bodies rest

-- a beginning of the bytes was written
abbrev pub AppendsFront : Option (List ℕ) → Option (List ℕ) → List ℕ → Type 0
AppendsFront old new bytes = (front : List ℕ) × (back : List ℕ) × (bytes ≡ front ++ back) × Appends old new front

-- ---- what is written

-- Content-Length: N CR LF CR LF, and the body
abbrev pub frame : List ℕ → List ℕ
frame body = codes "Content-Length: " ++ decimal (length body) ++ (13 ∷ 10 ∷ 13 ∷ 10 ∷ []) ++ body
