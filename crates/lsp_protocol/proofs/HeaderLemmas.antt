-- A header, line by line.
use Rattle.std.proofs.Common.{◌≡◌, ◌∙◌, ◌-◌, ◌+◌, ◌<◌, ℕ, zero, suc, List, Option, Some, None, refl, sym, ap, arith}
use Rattle.std.specs.Prelude.{option_map}
use Rattle.std.specs.Io.BufRead.{drop_through}
use Rattle.lsp_protocol.specs.declared.frame_reading.TheConstants.{HEADER_LIMIT}
use Rattle.lsp_protocol.specs.declared.fields.Field.{Field}
use Rattle.lsp_protocol.specs.declared.fields.Field.TheVariants.{End, Wrong}
use Rattle.lsp_protocol.specs.Frames.{first_field, after_field, header_of}
use Rattle.lsp_protocol.specs.Working.Reading.{TakesField, TakesHeader, IsWithinHeader}

-- the result of reading a header whose first line is this field
abbrev said : Field → ℕ → Option ℕ → List ℕ → Option (ℕ × List ℕ)
said field lines stated bytes =
    after_field field stated (λ last. option_map (λ n. (n, drop_through 10 bytes)) last) (λ last. header_of lines last (drop_through 10 bytes))

header_step : (lines : ℕ) (stated : Option ℕ) (bytes : List ℕ) → header_of (suc lines) stated bytes ≡ said (first_field bytes) lines stated bytes
unfolding header_of
header_step lines stated bytes = refl

no_lines : (stated : Option ℕ) (bytes : List ℕ) → header_of zero stated bytes ≡ None
unfolding header_of
no_lines stated bytes = refl

header_said : (field : Field) (left lines : ℕ) (stated : Option ℕ) (bytes : List ℕ) → field ≡ first_field bytes → left ≡ suc lines →
    header_of left stated bytes ≡ said field lines stated bytes
header_said field left lines stated bytes is more =
    ap (λ n. header_of n stated bytes) more ∙ header_step lines stated bytes ∙ ap (λ f. said f lines stated bytes) (sym is)

-- where the header began
pub begun : (first : Option (List ℕ)) → IsWithinHeader first first HEADER_LIMIT None
begun None = tt
begun (Some bytes) = (bytes, refl, refl)

-- the line that was taken is empty
pub ended : (first old new : Option (List ℕ)) (left lines : ℕ) (stated : Option ℕ) → left ≡ suc lines →
    IsWithinHeader first old left stated → TakesField old new End → TakesHeader first new stated
ended None old new left lines stated more within takes = tt
ended (Some bytes) None new left lines stated more (rest, is, same) takes = absurd cc
ended (Some bytes) (Some now) new left lines None more (rest, is, same) takes =
    let here : now ≡ rest = cc in
    let at_now : header_of HEADER_LIMIT None bytes ≡ header_of left None now = same ∙ ap (header_of left None) (sym here) in
    at_now ∙ header_said End left lines None now takes.1 more
ended (Some bytes) (Some now) new left lines (Some n) more (rest, is, same) takes =
    let here : now ≡ rest = cc in
    let at_now : header_of HEADER_LIMIT None bytes ≡ header_of left (Some n) now = same ∙ ap (header_of left (Some n)) (sym here) in
    (drop_through 10 now, takes.0, at_now ∙ header_said End left lines (Some n) now takes.1 more)

-- the line that was taken is not a line of a header
pub spoilt : (first old new : Option (List ℕ)) (left lines : ℕ) (stated : Option ℕ) → left ≡ suc lines →
    IsWithinHeader first old left stated → TakesField old new Wrong → TakesHeader first new None
spoilt None old new left lines stated more within takes = tt
spoilt (Some bytes) None new left lines stated more (rest, is, same) takes = absurd cc
spoilt (Some bytes) (Some now) new left lines stated more (rest, is, same) takes =
    let here : now ≡ rest = cc in
    let at_now : header_of HEADER_LIMIT None bytes ≡ header_of left stated now = same ∙ ap (header_of left stated) (sym here) in
    at_now ∙ header_said Wrong left lines stated now takes.1 more

-- the header goes on after the line that was taken
pub goes_on : (first old new : Option (List ℕ)) (left lines : ℕ) (stated last : Option ℕ) (field : Field) → left ≡ suc lines →
    ((bytes : List ℕ) → said field lines stated bytes ≡ header_of lines last (drop_through 10 bytes)) →
    IsWithinHeader first old left stated → TakesField old new field → IsWithinHeader first new lines last
goes_on None old new left lines stated last field more on within takes = tt
goes_on (Some bytes) None new left lines stated last field more on (rest, is, same) takes = absurd cc
goes_on (Some bytes) (Some now) new left lines stated last field more on (rest, is, same) takes =
    let here : now ≡ rest = cc in
    let at_now : header_of HEADER_LIMIT None bytes ≡ header_of left stated now = same ∙ ap (header_of left stated) (sym here) in
    (drop_through 10 now, takes.0, at_now ∙ header_said field left lines stated now takes.1 more ∙ on now)

-- the header has too many lines
pub too_long : (first old : Option (List ℕ)) (left : ℕ) (stated : Option ℕ) → left ≡ zero → IsWithinHeader first old left stated →
    TakesHeader first old None
too_long None old left stated none within = tt
too_long (Some bytes) old left stated none (rest, is, same) =
    same ∙ ap (λ n. header_of n stated rest) none ∙ no_lines stated rest

pub one_less : (most line : ℕ) → line < most → most - line ≡ suc (most - (line + 1))
one_less most line below = omega arith
