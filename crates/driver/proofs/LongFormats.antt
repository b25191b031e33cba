-- A text that is longer than a program may be is refused by `format` as its beginning is.
use Rattle.std.proofs.Common.{◌≡◌, ◌∙◌, ◌<◌, ◌≤◌, ◌+◌, ℕ, List, take, length, Option, Some, None, refl, sym, arith, ⊎_elim}
use Rattle.std.proofs.lemmas.Bool.{cases_lt}
use Rattle.std.proofs.lemmas.List.{take_all, length-take}
use Rattle.std.specs.Prelude.{IfSome}
use Rattle.formatting.specs.Formatted.{HasFault, of_text, of_tokens}
use Rattle.source.specs.declared.fault.Code.{Code}
use Rattle.source.specs.declared.fault.Code.TheVariants.{LimitExceeded}
use Rattle.source.specs.Texts.{SOURCE_LIMIT, IsFault, too_big, within}
use Rattle.driver.specs.declared.status.Status.{Status}
use Rattle.driver.specs.Formats.{FormatAnswers, laid_out, unformatted}
use Rattle.driver.proofs.LongTexts.{IsLong, code_of_long, start_of_long, told_alike}

long_code : {text : List ℕ} {code : Code} {start : ℕ} → HasFault text code start → IsLong text → code ≡ LimitExceeded
long_code (of_text is) long = code_of_long is long
long_code (of_tokens tokens few has is) long = absurd (omega arith)

long_start : {text : List ℕ} {code : Code} {start : ℕ} → HasFault text code start → IsLong text → start ≡ 0
long_start (of_text is) long = start_of_long is long
long_start (of_tokens tokens few has is) long = absurd (omega arith)

formats_of_long : (file t u : List ℕ) (status : Status) (out err : List ℕ) → IsLong t → IsLong u →
    FormatAnswers file t status out err → FormatAnswers file u status out err
formats_of_long file t u status out err long longer (laid_out is) =
    absurd (let few = is.program.within in omega (arith, few, long))
formats_of_long file t u status out err long longer (unformatted is) =
    unformatted (record {
      fault = is.fault;
      given = rw (long_code is.given long, long_start is.given long) (of_text (too_big longer));
      bare = is.bare;
      ended = is.ended;
      written = is.written;
      told = rw (told_alike file u t is.fault (long_start is.given long)) is.told;
    })

-- an answer for the beginning of a text is an answer for the text
pub formats_of_whole : (file t : List ℕ) (had : Option (List ℕ)) (status : Status) (out err : List ℕ) →
    IfSome had (λ bytes. t ≡ take (SOURCE_LIMIT + 1) bytes) → FormatAnswers file t status out err →
    (text : List ℕ) × IfSome had (λ bytes. text ≡ bytes) × FormatAnswers file text status out err
formats_of_whole file t None status out err read answers = (t, tt, answers)
formats_of_whole file t (Some bytes) status out err read answers =
    ⊎_elim
    (λ (many : SOURCE_LIMIT < length bytes).
    let long : SOURCE_LIMIT < length t = rw read (omega (arith, length-take (SOURCE_LIMIT + 1) bytes)) in
    (bytes, refl, formats_of_long file t bytes status out err long many answers))
    (λ (few : length bytes ≤ SOURCE_LIMIT).
    let same : t ≡ bytes = read ∙ take_all (SOURCE_LIMIT + 1) bytes (omega arith) in (t, same, answers))
    (cases_lt SOURCE_LIMIT (length bytes))
