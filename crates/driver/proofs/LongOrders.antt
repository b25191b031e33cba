-- A text that is longer than a program may be has the answer of `order` that its beginning has.
use Rattle.std.proofs.Common.{◌≡◌, ◌∙◌, ◌<◌, ◌≤◌, ◌+◌, ℕ, List, take, length, Option, Some, None, refl, arith, ⊎_elim}
use Rattle.std.proofs.lemmas.Bool.{cases_lt}
use Rattle.std.proofs.lemmas.List.{take_all, length-take}
use Rattle.std.specs.Prelude.{IfSome}
use Rattle.source.specs.Texts.{SOURCE_LIMIT}
use Rattle.driver.specs.declared.status.Status.{Status}
use Rattle.driver.specs.OrderGraphs.{OrderAnswers, ordered, cyclic, refused}
use Rattle.driver.proofs.LongExplanations.{no_cycle}
use Rattle.driver.proofs.LongTexts.{IsLong, none_accepted, given_of_long, of_limit, starts_at_0, told_alike}

ordered_of_long : (file t u : List ℕ) (status : Status) (out err : List ℕ) → IsLong t → IsLong u →
    OrderAnswers file t status out err → OrderAnswers file u status out err
ordered_of_long file t u status out err long longer (ordered is) = absurd (none_accepted t is.program long is.accepts)
ordered_of_long file t u status out err long longer (cyclic is) =
    absurd (no_cycle is.fault (of_limit t is.fault long is.given) is.of_cycle.code)
ordered_of_long file t u status out err long longer (refused is bare) =
    refused (record {
      fault = is.fault;
      given = given_of_long t u is.fault long longer is.given;
      ended = is.ended;
      written = is.written;
      told = rw (told_alike file u t is.fault (starts_at_0 t is.fault long is.given)) is.told;
    }) bare

pub ordered_of_whole : (file t : List ℕ) (had : Option (List ℕ)) (status : Status) (out err : List ℕ) →
    IfSome had (λ bytes. t ≡ take (SOURCE_LIMIT + 1) bytes) → OrderAnswers file t status out err →
    (text : List ℕ) × IfSome had (λ bytes. text ≡ bytes) × OrderAnswers file text status out err
ordered_of_whole file t None status out err read answers = (t, tt, answers)
ordered_of_whole file t (Some bytes) status out err read answers =
    ⊎_elim
    (λ (many : SOURCE_LIMIT < length bytes).
    let long : SOURCE_LIMIT < length t = rw read (omega (arith, length-take (SOURCE_LIMIT + 1) bytes)) in
    (bytes, refl, ordered_of_long file t bytes status out err long many answers))
    (λ (few : length bytes ≤ SOURCE_LIMIT).
    let same : t ≡ bytes = read ∙ take_all (SOURCE_LIMIT + 1) bytes (omega arith) in (t, same, answers))
    (cases_lt SOURCE_LIMIT (length bytes))
