-- A text that is longer than a program may be has the answer of its beginning.
use Rattle.std.proofs.Common.{◌≡◌, ◌∙◌, ◌<◌, ◌≤◌, ◌+◌, ◌^◌, ℕ, List, [], take, length, Option, Some, None, min, refl}
use Rattle.std.proofs.Common.{ap, inl, inr, ◌⊎◌, arith, ⊎_elim, lit<, lit≤, Vec, Global}
use Rattle.std.proofs.lemmas.List.{take_all, length-take}
use Rattle.std.proofs.lemmas.Bool.{cases_lt}
use Rattle.std.specs.Prelude.{IfSome}
use Rattle.std.specs.Io.KnownBytes.{IsAtEnd}
use denote.RawPtr.{null_ptr}
use Rattle.core_lang.specs.declared.typed.Typed.{Typed}
use Rattle.compiler.specs.Programs.{Accepts, of_text, IsOfFirstPass, in_text, in_tokens, in_tree, in_paths, in_order}
use Rattle.lowering.specs.Plans.{Plan}
use Rattle.source.specs.declared.fault.Code.{Code}
use Rattle.source.specs.declared.fault.Code.TheVariants.{LimitExceeded}
use Rattle.source.specs.declared.fault.Fault.{Fault}
use Rattle.source.specs.Faults.{fault_text}
use Rattle.source.specs.Texts.{SOURCE_LIMIT, IsFault, too_big, within}
use Rattle.driver.specs.declared.status.Status.{Status}
use Rattle.driver.specs.Answers.{TextAnswers, accepted, refused}

abbrev pub IsLong : List ℕ → Type 0
IsLong text = SOURCE_LIMIT < length text

-- the fault of a text that is too long is `LimitExceeded`
pub code_of_long : {text : List ℕ} {code : Code} {start : ℕ} → IsFault text code start → IsLong text → code ≡ LimitExceeded
code_of_long (too_big over) long = refl
code_of_long (within few fault) long = absurd (omega arith)

pub start_of_long : {text : List ℕ} {code : Code} {start : ℕ} → IsFault text code start → IsLong text → start ≡ 0
start_of_long (too_big over) long = refl
start_of_long (within few fault) long = absurd (omega arith)

-- such a text has no accepted program
abbrev no_memory : Global
no_memory = record { memory = record { seal = tt } }

abbrev no_bytes : Vec ℕ Global
no_bytes = record {
  ptr = null_ptr;
  len = 0;
  cap = 0;
  alloc = no_memory;
  items = [];
  ok = (refl, lit≤ {m = 0} {n = 0} tt);
  small = lit< {m = 0} {n = 2 ^ 63} tt;
}

abbrev fault_of_long : Fault
fault_of_long = record { code = LimitExceeded; start = 0; detail = record { bytes = no_bytes; ok = ∣ ([], (refl, refl)) ∣₁ } }

pub none_accepted : (text : List ℕ) (program : Typed) → IsLong text → Accepts text program → ⊥
none_accepted text program long accepts = accepts.faultless fault_of_long (of_text (too_big long, refl))

pub given_of_long : (t u : List ℕ) (fault : Fault) → IsLong t → IsLong u → IsOfFirstPass t fault → IsOfFirstPass u fault
given_of_long t u fault long longer (in_text is) =
    in_text (rw (code_of_long is.0 long, start_of_long is.0 long) (too_big longer), is.1)
given_of_long t u fault long longer (in_tokens tokens none has is) = absurd (none _ _ (too_big long))
given_of_long t u fault long longer (in_tree tokens tree none has no_fault has_tree is least) = absurd (none _ _ (too_big long))
given_of_long t u fault long longer (in_paths tokens tree program written none has no_fault has_tree no_names resolves expanded is least) =
    absurd (none _ _ (too_big long))
given_of_long t u fault long longer (in_order tokens tree program written none has no_fault has_tree no_names resolves expanded no_paths is) =
    absurd (none _ _ (too_big long))

pub of_limit : (t : List ℕ) (fault : Fault) → IsLong t → IsOfFirstPass t fault → fault.code ≡ LimitExceeded
of_limit t fault long (in_text is) = code_of_long is.0 long
of_limit t fault long (in_tokens tokens none has is) = absurd (none _ _ (too_big long))
of_limit t fault long (in_tree tokens tree none has no_fault has_tree is least) = absurd (none _ _ (too_big long))
of_limit t fault long (in_paths tokens tree program written none has no_fault has_tree no_names resolves expanded is least) =
    absurd (none _ _ (too_big long))
of_limit t fault long (in_order tokens tree program written none has no_fault has_tree no_names resolves expanded no_paths is) =
    absurd (none _ _ (too_big long))

pub starts_at_0 : (t : List ℕ) (fault : Fault) → IsLong t → IsOfFirstPass t fault → fault.start ≡ 0
starts_at_0 t fault long (in_text is) = start_of_long is.0 long
starts_at_0 t fault long (in_tokens tokens none has is) = absurd (none _ _ (too_big long))
starts_at_0 t fault long (in_tree tokens tree none has no_fault has_tree is least) = absurd (none _ _ (too_big long))
starts_at_0 t fault long (in_paths tokens tree program written none has no_fault has_tree no_names resolves expanded is least) =
    absurd (none _ _ (too_big long))
starts_at_0 t fault long (in_order tokens tree program written none has no_fault has_tree no_names resolves expanded no_paths is) =
    absurd (none _ _ (too_big long))

-- two such texts have the same text of their fault
zero_first : (n : ℕ) → min 0 n ≡ 0
zero_first n = grind arith

pub told_alike : (file t u : List ℕ) (fault : Fault) → fault.start ≡ 0 →
    fault_text file t fault ≡ fault_text file u fault
told_alike file t u fault first = rw (first, zero_first (length t), zero_first (length u)) refl

answers_of_long : {Wanted Other : Plan → Status → List ℕ → List ℕ →
    Type 0} (file t u : List ℕ) (status : Status) (out err : List ℕ) →
    IsLong t → IsLong u → TextAnswers Wanted file t status out err → TextAnswers Other file u status out err
answers_of_long file t u status out err long longer (accepted plan accepts compiled is) = absurd (none_accepted t plan.accepted long accepts)
answers_of_long file t u status out err long longer (refused is) =
    refused (record {
      fault = is.fault;
      given = given_of_long t u is.fault long longer is.given;
      ended = is.ended;
      written = is.written;
      told = rw (told_alike file u t is.fault (starts_at_0 t is.fault long is.given)) is.told;
    })

-- an answer for the beginning of a text is an answer for the text
pub answers_of_whole : (Wanted : List ℕ → Plan → Status → List ℕ → List ℕ →
    Type 0) (file t : List ℕ) (had : Option (List ℕ))
    (status : Status) (out err : List ℕ) → IfSome had (λ bytes. t ≡ take (SOURCE_LIMIT + 1) bytes) →
    TextAnswers (Wanted t) file t status out err →
    (text : List ℕ) × IfSome had (λ bytes. text ≡ bytes) × TextAnswers (Wanted text) file text status out err
answers_of_whole Wanted file t None status out err read answers = (t, tt, answers)
answers_of_whole Wanted file t (Some bytes) status out err read answers =
    ⊎_elim
    (λ (many : SOURCE_LIMIT < length bytes).
    let long : SOURCE_LIMIT < length t = rw read (omega (arith, length-take (SOURCE_LIMIT + 1) bytes)) in
    (bytes, refl, answers_of_long file t bytes status out err long many answers))
    (λ (few : length bytes ≤ SOURCE_LIMIT).
    let same : t ≡ bytes = read ∙ take_all (SOURCE_LIMIT + 1) bytes (omega arith) in (t, same, answers))
    (cases_lt SOURCE_LIMIT (length bytes))

-- a text that was cut is too long
pub cut_is_long : (t : List ℕ) (had : Option (List ℕ)) → IfSome had (λ bytes. t ≡ take (SOURCE_LIMIT + 1) bytes) →
    SOURCE_LIMIT < length t → IfSome had (λ bytes. SOURCE_LIMIT < length bytes)
cut_is_long t None read long = tt
cut_is_long t (Some bytes) read long =
    let e : t ≡ take (SOURCE_LIMIT + 1) bytes = read in
    omega (arith, ap length e, length-take (SOURCE_LIMIT + 1) bytes)

-- a program's file was read to its end, or is too long
pub read_or_long : (t : List ℕ) (had left : Option (List ℕ)) → IfSome had (λ bytes. t ≡ take (SOURCE_LIMIT + 1) bytes) →
    IsAtEnd left ⊎ (SOURCE_LIMIT < length t) → IsAtEnd left ⊎ IfSome had (λ bytes. SOURCE_LIMIT < length bytes)
read_or_long t had left read (inl ended) = inl ended
read_or_long t had left read (inr long) = inr (cut_is_long t had read long)

-- a text that is shorter than what may be read was read whole
pub whole_text : (t : List ℕ) (most : ℕ) (had : Option (List ℕ)) → length t < most →
    IfSome had (λ bytes. t ≡ take most bytes) →
    IfSome had (λ bytes. t ≡ bytes)
whole_text t most None short read = tt
whole_text t most (Some bytes) short read =
    let e : t ≡ take most bytes = read in
    e ∙ take_all most bytes (omega (arith, ap length e, length-take most bytes))

pub read_out : (t : List ℕ) (most : ℕ) (left : Option (List ℕ)) → length t < most + 1 →
    IsAtEnd left ⊎ (most < length t) → IsAtEnd left
read_out t most left short (inl ended) = ended
read_out t most left short (inr long) = absurd (omega arith)
