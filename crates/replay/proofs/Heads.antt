-- The parts of the head of a call's line.
use Rattle.std.proofs.Common.{◌≡◌, ◌∙◌, ◌<◌, ◌^◌, ℕ, List, [], ◌∷◌, ◌++◌, drop, Option, Some, ap, refl, append_assoc, true}
use Rattle.std.proofs.Common.{false, get_or}
use Rattle.std.specs.Prelude.{codes, ◌==◌}
use Rattle.std.specs.Bool.{⊤}
use Rattle.std.proofs.lemmas.Bool.{false≢true}
use Rattle.std.specs.Fmt.{decimal}
use Rattle.core_lang.specs.declared.typed.Typed.{Typed}
use Rattle.core_lang.specs.Serial.{Scheduled}
use Rattle.input_files.specs.declared.format.Format.{Format}
use Rattle.input_files.specs.declared.format.Format.TheVariants.{One, Two}
use Rattle.input_files.specs.Pieces.{before, behind, count_in}
use Rattle.input_files.specs.Theory.Counts.{count_in-decimal, before-count, behind-count}
use Rattle.report.specs.Pieces.{invocation_text}
use Rattle.report.specs.History.{begun_text, call_head}
use Rattle.core_lang.specs.Typing.{lookup}
use Rattle.replay.specs.declared.told.Told.{Told}
use Rattle.replay.specs.Told.{begun_in, told_after, told_in, invoked_text}

-- the text after the numbers of a call
abbrev pub invoked : Typed → Scheduled → List ℕ → List ℕ
invoked program s end = invocation_text program s.call.section s.call.arguments ++ 32 ∷ end

-- the words of a call's line
pub head_words : (format : Format) (program : Typed) (s : Scheduled) (begun : ℕ) (end : List ℕ) →
    call_head format program s begun ++ end
    ≡ codes "call " ++ (decimal s.thread ++ 32 ∷ (decimal s.step ++ 32 ∷ (begun_text format begun ++ invoked program s end)))
head_words format program s begun end = simp append_assoc

-- the begin that the line has: format 1 has none
abbrev pub shown : Format → ℕ → ℕ
shown One begun = 0
shown Two begun = begun

-- a begin that can be read, in a format that has it
abbrev pub IsShort : Format → ℕ → Type 0
IsShort One begun = ⊤
IsShort Two begun = begun < 2 ^ 63

begun_read : (format : Format) (begun : ℕ) (rest : List ℕ) → IsShort format begun →
    begun_in format (begun_text format begun ++ rest) ≡ Some (shown format begun)
begun_read One begun rest short = refl
begun_read Two begun rest short =
    ap (λ text. count_in (before 32 text)) (append_assoc (decimal begun) (32 ∷ []) rest)
    ∙ ap count_in (before-count begun rest short) ∙ count_in-decimal begun short

-- the numbers of a line, if all can be read
abbrev numbers : Option ℕ → Option ℕ → Option ℕ → Option Told
numbers thread step begun =
    lookup thread (λ t. lookup step (λ k. lookup begun (λ b. Some (record { thread = t; step = k; begun = b }))))

module _ (format : Format) (thread step begun : ℕ) (rest : List ℕ) (small : thread < 2 ^ 63) (few : step < 2 ^ 63) where
  abbrev more : List ℕ
  more = begun_text format begun ++ rest

  abbrev line : List ℕ
  line = decimal thread ++ 32 ∷ (decimal step ++ 32 ∷ more)

  behind_thread : behind 32 line ≡ decimal step ++ 32 ∷ more
  behind_thread = behind-count thread (decimal step ++ 32 ∷ more) small

  pub behind_step : behind 32 (behind 32 line) ≡ more
  behind_step = ap (behind 32) behind_thread ∙ behind-count step more few

  told_words : IsShort format begun → told_after format line ≡ Some (record { thread = thread; step = step; begun = shown format begun })
  told_words short =
      let t : count_in (before 32 line) ≡ Some thread =
      ap count_in (before-count thread (decimal step ++ 32 ∷ more) small) ∙ count_in-decimal thread small in
      let k : count_in (before 32 (behind 32 line)) ≡ Some step =
      ap (λ text. count_in (before 32 text)) behind_thread ∙ ap count_in (before-count step more few) ∙ count_in-decimal step few in
      let b : begun_in format (behind 32 (behind 32 line)) ≡ Some (shown format begun) =
      ap (begun_in format) behind_step ∙ begun_read format begun rest short in
      ap (λ x. numbers x (count_in (before 32 (behind 32 line))) (begun_in format (behind 32 (behind 32 line)))) t
      ∙ ap (λ x. numbers (Some thread) x (begun_in format (behind 32 (behind 32 line)))) k
      ∙ ap (numbers (Some thread) (Some step)) b

-- the line of a call has its thread, its number and its begin
pub told_head : (format : Format) (program : Typed) (s : Scheduled) (begun : ℕ) (end : List ℕ) → s.thread < 2 ^ 63 →
    s.step < 2 ^ 63 →
    IsShort format begun →
    told_in format (call_head format program s begun ++ end)
    ≡ Some (record { thread = s.thread; step = s.step; begun = shown format begun })
told_head format program s begun end small few short =
    ap (told_in format) (head_words format program s begun end)
    ∙ told_words format s.thread s.step begun (invoked program s end) small few short

-- the line of a call has its invocation
pub invoked_head : (format : Format) (program : Typed) (s : Scheduled) (begun : ℕ) (end : List ℕ) → s.thread < 2 ^ 63 →
    s.step < 2 ^ 63 →
    IsShort format begun →
    invoked_text format (call_head format program s begun ++ end) ≡ invoked program s end
invoked_head One program s begun end small few short =
    ap (invoked_text One) (head_words One program s begun end)
    ∙ behind_step One s.thread s.step begun (invoked program s end) small few
invoked_head Two program s begun end small few short =
    ap (invoked_text Two) (head_words Two program s begun end)
    ∙ ap (behind 32) (behind_step Two s.thread s.step begun (invoked program s end) small few
    ∙ append_assoc (decimal begun) (32 ∷ []) (invoked program s end))
    ∙ behind-count begun (invoked program s end) short

-- the line of a call has its thread
pub thread_head : (format : Format) (program : Typed) (s : Scheduled) (begun : ℕ) (end : List ℕ) → s.thread < 2 ^ 63 →
    count_in (before 32 (drop 5 (call_head format program s begun ++ end))) ≡ Some s.thread
thread_head format program s begun end small =
    ap (λ text. count_in (before 32 (drop 5 text))) (head_words format program s begun end)
    ∙ ap count_in (before-count s.thread (decimal s.step ++ 32 ∷ (begun_text format begun ++ invoked program s end)) small)
    ∙ count_in-decimal s.thread small

-- a call's line is not `cells`
pub head_not_cells : (format : Format) (program : Typed) (s : Scheduled) (begun : ℕ) (end : List ℕ) →
    codes "cells" ≡ call_head format program s begun ++ end → ⊥
head_not_cells format program s begun end is =
    let words = is ∙ head_words format program s begun end in
    second words
  where
    second : {xs ys : List ℕ} → (99 ∷ 101 ∷ xs) ≡ (99 ∷ 97 ∷ ys) → ⊥
    second e = let t : false ≡ true = ap (λ bytes. get_or bytes 1 0 == 97) e in false≢true t
