-- Too many lock paths.
use Rattle.std.proofs.Common.{◌≡◌, ◌∙◌, ℕ, List, refl, sym, ap, subst}
use Rattle.std.specs.Prelude.{Decides, Bool}
use Rattle.core_lang.specs.declared.typed.Typed.{Typed}
use Rattle.locks.specs.Faults.{IsFault, IsOverLimit, over_limit}
use Rattle.locks.specs.Faults as paths
use Rattle.source.specs.Theory.Leasts.{neither_before}
use Rattle.source.specs.Mistakes.{goes_before}
use Rattle.source.specs.Tokens.{Tok}
use Rattle.source.specs.declared.fault.Code.TheVariants.{LimitExceeded}
use Rattle.source.specs.declared.fault.Fault.{Fault}
use Rattle.source.specs.declared.fault.Refusal.TheVariants as refusal
use Rattle.source.specs.declared.mistake.Mistake.{Mistake}
use Rattle.explanation_faults.specs.PathsPassed.{ArePathsPast, IsFirstOfPaths, IsMeantProgram}
use Rattle.explanation_faults.specs.Working.Values.{IsLimitAt, TellsOfPaths}

past_of : (written : Typed) (at : ℕ) → IsFault written LimitExceeded at → IsOverLimit written at
past_of written at (over_limit is) = is

pub paths_past : (tokens : List Tok) (at : ℕ) (written : Typed) → IsMeantProgram tokens written →
    IsFirstOfPaths written at → ArePathsPast tokens at
paths_past tokens at written meant first = record { written = written; meant = meant; past = past_of written at first.0 }

pub told_of_paths : (tokens : List Tok) (at : ℕ) (written : Typed) (is : Bool) → IsMeantProgram tokens written →
    Decides is (IsFirstOfPaths written at) → TellsOfPaths tokens at is
told_of_paths tokens at written is meant decides =
    (λ so. paths_past tokens at written meant (decides.0 so), λ first. decides.1 (first.first written meant))

-- ---- the fault that is found

module _ (written : Typed) (f : Fault) (at : ℕ) (given : paths.IsRefusal written (refusal.Fault f)) (least : paths.IsLeast written (refusal.Fault f)) where
  abbrev found : Mistake
  found = record { code = f.code; start = f.start }

  abbrev wanted : Mistake
  wanted = record { code = LimitExceeded; start = at }

  same_found : IsLimitAt f at → found ≡ wanted
  same_found is = rw (is.0, is.1) refl

  first_if : IsLimitAt f at → IsFirstOfPaths written at
  first_if is =
      let same = same_found is in (
        subst (λ (m : Mistake). IsFault written m.code m.start) same given.0,
        λ code p h. ap (λ (m : Mistake). goes_before (record { code = code; start = p }) m) (sym same) ∙ least code p h,
      )

  limit_of : found ≡ wanted → IsLimitAt f at
  limit_of same = (ap (λ (m : Mistake). m.code) same, ap (λ (m : Mistake). m.start) same)

  only_first : IsFirstOfPaths written at → IsLimitAt f at
  only_first first = limit_of (neither_before found wanted (first.1 f.code f.start given.0) (least LimitExceeded at first.0))

  pub first_decided : (b : Bool) → Decides b (IsLimitAt f at) → Decides b (IsFirstOfPaths written at)
  first_decided b decides = (λ so. first_if (decides.0 so), λ first. decides.1 (only_first first))
