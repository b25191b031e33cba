-- Calls from outside run like those of scripts.
use Rattle.std.proofs.Common.{◌≡◌, ℕ, List, Option, Some, None, slice_get, refl, sym, ap, ◌∙◌, Vec, Global}
use Rattle.std.specs.Option.{option_map_or}
use Rattle.std.proofs.lemmas.Option.{none-some}
use Rattle.core_lang.specs.declared.typed.Thread.{Thread}
use Rattle.core_lang.specs.Serial.{Invocation}
use Rattle.lowering.specs.Plans.{Plan}
use Rattle.worlds.specs.Worlds.{scripts}
use Rattle.c_threads.specs.Outside.{with_scripts, CallsMayComeFromOutside}
use Rattle.c_language.specs.Alike.{AreFitting}
use Rattle.c_threads.specs.Claims.{HasFittingNumbers, HasFittingNumbersWith, EveryRunInC, OutsideCallsRunInC}

module _ (plan : Plan) (calls : List (List Invocation)) (threads : Vec Thread Global) (are : scripts (with_scripts plan threads) ≡ calls)
    (fit : HasFittingNumbersWith plan calls) where
  call_fits : (t k : ℕ) (call : Invocation) (o : Option (List Invocation)) → slice_get calls t ≡ o →
      option_map_or (λ (script : List Invocation). slice_get script k) o None ≡ Some call → AreFitting call.arguments
  call_fits t k call None at is = absurd (none-some call is)
  call_fits t k call (Some script) at is = fit.arguments t k script call at is

  numbers : HasFittingNumbers (with_scripts plan threads)
  numbers = record {
    code = fit.code;
    arguments = λ t k call is. call_fits t k call (slice_get calls t) refl
        (ap (λ (all : List (List Invocation)). option_map_or (λ (script : List Invocation). slice_get script k) (slice_get all t) None) (sym are) ∙ is);
    opening = fit.opening;
  }

pub outside_calls_run_in_c : CallsMayComeFromOutside → EveryRunInC → OutsideCallsRunInC
outside_calls_run_in_c may runs plan calls steps ok of fit =
    let other = may plan calls ok of in
    let r = runs (with_scripts plan other.threads) steps other.compiled (numbers plan calls other.threads other.are fit) in
    record { threads = other.threads; are = other.are; world = r.0; reaches = r.1; headline = r.2 }
