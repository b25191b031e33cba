-- Each call in a history has an argument for each parameter of its section.
use Rattle.std.proofs.Common.{◌≡◌, ◌==◌, ℕ, zero, suc, ◌+◌, Bool, true, false, if◌then◌else◌, List, [], ◌∷◌, length}
use Rattle.std.proofs.Common.{map, take, slice_get, Option, Some, None, refl, sym, ap, ◌∙◌, subst, arith}
use Rattle.std.specs.Option.{option_map_or}
use Rattle.std.proofs.lemmas.Bool.{cond-true, eq-eqb}
use Rattle.core_lang.specs.declared.tree.Section.{Section}
use Rattle.core_lang.specs.Serial.{Invocation, Scheduled, invocation}
use Rattle.core_lang.specs.Laws.{CallsFill}
use Rattle.core_lang.specs.Typing.{local_types}
use Rattle.core_lang.specs.WellFormed.{CanCall}
use Rattle.history.specs.Commits.{Commit, call_of, answer_of, script_call}
use Rattle.lowering.specs.Plans.{Plan, IsCompiled, CompiledRunAlike}
use Rattle.worlds.specs.Worlds.{World, script_of, scripts, call_at}
use Rattle.worlds.specs.Claims.{calls_by, numbered, FollowsScripts, AreOfScripts, OfScriptsRunAlike}
use Rattle.core_lang.specs.Theory.Items.{get_some, same_value, map_back}
use Rattle.core_lang.specs.Theory.Openings.{have_length, taken_many, enough_locals}
use Rattle.worlds.specs.Theory.Steps.{each_of_scripts}

-- ---- lists

taken_there : {X : Type 0} (n k : ℕ) (xs : List X) (x : X) → slice_get (take n xs) k ≡ Some x → slice_get xs k ≡ Some x
taken_there zero k xs x is = absurd cc
taken_there (suc n) k [] x is = is
taken_there (suc n) zero (y ∷ xs) x is = is
taken_there (suc n) (suc k) (y ∷ xs) x is = taken_there n k xs x is

numbered_there : (t s k : ℕ) (script : List Invocation) (y : Scheduled) → slice_get (numbered t s script) k ≡ Some y →
    slice_get script k ≡ Some y.call
numbered_there t s k [] y is = absurd cc
numbered_there t s zero (call ∷ script) y is = let same : record { thread = t; step = s; call = call } ≡ y = cc in ap (λ (z : Scheduled). Some z.call) same
numbered_there t s (suc k) (call ∷ script) y is = numbered_there t (s + 1) k script y is

-- an entry of a thread is among its calls
among_calls : (t : ℕ) (cs : List Commit) (p : ℕ) (c : Commit) → slice_get cs p ≡ Some c → c.thread ≡ t →
    (k : ℕ) × (slice_get (calls_by t cs) k ≡ Some (script_call c))
among_calls t [] p c is mine = absurd cc
among_calls t (d ∷ cs) zero c is mine =
    let same : d ≡ c = cc in
    let first : calls_by t (d ∷ cs) ≡ script_call d ∷ calls_by t cs =
    cond-true (d.thread == t) (script_call d ∷ calls_by t cs) (calls_by t cs) (eq-eqb d.thread t (ap (λ (z : Commit). z.thread) same ∙ mine))
    in
    (0, ap (λ (zs : List Scheduled). slice_get zs 0) first ∙ ap (λ (z : Commit). Some (script_call z)) same)
among_calls t (d ∷ cs) (suc p) c is mine = behind (d.thread == t) (script_call d) (among_calls t cs p c is mine)
  where
    behind : (b : Bool) (y : Scheduled) → (k : ℕ) × (slice_get (calls_by t cs) k ≡ Some (script_call c)) →
        (k : ℕ) × (slice_get (if b then y ∷ calls_by t cs else calls_by t cs) k ≡ Some (script_call c))
    behind true y r = (suc r.0, r.1)
    behind false y r = r

-- ---- arguments

call_found : (plan : Plan) (t k : ℕ) (call : Invocation) → call_at plan t k ≡ Some call →
    (script : List Invocation) × (slice_get (scripts plan) t ≡ Some script) × (slice_get script k ≡ Some call)
call_found plan t k call is = in_script (slice_get (scripts plan) t) is refl
  where
    in_script : (o : Option (List Invocation)) →
        option_map_or (λ (xs : List Invocation). slice_get xs k) o None ≡ Some call → slice_get (scripts plan) t ≡ o →
        (script : List Invocation) × (slice_get (scripts plan) t ≡ Some script) × (slice_get script k ≡ Some call)
    in_script (Some script) has there = (script, there, has)
    in_script None has there = absurd cc

module _ (plan : Plan) (ok : IsCompiled plan) where
  fills : (call : Invocation) → CanCall plan.program call.section call.arguments → (section : Section) →
      slice_get plan.accepted.sections.items call.section ≡ Some section →
      length call.arguments ≡ section.parameters
  unfolding CanCall
  fills call (mine, is, fit) section there =
      let found = ok.expanded.expansion.there call.section section there in
      let same = same_value (slice_get plan.program.sections.items call.section) found.0 mine found.1 is in
      let many = have_length plan.program.shape (local_types (take mine.parameters mine.locals.items)) call.arguments fit in
      let le = enough_locals mine (ok.well_formed.scopes call.section mine is) in
      many ∙ taken_many mine.parameters mine.locals.items le ∙ ap (λ (z : Section). z.parameters) (sym same) ∙ found.2.parameters

  -- a call of a script has arguments that fit
  scripted : (t k : ℕ) (script : List Invocation) (call : Invocation) → slice_get (scripts plan) t ≡ Some script →
      slice_get script k ≡ Some call →
      CanCall plan.program call.section call.arguments
  scripted t k script call is has =
      let thread = map_back script_of plan.program.threads.items t script is in
      let mine = map_back invocation thread.0.calls.items k call (ap (λ (xs : List Invocation). slice_get xs k) thread.2 ∙ has) in
      subst (λ (z : Invocation). CanCall plan.program z.section z.arguments) mine.2 (ok.well_formed.scripts t k thread.0 mine.0 thread.1 mine.1)

  -- the entries of scripts have arguments that fit
  pub scripted_fill : (cs : List Commit) → AreOfScripts plan cs → CallsFill plan.accepted (map call_of cs)
  scripted_fill [] of = tt
  scripted_fill (c ∷ cs) of =
      let found = call_found plan c.thread of.0.0 (call_of c) of.0.1 in
      (fills (call_of c) (scripted c.thread of.0.0 found.0 (call_of c) found.1 found.2), scripted_fill cs of.1)

pub history_of_scripts : (plan : Plan) (w : World) → FollowsScripts plan w → AreOfScripts plan w.history
history_of_scripts plan w follows =
    each_of_scripts plan w.history (λ p c is.
    let lt = follows.nobody_else p c is in
    let count = follows.all_threads in
    let script = get_some (scripts plan) c.thread lt in
    let thread = get_some w.threads c.thread (omega (arith, lt, count)) in
    let mine = among_calls c.thread w.history p c is refl in
    let calls = follows.calls c.thread thread.0 script.0 thread.1 script.1 in
    let at = ap (λ (xs : List Scheduled). slice_get xs mine.0) (sym calls) ∙ mine.1 in
    let numbered_at = taken_there thread.0.step mine.0 (numbered c.thread 0 script.0) (script_call c) at in
    let here = numbered_there c.thread 0 mine.0 script.0 (script_call c) numbered_at in
    (mine.0, ap (λ (o : Option (List Invocation)). option_map_or (λ (xs : List Invocation). slice_get xs mine.0) o None) script.1 ∙ here))

pub of_scripts_run_alike : CompiledRunAlike → OfScriptsRunAlike
of_scripts_run_alike alike plan cs heap ok of serial = (alike plan (map call_of cs) (map answer_of cs) heap ok (scripted_fill plan ok cs of)).1 serial
