-- The calls of scripts, by their numbers.
use Rattle.std.proofs.Common.{◌≡◌, ◌∙◌, ◌<◌, ◌≤◌, ℕ, ◌+◌, zero, suc, List, [], ◌∷◌, length, slice_get, Option, Some}
use Rattle.std.proofs.Common.{None, arith, sym, ap, refl, add-zero}
use Rattle.std.specs.Prelude.{option_map}
use Rattle.std.specs.Option.{option_map_or}
use Rattle.std.proofs.lemmas.Option.{slice_get_within}
use Rattle.core_lang.specs.declared.typed.Call.{Call}
use Rattle.core_lang.specs.declared.typed.Thread.{Thread}
use Rattle.core_lang.specs.declared.typed.Typed.{Typed}
use Rattle.core_lang.specs.Serial.{Scheduled, invocation, script_from}
use Rattle.core_lang.specs.Typing.{lookup}
use Rattle.core_lang.specs.WellFormed.{IsChecked, CanCall, calls_together}
use Rattle.replay.specs.Readers.{script_of, next_call, calls_by}
use Rattle.replay.specs.Working.Reading.{call_in}

-- a call of a script, with its number
abbrev pub scheduled_at : ℕ → ℕ → Call → Scheduled
scheduled_at t step call = record { thread = t; step = step; call = invocation call }

pub script_get : (t step : ℕ) (calls : List Call) (k : ℕ) →
    slice_get (script_from t step calls) k ≡ option_map (scheduled_at t (step + k)) (slice_get calls k)
script_get t step [] k = refl
script_get t step (call ∷ calls) zero = rw add-zero refl
script_get t step (call ∷ calls) (suc k) =
    let e : (step + 1) + k ≡ step + suc k = omega arith in
    script_get t (step + 1) calls k ∙ ap (λ n. option_map (scheduled_at t n) (slice_get calls k)) e

pub script_length : (t step : ℕ) (calls : List Call) → length (script_from t step calls) ≡ length calls
script_length t step [] = refl
script_length t step (call ∷ calls) = ap suc (script_length t (step + 1) calls)

-- the calls of a thread are among all calls
pub together : (threads : List Thread) (t : ℕ) (thread : Thread) → slice_get threads t ≡ Some thread →
    length thread.calls.items ≤ calls_together threads
together [] t thread is = absurd (cc)
together (x ∷ threads) zero thread is =
    let same : x ≡ thread = cc in
    let e : length x.calls.items ≡ length thread.calls.items = ap (λ (y : Thread). length y.calls.items) same in
    omega arith
together (x ∷ threads) (suc t) thread is =
    let h = together threads t thread is in
    omega (arith, h)

-- the number of a call in its script, where the thread is known
called_in : (t n : ℕ) (calls : List Call) (found : Option Call) (s : Scheduled) → slice_get calls n ≡ found →
    option_map (scheduled_at t (0 + n)) found ≡ Some s → (s.step ≡ n) × (n < length calls)
called_in t n calls None s here is = absurd (cc)
called_in t n calls (Some call) s here is =
    let same : scheduled_at t (0 + n) call ≡ s = cc in
    let step : 0 + n ≡ s.step = ap (λ (x : Scheduled). x.step) same in
    (omega arith, slice_get_within calls n call here)

in_thread : (program : Typed) (t n : ℕ) (found : Option Thread) (s : Scheduled) →
    slice_get program.threads.items t ≡ found →
    slice_get (option_map_or (λ (thread : Thread). script_from t 0 thread.calls.items) found []) n ≡ Some s →
    IsChecked program → (t < 64) × (s.step < 100000)
in_thread program t n None s here is well = absurd (cc)
in_thread program t n (Some thread) s here is well =
    let found = called_in t n thread.calls.items (slice_get thread.calls.items n) s refl (sym (script_get t 0 thread.calls.items n) ∙ is) in
    let within = slice_get_within program.threads.items t thread here in
    let most = together program.threads.items t thread here in
    let threads = well.within.threads in
    let calls = well.within.calls in
    (omega (arith, within, threads), omega (arith, found.0, found.1, most, calls))

-- a call that comes next is of one of at most 64 threads, and is one of at most 100,000 calls
pub next_bounds : (program : Typed) (order : List ℕ) (t : ℕ) (s : Scheduled) → next_call program order t ≡ Some s →
    IsChecked program → (t < 64) × (s.step < 100000)
next_bounds program order t s is well = in_thread program t (calls_by t order) (slice_get program.threads.items t) s refl is well

-- ---- the next call

call_found : (t n : ℕ) (found : Option Thread) →
    slice_get (option_map_or (λ (thread : Thread). script_from t 0 thread.calls.items) found []) n
    ≡ option_map (scheduled_at t n) (lookup found (λ (thread : Thread). slice_get thread.calls.items n))
call_found t n None = refl
call_found t n (Some thread) =
    let e : 0 + n ≡ n = omega arith in
    script_get t 0 thread.calls.items n ∙ ap (λ k. option_map (scheduled_at t k) (slice_get thread.calls.items n)) e

-- the next call of a thread is at the index that counts its calls so far
pub next_call_in : (program : Typed) (order : List ℕ) (t : ℕ) →
    next_call program order t ≡ option_map (scheduled_at t (calls_by t order)) (call_in program t (calls_by t order))
next_call_in program order t = call_found t (calls_by t order) (slice_get program.threads.items t)

-- a call of a script: one of at most 100,000, and one that can be made
call_bounds : (program : Typed) (t step : ℕ) (found : Option Thread) (call : Call) →
    slice_get program.threads.items t ≡ found →
    lookup found (λ (thread : Thread). slice_get thread.calls.items step) ≡ Some call → IsChecked program →
    (step < 100000) × CanCall program call.section call.arguments.items
call_bounds program t step None call here is well = absurd (cc)
call_bounds program t step (Some thread) call here is well =
    let within = slice_get_within thread.calls.items step call is in
    let most = together program.threads.items t thread here in
    let calls = well.within.calls in
    (omega (arith, within, most, calls), well.scripts t step thread call here is)

pub call_in_bounds : (program : Typed) (t step : ℕ) (call : Call) → call_in program t step ≡ Some call →
    IsChecked program →
    (step < 100000) × CanCall program call.section call.arguments.items
call_in_bounds program t step call is well = call_bounds program t step (slice_get program.threads.items t) call refl is well

-- how long a script is
length_found : (t : ℕ) (found : Option Thread) →
    length (option_map_or (λ (thread : Thread). script_from t 0 thread.calls.items) found [])
    ≡ option_map_or (λ (thread : Thread). length thread.calls.items) found 0
length_found t None = refl
length_found t (Some thread) = script_length t 0 thread.calls.items

pub length-script_of : (program : Typed) (t : ℕ) →
    length (script_of program t) ≡ option_map_or (λ (thread : Thread). length thread.calls.items) (slice_get program.threads.items t) 0
length-script_of program t = length_found t (slice_get program.threads.items t)
