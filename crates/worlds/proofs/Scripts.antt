-- The history follows the scripts.
use Rattle.std.proofs.Common.{◌≡◌, ◌<◌, ◌==◌, ℕ, zero, suc, ◌+◌, Bool, true, false, if◌then◌else◌, List, [], ◌∷◌, ◌++◌}
use Rattle.std.proofs.Common.{length, map, take, set, slice_get, Option, Some, None, refl, sym, ap, ◌∙◌, arith, inl}
use Rattle.std.proofs.Common.{inr}
use Rattle.std.proofs.lemmas.List.{length-map, length-set}
use Rattle.std.proofs.lemmas.Bool.{cases_eq, cond-true, cond-false, eq-eqb, ne_eqb}
use Rattle.std.proofs.lemmas.Option.{slice_get_within}
use Rattle.core_lang.specs.Serial.{Invocation, Scheduled}
use Rattle.core_lang.specs.Theory.Items.{set_other}
use Rattle.history.specs.Commits.{Commit, script_call}
use Rattle.lowering.specs.Plans.{Plan}
use Rattle.worlds.specs.declared.event.Event.{Event}
use Rattle.worlds.specs.Worlds.{World, ThreadState, Activation, scripts, call_at, at_first, next_effect, commit}
use Rattle.worlds.specs.Worlds.{happens, world_after, opening_world, final}
use Rattle.worlds.specs.Claims.{calls_by, numbered, FollowsScripts}
use Rattle.worlds.proofs.Places.{get_set_is, get_push}
use Rattle.worlds.proofs.Turns.{Turn, idles, starts, gets, waits, over, moves, turn}
use Rattle.worlds.specs.Theory.Steps.{instructed_call}

-- ---- lists of calls

calls_push_same : (t : ℕ) (h : List Commit) (c : Commit) → c.thread ≡ t →
    calls_by t (h ++ c ∷ []) ≡ calls_by t h ++ script_call c ∷ []
calls_push_same t [] c e = cond-true (c.thread == t) (script_call c ∷ []) [] (eq-eqb c.thread t e)
calls_push_same t (x ∷ h) c e =
    by_thread (x.thread == t) (script_call x) (calls_push_same t h c e) where
      by_thread : (b : Bool) (y : Scheduled) → calls_by t (h ++ c ∷ []) ≡ calls_by t h ++ script_call c ∷ [] →
          (if b then y ∷ calls_by t (h ++ c ∷ []) else calls_by t (h ++ c ∷ [])) ≡ (if b then y ∷ calls_by t h else calls_by t h) ++ script_call c ∷ []
      by_thread true y r = ap (λ ys. y ∷ ys) r
      by_thread false y r = r

calls_push_other : (t : ℕ) (h : List Commit) (c : Commit) → (c.thread ≡ t → ⊥) → calls_by t (h ++ c ∷ []) ≡ calls_by t h
calls_push_other t [] c ne = cond-false (c.thread == t) (script_call c ∷ []) [] (ne_eqb c.thread t ne)
calls_push_other t (x ∷ h) c ne = ap (λ ys. if x.thread == t then script_call x ∷ ys else ys) (calls_push_other t h c ne)

take_numbered : (t s k : ℕ) (script : List Invocation) (call : Invocation) → slice_get script k ≡ Some call →
    take (k + 1) (numbered t s script) ≡ take k (numbered t s script) ++ record { thread = t; step = s + k; call = call } ∷ []
take_numbered t s k [] call h = absurd cc
take_numbered t s zero (x ∷ xs) call h =
    let e : x ≡ call = cc in
    let n : s ≡ s + 0 = omega arith in
    λ i. record { thread = t; step = n i; call = e i } ∷ []
take_numbered t s (suc k) (x ∷ xs) call h =
    let n : s + 1 + k ≡ s + suc k = omega arith in
    let one : suc k + 1 ≡ suc (k + 1) = omega arith in
    ap (λ (m : ℕ). take m (numbered t s (x ∷ xs))) one ∙ ap (λ ys. record { thread = t; step = s; call = x } ∷ ys) (take_numbered t (s + 1) k xs call h
    ∙ ap (λ (m : ℕ). take k (numbered t (s + 1) xs) ++ record { thread = t; step = m; call = call } ∷ []) n)

-- the call of a script at an index
call_is : (plan : Plan) (t k : ℕ) (call : Invocation) (x : Option (List Invocation)) → slice_get (scripts plan) t ≡ x →
    call_at plan t k ≡ Some call → (script : List Invocation) → x ≡ Some script → slice_get script k ≡ Some call
call_is plan t k call x e h script is =
    let there : slice_get (scripts plan) t ≡ Some script = e ∙ is in
    sym (at_script plan t k script there) ∙ h where
      at_script : (plan : Plan) (t k : ℕ) (script : List Invocation) → slice_get (scripts plan) t ≡ Some script →
          call_at plan t k ≡ slice_get script k
      at_script plan t k script there = cc there

-- ---- steps

-- the thread's section changes, and is still its next call
same_step : (plan : Plan) (w : World) (t : ℕ) (thread : ThreadState) (a : Activation) →
    slice_get w.threads t ≡ Some thread → FollowsScripts plan w →
    call_at plan t thread.step ≡ Some a.call → (after : World) → after.history ≡ w.history →
    after.threads ≡ set w.threads t (record { step = thread.step; active = Some a }) → FollowsScripts plan after
same_step plan w t thread a at f call after h ts = record {
  calls = λ u other script is there. elim (cases_eq t u) [
    | inl e ↦ (let mine : slice_get (set w.threads t (record { step = thread.step; active = Some a })) t ≡ Some other =
        ap (slice_get (set w.threads t (record { step = thread.step; active = Some a }))) e ∙ (ap (λ xs. slice_get xs u) (sym ts) ∙ is) in
        let same : record { step = thread.step; active = Some a } ≡ other = get_set_is w.threads t _ other mine in
        ap (calls_by u) h ∙ (f.calls u thread script (ap (slice_get w.threads) (sym e) ∙ at) there
        ∙ ap (λ (x : ThreadState). take x.step (numbered u 0 script)) same))
    | inr ne ↦ ap (calls_by u) h ∙ f.calls u other script
        (sym (set_other w.threads t u _ ne) ∙ (ap (λ xs. slice_get xs u) (sym ts) ∙ is)) there
  ];
  nobody_else = λ p c is. f.nobody_else p c (ap (λ xs. slice_get xs p) (sym h) ∙ is);
  next_call = λ u other b is open_b. elim (cases_eq t u) [
    | inl e ↦ (let mine : slice_get (set w.threads t (record { step = thread.step; active = Some a })) t ≡ Some other =
        ap (slice_get (set w.threads t (record { step = thread.step; active = Some a }))) e ∙ (ap (λ xs. slice_get xs u) (sym ts) ∙ is) in
        let same : record { step = thread.step; active = Some a } ≡ other = get_set_is w.threads t _ other mine in
        let ab : Some a ≡ Some b = ap (λ x. x.active) same ∙ open_b in
        let as_one : a ≡ b = cc ab in
        ap (λ (x : ThreadState). call_at plan u x.step) (sym same) ∙ (ap (λ k. call_at plan k thread.step) (sym e) ∙ (call ∙ ap (λ (x : Activation). Some x.call) as_one)))
    | inr ne ↦ f.next_call u other b (sym (set_other w.threads t u _ ne) ∙ (ap (λ xs. slice_get xs u) (sym ts) ∙ is)) open_b
  ];
  all_threads = ap length ts ∙ (length-set w.threads t _ ∙ f.all_threads);
}

turn_follows : (plan : Plan) (w : World) (t : ℕ) (e : Event) (after : World) → Turn plan w t e after →
    FollowsScripts plan w → FollowsScripts plan after
turn_follows plan w t e after idles f = f
turn_follows plan w t e after (starts {thread} at is call) f = same_step plan w t thread _ at f call _ refl refl
turn_follows plan w t e after (gets {thread} {a} at want free) f = same_step plan w t thread _ at.at f (f.next_call t thread a at.at at.is) _ refl refl
turn_follows plan w t e after (waits {thread} {a} at want busy) f = same_step plan w t thread _ at.at f (f.next_call t thread a at.at at.is) _ refl refl
turn_follows plan w t e after (moves {thread} {a} at none out) f =
    same_step plan w t thread _ at.at f
    (f.next_call t thread a at.at at.is ∙ ap (λ (x : Invocation). Some x) (sym (instructed_call plan a (next_effect plan a)))) _ refl refl
turn_follows plan w t e after (over {thread} {a} {outcome} at none out) f =
    let c = commit t thread.step a outcome in
    record {
      calls = λ u other script is there. elim (cases_eq t u) [
        | inl same ↦ (let mine : slice_get (set w.threads t (record { step = thread.step + 1; active = None })) t ≡ Some other =
            ap (slice_get (set w.threads t (record { step = thread.step + 1; active = None }))) same ∙ is in
            let now : record { step = thread.step + 1; active = None } ≡ other = get_set_is w.threads t _ other mine in
            let call : slice_get script thread.step ≡ Some a.call =
            call_is plan t thread.step a.call (slice_get (scripts plan) t) refl (f.next_call t thread a at.at at.is) script (ap (slice_get (scripts plan)) same ∙ there) in
            calls_push_same u w.history c same
            ∙ (ap (λ xs. xs ++ script_call c ∷ []) (f.calls u thread script (ap (slice_get w.threads) (sym same) ∙ at.at) there)
            ∙ (ap (λ (k : ℕ). take thread.step (numbered u 0 script) ++ record { thread = k; step = thread.step; call = a.call } ∷ []) same
            ∙ (ap (λ (k : ℕ). take thread.step (numbered u 0 script) ++ record { thread = u; step = k; call = a.call } ∷ []) (let e : thread.step ≡ 0 + thread.step = omega arith in e)
            ∙ (sym (take_numbered u 0 thread.step script a.call call)
            ∙ ap (λ (x : ThreadState). take x.step (numbered u 0 script)) now)))))
        | inr ne ↦ calls_push_other u w.history c ne ∙ f.calls u other script (sym (set_other w.threads t u _ ne) ∙ is) there
      ];
      nobody_else = λ p x is. elim (get_push w.history c x p is) [
        | inl h ↦ f.nobody_else p x h
        | inr h ↦ (let less : t < length w.threads = slice_get_within w.threads t thread at.at in
            let mine : t ≡ x.thread = ap (λ y. y.thread) h.0 in omega (arith, less, mine, f.all_threads))
      ];
      next_call = λ u other b is open_b. elim (cases_eq t u) [
        | inl same ↦ (let mine : slice_get (set w.threads t (record { step = thread.step + 1; active = None })) t ≡ Some other =
            ap (slice_get (set w.threads t (record { step = thread.step + 1; active = None }))) same ∙ is in
            let now : record { step = thread.step + 1; active = None } ≡ other = get_set_is w.threads t _ other mine in
            absurd (let bad : None ≡ Some b = ap (λ x. x.active) now ∙ open_b in cc bad))
        | inr ne ↦ f.next_call u other b (sym (set_other w.threads t u _ ne) ∙ is) open_b
      ];
      all_threads = length-set w.threads t _ ∙ f.all_threads;
    }

-- ---- runs

pub at_first_is : (ss : List (List Invocation)) (t : ℕ) (thread : ThreadState) →
    slice_get (map at_first ss) t ≡ Some thread →
    thread ≡ record { step = 0; active = None }
at_first_is [] t thread h = absurd cc
at_first_is (s ∷ ss) zero thread h = cc
at_first_is (s ∷ ss) (suc t) thread h = at_first_is ss t thread h

opening_follows : (plan : Plan) → FollowsScripts plan (opening_world plan)
opening_follows plan = record {
  calls = λ t thread script is there. ap (λ (x : ThreadState). take x.step (numbered t 0 script)) (sym (at_first_is (scripts plan) t thread is));
  nobody_else = λ p c h. absurd cc;
  next_call = λ t thread a is open_a. absurd (let bad : None ≡ Some a = ap (λ x. x.active) (sym (at_first_is (scripts plan) t thread is)) ∙ open_a in cc bad);
  all_threads = length-map (scripts plan) at_first;
}

follows_after : (plan : Plan) (w : World) (steps : List ℕ) → FollowsScripts plan w →
    FollowsScripts plan (world_after plan w steps)
follows_after plan w [] f = f
follows_after plan w (t ∷ ts) f =
    follows_after plan (happens plan w t).1 ts (turn_follows plan w t (happens plan w t).0 (happens plan w t).1 (turn plan w t) f)

pub follows_scripts : (plan : Plan) (steps : List ℕ) → FollowsScripts plan (final plan steps)
follows_scripts plan steps = follows_after plan (opening_world plan) steps (opening_follows plan)
