-- No threads wait in a cycle, and if a call is under way some thread goes on.
use Rattle.std.proofs.Common.{◌≡◌, ◌⊎◌, ℕ, zero, suc, ◌+◌, Bool, true, false, if◌then◌else◌, List, [], ◌∷◌, ◌++◌, map, Option, Some, None}
use Rattle.std.proofs.Common.{slice_get, refl, sym, ap, ◌∙◌, subst, inl, inr, true≢false}
use Rattle.std.specs.List.{Contains}
use Rattle.std.specs.Option.{option_map_or}
use Rattle.std.proofs.lemmas.Bool.{cases_Bool, cond-true}
use Rattle.std.proofs.lemmas.Option.{none-some}
use Rattle.core_lang.specs.declared.value.Outcome.{Outcome}
use Rattle.core_lang.specs.Theory.Items.{map_back, same_value}
use Rattle.locks.specs.declared.lock.Lock.{Lock}
use Rattle.locks.specs.Locks.{among}
use Rattle.locks.specs.Order.{Precedes}
use Rattle.locks.specs.Waiting.{Asker, NoCircle}
use Rattle.lowering.specs.Plans.{Plan, IsCompiled}
use Rattle.worlds.specs.Worlds as worlds
use Rattle.worlds.specs.Worlds.{World, ThreadState, Activation, HasOpen, code_at, call_at, final, next_effect, holds, holder_from, holder, happens}
use Rattle.worlds.specs.Waiting.{IsNoWait, RisingGoesOn}
use Rattle.c_threads.specs.Threads.{Progress, Taking, Over, Leaving, CallInC, ThreadInC, WorldInC, Step, Waits, Goes, Breaks}
use Rattle.c_threads.specs.Threads.{given_at}
use Rattle.c_threads.specs.Threads.{is_locked, goes_on, steps_with, thread_steps, step}
use Rattle.c_threads.specs.Threads.{entry}
use Rattle.c_threads.specs.Threads.{with_locked, now_at}
use Rattle.c_threads.specs.Claims.{Runs, HasFittingNumbers}
use Rattle.c_threads.specs.Claims.{next_lock, asks, asker, NobodyWaitsInACircle, SomeoneGoesOn, pending_of, IsOpen, StandsFor}
use Rattle.c_threads.proofs.Lists.{nobody_locked, none_locked}
use Rattle.c_threads.proofs.Turns.{Moved, breaks, moved, does_moved, Unlocked, breaks_too, unlocked, unlocks_unlocked}
use Rattle.c_threads.proofs.Worlds.{happens_asks}
use Rattle.c_threads.proofs.Calls.{section_of, section_at, section_is, given_back}
use Rattle.c_threads.proofs.Runs.{RunLaws, Kept, KeptOn, kept_step}

-- ---- threads that release their locks

-- the next step of a thread, by how far its call has come
step_is : (plan : Plan) (c : WorldInC) (t : ℕ) (x : ThreadInC) (call : CallInC) (p : Progress) → Runs c t x call → call.progress ≡ p →
    step plan c t ≡ goes_on plan c t x call p
step_is plan c t x call p h e =
    ap (thread_steps plan c t) h.at ∙ (ap (steps_with plan c t x) h.is ∙ ap (goes_on plan c t x call) e)

-- a thread that is releasing its locks
record Leaver (threads : List ThreadInC) : Type 0 where
  t : ℕ
  x : ThreadInC
  call : CallInC
  outcome : Outcome
  left : List Lock
  at : slice_get threads t ≡ Some x
  is : x.active ≡ Some call
  leaves : call.progress ≡ Leaving outcome left

abbrev NoLeaver : List ThreadInC → Type 0
NoLeaver threads =
    (t : ℕ) (x : ThreadInC) (call : CallInC) (outcome : Outcome) (left : List Lock) → slice_get threads t ≡ Some x → x.active ≡ Some call →
    call.progress ≡ Leaving outcome left → ⊥

abbrev IsLeaving : ThreadInC → Type 0
IsLeaving x = (call : CallInC) × (outcome : Outcome) × (left : List Lock) × (x.active ≡ Some call) × (call.progress ≡ Leaving outcome left)

leaving_by : (x : ThreadInC) → IsLeaving x ⊎ (IsLeaving x → ⊥)
leaving_by x = active_by x.active refl
  where
    progress_by : (call : CallInC) (p : Progress) → x.active ≡ Some call → call.progress ≡ p → IsLeaving x ⊎ (IsLeaving x → ⊥)
    progress_by call (Leaving outcome left) is e = inl (call, outcome, left, is, e)
    progress_by call (Taking pending) is e = inr (λ l. (let same : call ≡ l.0 = same_value x.active call l.0 is l.3 in
        let bad : Taking pending ≡ Leaving l.1 l.2 = sym e ∙ (ap (λ (d : CallInC). d.progress) same ∙ l.4) in cc bad))
    progress_by call (Over outcome) is e = inr (λ l. (let same : call ≡ l.0 = same_value x.active call l.0 is l.3 in
        let bad : Over outcome ≡ Leaving l.1 l.2 = sym e ∙ (ap (λ (d : CallInC). d.progress) same ∙ l.4) in cc bad))

    active_by : (o : Option CallInC) → x.active ≡ o → IsLeaving x ⊎ (IsLeaving x → ⊥)
    active_by None e = inr (λ l. none-some l.0 (sym e ∙ l.3))
    active_by (Some call) e = progress_by call call.progress e refl

find_leaver : (threads : List ThreadInC) → Leaver threads ⊎ NoLeaver threads
find_leaver [] = inr (λ t x call outcome left at is e. none-some x at)
find_leaver (y ∷ threads) = elim (leaving_by y) [
  | inl l ↦ inl (record { t = 0; x = y; call = l.0; outcome = l.1; left = l.2; at = refl; is = l.3; leaves = l.4 })
  | inr stays ↦ elim (find_leaver threads) [
    | inl l ↦ inl (record { t = suc l.t; x = l.x; call = l.call; outcome = l.outcome; left = l.left; at = l.at; is = l.is; leaves = l.leaves })
    | inr none ↦ inr (none_leaves stays none)
  ]
]
  where
    none_leaves : (IsLeaving y → ⊥) → NoLeaver threads → NoLeaver (y ∷ threads)
    none_leaves stays none zero x call outcome left at is e =
        (let same : y ≡ x = cc at in stays (call, outcome, left, ap (λ (z : ThreadInC). z.active) same ∙ is, e))
    none_leaves stays none (suc t) x call outcome left at is e = none t x call outcome left at is e

-- without a holder, no thread holds the lock
nobody_holds : (n : ℕ) (threads : List ThreadState) (lock : Lock) → holder_from n threads lock ≡ None → (t : ℕ) (thread : ThreadState) →
    slice_get threads t ≡ Some thread → holds lock thread ≡ true → ⊥
nobody_holds n [] lock free t thread at h = none-some thread at
nobody_holds n (x ∷ xs) lock free zero thread at h =
    (let same : x ≡ thread = cc at in
    none-some n (sym (sym (cond-true (holds lock x) (Some n) (holder_from (n + 1) xs lock) (ap (holds lock) same ∙ h)) ∙ free)))
nobody_holds n (x ∷ xs) lock free (suc t) thread at h = by (holds lock x) free (λ f. nobody_holds (n + 1) xs lock f t thread at h)
  where
    by : (b : Bool) → (if b then Some n else holder_from (n + 1) xs lock) ≡ None → (holder_from (n + 1) xs lock ≡ None → ⊥) → ⊥
    by true f rest = none-some n (sym f)
    by false f rest = rest f

-- ---- in a world that was reached

pub record WaitLaws : Type 0 where
  pub runs : RunLaws
  pub no_circle : NoCircle
  pub goes_on : RisingGoesOn

module _ (laws : WaitLaws) (plan : Plan) (ok : IsCompiled plan) (short : HasFittingNumbers plan) (base : WorldInC) (w : World) (c : WorldInC) (k : Kept plan base w c) where
  rises : (t : ℕ) (x : ThreadInC) (call : CallInC) (lock : Lock) (rest : List Lock) → Runs c t x call → call.progress ≡ Taking (lock ∷ rest) →
      (other : Lock) → Contains x.locked other → Precedes plan.ranks other lock
  rises t x call lock rest h e other has =
      let s = section_of plan w c k.stands t x call (Taking (lock ∷ rest)) h e tt in
      laws.runs.steps.ready.rises plan w k.reached.ready t s.a lock other rest s.is_open (s.stands.pending ∙ ap pending_of e)
      (subst (λ xs. Contains xs other) (sym s.stands.locks) has)

  asks_rise : (t : ℕ) (x : ThreadInC) → slice_get c.threads t ≡ Some x → (o : Option CallInC) → x.active ≡ o → (lock : Lock) → asks o ≡ Some lock →
      (other : Lock) → Contains x.locked other → Precedes plan.ranks other lock
  asks_rise t x at None is lock e other has = absurd (none-some lock e)
  asks_rise t x at (Some call) is lock e other has = by call.progress refl e
    where
      by : (p : Progress) → call.progress ≡ p → next_lock p ≡ Some lock → Precedes plan.ranks other lock
      by (Taking (first ∷ rest)) progress e = (let same : first ≡ lock = cc e in
          subst (λ l. Precedes plan.ranks other l) same (rises t x call first rest (record { at = at; is = is }) progress other has))
      by (Taking []) progress e = absurd (none-some lock e)
      by (Over outcome) progress e = absurd (none-some lock e)
      by (Leaving outcome left) progress e = absurd (none-some lock e)

  pub no_cycle : NobodyWaitsInACircle c
  no_cycle = laws.no_circle plan.ranks (map asker c.threads) (λ t who lock at ask other has.
      let r = map_back asker c.threads t who at in
      asks_rise t r.0 r.1 r.0.active refl lock (ap (λ (z : Asker). z.ask) r.2 ∙ ask) other (subst (λ (z : Asker). Contains z.held other) (sym r.2) has))

  -- ---- the next step of some thread is not a wait

  abbrev Leads : ℕ → Type 0
  Leads u = (next : WorldInC) × (step plan c u ≡ Goes next)

  -- a step that C defines and that is not a wait
  unlocked_leads : (u : ℕ) (from : WorldInC) (y : ThreadInC) (d : CallInC) (outcome : Outcome) (s : Step) → step plan c u ≡ s →
      Unlocked from u y d outcome s → KeptOn laws.runs plan ok short base c s → Leads u
  unlocked_leads u from y d outcome s is breaks_too kept = absurd kept
  unlocked_leads u from y d outcome s is (unlocked locked left fewer) kept = (_, is)

  moved_leads : (u : ℕ) (y : ThreadInC) (d : CallInC) (s : Step) → step plan c u ≡ s → Moved c u y d s → KeptOn laws.runs plan ok short base c s → Leads u
  moved_leads u y d s is breaks kept = absurd kept
  moved_leads u y d s is (moved cells now call begun under) kept = (_, is)

  kept_at : (u : ℕ) (s : Step) → step plan c u ≡ s → KeptOn laws.runs plan ok short base c s
  kept_at u s is = subst (KeptOn laws.runs plan ok short base c) is (kept_step laws.runs plan ok short base w c u k)

  leaving_leads : (u : ℕ) (y : ThreadInC) (d : CallInC) (outcome : Outcome) (left : List Lock) → Runs c u y d → d.progress ≡ Leaving outcome left → Leads u
  leaving_leads u y d outcome [] h e = (_, step_is plan c u y d (Leaving outcome []) h e)
  leaving_leads u y d outcome (lock ∷ rest) h e =
      let is = step_is plan c u y d (Leaving outcome (lock ∷ rest)) h e in
      unlocked_leads u c y d outcome _ is (unlocks_unlocked c u y d outcome (lock ∷ rest)) (kept_at u _ is)

  over_leads : (u : ℕ) (y : ThreadInC) (d : CallInC) (outcome : Outcome) → Runs c u y d → d.progress ≡ Over outcome → Leads u
  over_leads u y d outcome h e =
      let is = step_is plan c u y d (Over outcome) h e in
      let from : WorldInC = record c { history = c.history ++ entry u y d outcome ∷ [] } in
      unlocked_leads u from y d outcome _ is (unlocks_unlocked from u y d outcome (given_at plan d)) (kept_at u _ is)

  group_leads : (u : ℕ) (y : ThreadInC) (d : CallInC) → Runs c u y d → d.progress ≡ Taking [] → Leads u
  group_leads u y d h e =
      let is = step_is plan c u y d (Taking []) h e in
      moved_leads u y d _ is (does_moved plan c u y d e (slice_get (code_at plan d.call.section) d.place)) (kept_at u _ is)

  -- if no thread is releasing locks, no thread has locked a lock that no section holds
  none_has : NoLeaver c.threads → (lock : Lock) → holder w lock ≡ None → is_locked c.threads lock ≡ false
  none_has none lock free = none_locked c.threads lock (λ v z at m. by v z at m z.active refl)
    where
      held_by : (v : ℕ) (z : ThreadInC) (d : CallInC) → Runs c v z d → IsOpen d.progress → among z.locked lock ≡ true → ⊥
      held_by v z d h under m =
          let s = section_at plan w c k.stands v z d h under in
          nobody_holds 0 w.threads lock free v s.is_open.0 s.is_open.1
          (ap (λ o. option_map_or (λ (b : Activation). among b.held lock) o false) s.is_open.2 ∙ (ap (λ xs. among xs lock) s.stands.locks ∙ m))

      by_progress : (v : ℕ) (z : ThreadInC) (d : CallInC) → Runs c v z d → among z.locked lock ≡ true → (p : Progress) → d.progress ≡ p → ⊥
      by_progress v z d h m (Taking pending) e = held_by v z d h (subst IsOpen (sym e) tt) m
      by_progress v z d h m (Over outcome) e = held_by v z d h (subst IsOpen (sym e) tt) m
      by_progress v z d h m (Leaving outcome left) e = none v z d outcome left h.at h.is e

      by : (v : ℕ) (z : ThreadInC) → slice_get c.threads v ≡ Some z → among z.locked lock ≡ true → (o : Option CallInC) → z.active ≡ o → ⊥
      by v z at m None is = true≢false (sym m ∙ ap (λ xs. among xs lock) (given_back plan w c k.stands v z at is))
      by v z at m (Some d) is = by_progress v z d (record { at = at; is = is }) m d.progress refl

  lock_leads : (u : ℕ) (y : ThreadInC) (d : CallInC) (lock : Lock) (rest : List Lock) → Runs c u y d → d.progress ≡ Taking (lock ∷ rest) →
      is_locked c.threads lock ≡ false → Leads u
  lock_leads u y d lock rest h e free = elim (cases_Bool (among y.locked lock)) [
    | inl m ↦ absurd (nobody_locked c.threads u y lock free h.at m)
    | inr m ↦ (
      _,
      step_is plan c u y d (Taking (lock ∷ rest)) h e
          ∙ (ap (λ b. if b then Breaks else if is_locked c.threads lock then Waits lock else Goes (with_locked c u y (y.locked ++ lock ∷ []) (now_at d (Taking rest)))) m
          ∙ ap (λ b. if b then Waits lock else Goes (with_locked c u y (y.locked ++ lock ∷ []) (now_at d (Taking rest)))) free),
    )
  ]

  -- the section that goes on in the world is one that asks for a lock that is free
  no_holder_waits : (u : ℕ) (b : Activation) (lock : Lock) (rest : List Lock) (o : HasOpen w u b) → b.pending ≡ lock ∷ rest →
      IsNoWait (happens plan w u).0 → holder w lock ≡ None
  no_holder_waits u b lock rest o e no_wait =
      by (holder w lock) refl (subst (λ r. IsNoWait r.0) (happens_asks plan w u o.0 o.1 b o.2 lock rest e) no_wait)
    where
      by : (x : Option ℕ) → holder w lock ≡ x → IsNoWait (worlds.asks plan w u o.0 b lock rest x).0 → holder w lock ≡ None
      by None is n = is
      by (Some v) is n = absurd n

  pub someone_goes_on : SomeoneGoesOn plan c
  someone_goes_on t x call h = elim (find_leaver c.threads) [
    | inl l ↦ (let r = leaving_leads l.t l.x l.call l.outcome l.left (record { at = l.at; is = l.is }) l.leaves in (l.t, r.0, r.1))
    | inr none ↦ (let mine = section_at plan w c k.stands t x call h (open_by none call.progress refl) in
        let r = laws.goes_on plan w (laws.runs.steps.ready.rises plan w k.reached.ready) t mine.a mine.is_open in
        let s = section_is plan w c k.stands r.0 r.1 r.2 in
        let on = by none r.0 r.1 r.2 s.x s.call s.runs s.stands r.3 s.call.progress refl s.under in
        (r.0, on.0, on.1))
  ]
    where
      open_by : NoLeaver c.threads → (p : Progress) → call.progress ≡ p → IsOpen call.progress
      open_by none (Taking pending) e = subst IsOpen (sym e) tt
      open_by none (Over outcome) e = subst IsOpen (sym e) tt
      open_by none (Leaving outcome left) e = absurd (none t x call outcome left h.at h.is e)

      by : NoLeaver c.threads → (u : ℕ) (b : Activation) → HasOpen w u b → (y : ThreadInC) (d : CallInC) → Runs c u y d → StandsFor b y d →
          IsNoWait (happens plan w u).0 → (p : Progress) → d.progress ≡ p → IsOpen d.progress → Leads u
      by none u b o y d runs stands no_wait (Taking []) e under = group_leads u y d runs e
      by none u b o y d runs stands no_wait (Taking (lock ∷ rest)) e under =
          lock_leads u y d lock rest runs e (none_has none lock (no_holder_waits u b lock rest o (stands.pending ∙ ap pending_of e) no_wait))
      by none u b o y d runs stands no_wait (Over outcome) e under = over_leads u y d outcome runs e
      by none u b o y d runs stands no_wait (Leaving outcome left) e under = absurd (subst IsOpen e under)
