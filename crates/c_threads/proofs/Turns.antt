-- One step of a thread in C, by its cases.
use Rattle.std.proofs.Common.{◌≡◌, ℕ, Bool, true, false, if◌then◌else◌, List, [], ◌∷◌, ◌++◌, length, Option, Some, None, slice_get, refl}
use Rattle.std.proofs.Common.{sym, subst}
use Rattle.core_lang.specs.declared.value.Value.{Value}
use Rattle.core_lang.specs.declared.value.Outcome.{Outcome}
use Rattle.core_lang.specs.Serial.{Invocation}
use Rattle.locks.specs.declared.lock.Lock.{Lock}
use Rattle.locks.specs.Locks.{among}
use Rattle.code.specs.declared.instr.Instr.{Instr}
use Rattle.code.specs.declared.instr.Instr.TheVariants as instr
use Rattle.code.specs.Memory.{load_from, store_to}
use Rattle.lowering.specs.Plans.{Plan}
use Rattle.worlds.specs.Worlds.{code_at, call_at}
use Rattle.c_language.specs.Meaning.{After, Next, At_label, At_end, Anything}
use Rattle.c_language.specs.Runs.{begin_group}
use Rattle.c_threads.specs.Locking.{Acquired}
use Rattle.c_threads.specs.Threads.{Progress, Taking, Over, Leaving, CallInC, ThreadInC, WorldInC, Step, Idle, Waits, Goes, Breaks}
use Rattle.c_threads.specs.Threads.{with_thread, with_call, with_locked, now_at, is_locked, locks, without_lock, unlocks, behind, acquired_at, acquires, does, group_in}
use Rattle.c_threads.proofs.Lists.{without_cases}
use Rattle.c_threads.specs.Threads.{frame, begun_call, begins, answer, ends, goes_on, steps_with, thread_steps, step}
use Rattle.c_threads.specs.Claims.{Runs, IsOpen}

-- the thread after its call has returned
abbrev pub answered : ThreadInC → CallInC → Outcome → ThreadInC
answered x c outcome = record x { answers = x.answers ++ answer c outcome ∷ []; active = None }

pub data Turn (plan : Plan) (w : WorldInC) (t : ℕ) : Step → Type 0 where
  idles : Turn plan w t Idle
  starts : {x : ThreadInC} {call : Invocation} → slice_get w.threads t ≡ Some x → x.active ≡ None → call_at plan t (length x.answers) ≡ Some call →
      Turn plan w t (Goes (with_call w t x (begun_call plan (length w.history) call)))
  relocks : {x : ThreadInC} {c : CallInC} {lock : Lock} {rest : List Lock} → Runs w t x c → c.progress ≡ Taking (lock ∷ rest) →
      among x.locked lock ≡ true → Turn plan w t Breaks
  waits : {x : ThreadInC} {c : CallInC} {lock : Lock} {rest : List Lock} → Runs w t x c → c.progress ≡ Taking (lock ∷ rest) →
      among x.locked lock ≡ false → is_locked w.threads lock ≡ true → Turn plan w t (Waits lock)
  gets : {x : ThreadInC} {c : CallInC} {lock : Lock} {rest : List Lock} → Runs w t x c → c.progress ≡ Taking (lock ∷ rest) →
      is_locked w.threads lock ≡ false → Turn plan w t (Goes (with_locked w t x (x.locked ++ lock ∷ []) (now_at c (Taking rest))))
  moves : {x : ThreadInC} {c : CallInC} → Runs w t x c → c.progress ≡ Taking [] →
      Turn plan w t (does plan w t x c (slice_get (code_at plan c.call.section) c.place))
  over : {x : ThreadInC} {c : CallInC} {outcome : Outcome} → Runs w t x c → c.progress ≡ Over outcome → Turn plan w t (ends plan w t x c outcome)
  gives : {x : ThreadInC} {c : CallInC} {outcome : Outcome} {lock : Lock} {rest : List Lock} → Runs w t x c →
      c.progress ≡ Leaving outcome (lock ∷ rest) → Turn plan w t (unlocks w t x c outcome (lock ∷ rest))
  returns : {x : ThreadInC} {c : CallInC} {outcome : Outcome} → Runs w t x c → c.progress ≡ Leaving outcome [] →
      Turn plan w t (Goes (with_thread w t (answered x c outcome)))

module _ (plan : Plan) (w : WorldInC) (t : ℕ) where
  begins_turn : (x : ThreadInC) (o : Option Invocation) → slice_get w.threads t ≡ Some x → x.active ≡ None →
      call_at plan t (length x.answers) ≡ o → Turn plan w t (begins plan w t x o)
  begins_turn x None at none e = idles
  begins_turn x (Some call) at none e = starts at none e

  locks_turn : (x : ThreadInC) (c : CallInC) (lock : Lock) (rest : List Lock) → Runs w t x c → c.progress ≡ Taking (lock ∷ rest) →
      Turn plan w t (locks w t x c lock rest)
  locks_turn x c lock rest has e = by (among x.locked lock) (is_locked w.threads lock) refl refl
    where
      by : (mine any : Bool) → among x.locked lock ≡ mine → is_locked w.threads lock ≡ any →
          Turn plan w t (if mine then Breaks else if any then Waits lock else Goes (with_locked w t x (x.locked ++ lock ∷ []) (now_at c (Taking rest))))
      by true any m a = relocks has e m
      by false true m a = waits has e m a
      by false false m a = gets has e a

  goes_turn : (x : ThreadInC) (c : CallInC) (p : Progress) → Runs w t x c → c.progress ≡ p → Turn plan w t (goes_on plan w t x c p)
  goes_turn x c (Taking []) has e = moves has e
  goes_turn x c (Taking (lock ∷ rest)) has e = locks_turn x c lock rest has e
  goes_turn x c (Over outcome) has e = over has e
  goes_turn x c (Leaving outcome []) has e = returns has e
  goes_turn x c (Leaving outcome (lock ∷ rest)) has e = gives has e

  with_turn : (x : ThreadInC) (o : Option CallInC) → slice_get w.threads t ≡ Some x → x.active ≡ o → Turn plan w t (steps_with plan w t x o)
  with_turn x None at is = begins_turn x (call_at plan t (length x.answers)) at is refl
  with_turn x (Some c) at is = goes_turn x c c.progress (record { at = at; is = is }) refl

  any_turn : (o : Option ThreadInC) → slice_get w.threads t ≡ o → Turn plan w t (thread_steps plan w t o)
  any_turn None e = idles
  any_turn (Some x) e = with_turn x x.active e refl

  pub turn : Turn plan w t (step plan w t)
  turn = any_turn (slice_get w.threads t) refl

-- ---- the result of a group, and of an unlock

pub data Moved (w : WorldInC) (t : ℕ) (x : ThreadInC) (c : CallInC) : Step → Type 0 where
  breaks : Moved w t x c Breaks
  moved : (cells : List Value) (now : CallInC) → now.call ≡ c.call → now.begun ≡ c.begun → IsOpen now.progress →
      Moved w t x c (Goes (with_call (record w { cells = cells }) t x now))

module _ (plan : Plan) (w : WorldInC) (t : ℕ) (x : ThreadInC) (c : CallInC) (taking : c.progress ≡ Taking []) where
  behind_moved : (y : After (List Value)) → Moved w t x c (behind w t x c y)
  behind_moved (Next f) = moved f.memory _ refl refl (subst IsOpen (sym taking) tt)
  behind_moved (At_label label f) = moved f.memory _ refl refl (subst IsOpen (sym taking) tt)
  behind_moved (At_end outcome f) = moved f.memory _ refl refl tt
  behind_moved Anything = breaks

  acquires_moved : (o : Option Acquired) → Moved w t x c (acquires w t x c o)
  acquires_moved None = breaks
  acquires_moved (Some now) = moved w.cells _ refl refl tt

  pub does_moved : (o : Option Instr) → Moved w t x c (does plan w t x c o)
  does_moved None = breaks
  does_moved (Some (instr.Acquire point)) = acquires_moved (acquired_at plan c point)
  does_moved (Some i) = behind_moved (begin_group load_from store_to plan.program (group_in plan c.call.section c.place i) (frame c w.cells))

pub data Unlocked (w : WorldInC) (t : ℕ) (x : ThreadInC) (c : CallInC) (outcome : Outcome) : Step → Type 0 where
  breaks_too : Unlocked w t x c outcome Breaks
  unlocked : (locked : List Lock) (left : List Lock) → ((l : Lock) → among locked l ≡ true → among x.locked l ≡ true) →
      Unlocked w t x c outcome (Goes (with_locked w t x locked (now_at c (Leaving outcome left))))

module _ (w : WorldInC) (t : ℕ) (x : ThreadInC) (c : CallInC) (outcome : Outcome) where
  pub unlocks_unlocked : (locks : List Lock) → Unlocked w t x c outcome (unlocks w t x c outcome locks)
  unlocks_unlocked [] = unlocked x.locked [] (λ l h. h)
  unlocks_unlocked (lock ∷ rest) = by (among x.locked lock)
    where
      by : (b : Bool) → Unlocked w t x c outcome
          (if b then Goes (with_locked w t x (without_lock x.locked lock) (now_at c (Leaving outcome rest)))
          else Breaks)
      by true = unlocked (without_lock x.locked lock) rest (λ l h. (without_cases x.locked lock l h).0)
      by false = breaks_too
