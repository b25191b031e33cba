-- Facts about threads in C by themselves: no two have one lock locked, and the history has the entries of their calls.
use Rattle.std.proofs.Common.{◌≡◌, ◌≢◌, ◌⊎◌, ◌<◌, ◌≤◌, ℕ, ◌+◌, true, false, List, [], ◌∷◌, ◌++◌, length, Option, Some, None}
use Rattle.std.proofs.Common.{slice_get, set, refl, sym, ap, ◌∙◌, subst, arith, inl, inr, true≢false}
use Rattle.std.specs.Prelude.{⊤}
use Rattle.std.proofs.lemmas.Bool.{cases_eq}
use Rattle.std.proofs.lemmas.List.{length_push}
use Rattle.std.proofs.lemmas.Option.{none-some, slice_get_within}
use Rattle.core_lang.specs.declared.value.Value.{Value}
use Rattle.core_lang.specs.declared.value.Outcome.{Outcome}
use Rattle.core_lang.specs.Serial.{Invocation, Ended}
use Rattle.core_lang.specs.Theory.Items.{get_some, map_back, set_other, still_at, last_at, pushed_at, same_value}
use Rattle.locks.specs.declared.lock.Lock.{Lock}
use Rattle.locks.specs.Locks.{among}
use Rattle.lowering.specs.Plans.{Plan}
use Rattle.worlds.specs.Worlds.{scripts, code_at, call_at}
use Rattle.c_threads.specs.Threads.{now_at}
use Rattle.c_threads.specs.Threads.{given_at}
use Rattle.c_threads.specs.Threads.{Entry, Progress, Taking, Over, Leaving, CallInC, ThreadInC, WorldInC, Step, Idle, Waits, Goes, Breaks}
use Rattle.c_threads.specs.Threads.{with_thread, is_locked, answer, entry, step, at_first, opening_in_c, begun_call}
use Rattle.c_threads.specs.Claims.{Runs, IsOpen, HasEntry, HasNotBegun, EndsInOrder}
use Rattle.c_threads.proofs.Lists.{set_cases, set_there, among_push, nobody_locked}
use Rattle.c_threads.proofs.Turns.{Turn, idles, starts, relocks, waits, gets, moves, over, gives, returns, turn}
use Rattle.c_threads.proofs.Turns.{answered, Moved, breaks, moved, does_moved, Unlocked, breaks_too, unlocked, unlocks_unlocked}

-- ---- how many calls of a thread have their entry

abbrev pub leaves_by : Progress → ℕ
leaves_by (Taking locks) = 0
leaves_by (Over outcome) = 0
leaves_by (Leaving outcome locks) = 1

abbrev pub leaves_with : Option CallInC → ℕ
leaves_with None = 0
leaves_with (Some c) = leaves_by c.progress

abbrev pub entered : ThreadInC → ℕ
entered x = length x.answers + leaves_with x.active

-- an entry is for a call of its thread, and the length of the history at its begin is at most its position
pub record IsEntry (plan : Plan) (threads : List ThreadInC) (p : ℕ) (e : Entry) : Type 0 where
  pub by : ThreadInC
  pub is : slice_get threads e.thread ≡ Some by
  pub earlier : e.step < entered by
  pub scripted : call_at plan e.thread e.step ≡ Some e.call
  pub begun : e.begun ≤ p

-- the invariant of a world `w` that steps reached from `base`: a call that had not begun at `base` notes at least the
-- whole history of `base`
pub record InOrder (plan : Plan) (base w : WorldInC) : Type 0 where
  pub apart : (t u : ℕ) (x y : ThreadInC) (lock : Lock) → slice_get w.threads t ≡ Some x → slice_get w.threads u ≡ Some y →
      among x.locked lock ≡ true → among y.locked lock ≡ true → t ≡ u
  pub scripted : (t : ℕ) (x : ThreadInC) (c : CallInC) → Runs w t x c → call_at plan t (length x.answers) ≡ Some c.call
  pub earlier : (t : ℕ) (x : ThreadInC) (c : CallInC) → Runs w t x c → c.begun ≤ length w.history
  pub entries : (p : ℕ) (e : Entry) → slice_get w.history p ≡ Some e → IsEntry plan w.threads p e
  pub once : (p q : ℕ) (e d : Entry) → slice_get w.history p ≡ Some e → slice_get w.history q ≡ Some d → e.thread ≡ d.thread →
      e.step ≡ d.step → p ≡ q
  pub returned : (t k : ℕ) (x : ThreadInC) (a : Ended) → slice_get w.threads t ≡ Some x → slice_get x.answers k ≡ Some a → HasEntry w t k a
  pub leaving : (t : ℕ) (x : ThreadInC) (c : CallInC) (outcome : Outcome) (locks : List Lock) → Runs w t x c → c.progress ≡ Leaving outcome locks →
      HasEntry w t (length x.answers) (answer c outcome)
  pub since : length base.history ≤ length w.history
  pub late : (t : ℕ) (x : ThreadInC) (c : CallInC) → Runs w t x c → HasNotBegun base t (length x.answers) → length base.history ≤ c.begun
  pub noted : (p : ℕ) (e : Entry) → slice_get w.history p ≡ Some e → HasNotBegun base e.thread e.step → length base.history ≤ e.begun

-- ---- one thread changes, and the history gets at most one entry

abbrev changed : WorldInC → ℕ → ThreadInC → List Value → List Entry → WorldInC
changed w t x cells history = record { cells = cells; history = history; threads = set w.threads t x }

-- the requirements of the thread after the change, and of its entry
record Change (plan : Plan) (base w : WorldInC) (t : ℕ) (x y : ThreadInC) (history : List Entry) : Type 0 where
  at : slice_get w.threads t ≡ Some x
  locked : (lock : Lock) → among y.locked lock ≡ true → (among x.locked lock ≡ true) ⊎ (is_locked w.threads lock ≡ false)
  scripted : (c : CallInC) → y.active ≡ Some c → call_at plan t (length y.answers) ≡ Some c.call
  grown : length w.history ≤ length history
  earlier : (c : CallInC) → y.active ≡ Some c → c.begun ≤ length history
  late : (c : CallInC) → y.active ≡ Some c → HasNotBegun base t (length y.answers) → length base.history ≤ c.begun
  old : (p : ℕ) (e : Entry) → slice_get w.history p ≡ Some e → slice_get history p ≡ Some e
  more : entered x ≤ entered y
  new : (p : ℕ) (e : Entry) → slice_get history p ≡ Some e → (slice_get w.history p ≡ Some e)
      ⊎ ((p ≡ length w.history) × (e.thread ≡ t) × (e.step ≡ entered x) × (entered x < entered y) × (call_at plan t e.step ≡ Some e.call) × (e.begun ≤ p)
      × (HasNotBegun base t e.step → length base.history ≤ e.begun))
  returned : (k : ℕ) (a : Ended) → slice_get y.answers k ≡ Some a → HasEntry (record w { history = history }) t k a
  leaving : (c : CallInC) (outcome : Outcome) (locks : List Lock) → y.active ≡ Some c → c.progress ≡ Leaving outcome locks →
      HasEntry (record w { history = history }) t (length y.answers) (answer c outcome)

-- a call that had an entry still has it
still : (w : WorldInC) (t k : ℕ) (a : Ended) (cells : List Value) (history : List Entry) (threads : List ThreadInC) →
    ((p : ℕ) (e : Entry) → slice_get w.history p ≡ Some e → slice_get history p ≡ Some e) → HasEntry w t k a →
    HasEntry (record { cells = cells; history = history; threads = threads }) t k a
still w t k a cells history threads old h =
    record { position = h.position; entry = h.entry; there = old h.position h.entry h.there; thread = h.thread; number = h.number; answered = h.answered }

module _ (plan : Plan) (base w : WorldInC) (t : ℕ) (x y : ThreadInC) (cells : List Value) (history : List Entry) (now : Change plan base w t x y history) (was : InOrder plan base w) where
  abbrev W : WorldInC
  W = changed w t y cells history

  -- a thread is the one that changed, or was there before
  thread_cases : (u : ℕ) (z : ThreadInC) → slice_get W.threads u ≡ Some z → ((t ≡ u) × (y ≡ z)) ⊎ ((t ≢ u) × (slice_get w.threads u ≡ Some z))
  thread_cases u z h = set_cases w.threads t y u z h

  -- two threads, of which the first is the one that changed
  first_apart : (u : ℕ) (z : ThreadInC) (lock : Lock) → t ≢ u → slice_get w.threads u ≡ Some z → among y.locked lock ≡ true →
      among z.locked lock ≡ true → ⊥
  first_apart u z lock ne at h k = elim (now.locked lock h) [
    | inl mine ↦ ne (was.apart t u x z lock now.at at mine k)
    | inr free ↦ nobody_locked w.threads u z lock free at k
  ]

  apart : (u v : ℕ) (a b : ThreadInC) (lock : Lock) → slice_get W.threads u ≡ Some a → slice_get W.threads v ≡ Some b →
      among a.locked lock ≡ true → among b.locked lock ≡ true → u ≡ v
  apart u v a b lock ua vb ha hb = elim (thread_cases u a ua) [
    | inl e ↦ elim (thread_cases v b vb) [
      | inl f ↦ sym e.0 ∙ f.0
      | inr f ↦ absurd (first_apart v b lock f.0 f.1 (ap (λ (z : ThreadInC). among z.locked lock) e.1 ∙ ha) hb)
    ]
    | inr e ↦ elim (thread_cases v b vb) [
      | inl f ↦ absurd (first_apart u a lock e.0 e.1 (ap (λ (z : ThreadInC). among z.locked lock) f.1 ∙ hb) ha)
      | inr f ↦ was.apart u v a b lock e.1 f.1 ha hb
    ]
  ]

  scripted : (u : ℕ) (a : ThreadInC) (c : CallInC) → Runs W u a c → call_at plan u (length a.answers) ≡ Some c.call
  scripted u a c h = elim (thread_cases u a h.at) [
    | inl e ↦ subst (λ (v : ℕ). call_at plan v (length a.answers) ≡ Some c.call) e.0
        (subst (λ (z : ThreadInC). call_at plan t (length z.answers) ≡ Some c.call) e.1
        (now.scripted c (ap (λ (z : ThreadInC). z.active) e.1 ∙ h.is)))
    | inr e ↦ was.scripted u a c (record { at = e.1; is = h.is })
  ]

  earlier : (u : ℕ) (a : ThreadInC) (c : CallInC) → Runs W u a c → c.begun ≤ length history
  earlier u a c h = elim (thread_cases u a h.at) [
    | inl e ↦ now.earlier c (ap (λ (z : ThreadInC). z.active) e.1 ∙ h.is)
    | inr e ↦ (let le = was.earlier u a c (record { at = e.1; is = h.is }) in let more = now.grown in omega (arith, le, more))
  ]

  old_entry : (p : ℕ) (e : Entry) → IsEntry plan w.threads p e → IsEntry plan W.threads p e
  old_entry p e i = elim (cases_eq t e.thread) [
    | inl same ↦ (let mine : x ≡ i.by = same_value (slice_get w.threads t) x i.by now.at (ap (slice_get w.threads) same ∙ i.is) in
        let before : e.step < entered x = subst (λ (z : ThreadInC). e.step < entered z) (sym mine) i.earlier in
        let more = now.more in
        record {
          by = y;
          is = ap (slice_get W.threads) (sym same) ∙ set_there w.threads t x y now.at;
          earlier = omega (arith, before, more);
          scripted = i.scripted;
          begun = i.begun;
        })
    | inr other ↦ record {
      by = i.by;
      is = other_there e.thread i.by other i.is;
      earlier = i.earlier;
      scripted = i.scripted;
      begun = i.begun;
    }
  ]
    where
      other_there : (u : ℕ) (z : ThreadInC) → t ≢ u → slice_get w.threads u ≡ Some z → slice_get W.threads u ≡ Some z
      other_there u z ne at = set_other w.threads t u y ne ∙ at

  entries : (p : ℕ) (e : Entry) → slice_get history p ≡ Some e → IsEntry plan W.threads p e
  entries p e h = elim (now.new p e h) [
    | inl before ↦ old_entry p e (was.entries p e before)
    | inr fresh ↦ (let step = fresh.2 in
        let more = fresh.3 in
        record {
          by = y;
          is = ap (slice_get W.threads) fresh.1 ∙ set_there w.threads t x y now.at;
          earlier = omega (arith, step, more);
          scripted = ap (λ (v : ℕ). call_at plan v e.step) fresh.1 ∙ fresh.4;
          begun = fresh.5;
        })
  ]

  -- the call of the new entry had no entry before
  fresh_once : (q : ℕ) (e d : Entry) → e.thread ≡ t → e.step ≡ entered x → slice_get w.history q ≡ Some d → e.thread ≡ d.thread →
      e.step ≡ d.step → ⊥
  fresh_once q e d of is h same number =
      let i = was.entries q d h in
      let mine : x ≡ i.by = same_value (slice_get w.threads t) x i.by now.at (ap (slice_get w.threads) (sym of ∙ same) ∙ i.is) in
      let before : d.step < entered x = subst (λ (z : ThreadInC). d.step < entered z) (sym mine) i.earlier in
      omega (arith, before, is, number)

  once : (p q : ℕ) (e d : Entry) → slice_get history p ≡ Some e → slice_get history q ≡ Some d → e.thread ≡ d.thread → e.step ≡ d.step → p ≡ q
  once p q e d hp hq same number = elim (now.new p e hp) [
    | inl before ↦ elim (now.new q d hq) [
      | inl too ↦ was.once p q e d before too same number
      | inr fresh ↦ absurd (fresh_once p d e fresh.1 fresh.2 before (sym same) (sym number))
    ]
    | inr fresh ↦ elim (now.new q d hq) [
      | inl too ↦ absurd (fresh_once q e d fresh.1 fresh.2 too same number)
      | inr also ↦ fresh.0 ∙ sym also.0
    ]
  ]

  returned : (u k : ℕ) (z : ThreadInC) (a : Ended) → slice_get W.threads u ≡ Some z → slice_get z.answers k ≡ Some a → HasEntry W u k a
  returned u k z a at h = elim (thread_cases u z at) [
    | inl e ↦ (let mine = now.returned k a (ap (λ (z : ThreadInC). slice_get z.answers k) e.1 ∙ h) in
        subst (λ (v : ℕ). HasEntry W v k a) e.0
        (still (record w { history = history }) t k a cells history W.threads (λ p d i. i) mine))
    | inr e ↦ still w u k a cells history W.threads now.old (was.returned u k z a e.1 h)
  ]

  leaving : (u : ℕ) (z : ThreadInC) (c : CallInC) (outcome : Outcome) (locks : List Lock) → Runs W u z c → c.progress ≡ Leaving outcome locks →
      HasEntry W u (length z.answers) (answer c outcome)
  leaving u z c outcome locks h is = elim (thread_cases u z h.at) [
    | inl e ↦ (let mine = now.leaving c outcome locks (ap (λ (z : ThreadInC). z.active) e.1 ∙ h.is) is in
        let whole = still (record w { history = history }) t (length y.answers) (answer c outcome) cells history W.threads (λ p d i. i) mine in
        subst (λ (v : ℕ). HasEntry W v (length z.answers) (answer c outcome)) e.0
        (subst (λ (a : ThreadInC). HasEntry W t (length a.answers) (answer c outcome)) e.1 whole))
    | inr e ↦ still w u (length z.answers) (answer c outcome) cells history W.threads now.old
        (was.leaving u z c outcome locks (record { at = e.1; is = h.is }) is)
  ]

  since : length base.history ≤ length history
  since = (let one = was.since in let two = now.grown in omega (arith, one, two))

  late : (u : ℕ) (a : ThreadInC) (c : CallInC) → Runs W u a c → HasNotBegun base u (length a.answers) → length base.history ≤ c.begun
  late u a c h fresh = elim (thread_cases u a h.at) [
    | inl e ↦ now.late c (ap (λ (z : ThreadInC). z.active) e.1 ∙ h.is)
        (subst (λ (v : ℕ). HasNotBegun base v (length y.answers)) (sym e.0) (subst (λ (z : ThreadInC). HasNotBegun base u (length z.answers)) (sym e.1) fresh))
    | inr e ↦ was.late u a c (record { at = e.1; is = h.is }) fresh
  ]

  noted : (p : ℕ) (e : Entry) → slice_get history p ≡ Some e → HasNotBegun base e.thread e.step → length base.history ≤ e.begun
  noted p e h fresh = elim (now.new p e h) [
    | inl before ↦ was.noted p e before fresh
    | inr made ↦ made.6 (subst (λ (v : ℕ). HasNotBegun base v e.step) made.1 fresh)
  ]

  in_order : InOrder plan base W
  in_order = record {
    apart = apart;
    scripted = scripted;
    earlier = earlier;
    entries = entries;
    once = once;
    returned = returned;
    leaving = leaving;
    since = since;
    late = late;
    noted = noted;
  }

-- ---- each step

-- the thread goes on with a call, and the history stays
goes_with : (plan : Plan) (base w : WorldInC) (t : ℕ) (x : ThreadInC) (locked : List Lock) (c : CallInC) (cells : List Value) → InOrder plan base w →
    slice_get w.threads t ≡ Some x →
    ((lock : Lock) → among locked lock ≡ true → (among x.locked lock ≡ true) ⊎ (is_locked w.threads lock ≡ false)) →
    call_at plan t (length x.answers) ≡ Some c.call → c.begun ≤ length w.history →
    (HasNotBegun base t (length x.answers) → length base.history ≤ c.begun) → leaves_with x.active ≤ leaves_by c.progress →
    ((outcome : Outcome) (locks : List Lock) → c.progress ≡ Leaving outcome locks → HasEntry w t (length x.answers) (answer c outcome)) →
    InOrder plan base (record { cells = cells; history = w.history; threads = set w.threads t (record { answers = x.answers; locked = locked; active = Some c }) })
goes_with plan base w t x locked c cells was at apart called begun late more leaving =
    in_order plan base w t x (record { answers = x.answers; locked = locked; active = Some c }) cells w.history (record {
      at = at;
      locked = apart;
      scripted = λ d is. (let same : c ≡ d = cc is in subst (λ (e : CallInC). call_at plan t (length x.answers) ≡ Some e.call) same called);
      grown = omega arith;
      earlier = λ d is. (let same : c ≡ d = cc is in subst (λ (e : CallInC). e.begun ≤ length w.history) same begun);
      late = λ d is fresh. (let same : c ≡ d = cc is in subst (λ (e : CallInC). length base.history ≤ e.begun) same (late fresh));
      old = λ p e h. h;
      more = omega (arith, more);
      new = λ p e h. inl h;
      returned = λ k a h. was.returned t k x a at h;
      leaving = λ d outcome locks is progress. (let same : c ≡ d = cc is in
          subst (λ (e : CallInC). HasEntry w t (length x.answers) (answer e outcome)) same
          (leaving outcome locks (ap (λ (e : CallInC). e.progress) same ∙ progress)));
    }) was

-- what a step leaves: threads in order, and each entry of the history
abbrev pub Leaves : Plan → WorldInC → WorldInC → Step → Type 0
Leaves plan base w Idle = ⊤
Leaves plan base w (Waits lock) = ⊤
Leaves plan base w (Goes next) = InOrder plan base next × ((p : ℕ) (e : Entry) → slice_get w.history p ≡ Some e → slice_get next.history p ≡ Some e)
Leaves plan base w Breaks = ⊤

none_leave : (x : ThreadInC) (c : CallInC) (p : Progress) (n : ℕ) → x.active ≡ Some c → c.progress ≡ p → leaves_by p ≡ n → leaves_with x.active ≡ n
none_leave x c p n is e by = ap leaves_with is ∙ (ap leaves_by e ∙ by)

module _ (plan : Plan) (base w : WorldInC) (t : ℕ) (was : InOrder plan base w) where
  moves_leave : (x : ThreadInC) (c : CallInC) (s : Step) → Runs w t x c → c.progress ≡ Taking [] → Moved w t x c s → Leaves plan base w s
  moves_leave x c s h e breaks = tt
  moves_leave x c s h e (moved cells now call begun under) = (
    goes_with plan base w t x x.locked now cells was h.at (λ lock m. inl m) (was.scripted t x c h ∙ ap (λ (i : Invocation). Some i) (sym call))
        (let le = was.earlier t x c h in omega (arith, le, begun))
        (λ fresh. let le = was.late t x c h fresh in omega (arith, le, begun))
        (let none = none_leave x c (Taking []) 0 h.is e refl in omega (arith, none))
        (λ outcome locks p. absurd (subst IsOpen p under)),
    λ p d i. i,
  )

  gives_leave : (x : ThreadInC) (c : CallInC) (outcome : Outcome) (locks : List Lock) (s : Step) → Runs w t x c →
      c.progress ≡ Leaving outcome locks → Unlocked w t x c outcome s → Leaves plan base w s
  gives_leave x c outcome locks s h e breaks_too = tt
  gives_leave x c outcome locks s h e (unlocked locked left fewer) = (
    goes_with plan base w t x locked (now_at c (Leaving outcome left)) w.cells was h.at (λ lock m. inl (fewer lock m))
        (was.scripted t x c h) (was.earlier t x c h) (was.late t x c h)
        (let one = none_leave x c (Leaving outcome locks) 1 h.is e refl in omega (arith, one))
        (λ other rest p. (let same : outcome ≡ other = cc p in
        subst (λ (o : Outcome). HasEntry w t (length x.answers) (answer c o)) same (was.leaving t x c outcome locks h e))),
    λ p d i. i,
  )

  over_leave : (x : ThreadInC) (c : CallInC) (outcome : Outcome) (s : Step) → Runs w t x c → c.progress ≡ Over outcome →
      Unlocked (record w { history = w.history ++ entry t x c outcome ∷ [] }) t x c outcome s → Leaves plan base w s
  over_leave x c outcome s h e breaks_too = tt
  over_leave x c outcome s h e (unlocked locked left fewer) =
      let mine = entry t x c outcome in
      let none = none_leave x c (Over outcome) 0 h.is e refl in
      let many = length_push w.history mine in
      let le = was.earlier t x c h in
      let own : HasEntry (record w { history = w.history ++ mine ∷ [] }) t (length x.answers) (answer c outcome) =
      record { position = length w.history; entry = mine; there = last_at w.history mine; thread = refl; number = refl; answered = refl } in (
        in_order plan base w t x (record { answers = x.answers; locked = locked; active = Some (now_at c (Leaving outcome left)) }) w.cells
            (w.history ++ mine ∷ []) (record {
              at = h.at;
              locked = λ lock m. inl (fewer lock m);
              scripted = λ d is. (let same : now_at c (Leaving outcome left) ≡ d = cc is in
                  subst (λ (y : CallInC). call_at plan t (length x.answers) ≡ Some y.call) same (was.scripted t x c h));
              grown = omega (arith, many);
              earlier = λ d is. (let same : now_at c (Leaving outcome left) ≡ d = cc is in
                  subst (λ (y : CallInC). y.begun ≤ length (w.history ++ mine ∷ [])) same (omega (arith, many, le)));
              late = λ d is fresh. (let same : now_at c (Leaving outcome left) ≡ d = cc is in
                  subst (λ (y : CallInC). length base.history ≤ y.begun) same (was.late t x c h fresh));
              old = λ p d i. still_at w.history (mine ∷ []) p d i;
              more = omega (arith, none);
              new = λ p d i. elim (pushed_at w.history mine p d i) [
                | inl before ↦ inl before
                | inr fresh ↦ (let step : d.step ≡ length x.answers = sym (ap (λ (z : Entry). z.step) fresh.1) in
                    let at = fresh.0 in
                    let began : d.begun ≡ c.begun = sym (ap (λ (z : Entry). z.begun) fresh.1) in
                    inr (
                      fresh.0,
                      sym (ap (λ (z : Entry). z.thread) fresh.1),
                      omega (arith, step, none),
                      omega (arith, none),
                      subst (λ (z : Entry). call_at plan t z.step ≡ Some z.call) fresh.1 (was.scripted t x c h),
                      omega (arith, at, began, le),
                      λ new. let late = was.late t x c h (subst (λ (k : ℕ). HasNotBegun base t k) step new) in omega (arith, late, began),
                    ))
              ];
              returned = λ k a i. still w t k a w.cells (w.history ++ mine ∷ []) w.threads (λ p d j. still_at w.history (mine ∷ []) p d j) (was.returned t k x a h.at i);
              leaving = λ d other locks is p. (let same : now_at c (Leaving outcome left) ≡ d = cc is in
                  let progress : Leaving outcome left ≡ Leaving other locks = ap (λ (y : CallInC). y.progress) same ∙ p in
                  let as_one : outcome ≡ other = cc progress in
                  subst (λ (y : CallInC). HasEntry (record w { history = w.history ++ mine ∷ [] }) t (length x.answers) (answer y other)) same
                  (subst (λ (o : Outcome). HasEntry (record w { history = w.history ++ mine ∷ [] }) t (length x.answers) (answer c o)) as_one own));
            }) was,
        λ p d i. still_at w.history (mine ∷ []) p d i,
      )

  returns_leave : (x : ThreadInC) (c : CallInC) (outcome : Outcome) → Runs w t x c → c.progress ≡ Leaving outcome [] →
      Leaves plan base w (Goes (with_thread w t (answered x c outcome)))
  returns_leave x c outcome h e =
      let one = none_leave x c (Leaving outcome []) 1 h.is e refl in
      let many = length_push x.answers (answer c outcome) in (
        in_order plan base w t x (answered x c outcome) w.cells w.history (record {
          at = h.at;
          locked = λ lock m. inl m;
          scripted = λ d is. absurd (none-some d is);
          grown = omega arith;
          earlier = λ d is. absurd (none-some d is);
          late = λ d is. absurd (none-some d is);
          old = λ p d i. i;
          more = omega (arith, one, many);
          new = λ p d i. inl i;
          returned = λ k a i. elim (pushed_at x.answers (answer c outcome) k a i) [
            | inl before ↦ was.returned t k x a h.at before
            | inr fresh ↦ subst (λ (b : Ended). HasEntry w t k b) fresh.1
                (subst (λ (n : ℕ). HasEntry w t n (answer c outcome)) (sym fresh.0) (was.leaving t x c outcome [] h e))
          ];
          leaving = λ d other locks is p. absurd (none-some d is);
        }) was,
        λ p d i. i,
      )

  turn_leaves : (s : Step) → Turn plan w t s → Leaves plan base w s
  turn_leaves s idles = tt
  turn_leaves s (relocks h e m) = tt
  turn_leaves s (waits h e m a) = tt
  turn_leaves s (starts {x} {call} at none called) = (
    goes_with plan base w t x x.locked (begun_call plan (length w.history) call) w.cells was at (λ lock m. inl m) called (omega arith) (λ fresh. was.since)
        (let zero = ap leaves_with none in omega (arith, zero)) (λ outcome locks p. absurd cc),
    λ p d i. i,
  )
  turn_leaves s (gets {x} {c} {lock} {rest} h e free) = (
    goes_with plan base w t x (x.locked ++ lock ∷ []) (now_at c (Taking rest)) w.cells was h.at
        (λ other m. elim (among_push x.locked lock other m) [
          | inl mine ↦ inl mine
          | inr same ↦ inr (ap (is_locked w.threads) (sym same) ∙ free)
        ]) (was.scripted t x c h) (was.earlier t x c h) (was.late t x c h)
        (let none = none_leave x c (Taking (lock ∷ rest)) 0 h.is e refl in omega (arith, none)) (λ outcome locks p. absurd cc),
    λ p d i. i,
  )
  turn_leaves s (moves {x} {c} h e) = moves_leave x c s h e (does_moved plan w t x c e (slice_get (code_at plan c.call.section) c.place))
  turn_leaves s (over {x} {c} {outcome} h e) =
      over_leave x c outcome s h e (unlocks_unlocked (record w { history = w.history ++ entry t x c outcome ∷ [] }) t x c outcome (given_at plan c))
  turn_leaves s (gives {x} {c} {outcome} {lock} {rest} h e) = gives_leave x c outcome (lock ∷ rest) s h e (unlocks_unlocked w t x c outcome (lock ∷ rest))
  turn_leaves s (returns {x} {c} {outcome} h e) = returns_leave x c outcome h e

  pub step_leaves : Leaves plan base w (step plan w t)
  step_leaves = turn_leaves (step plan w t) (turn plan w t)

-- ---- before any step

first_is : (plan : Plan) (t : ℕ) (x : ThreadInC) → slice_get (opening_in_c plan).threads t ≡ Some x → record { answers = []; locked = []; active = None } ≡ x
first_is plan t x at = (map_back at_first (scripts plan) t x at).2

pub opening_in_order : (plan : Plan) → InOrder plan (opening_in_c plan) (opening_in_c plan)
opening_in_order plan = record {
  apart = λ t u x y lock at at' h k. absurd (true≢false (sym (ap (λ (z : ThreadInC). among z.locked lock) (first_is plan t x at) ∙ h)));
  scripted = λ t x c h. absurd (none-some c (ap (λ (z : ThreadInC). z.active) (first_is plan t x h.at) ∙ h.is));
  earlier = λ t x c h. absurd (none-some c (ap (λ (z : ThreadInC). z.active) (first_is plan t x h.at) ∙ h.is));
  entries = λ p e h. absurd (none-some e h);
  once = λ p q e d h k same number. absurd (none-some e h);
  returned = λ t k x a at h. absurd (none-some a (ap (λ (z : ThreadInC). slice_get z.answers k) (first_is plan t x at) ∙ h));
  leaving = λ t x c outcome locks h e. absurd (none-some c (ap (λ (z : ThreadInC). z.active) (first_is plan t x h.at) ∙ h.is));
  since = omega arith;
  late = λ t x c h. absurd (none-some c (ap (λ (z : ThreadInC). z.active) (first_is plan t x h.at) ∙ h.is));
  noted = λ p e h. absurd (none-some e h);
}

-- ---- beside a later world

at_most_one : (o : Option CallInC) → leaves_with o ≤ 1
at_most_one None = omega arith
at_most_one (Some d) = by d.progress
  where
    by : (p : Progress) → leaves_by p ≤ 1
    by (Taking pending) = omega arith
    by (Over outcome) = omega arith
    by (Leaving outcome left) = omega arith

module _ (plan : Plan) (base w : WorldInC) (order : InOrder plan base w) where
  -- a call that has not begun has no entry
  none_yet : (q : ℕ) (d : Entry) → slice_get w.history q ≡ Some d → HasNotBegun w d.thread d.step → ⊥
  none_yet q d at fresh =
      let i = order.entries q d at in
      let same : i.by ≡ fresh.0 = same_value (slice_get w.threads d.thread) i.by fresh.0 i.is fresh.1 in
      let before : d.step < entered fresh.0 = subst (λ (z : ThreadInC). d.step < entered z) same i.earlier in
      elim fresh.2 [
        | inl past ↦ (let one = at_most_one fresh.0.active in omega (arith, before, past, one))
        | inr next ↦ (let zero = ap leaves_with next.1 in let number = next.0 in omega (arith, before, zero, number))
      ]

  -- a call that has not begun is not under way
  none_runs : (t : ℕ) (x : ThreadInC) (c : CallInC) → Runs w t x c → HasNotBegun w t (length x.answers) → ⊥
  none_runs t x c h fresh =
      let same : x ≡ fresh.0 = same_value (slice_get w.threads t) x fresh.0 h.at fresh.1 in
      let many = ap (λ (z : ThreadInC). length z.answers) same in
      elim fresh.2 [
        | inl past ↦ omega (arith, many, past)
        | inr next ↦ none-some c (sym next.1 ∙ (ap (λ (z : ThreadInC). z.active) (sym same) ∙ h.is))
      ]

  -- a world is in order with itself as the base
  pub from_here : InOrder plan w w
  from_here = record {
    apart = order.apart;
    scripted = order.scripted;
    earlier = order.earlier;
    entries = order.entries;
    once = order.once;
    returned = order.returned;
    leaving = order.leaving;
    since = omega arith;
    late = λ t x c h fresh. absurd (none_runs t x c h fresh);
    noted = λ p e h fresh. absurd (none_yet p e h fresh);
  }

  -- a call that had returned at the base precedes one that had not begun there, and is among the entries at that one's
  -- begin
  pub ends_in_order : (was : InOrder plan base base) →
      ((p : ℕ) (e : Entry) → slice_get base.history p ≡ Some e → slice_get w.history p ≡ Some e) → EndsInOrder base w
  ends_in_order was old p q e d at at' done fresh =
      let answered = get_some done.0.answers e.step done.2 in
      let mine = was.returned e.thread e.step done.0 answered.0 done.1 answered.1 in
      let same : mine.position ≡ p = order.once mine.position p mine.entry e (old mine.position mine.entry mine.there) at mine.thread mine.number in
      let early : mine.position < length base.history = slice_get_within base.history mine.position mine.entry mine.there in
      let noted = order.noted q d at' fresh in
      let begun = (order.entries q d at').begun in
      (omega (arith, same, early, noted), begun)
