-- If pending locks rise, nobody waits in a cycle, and some thread goes on.
use Rattle.std.proofs.Common.{◌≡◌, ◌⊎◌, ◌<◌, ◌≤◌, ℕ, zero, suc, ◌+◌, Bool, true, false, if◌then◌else◌, List, [], ◌∷◌}
use Rattle.std.proofs.Common.{map, length, Option, Some, None, slice_get, refl, sym, ap, ◌∙◌, subst, arith, inl, inr}
use Rattle.std.proofs.Common.{true≢false}
use Rattle.std.proofs.lemmas.Bool.{cases_lt, cases_eq}
use Rattle.std.specs.Option.{option_map_or}
use Rattle.std.specs.List.{Contains}
use Rattle.std.specs.Prelude.{slice_index}
use Rattle.core_lang.specs.declared.value.Outcome.{Outcome}
use Rattle.core_lang.specs.Theory.Items.{map_back}
use Rattle.locks.specs.declared.lock.Lock.{Lock}
use Rattle.locks.specs.Order.{Precedes, PrecedesIsStrict}
use Rattle.locks.specs.Waiting.{Asker, AsksRise, NoCircle}
use Rattle.lowering.specs.Plans.{Plan}
use Rattle.worlds.specs.declared.event.Event.{Event}
use Rattle.locks.specs.Locks.{among}
use Rattle.worlds.specs.Worlds.{World, ThreadState, Activation, holds, holder_from, holder, asks, goes_on, steps_with}
use Rattle.worlds.specs.Worlds.{thread_steps, happens, HasOpen}
use Rattle.worlds.specs.Waiting.{first_if, asker_of, asker, IsNoWait, IsWait, PendingRises, RisingHasNoCycle}
use Rattle.worlds.specs.Waiting.{RisingWaitsForHolders, RisingGoesOn}
use Rattle.worlds.specs.declared.event.Event.TheVariants.{Idle, Began, Got, Waits, Moved, Ended}
use Rattle.locks.specs.Theory.Order.{IsBefore, is_before, by_rank, by_object, among_contains}
use Rattle.worlds.proofs.Places.{get_set_same}
use Rattle.worlds.proofs.Turns.{Turn, idles, starts, gets, waits, over, moves, turn}

-- ---- no circle

first_pending : (b : Bool) (locks : List Lock) (lock : Lock) → first_if b locks ≡ Some lock →
    (rest : List Lock) × (locks ≡ lock ∷ rest)
first_pending true [] lock h = absurd cc
first_pending true (l ∷ rest) lock h =
    let e : l ≡ lock = cc h in (rest, ap (λ x. x ∷ rest) e)
first_pending false locks lock h = absurd cc

-- the claim for a thread, by its section
rises_at : (ranks : List ℕ) (w : World) → PendingRises ranks w →
    (t : ℕ) (thread : ThreadState) (lock other : Lock) (x : Option Activation) →
    slice_get w.threads t ≡ Some thread → thread.active ≡ x → (asker_of x).ask ≡ Some lock → Contains (asker_of x).held other →
    Precedes ranks other lock
rises_at ranks w rise t thread lock other None at is ask held = absurd cc
rises_at ranks w rise t thread lock other (Some a) at is ask held =
    let p = first_pending a.asked a.pending lock ask in rise t a lock other p.0 (thread, at, is) p.1 held

pub rising_has_no_cycle : NoCircle → RisingHasNoCycle
rising_has_no_cycle none ranks w rise = none ranks (map asker w.threads) asks_rise where
  asks_rise : AsksRise ranks (map asker w.threads)
  asks_rise t x lock at ask other held =
      let thread = map_back asker w.threads t x at in
      rises_at ranks w rise t thread.0 lock other thread.0.active thread.1 refl
      (ap (λ (y : Asker). y.ask) thread.2 ∙ ask) (subst (λ (y : Asker). Contains y.held other) (sym thread.2) held)

-- ---- some thread goes on

precedes_or_not : (ranks : List ℕ) (a b : Lock) → Precedes ranks a b ⊎ (Precedes ranks a b → ⊥)
precedes_or_not ranks a b = elim (cases_lt (slice_index ranks a.class) (slice_index ranks b.class)) [
  | inl less ↦ inl (by_rank ranks a b less)
  | inr more ↦ elim (cases_eq a.class b.class) [
    | inl same ↦ elim (cases_lt a.object b.object) [
      | inl less ↦ inl (by_object ranks a b same less)
      | inr further ↦ inr (λ p. neither more (λ q. omega (arith, q.1, further)) (is_before ranks a b p))
    ]
    | inr other ↦ inr (λ p. neither more (λ q. other q.0) (is_before ranks a b p))
  ]
] where
  neither : slice_index ranks b.class ≤ slice_index ranks a.class →
      ((a.class ≡ b.class) × (a.object < b.object) → ⊥) → IsBefore ranks a b → ⊥
  neither more not (inl less) = omega (arith, more, less)
  neither more not (inr q) = not q

-- the lock that a thread's section is to be granted next
abbrev first_of : List Lock → Option Lock
first_of [] = None
first_of (lock ∷ rest) = Some lock

abbrev wanted : ThreadState → Option Lock
wanted thread = option_map_or (λ (a : Activation). first_of a.pending) thread.active None

-- a thread wants a lock that precedes no lock that another thread wants
record IsTop (ranks : List ℕ) (threads : List ThreadState) : Type 0 where
  by : ℕ
  thread : ThreadState
  lock : Lock
  at : slice_get threads by ≡ Some thread
  wants : wanted thread ≡ Some lock
  top : (u : ℕ) (other : ThreadState) (m : Lock) → slice_get threads u ≡ Some other → wanted other ≡ Some m →
      Precedes ranks lock m → ⊥

abbrev WantNothing : List ThreadState → Type 0
WantNothing threads = (t : ℕ) (thread : ThreadState) → slice_get threads t ≡ Some thread → wanted thread ≡ None

top_of : PrecedesIsStrict → (ranks : List ℕ) (threads : List ThreadState) → WantNothing threads ⊎ IsTop ranks threads
top_of strict ranks [] = inl (λ t thread at. absurd cc)
top_of strict ranks (x ∷ xs) = with_first (wanted x) refl (top_of strict ranks xs) where
  -- if no later thread wants a lock, the first thread decides
  alone_top : (l : Lock) → wanted x ≡ Some l → WantNothing xs → (u : ℕ) (other : ThreadState) (m : Lock) →
      slice_get (x ∷ xs) u ≡ Some other →
      wanted other ≡ Some m → Precedes ranks l m → ⊥
  alone_top l e none zero other m at wants p =
      let same : x ≡ other = cc at in
      let locks : Some l ≡ Some m = sym e ∙ (ap wanted same ∙ wants) in
      let as_one : l ≡ m = cc locks in
      strict.not_itself ranks m (subst (λ k. Precedes ranks k m) as_one p)
  alone_top l e none (suc u) other m at wants p =
      (let bad : None ≡ Some m = sym (none u other at) ∙ wants in cc bad)

  first_top : (l : Lock) → wanted x ≡ Some l → (r : IsTop ranks xs) → Precedes ranks r.lock l →
      (u : ℕ) (other : ThreadState) (m : Lock) →
      slice_get (x ∷ xs) u ≡ Some other → wanted other ≡ Some m → Precedes ranks l m → ⊥
  first_top l e r before zero other m at wants p =
      let same : x ≡ other = cc at in
      let locks : Some l ≡ Some m = sym e ∙ (ap wanted same ∙ wants) in
      let as_one : l ≡ m = cc locks in
      strict.not_itself ranks m (subst (λ k. Precedes ranks k m) as_one p)
  first_top l e r before (suc u) other m at wants p = r.top u other m at wants (strict.goes_on ranks r.lock l m before p)

  later_top : (o : Option Lock) → wanted x ≡ o → (r : IsTop ranks xs) →
      ((l : Lock) → o ≡ Some l → Precedes ranks r.lock l → ⊥) →
      (u : ℕ) (other : ThreadState) (m : Lock) → slice_get (x ∷ xs) u ≡ Some other → wanted other ≡ Some m → Precedes ranks r.lock m → ⊥
  later_top o e r not zero other m at wants p =
      let same : x ≡ other = cc at in not m (sym e ∙ (ap wanted same ∙ wants)) p
  later_top o e r not (suc u) other m at wants p = r.top u other m at wants p

  later : (o : Option Lock) → wanted x ≡ o → (r : IsTop ranks xs) →
      ((l : Lock) → o ≡ Some l → Precedes ranks r.lock l → ⊥) → IsTop ranks (x ∷ xs)
  later o e r not = record { by = suc r.by; thread = r.thread; lock = r.lock; at = r.at; wants = r.wants; top = later_top o e r not }

  nothing_more : wanted x ≡ None → WantNothing xs → WantNothing (x ∷ xs)
  nothing_more e none zero thread at = (let same : x ≡ thread = cc at in ap wanted (sym same) ∙ e)
  nothing_more e none (suc t) thread at = none t thread at

  with_first : (o : Option Lock) → wanted x ≡ o → WantNothing xs ⊎ IsTop ranks xs →
      WantNothing (x ∷ xs) ⊎ IsTop ranks (x ∷ xs)
  with_first None e (inl none) = inl (nothing_more e none)
  with_first (Some l) e (inl none) =
      inr (record { by = 0; thread = x; lock = l; at = refl; wants = e; top = alone_top l e none })
  with_first None e (inr r) = inr (later None e r (λ l bad. absurd cc))
  with_first (Some l) e (inr r) = elim (precedes_or_not ranks r.lock l) [
    | inl p ↦ inr (record { by = 0; thread = x; lock = l; at = refl; wants = e; top = first_top l e r p })
    | inr not ↦ inr (later (Some l) e r (λ k same p. not (let as_one : l ≡ k = cc same in subst (Precedes ranks r.lock) (sym as_one) p)))
  ]

-- the result of a step of an open section
happens_open : (plan : Plan) (w : World) (t : ℕ) (thread : ThreadState) (a : Activation) →
    slice_get w.threads t ≡ Some thread → thread.active ≡ Some a →
    happens plan w t ≡ goes_on plan w t thread a a.pending a.outcome
happens_open plan w t thread a at is = ap (thread_steps plan w t) at ∙ ap (steps_with plan w t thread) is

no_wait_free : (plan : Plan) (w : World) (t : ℕ) (thread : ThreadState) (a : Activation) (x : Option Outcome) →
    IsNoWait (goes_on plan w t thread a [] x).0
no_wait_free plan w t thread a None = tt
no_wait_free plan w t thread a (Some outcome) = tt

abbrev Goer : Plan → World → Type 0
Goer plan w = (u : ℕ) × (b : Activation) × HasOpen w u b × IsNoWait (happens plan w u).0

-- a section that wants no lock goes on
goes_without : (plan : Plan) (w : World) (t : ℕ) (thread : ThreadState) (a : Activation) →
    slice_get w.threads t ≡ Some thread → thread.active ≡ Some a →
    a.pending ≡ [] → Goer plan w
goes_without plan w t thread a at is none = (
  t,
  a,
  (thread, at, is),
  subst (λ (r : Event × World). IsNoWait r.0)
      (sym (happens_open plan w t thread a at is ∙ ap (λ locks. goes_on plan w t thread a locks a.outcome) none)) (no_wait_free plan w t thread a a.outcome),
)

record Holder (n : ℕ) (threads : List ThreadState) (lock : Lock) : Type 0 where
  by : ℕ
  thread : ThreadState
  at : slice_get threads by ≡ Some thread
  section : Activation
  is_open : thread.active ≡ Some section
  held : among section.held lock ≡ true

holding : (lock : Lock) (thread : ThreadState) (x : Option Activation) → thread.active ≡ x →
    option_map_or (λ (a : Activation). among a.held lock) x false ≡ true → (a : Activation) × (thread.active ≡ Some a) × (among a.held lock ≡ true)
holding lock thread None e h = absurd (true≢false (sym h))
holding lock thread (Some a) e h = (a, e, h)

holder_is : (n : ℕ) (threads : List ThreadState) (lock : Lock) (h : ℕ) → holder_from n threads lock ≡ Some h →
    Holder n threads lock
holder_is n [] lock h e = absurd cc
holder_is n (x ∷ xs) lock h e = first (holds lock x) refl e (λ f. holder_is (n + 1) xs lock h f) where
  first : (b : Bool) → holds lock x ≡ b → (if b then Some n else holder_from (n + 1) xs lock) ≡ Some h →
      (holder_from (n + 1) xs lock ≡ Some h → Holder (n + 1) xs lock) → Holder n (x ∷ xs) lock
  first true is e go =
      let a = holding lock x x.active refl is in
      record { by = 0; thread = x; at = refl; section = a.0; is_open = a.1; held = a.2 }
  first false is e go =
      let r = go e in record { by = suc r.by; thread = r.thread; at = r.at; section = r.section; is_open = r.is_open; held = r.held }

pending_of : (a : Activation) (lock : Lock) (locks : List Lock) → a.pending ≡ locks → first_of locks ≡ Some lock →
    (rest : List Lock) × (a.pending ≡ lock ∷ rest)
pending_of a lock [] e h = absurd cc
pending_of a lock (l ∷ rest) e h = (let same : l ≡ lock = cc h in (rest, e ∙ ap (λ x. x ∷ rest) same))

record Wants (thread : ThreadState) (lock : Lock) : Type 0 where
  section : Activation
  is_open : thread.active ≡ Some section
  rest : List Lock
  pending : section.pending ≡ lock ∷ rest

wants_of : (thread : ThreadState) (lock : Lock) (x : Option Activation) → thread.active ≡ x →
    option_map_or (λ (a : Activation). first_of a.pending) x None ≡ Some lock → Wants thread lock
wants_of thread lock None e h = absurd cc
wants_of thread lock (Some a) e h =
    let p = pending_of a lock a.pending refl h in record { section = a; is_open = e; rest = p.0; pending = p.1 }

-- the cases of the locks that a section is to be granted
by_pending : (a : Activation) (locks : List Lock) → a.pending ≡ locks →
    (a.pending ≡ []) ⊎ ((lock : Lock) × (rest : List Lock) × (a.pending ≡ lock ∷ rest))
by_pending a [] e = inl e
by_pending a (lock ∷ rest) e = inr (lock, rest, e)

-- the lock that precedes no wanted one has no holder, or its holder wants none
at_top : (plan : Plan) (w : World) → PendingRises plan.ranks w → (r : IsTop plan.ranks w.threads) →
    Wants r.thread r.lock → (x : Option ℕ) →
    holder w r.lock ≡ x → Goer plan w
at_top plan w rise r want None free = (
  r.by,
  want.section,
  (r.thread, r.at, want.is_open),
  subst (λ (y : Event × World). IsNoWait y.0)
      (sym (happens_open plan w r.by r.thread want.section r.at want.is_open
      ∙ (ap (λ locks. goes_on plan w r.by r.thread want.section locks want.section.outcome) want.pending
      ∙ ap (asks plan w r.by r.thread want.section r.lock want.rest) free))) tt,
)
at_top plan w rise r want (Some h) taken =
    let k = holder_is 0 w.threads r.lock h taken in
    elim (by_pending k.section k.section.pending refl) [
      | inl none ↦ goes_without plan w k.by k.thread k.section k.at k.is_open none
      | inr p ↦ absurd (r.top k.by k.thread p.0 k.at
          (ap (λ x. option_map_or (λ (a : Activation). first_of a.pending) x None) k.is_open ∙ ap first_of p.2)
          (rise k.by k.section p.0 r.lock p.1 (k.thread, k.at, k.is_open) p.2 (among_contains k.section.held r.lock k.held)))
    ]

pub rising_goes_on : PrecedesIsStrict → RisingGoesOn
rising_goes_on strict plan w rise t a o = elim (top_of strict plan.ranks w.threads) [
  | inl none ↦ elim (by_pending a a.pending refl) [
    | inl free ↦ goes_without plan w t o.0 a o.1 o.2 free
    | inr p ↦ absurd (let bad : None ≡ Some p.0 = sym (none t o.0 o.1)
        ∙ (ap (λ x. option_map_or (λ (a : Activation). first_of a.pending) x None) o.2 ∙ ap first_of p.2) in cc bad)
  ]
  | inr r ↦ at_top plan w rise r (wants_of r.thread r.lock r.thread.active refl r.wants) (holder w r.lock) refl
]

-- ---- the threads that wait

-- the thread of a lock's holder, in a list whose first thread has the number `n`
record HolderAt (n : ℕ) (threads : List ThreadState) (lock : Lock) (h : ℕ) : Type 0 where
  by : ℕ
  is : h ≡ n + by
  thread : ThreadState
  at : slice_get threads by ≡ Some thread
  section : Activation
  is_open : thread.active ≡ Some section
  held : among section.held lock ≡ true

holder_at : (n : ℕ) (threads : List ThreadState) (lock : Lock) (h : ℕ) → holder_from n threads lock ≡ Some h →
    HolderAt n threads lock h
holder_at n [] lock h e = absurd cc
holder_at n (x ∷ xs) lock h e = first (holds lock x) refl e (λ f. holder_at (n + 1) xs lock h f) where
  first : (b : Bool) → holds lock x ≡ b → (if b then Some n else holder_from (n + 1) xs lock) ≡ Some h →
      (holder_from (n + 1) xs lock ≡ Some h → HolderAt (n + 1) xs lock h) → HolderAt n (x ∷ xs) lock h
  first true is e go =
      let a = holding lock x x.active refl is in
      let same : n ≡ h = cc e in
      record { by = 0; is = omega (arith, same); thread = x; at = refl; section = a.0; is_open = a.1; held = a.2 }
  first false is e go =
      let r = go e in let same = r.is in
      record { by = suc r.by; is = omega (arith, same); thread = r.thread; at = r.at; section = r.section; is_open = r.is_open; held = r.held }

wait_is : PrecedesIsStrict → (plan : Plan) (w : World) (t : ℕ) (e : Event) (after : World) → Turn plan w t e after →
    PendingRises plan.ranks w → (key : Lock) (by : ℕ) → happens plan w t ≡ (e, after) → e ≡ Waits key by → IsWait plan w t key by
wait_is strict plan w t e after idles rise key by is same = absurd (let bad : Idle ≡ Waits key by = same in cc bad)
wait_is strict plan w t e after (starts {thread} {call} at none next) rise key by is same = absurd (let bad : Began ≡ Waits key by = same in cc bad)
wait_is strict plan w t e after (gets {thread} {a} {lock} {rest} at want free) rise key by is same = absurd (let bad : Got lock ≡ Waits key by = same in cc bad)
wait_is strict plan w t e after (over {thread} {a} {outcome} at none out) rise key by is same = absurd (let bad : Ended (length w.history) ≡ Waits key by = same in cc bad)
wait_is strict plan w t e after (moves {thread} {a} at none out) rise key by is same = absurd (let bad : Moved ≡ Waits key by = same in cc bad)
wait_is strict plan w t e after (waits {thread} {a} {lock} {rest} {h} at want busy) rise key by is same =
    let both : Waits lock h ≡ Waits key by = same in
    let one_lock : lock ≡ key = cc both in
    let one_holder : h ≡ by = cc both in
    let found = holder_at 0 w.threads lock h busy in
    let from_0 = found.is in
    let at_h : h ≡ found.by = omega (arith, from_0) in
    let open_by : slice_get w.threads by ≡ Some found.thread = ap (slice_get w.threads) (sym one_holder ∙ at_h) ∙ found.at in
    let holds_it : Contains found.section.held lock = among_contains found.section.held lock found.held in
    record {
      another = λ bad. (
          let one_thread : Some found.thread ≡ Some thread = sym open_by ∙ ap (slice_get w.threads) bad ∙ at.at in
          let as_thread : found.thread ≡ thread = cc one_thread in
          let one_section : Some found.section ≡ Some a = sym found.is_open ∙ ap (λ x. x.active) as_thread ∙ at.is in
          let as_section : found.section ≡ a = cc one_section in
          strict.not_itself plan.ranks lock
          (rise t a lock lock rest (thread, at.at, at.is) want (subst (λ (x : Activation). Contains x.held lock) as_section holds_it)));
      holder = found.section;
      is_open = (found.thread, open_by, found.is_open);
      holds = subst (Contains found.section.held) one_lock holds_it;
      waiter = record a { asked = true };
      waits = subst (λ (r : Event × World). HasOpen r.1 t (record a { asked = true })) (sym is)
          (record { step = thread.step; active = Some (record a { asked = true }) }, get_set_same w.threads t thread _ at.at, refl);
      first = ap (λ locks. slice_get locks 0) want ∙ ap (λ l. Some l) one_lock;
      asked = refl;
    }

pub rising_waits_for_holders : PrecedesIsStrict → RisingWaitsForHolders
rising_waits_for_holders strict plan w rise t lock h same =
    wait_is strict plan w t (happens plan w t).0 (happens plan w t).1 (turn plan w t) rise lock h refl same
