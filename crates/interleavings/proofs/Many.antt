-- Step after step.
use Rattle.std.proofs.Common.{◌≡◌, ℕ, zero, suc, ◌+◌, ◌<◌, ◌-◌, ◌≤◌, List, [], ◌∷◌, ◌++◌, length, take, drop, get_or}
use Rattle.std.proofs.Common.{replicate, Some, refl, sym, ap, ◌∙◌, arith, append_assoc}
use Rattle.std.proofs.lemmas.List.{take_more}
use Rattle.std.specs.Prelude.{slice_get, Result, Ok, Err, OnErr}
use Rattle.worlds.specs.declared.event.Event.{Event}
use Rattle.worlds.specs.declared.event.Event.TheVariants.{Began}
use Rattle.worlds.specs.Worlds.{World, happens, world_after}
use Rattle.input_files.specs.declared.turn.Turn.{Turn}
use Rattle.interleavings.specs.Threads.{ThreadsOf, threads_of, with_steps, StopsAtBegin}
use Rattle.input_files.specs.Turns.{steps_of}
use Rattle.worlds.specs.Theory.Steps.{steps_more}

pub replicate_push : (n t : ℕ) → replicate (suc n) t ≡ replicate n t ++ t ∷ []
replicate_push zero t = refl
replicate_push (suc n) t = ap (λ xs. t ∷ xs) (replicate_push n t)

append_none : (xs : List ℕ) → xs ++ [] ≡ xs
append_none [] = refl
append_none (x ∷ xs) = ap (λ ys. x ∷ ys) (append_none xs)

steps_of_push : (turns : List Turn) (turn : Turn) →
    steps_of (turns ++ turn ∷ []) ≡ steps_of turns ++ replicate turn.count turn.thread
steps_of_push [] turn = append_none (replicate turn.count turn.thread)
steps_of_push (x ∷ turns) turn =
    ap (λ ys. replicate x.count x.thread ++ ys) (steps_of_push turns turn)
    ∙ sym (append_assoc (replicate x.count x.thread) (steps_of turns) (replicate turn.count turn.thread))

-- one step more of a thread
pub one_step_more : (first w next : ThreadsOf) (t i : ℕ) (e : Event) → w ≡ with_steps first (replicate i t) →
    happens w.plan w.world t ≡ (e, next.world) →
    next.plan ≡ w.plan → next ≡ with_steps first (replicate (i + 1) t)
one_step_more first w next t i e so_far step same =
    let plan : next.plan ≡ first.plan = same ∙ ap (λ (x : ThreadsOf). x.plan) so_far in
    let number : suc i ≡ i + 1 = omega arith in
    let world : next.world ≡ world_after first.plan first.world (replicate (i + 1) t) =
    ap (λ (r : Event × World). r.1) (sym step)
    ∙ ap (λ (x : ThreadsOf). (happens x.plan x.world t).1) so_far
    ∙ sym (steps_more first.plan first.world (replicate i t) (t ∷ []))
    ∙ ap (world_after first.plan first.world) (sym (replicate_push i t) ∙ ap (λ n. replicate n t) number) in
    λ j. threads_of (plan j) (world j)

-- one turn more
pub one_turn_more : (first : ThreadsOf) (turns : List Turn) (i : ℕ) (d : Turn) (w next : ThreadsOf) → i < length turns →
    w ≡ with_steps first (steps_of (take i turns)) →
    next ≡ with_steps w (replicate (get_or turns i d).count (get_or turns i d).thread) →
    next ≡ with_steps first (steps_of (take (i + 1) turns))
one_turn_more first turns i d w next lt so_far step =
    let turn = get_or turns i d in
    step
    ∙ ap (λ (x : ThreadsOf). with_steps x (replicate turn.count turn.thread)) so_far
    ∙ ap (threads_of first.plan)
    (sym (steps_more first.plan first.world (steps_of (take i turns)) (replicate turn.count turn.thread))
    ∙ ap (world_after first.plan first.world) (sym (steps_of_push (take i turns) turn) ∙ ap steps_of (sym (take_more turns i d lt))))

-- ---- the place at which the steps stop

get_replicate : (n i t : ℕ) → i < n → slice_get (replicate n t) i ≡ Some t
get_replicate zero i t lt = absurd (omega (arith, lt))
get_replicate (suc n) zero t lt = refl
get_replicate (suc n) (suc i) t lt = get_replicate n i t (omega (arith, lt))

take_replicate : (n i t : ℕ) → i ≤ n → take i (replicate n t) ≡ replicate i t
take_replicate n zero t le = refl
take_replicate zero (suc i) t le = absurd (omega (arith, le))
take_replicate (suc n) (suc i) t le = ap (λ xs. t ∷ xs) (take_replicate n i t (omega (arith, le)))

-- a turn has the given number of steps left, and the next would begin a call
pub stops_in_turn : (first w last : ThreadsOf) (count left t : ℕ) → left ≤ count → 0 < left →
    w ≡ with_steps first (replicate (count - left) t) → last ≡ w → (happens w.plan w.world t).0 ≡ Began →
    StopsAtBegin first (replicate count t) last
stops_in_turn first w last count left t within some so_far same begins = record {
  taken = count - left;
  thread = t;
  next = get_replicate count (count - left) t (omega (arith, within, some));
  stands = same ∙ so_far ∙ ap (with_steps first) (sym (take_replicate count (count - left) t (omega arith)));
  begins = ap (λ (x : ThreadsOf). (happens x.plan x.world t).0) same ∙ begins;
}

-- a step was taken, and the steps stop behind it
pub stops_behind : (first next last : ThreadsOf) (t n : ℕ) → next ≡ with_steps first (t ∷ []) →
    StopsAtBegin next (replicate n t) last → StopsAtBegin first (replicate (suc n) t) last
stops_behind first next last t n taken stop = record {
  taken = suc stop.taken;
  thread = stop.thread;
  next = stop.next;
  stands = stop.stands ∙ ap (λ (w : ThreadsOf). with_steps w (take stop.taken (replicate n t))) taken;
  begins = stop.begins;
}

get_first : (ys zs : List ℕ) (i t : ℕ) → slice_get ys i ≡ Some t → slice_get (ys ++ zs) i ≡ Some t
get_first [] zs i t h = absurd cc
get_first (y ∷ ys) zs zero t h = h
get_first (y ∷ ys) zs (suc i) t h = get_first ys zs i t h

take_first : (ys zs : List ℕ) (i t : ℕ) → slice_get ys i ≡ Some t → take i (ys ++ zs) ≡ take i ys
take_first [] zs i t h = absurd cc
take_first (y ∷ ys) zs zero t h = refl
take_first (y ∷ ys) zs (suc i) t h = ap (λ l. y ∷ l) (take_first ys zs i t h)

get_later : (xs ys zs : List ℕ) (i t : ℕ) → slice_get ys i ≡ Some t →
    slice_get (xs ++ ys ++ zs) (length xs + i) ≡ Some t
get_later [] ys zs i t h =
    let number : 0 + i ≡ i = omega arith in ap (slice_get (ys ++ zs)) number ∙ get_first ys zs i t h
get_later (x ∷ xs) ys zs i t h =
    let number : suc (length xs) + i ≡ suc (length xs + i) = omega arith in
    ap (slice_get (x ∷ xs ++ ys ++ zs)) number ∙ get_later xs ys zs i t h

take_later : (xs ys zs : List ℕ) (i t : ℕ) → slice_get ys i ≡ Some t →
    take (length xs + i) (xs ++ ys ++ zs) ≡ xs ++ take i ys
take_later [] ys zs i t h =
    let number : 0 + i ≡ i = omega arith in ap (λ n. take n (ys ++ zs)) number ∙ take_first ys zs i t h
take_later (x ∷ xs) ys zs i t h =
    let number : suc (length xs) + i ≡ suc (length xs + i) = omega arith in
    ap (λ n. take n (x ∷ xs ++ ys ++ zs)) number ∙ ap (λ l. x ∷ l) (take_later xs ys zs i t h)

-- the steps of a turn
steps_in : List Turn → ℕ → Turn → List ℕ
steps_in turns i d = replicate (get_or turns i d).count (get_or turns i d).thread

steps_of_split : (turns : List Turn) (i : ℕ) (d : Turn) → i < length turns →
    steps_of turns ≡ steps_of (take i turns) ++ steps_in turns i d ++ steps_of (drop (suc i) turns)
unfolding steps_in
steps_of_split [] i d lt = absurd (omega (arith, lt))
steps_of_split (x ∷ turns) zero d lt = refl
steps_of_split (x ∷ turns) (suc i) d lt =
    let own = replicate x.count x.thread in
    let before = steps_of (take i turns) in
    let here = steps_in turns i d in
    let behind = steps_of (drop (suc i) turns) in
    ap (λ ys. own ++ ys) (steps_of_split turns i d (omega (arith, lt)))
    ∙ sym (append_assoc own (before ++ here) behind)
    ∙ ap (λ l. l ++ behind) (sym (append_assoc own before here))

-- a claim that holds in any case holds after a failed allocation
pub in_any_case : {A E P : Type 0} (r : Result A E) → P → OnErr r P
in_any_case (Ok a) p = tt
in_any_case (Err e) p = p

-- the turns so far were taken, and in this one the steps stop
pub stops_in_turns : (first w last : ThreadsOf) (turns : List Turn) (i : ℕ) (d : Turn) → i < length turns →
    w ≡ with_steps first (steps_of (take i turns)) →
    StopsAtBegin w (replicate (get_or turns i d).count (get_or turns i d).thread) last → StopsAtBegin first (steps_of turns) last
unfolding steps_in
stops_in_turns first w last turns i d lt so_far stop =
    let before = steps_of (take i turns) in
    let here = steps_in turns i d in
    let behind = steps_of (drop (suc i) turns) in
    let split = steps_of_split turns i d lt in
    record {
      taken = length before + stop.taken;
      thread = stop.thread;
      next = ap (λ xs. slice_get xs (length before + stop.taken)) split
          ∙ get_later before here behind stop.taken stop.thread stop.next;
      stands = stop.stands
          ∙ ap (λ (x : ThreadsOf). with_steps x (take stop.taken here)) so_far
          ∙ ap (threads_of first.plan) (sym (steps_more first.plan first.world before (take stop.taken here)))
          ∙ ap (with_steps first) (sym (ap (take (length before + stop.taken)) split
          ∙ take_later before here behind stop.taken stop.thread stop.next));
      begins = stop.begins;
    }
