-- The waiting threads, after some left and some joined.
use Rattle.std.proofs.Common.{◌≡◌, ◌≢◌, ℕ, zero, suc, ◌+◌, ◌<◌, ◌≤◌, List, [], ◌∷◌, ◌++◌, length, take, drop, get_or}
use Rattle.std.proofs.Common.{inl, inr, refl, sym, ap, ◌∙◌, subst, arith, true, false, Some, None, append_assoc, Bool}
use Rattle.std.specs.Prelude.{nat_eq, if◌then◌else◌, slice_get}
use Rattle.std.specs.List.{All, Contains}
use Rattle.std.proofs.lemmas.Bool.Decides.{eqb_tells}
use Rattle.lock_manager.specs.declared.queue.Waiter.{Waiter}
use Rattle.lock_manager.specs.Working.Queues.{leaving, waiting_in}
use Rattle.lock_manager.proofs.Lists.{first}
use Rattle.std.proofs.lemmas.List.{drop_more}
use Rattle.std.proofs.lemmas.Option.{none-some}
use Rattle.locks.specs.declared.lock.Lock.{Lock}
use Rattle.lock_manager.specs.Working.Calls.{first_and, first_waiters}
use Rattle.locks.specs.Locks.{same_lock}
use Rattle.core_lang.specs.Theory.Items.{some_same, in_cases, in_rest}

goes : (t : ℕ) (w : Waiter) (ws : List Waiter) → w.thread ≡ t → leaving t (w ∷ ws) ≡ leaving t ws
goes t w ws e = elim (eqb_tells w.thread t) [ inl h ↦ ap (λ b. if b then leaving t ws else w ∷ leaving t ws) h.0 | inr h ↦ absurd (h.1 e) ]

stays : (t : ℕ) (w : Waiter) (ws : List Waiter) → w.thread ≢ t → leaving t (w ∷ ws) ≡ w ∷ leaving t ws
stays t w ws ne = elim (eqb_tells w.thread t) [ inl h ↦ absurd (ne h.1) | inr h ↦ ap (λ b. if b then leaving t ws else w ∷ leaving t ws) h.0 ]

leaving-removed_suc : (t : ℕ) (ws : List Waiter) (i : ℕ) (d : Waiter) → i < length ws → (get_or ws i d).thread ≡ t →
    leaving t (take i ws ++ drop (suc i) ws) ≡ leaving t ws
leaving-removed_suc t [] i d lt e = absurd (omega (arith, lt))
leaving-removed_suc t (w ∷ ws) zero d lt e = sym (goes t w ws e)
leaving-removed_suc t (w ∷ ws) (suc i) d lt e = ap (λ xs. if nat_eq w.thread t then xs else w ∷ xs) (leaving-removed_suc t ws i d (omega (arith, lt)) e)

pub leaving-removed : (t : ℕ) (ws : List Waiter) (i : ℕ) (d : Waiter) → i < length ws → (get_or ws i d).thread ≡ t →
    leaving t (take i ws ++ drop (i + 1) ws) ≡ leaving t ws
leaving-removed t ws i d lt e =
    let sum : suc i ≡ i + 1 = omega arith in
    subst (λ (n : ℕ). leaving t (take i ws ++ drop n ws) ≡ leaving t ws) sum (leaving-removed_suc t ws i d lt e)

pub take-removed : (ws rest : List Waiter) (i : ℕ) → i < length ws → take i (take i ws ++ rest) ≡ take i ws
take-removed [] rest i lt = absurd (omega (arith, lt))
take-removed (w ∷ ws) rest zero lt = refl
take-removed (w ∷ ws) rest (suc i) lt = ap (λ xs. w ∷ xs) (take-removed ws rest i (omega (arith, lt)))

pub leaving-others : (t : ℕ) (ws : List Waiter) → All (λ (w : Waiter). w.thread ≢ t) ws → leaving t ws ≡ ws
leaving-others t [] all = refl
leaving-others t (w ∷ ws) all = stays t w ws (all 0 w (omega arith)) ∙ ap (λ xs. w ∷ xs) (leaving-others t ws (λ k d lt. all (suc k) d (omega (arith, lt))))

-- ---- the waiters that are left

pub still_waits : (t : ℕ) (ws : List Waiter) (w : Waiter) → Contains ws w → w.thread ≢ t → Contains (leaving t ws) w
still_waits t [] w c ne = absurd (omega (arith, c.1))
still_waits t (x ∷ ws) w c ne = elim (eqb_tells x.thread t) [
  | inl h ↦ subst (λ (xs : List Waiter). Contains xs w) (sym (goes t x ws h.1)) (elim (in_cases x w ws c) [
    | inl e ↦ absurd (ne (sym (ap (λ (y : Waiter). y.thread) e) ∙ h.1))
    | inr r ↦ still_waits t ws w r ne
  ])
  | inr h ↦ subst (λ (xs : List Waiter). Contains xs w) (sym (stays t x ws h.1)) (elim (in_cases x w ws c) [
    | inl e ↦ first x (leaving t ws) w e
    | inr r ↦ in_rest x w (leaving t ws) (still_waits t ws w r ne)
  ])
]

pub waited : (t : ℕ) (ws : List Waiter) (w : Waiter) → Contains (leaving t ws) w → Contains ws w × (w.thread ≢ t)
waited t [] w c = absurd (omega (arith, c.1))
waited t (x ∷ ws) w c = elim (eqb_tells x.thread t) [
  | inl h ↦ (let r = waited t ws w (subst (λ (xs : List Waiter). Contains xs w) (goes t x ws h.1) c) in (in_rest x w ws r.0, r.1))
  | inr h ↦ elim (in_cases x w (leaving t ws) (subst (λ (xs : List Waiter). Contains xs w) (stays t x ws h.1) c)) [
    | inl e ↦ (first x ws w e, λ q. h.1 (ap (λ (y : Waiter). y.thread) e ∙ q))
    | inr r ↦ (let s = waited t ws w r in (in_rest x w ws s.0, s.1))
  ]
]

pub no_longer : (t : ℕ) (ws : List Waiter) → length (leaving t ws) ≤ length ws
no_longer t [] = omega arith
no_longer t (x ∷ ws) = elim (eqb_tells x.thread t) [
  | inl h ↦ omega (arith, ap length (goes t x ws h.1), no_longer t ws)
  | inr h ↦ omega (arith, ap length (stays t x ws h.1), no_longer t ws)
]

pub one_less : (t : ℕ) (ws : List Waiter) (w : Waiter) → Contains ws w → w.thread ≡ t →
    length (leaving t ws) + 1 ≤ length ws
one_less t [] w c e = absurd (omega (arith, c.1))
one_less t (x ∷ ws) w c e = elim (eqb_tells x.thread t) [
  | inl h ↦ omega (arith, ap length (goes t x ws h.1), no_longer t ws)
  | inr h ↦ elim (in_cases x w ws c) [
    | inl q ↦ absurd (h.1 (ap (λ (y : Waiter). y.thread) q ∙ e))
    | inr r ↦ omega (arith, ap length (stays t x ws h.1), one_less t ws w r e)
  ]
]

-- ---- the threads to wake

first_there : (ts more : List ℕ) (t : ℕ) → Some t ≡ slice_get ts 0 → first_and ts more ≡ t ∷ more
first_there [] more t e = absurd (none-some t (sym e))
first_there (x ∷ ts) more t e = ap (λ y. y ∷ more) (sym (some_same t x e))

none_first : (ts more : List ℕ) → None ≡ slice_get ts 0 → first_and ts more ≡ more
none_first [] more e = refl
none_first (x ∷ ts) more e = absurd (none-some x e)

module _ (ws : List Waiter) (ls : List Lock) (i : ℕ) (d : Lock) (wake : List ℕ) (lt : i < length ls) (so_far : first_waiters ws ls ≡ wake ++ first_waiters ws (drop i ls)) where
  next_lock : first_waiters ws ls ≡ wake ++ first_and (waiting_in ws (get_or ls i d)) (first_waiters ws (drop (i + 1) ls))
  next_lock = so_far ∙ ap (λ xs. wake ++ first_waiters ws xs) (drop_more ls i d lt)

  pub one_woken : (now : List ℕ) (t : ℕ) → Some t ≡ slice_get (waiting_in ws (get_or ls i d)) 0 →
      now ≡ wake ++ t ∷ [] → first_waiters ws ls ≡ now ++ first_waiters ws (drop (i + 1) ls)
  one_woken now t e is =
      next_lock
      ∙ ap (λ (xs : List ℕ). wake ++ xs) (first_there (waiting_in ws (get_or ls i d)) (first_waiters ws (drop (i + 1) ls)) t e)
      ∙ sym (append_assoc wake (t ∷ []) (first_waiters ws (drop (i + 1) ls)))
      ∙ ap (λ (xs : List ℕ). xs ++ first_waiters ws (drop (i + 1) ls)) (sym is)

  pub none_woken : (now : List ℕ) → None ≡ slice_get (waiting_in ws (get_or ls i d)) 0 → now ≡ wake →
      first_waiters ws ls ≡ now ++ first_waiters ws (drop (i + 1) ls)
  none_woken now e is =
      next_lock
      ∙ ap (λ (xs : List ℕ). wake ++ xs) (none_first (waiting_in ws (get_or ls i d)) (first_waiters ws (drop (i + 1) ls)) e)
      ∙ ap (λ (xs : List ℕ). xs ++ first_waiters ws (drop (i + 1) ls)) (sym is)

pub one_longer : (b : Bool) (n m : ℕ) → n ≡ (if b then m + 1 else m) → n ≤ m + 1
one_longer true n m e = omega (arith, e)
one_longer false n m e = omega (arith, e)

-- the waiter that the search looks for
pub nth_found : (items queue : List Waiter) (i left n : ℕ) (d : Waiter) (lock : Lock) → items ≡ queue →
    i < length items → same_lock (get_or items i d).lock lock ≡ true → left ≡ 0 →
    slice_get (waiting_in queue lock) n ≡ slice_get (waiting_in (drop i queue) lock) left → Some (get_or items i d).thread ≡ slice_get (waiting_in queue lock) n
nth_found items queue i left n d lock same lt its first so_far =
    let w = get_or items i d in
    let rest = waiting_in (drop (i + 1) items) lock in
    sym (so_far
    ∙ ap (λ (ws : List Waiter). slice_get (waiting_in (drop i ws) lock) left) (sym same)
    ∙ ap (λ (k : ℕ). slice_get (waiting_in (drop i items) lock) k) first
    ∙ ap (λ (ws : List Waiter). slice_get (waiting_in ws lock) 0) (drop_more items i d lt)
    ∙ ap (λ (b : Bool). slice_get (if b then w.thread ∷ rest else rest) 0) its)
