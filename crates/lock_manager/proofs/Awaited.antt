-- The threads that wait for one of some locks.
use Rattle.std.proofs.Common.{◌≡◌, ◌≢◌, ℕ, zero, suc, ◌+◌, ◌<◌, ◌≤◌, Bool, true, false, List, [], ◌∷◌, ◌++◌, length, take, drop}
use Rattle.std.proofs.Common.{get_or, inl, inr, refl, sym, ap, ◌∙◌, subst, arith, ◌||◌, IsTrue}
use Rattle.std.specs.Prelude.{if◌then◌else◌}
use Rattle.std.specs.List.{Contains}
use Rattle.std.proofs.lemmas.Bool.{false≢true, cases_Bool, or_left, or_right}
use Rattle.std.proofs.lemmas.List.{drop_more, drop_all, take_more, take_all}
use Rattle.locks.specs.declared.lock.Lock.{Lock}
use Rattle.locks.specs.Locks.{same_lock, among}
use Rattle.locks.specs.Theory.Order.{lock_cases, same_refl, among_contains, contains_among}
use Rattle.layout.specs.Layouts.{AreDistinct}
use Rattle.layout.specs.Theory.Numbers.{distinct_rest, distinct_first}
use Rattle.lock_manager.specs.declared.queue.Waiter.{Waiter}
use Rattle.lock_manager.specs.Working.Queues.{waiting_in}
use Rattle.lock_manager.specs.Working.Calls.{first_and, first_waiters}
use Rattle.lock_manager.specs.Working.Ties.{one_if, awaiting}

-- ---- one lock more

is_first : (l lock : Lock) (ls : List Lock) → lock ≡ l → among (l ∷ ls) lock ≡ true
is_first l lock ls e = or_left (same_lock l lock) (among ls lock) (same_refl l lock (sym e))

is_later : (l lock : Lock) (ls : List Lock) → lock ≢ l → among (l ∷ ls) lock ≡ among ls lock
is_later l lock ls ne = elim (lock_cases l lock) [
  | inl same ↦ absurd (ne (sym same.1))
  | inr other ↦ ap (λ (b : Bool). b || among ls lock) other.0
]

not_among : (l lock : Lock) (ls : List Lock) → (Contains ls l → ⊥) → lock ≡ l → among ls lock ≡ false
not_among l lock ls none e = elim (cases_Bool (among ls lock)) [
  | inl there ↦ absurd (none (subst (Contains ls) e (among_contains ls lock there)))
  | inr not_there ↦ not_there
]

waits : (w : Waiter) (ws : List Waiter) (l : Lock) → same_lock w.lock l ≡ true →
    waiting_in (w ∷ ws) l ≡ w.thread ∷ waiting_in ws l
waits w ws l e = ap (λ (b : Bool). if b then w.thread ∷ waiting_in ws l else waiting_in ws l) e

waits_not : (w : Waiter) (ws : List Waiter) (l : Lock) → same_lock w.lock l ≡ false →
    waiting_in (w ∷ ws) l ≡ waiting_in ws l
waits_not w ws l e = ap (λ (b : Bool). if b then w.thread ∷ waiting_in ws l else waiting_in ws l) e

pub awaiting_more : (ws : List Waiter) (l : Lock) (ls : List Lock) → (Contains ls l → ⊥) →
    awaiting ws (l ∷ ls) ≡ length (waiting_in ws l) + awaiting ws ls
awaiting_more [] l ls none = refl
awaiting_more (w ∷ ws) l ls none = elim (lock_cases w.lock l) [
  | inl same ↦ omega (
    arith,
    ap one_if (is_first l w.lock ls same.1),
    ap one_if (not_among l w.lock ls none same.1),
    ap length (waits w ws l same.0),
    awaiting_more ws l ls none,
  )
  | inr other ↦ omega (
    arith,
    ap one_if (is_later l w.lock ls other.1),
    ap length (waits_not w ws l other.0),
    awaiting_more ws l ls none,
  )
]

-- ---- no thread waits

nobody : (ws : List Waiter) (l : Lock) (ls : List Lock) → awaiting ws (l ∷ ls) ≡ 0 → waiting_in ws l ≡ []
nobody [] l ls e = refl
nobody (w ∷ ws) l ls e = elim (lock_cases w.lock l) [
  | inl same ↦ absurd (omega (arith, ap one_if (is_first l w.lock ls same.1), e))
  | inr other ↦ waits_not w ws l other.0 ∙ nobody ws l ls (omega (arith, e))
]

nobody_else : (ws : List Waiter) (l : Lock) (ls : List Lock) → awaiting ws (l ∷ ls) ≡ 0 → awaiting ws ls ≡ 0
nobody_else [] l ls e = refl
nobody_else (w ∷ ws) l ls e = elim (cases_Bool (among ls w.lock)) [
  | inl there ↦ absurd (omega (arith, ap one_if (or_right (same_lock l w.lock) (among ls w.lock) there), e))
  | inr not_there ↦ omega (arith, ap one_if not_there, nobody_else ws l ls (omega (arith, e)))
]

pub none_awaited : (ws : List Waiter) (ls : List Lock) → awaiting ws ls ≡ 0 → first_waiters ws ls ≡ []
none_awaited ws [] e = refl
none_awaited ws (l ∷ ls) e =
    ap (λ (ts : List ℕ). first_and ts (first_waiters ws ls)) (nobody ws l ls e) ∙ none_awaited ws ls (nobody_else ws l ls e)

-- ---- the locks that are left

distinct_drop : (n : ℕ) (ls : List Lock) → AreDistinct ls → AreDistinct (drop n ls)
distinct_drop zero ls d = d
distinct_drop (suc n) [] d = d
distinct_drop (suc n) (l ∷ ls) d = distinct_drop n ls (distinct_rest l ls d)

pub awaiting_left : (ws : List Waiter) (ls : List Lock) (i : ℕ) (d : Lock) → AreDistinct ls → i < length ls →
    awaiting ws (drop i ls) ≡ length (waiting_in ws (get_or ls i d)) + awaiting ws (drop (i + 1) ls)
awaiting_left ws ls i d distinct lt =
    let here = drop_more ls i d lt in
    ap (awaiting ws) here
    ∙ awaiting_more ws (get_or ls i d) (drop (i + 1) ls)
    (distinct_first (get_or ls i d) (drop (i + 1) ls) (subst AreDistinct here (distinct_drop i ls distinct)))

-- ---- one waiter more

pub awaiting_push : (ws : List Waiter) (w : Waiter) (held : List Lock) →
    awaiting (ws ++ w ∷ []) held ≡ awaiting ws held + one_if (among held w.lock)
awaiting_push [] w held = omega arith
awaiting_push (x ∷ ws) w held = omega (arith, awaiting_push ws w held)

pub awaiting_next : (ws : List Waiter) (i : ℕ) (d : Waiter) (held : List Lock) → i < length ws →
    awaiting (take (i + 1) ws) held ≡ awaiting (take i ws) held + one_if (among held (get_or ws i d).lock)
awaiting_next ws i d held lt =
    ap (λ (xs : List Waiter). awaiting xs held) (take_more ws i d lt) ∙ awaiting_push (take i ws) (get_or ws i d) held

is_or_not : (held : List Lock) (l : Lock) (b : Bool) → (IsTrue b → Contains held l) × (Contains held l → IsTrue b) →
    among held l ≡ b
is_or_not held l true is = contains_among held l (is.0 refl)
is_or_not held l false is = elim (cases_Bool (among held l)) [
  | inl there ↦ absurd (false≢true (is.1 (among_contains held l there)))
  | inr not_there ↦ not_there
]

-- the loop that counts the waiters
pub one_counted : (items ws : List Waiter) (i : ℕ) (d : Waiter) (held : List Lock) (b : Bool) (n more : ℕ) →
    items ≡ ws → i < length ws →
    (IsTrue b → Contains held (get_or items i d).lock) × (Contains held (get_or items i d).lock → IsTrue b) →
    n ≡ awaiting (take i ws) held → more ≡ n + one_if b → more ≡ awaiting (take (i + 1) ws) held
one_counted items ws i d held b n more same lt is so_far one =
    let tells = is_or_not held (get_or items i d).lock b is in
    let tells_there : among held (get_or ws i d).lock ≡ b = subst (λ (xs : List Waiter). among held (get_or xs i d).lock ≡ b) same tells in
    omega (arith, one, so_far, awaiting_next ws i d held lt, ap one_if tells_there)

pub awaiting_few : (ws : List Waiter) (held : List Lock) → awaiting ws held ≤ length ws
awaiting_few [] held = omega arith
awaiting_few (w ∷ ws) held = omega (arith, at_most_one (among held w.lock), awaiting_few ws held)
  where
    at_most_one : (b : Bool) → one_if b ≤ 1
    at_most_one true = omega arith
    at_most_one false = omega arith

pub awaiting_all : (ws : List Waiter) (i : ℕ) (held : List Lock) → length ws ≤ i →
    awaiting (take i ws) held ≡ awaiting ws held
awaiting_all ws i held le = ap (λ (xs : List Waiter). awaiting xs held) (take_all i ws le)

-- ---- the waiters for one lock

pub waiting_here : (ws : List Waiter) (i : ℕ) (d : Waiter) (l : Lock) → i < length ws →
    same_lock (get_or ws i d).lock l ≡ true →
    length (waiting_in (drop i ws) l) ≡ suc (length (waiting_in (drop (i + 1) ws) l))
waiting_here ws i d l lt e =
    ap (λ (xs : List Waiter). length (waiting_in xs l)) (drop_more ws i d lt) ∙ ap length (waits (get_or ws i d) (drop (i + 1) ws) l e)

pub waiting_elsewhere : (ws : List Waiter) (i : ℕ) (d : Waiter) (l : Lock) → i < length ws →
    same_lock (get_or ws i d).lock l ≡ false →
    length (waiting_in (drop i ws) l) ≡ length (waiting_in (drop (i + 1) ws) l)
waiting_elsewhere ws i d l lt e =
    ap (λ (xs : List Waiter). length (waiting_in xs l)) (drop_more ws i d lt) ∙ ap length (waits_not (get_or ws i d) (drop (i + 1) ws) l e)

pub none_left : (ws : List Waiter) (i : ℕ) (l : Lock) → length ws ≤ i → length (waiting_in (drop i ws) l) ≡ 0
none_left ws i l le = ap (λ (xs : List Waiter). length (waiting_in xs l)) (drop_all i ws le)
