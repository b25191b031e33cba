-- The cells of locks, one lock after another.
use Rattle.std.proofs.Common.{◌≡◌, ℕ, ◌+◌, Bool, true, false, if◌then◌else◌, List, [], ◌∷◌, ◌++◌, Some, inl, inr, refl}
use Rattle.std.proofs.Common.{sym, ap, ◌∙◌, subst, arith}
use Rattle.std.specs.Prelude.{slice_get}
use Rattle.std.specs.List.{Contains}
use Rattle.std.proofs.lemmas.List.Elements.{Contains-append_cases}
use Rattle.std.proofs.lemmas.Option.{same_Some}
use Rattle.locks.specs.declared.lock.Lock.{Lock}
use Rattle.layout.specs.LockCells.{cells_from, cells_of}
use Rattle.locks.specs.Locks.{same_lock}
use Rattle.layout.specs.Layouts.{AreDistinct}
use Rattle.runner_machine.specs.Working.Kept.{cells_under}
use Rattle.runner_machine.proofs.Lists.{first, Distinct, distinct_append}
use Rattle.core_lang.specs.Theory.Items.{in_rest}
use Rattle.layout.specs.Theory.Numbers.{cell_is_of, has_lock, distinct_rest, distinct_first}

-- ---- the cells of one lock

distinct_by : (b : Bool) (k : ℕ) (cs : List ℕ) → (Contains cs k → ⊥) → Distinct cs → Distinct (if b then k ∷ cs else cs)
distinct_by true k cs new d = (new, d)
distinct_by false k cs new d = d

distinct_cells : (k : ℕ) (ls : List Lock) (lock : Lock) → Distinct (cells_from k ls lock)
distinct_cells k [] lock = tt
distinct_cells k (l ∷ ls) lock =
    distinct_by (same_lock l lock) k (cells_from (k + 1) ls lock)
    (λ has. let r = cell_is_of (k + 1) ls lock k has in absurd (omega (arith, r.1)))
    (distinct_cells (k + 1) ls lock)

-- ---- the cells of locks

pub lock_under : (cell_locks locks : List Lock) (cell : ℕ) → Contains (cells_under cell_locks locks) cell →
    (lock : Lock) × (slice_get cell_locks cell ≡ Some lock) × Contains locks lock
lock_under cell_locks [] cell c = absurd (omega (arith, c.1))
lock_under cell_locks (l ∷ ls) cell c = elim (Contains-append_cases (cells_of cell_locks l) (cells_under cell_locks ls) cell c) [
  | inl h ↦ (l, has_lock cell_locks l cell h, first l ls l refl)
  | inr h ↦ (let r = lock_under cell_locks ls cell h in (r.0, r.1, in_rest l r.0 ls r.2))
]

pub distinct_under : (cell_locks locks : List Lock) → AreDistinct locks → Distinct (cells_under cell_locks locks)
distinct_under cell_locks [] d = tt
distinct_under cell_locks (l ∷ ls) d =
    distinct_append (cells_of cell_locks l) (cells_under cell_locks ls) (distinct_cells 0 cell_locks l) (distinct_under cell_locks ls (distinct_rest l ls d))
    (λ c a b.
    let r = lock_under cell_locks ls c b in
    let same : l ≡ r.0 = same_Some l r.0 (sym (has_lock cell_locks l c a) ∙ r.1) in
    distinct_first l ls d (subst (Contains ls) (sym same) r.2))

glue : (xs ys zs : List ℕ) → xs ++ (ys ++ zs) ≡ (xs ++ ys) ++ zs
glue [] ys zs = refl
glue (x ∷ xs) ys zs = ap (λ (t : List ℕ). x ∷ t) (glue xs ys zs)

pub under_append : (cell_locks ls ms : List Lock) →
    cells_under cell_locks (ls ++ ms) ≡ cells_under cell_locks ls ++ cells_under cell_locks ms
under_append cell_locks [] ms = refl
under_append cell_locks (l ∷ ls) ms =
    ap (λ (cs : List ℕ). cells_of cell_locks l ++ cs) (under_append cell_locks ls ms) ∙ glue (cells_of cell_locks l) (cells_under cell_locks ls) (cells_under cell_locks ms)
