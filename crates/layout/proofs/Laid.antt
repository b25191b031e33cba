-- The layout of a program, from what the code has put together.
use Rattle.std.proofs.Common.{◌≡◌, ℕ, zero, suc, ◌+◌, ◌<◌, List, [], ◌∷◌, ◌++◌, length, Option, Some, inl, inr, refl}
use Rattle.std.proofs.Common.{sym, ap, ◌∙◌, subst, arith}
use Rattle.std.specs.Prelude.{slice_get}
use Rattle.std.specs.List.{Contains}
use Rattle.std.proofs.lemmas.Bool.{cases_lt}
use Rattle.std.proofs.lemmas.Option.{slice_get_past}
use Rattle.core_lang.specs.declared.typed.Cell.{Cell}
use Rattle.core_lang.specs.declared.typed.Typed.{Typed}
use Rattle.core_lang.specs.Typing.{lookup}
use Rattle.core_lang.specs.Serial.{opening_heap}
use Rattle.core_lang.specs.WellFormed.{IsWellFormed}
use Rattle.locks.specs.declared.lock.Lock.{Lock}
use Rattle.locks.specs.Locks.{IsLock, protecting, lock_of_cell}
use Rattle.layout.specs.Layouts.{LayoutOf, all_locks, AreDistinct, IsLayoutOf}
use Rattle.layout.proofs.Listed.{listed}
use Rattle.layout.proofs.Locked.{cell_locked}
use Rattle.core_lang.specs.Theory.Items.{lookup_some}

-- the first `n` cells of a program, with their locks
abbrev pub AreLocked : Typed → ℕ → List Lock → Type 0
AreLocked program n locks = (k : ℕ) → k < n → slice_get locks k ≡ lock_of_cell program k

pub one_locked : (program : Typed) (n : ℕ) (locks grown : List Lock) (lock : Lock) → AreLocked program n locks →
    length locks ≡ n →
    lock_of_cell program n ≡ Some lock → grown ≡ locks ++ lock ∷ [] → AreLocked program (n + 1) grown
one_locked program n locks grown lock are long is is_grown k lt =
    elim (cases_lt k n) [
      | inl less ↦ ap (λ (ls : List Lock). slice_get ls k) is_grown ∙ before locks (lock ∷ []) k (omega arith) ∙ are k less
      | inr ge ↦
          let same : k ≡ n = omega arith in
          ap (λ (ls : List Lock). slice_get ls k) is_grown ∙ ap (slice_get (locks ++ lock ∷ [])) (same ∙ sym long) ∙ last locks lock
          ∙ sym is ∙ ap (lock_of_cell program) (sym same)
    ]
  where
    before : (xs ys : List Lock) (j : ℕ) → j < length xs → slice_get (xs ++ ys) j ≡ slice_get xs j
    before [] ys j less = absurd (omega arith)
    before (x ∷ xs) ys zero less = refl
    before (x ∷ xs) ys (suc j) less = before xs ys j (omega arith)

    last : (xs : List Lock) (x : Lock) → slice_get (xs ++ x ∷ []) (length xs) ≡ Some x
    last [] x = refl
    last (y ∷ xs) x = last xs x

-- if these are the locks of all cells, they are the locks of no other cells
all_locked : (program : Typed) (locks : List Lock) → length locks ≡ length program.cells.items →
    AreLocked program (length program.cells.items) locks →
    (cell : ℕ) → slice_get locks cell ≡ lock_of_cell program cell
all_locked program locks long are cell =
    elim (cases_lt cell (length program.cells.items)) [
      | inl less ↦ are cell less
      | inr ge ↦
          slice_get_past locks cell (omega arith)
          ∙ ap (λ (o : Option Cell). lookup o (λ c. protecting program c.owner)) (sym (slice_get_past program.cells.items cell (omega arith)))
    ]

-- the lock of a cell is listed
locked_listed : (program : Typed) (cell : ℕ) (lock : Lock) → IsWellFormed program →
    lock_of_cell program cell ≡ Some lock → Contains (all_locks program) lock
locked_listed program cell lock well is =
    let x = lookup_some (slice_get program.cells.items cell) (λ (c : Cell). protecting program c.owner) lock is in
    let r = cell_locked program cell x.0 well x.1 in
    let both : Some r.lock ≡ Some lock = sym r.is ∙ x.2 in
    let same : r.lock ≡ lock = cc in
    (listed program well lock).1 (subst (IsLock program) same r.listed)

pub laid_out : (program : Typed) (layout : LayoutOf) → IsWellFormed program → layout.opening ≡ opening_heap program →
    length layout.cell_locks ≡ length program.cells.items → AreLocked program (length program.cells.items) layout.cell_locks → layout.locks ≡ all_locks program →
    AreDistinct layout.locks → IsLayoutOf program layout
laid_out program layout well opening long locked locks once = record {
  opening = opening;
  cells = long;
  cell_locks = all_locked program layout.cell_locks long locked;
  cells_listed = λ cell lock e. subst (λ (ls : List Lock). Contains ls lock) (sym locks)
      (locked_listed program cell lock well (sym (all_locked program layout.cell_locks long locked cell) ∙ e));
  listed = λ lock. let h = listed program well lock in (
    λ c. h.0 (subst (λ (ls : List Lock). Contains ls lock) locks c),
    λ is. subst (λ (ls : List Lock). Contains ls lock) (sym locks) (h.1 is),
  );
  distinct = once;
  order = locks;
}
