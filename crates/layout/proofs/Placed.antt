-- Cells placed after those that their locks have.
use Rattle.std.proofs.Common.{replicate, ◌≡◌, ◌≢◌, ℕ, zero, suc, ◌+◌, ◌<◌, ◌≤◌, Bool, true, false, if◌then◌else◌, ◌==◌}
use Rattle.std.proofs.Common.{List, [], ◌∷◌, ◌++◌, length, get_or, set, IsTrue, Some, inl, inr, refl, sym, ap, ◌∙◌}
use Rattle.std.proofs.Common.{subst, arith, length-append}
use Rattle.std.specs.Prelude.{slice_get}
use Rattle.std.specs.List.{Contains}
use Rattle.std.proofs.lemmas.Bool.{cases_Bool, both_ways, eqb-true, eq-eqb}
use Rattle.std.proofs.lemmas.Option.{same_Some, get_or_from_slice_get, slice_get_within}
use Rattle.std.proofs.lemmas.List.{length-map, map_push, length-replicate}
use Rattle.std.proofs.Math.ListN.{length-set}
use Rattle.locks.specs.declared.lock.Lock.{Lock}
use Rattle.layout.specs.declared.places.CellPlace.{CellPlace}
use Rattle.layout.specs.LockCells.{cells_from, cells_of, IsSlot}
use Rattle.locks.specs.Locks.{same_lock}
use Rattle.layout.specs.Layouts.{LayoutOf, AreDistinct}
use Rattle.layout.specs.Working.Numbers.{openings_in, locks_in, IsPlaced, ArePlaced}
use Rattle.layout.specs.Working.Growth.{with_cell}
use Rattle.core_lang.specs.declared.value.Value.{Value}
use Rattle.locks.specs.Theory.Order.{same_itself, same_is}
use Rattle.core_lang.specs.Theory.Items.{contains_at, read_at, pushed_at, set_same, still_other, still_at, last_at}
use Rattle.core_lang.specs.Theory.Items.{map_at}
use Rattle.layout.specs.Theory.Numbers.{cells_push_from, own_cell, other_cell}

-- ---- the same lock

pub is_same_lock : (locks : List Lock) (n : ℕ) (other lock : Lock) (b : Bool) → slice_get locks n ≡ Some other →
    b ≡ same_lock other lock →
    (IsTrue b → slice_get locks n ≡ Some lock) × (slice_get locks n ≡ Some lock → IsTrue b)
is_same_lock locks n other lock b at is = (
  λ t. at ∙ ap Some (same_is other lock (sym is ∙ t)),
  λ e. is ∙ ap (λ (l : Lock). same_lock l lock) (same_Some other lock (sym at ∙ e)) ∙ same_itself lock,
)

-- ---- one more cell

still_cell : (ls : List Lock) (l lock : Lock) (offset cell : ℕ) → slice_get (cells_of ls lock) offset ≡ Some cell →
    slice_get (cells_of (ls ++ l ∷ []) lock) offset ≡ Some cell
still_cell ls l lock offset cell e =
    subst (λ (xs : List ℕ). slice_get xs offset ≡ Some cell) (sym (cells_push_from 0 ls l lock))
    (still_at (cells_of ls lock) (if same_lock l lock then (0 + length ls) ∷ [] else []) offset cell e)

either : (b : Bool) (k : ℕ) (xs : List ℕ) (n : ℕ) → length xs ≤ n → length (if b then k ∷ xs else xs) ≤ suc n
either true k xs n le = omega arith
either false k xs n le = omega arith

few_from : (k : ℕ) (ls : List Lock) (lock : Lock) → length (cells_from k ls lock) ≤ length ls
few_from k [] lock = omega arith
few_from k (l ∷ ls) lock = either (same_lock l lock) k (cells_from (k + 1) ls lock) (length ls) (few_from (k + 1) ls lock)

-- a lock has no more cells than there are
few_cells : (cells : List CellPlace) (lock : Lock) → length (cells_of (locks_in cells) lock) ≤ length cells
few_cells cells lock = omega (arith, few_from 0 (locks_in cells) lock, length-map cells (λ (x : CellPlace). x.lock))

-- ---- all cells

zero_at : (n k : ℕ) → k < n → slice_get {X = ℕ} (replicate n 0) k ≡ Some 0
zero_at zero k lt = absurd (omega arith)
zero_at (suc n) zero lt = refl
zero_at (suc n) (suc k) lt = zero_at n k (omega arith)

pub none_placed : (locks : List Lock) (cells : List CellPlace) (sizes : List ℕ) → cells ≡ [] →
    sizes ≡ replicate (length locks) 0 → ArePlaced locks cells sizes
none_placed locks cells sizes no_cells zeros = record {
  long = ap length zeros ∙ length-replicate (length locks) 0;
  each = λ cell x e. let none : slice_get {X = CellPlace} [] cell ≡ Some x = subst (λ (cs : List CellPlace). slice_get cs cell ≡ Some x) no_cells e in absurd cc;
  size = λ number lock e.
      ap (λ (xs : List ℕ). slice_get xs number) zeros ∙ zero_at (length locks) number (slice_get_within locks number lock e)
      ∙ ap (λ (cs : List CellPlace). Some (length (cells_of (locks_in cs) lock))) (sym no_cells);
}

module _ (locks : List Lock) (cells grown : List CellPlace) (sizes : List ℕ) (number : ℕ) (x : CellPlace) (p : ArePlaced locks cells sizes) (once : AreDistinct locks)
    (here : slice_get locks number ≡ Some x.lock) (size_is : slice_get sizes number ≡ Some x.offset) (is : grown ≡ cells ++ x ∷ []) where
  ls : List Lock
  ls = locks_in cells

  grown_locks : locks_in grown ≡ locks_in cells ++ x.lock ∷ []
  grown_locks = ap locks_in is ∙ map_push (λ (y : CellPlace). y.lock) cells x

  offset_is : x.offset ≡ length (cells_of (locks_in cells) x.lock)
  offset_is = let e : Some x.offset ≡ Some (length (cells_of (locks_in cells) x.lock)) = sym size_is ∙ p.size number x.lock here in cc

  -- the new cell's place
  new_placed : IsPlaced locks grown (length cells) x
  new_placed =
      let behind : slice_get (cells_of (locks_in cells) x.lock ++ length (locks_in cells) ∷ []) (length (cells_of (locks_in cells) x.lock)) ≡ Some (length (locks_in cells)) =
      last_at (cells_of (locks_in cells) x.lock) (length (locks_in cells)) in
      let own : slice_get (cells_of (locks_in cells ++ x.lock ∷ []) x.lock) (length (cells_of (locks_in cells) x.lock)) ≡ Some (length (locks_in cells)) =
      subst (λ (xs : List ℕ). slice_get xs (length (cells_of (locks_in cells) x.lock)) ≡ Some (length (locks_in cells))) (sym (own_cell (locks_in cells) x.lock)) behind in
      let at_offset : slice_get (cells_of (locks_in cells ++ x.lock ∷ []) x.lock) x.offset ≡ Some (length (locks_in cells)) =
      subst (λ (n : ℕ). slice_get (cells_of (locks_in cells ++ x.lock ∷ []) x.lock) n ≡ Some (length (locks_in cells))) (sym offset_is) own in
      record {
        number = number;
        lock = here;
        offset = subst (λ (xs : List Lock). slice_get (cells_of xs x.lock) x.offset ≡ Some (length cells)) (sym grown_locks)
            (at_offset ∙ ap Some (length-map cells (λ (y : CellPlace). y.lock)));
      }

  old_placed : (cell : ℕ) (y : CellPlace) → IsPlaced locks cells cell y → IsPlaced locks grown cell y
  old_placed cell y old = record {
    number = old.number;
    lock = old.lock;
    offset = subst (λ (xs : List Lock). slice_get (cells_of xs y.lock) y.offset ≡ Some cell) (sym grown_locks)
        (still_cell (locks_in cells) x.lock y.lock y.offset cell old.offset);
  }

  own_size : (lock : Lock) → x.lock ≡ lock →
      slice_get (set sizes number (x.offset + 1)) number ≡ Some (length (cells_of (locks_in grown) lock))
  own_size lock same =
      let long : length (cells_of (locks_in cells ++ x.lock ∷ []) x.lock) ≡ x.offset + 1 =
      omega (arith, ap length (own_cell (locks_in cells) x.lock), length-append (cells_of (locks_in cells) x.lock) (length (locks_in cells) ∷ []), offset_is) in
      set_same sizes number (x.offset + 1) (slice_get_within sizes number x.offset size_is) ∙ ap Some (sym long)
      ∙ ap (λ (xs : List Lock). Some (length (cells_of xs x.lock))) (sym grown_locks) ∙ ap (λ (l : Lock). Some (length (cells_of (locks_in grown) l))) same

  other_size : (k : ℕ) (lock : Lock) → k ≢ number → slice_get locks k ≡ Some lock →
      slice_get (set sizes number (x.offset + 1)) k ≡ Some (length (cells_of (locks_in grown) lock))
  other_size k lock ne at =
      let other : x.lock ≡ lock → ⊥ = λ e. ne (once k number lock at (here ∙ ap Some e)) in
      still_other sizes number k (x.offset + 1) (length (cells_of (locks_in cells) lock)) ne (p.size k lock at)
      ∙ ap (λ (xs : List ℕ). Some (length xs)) (sym (other_cell (locks_in cells) x.lock lock other))
      ∙ ap (λ (xs : List Lock). Some (length (cells_of xs lock))) (sym grown_locks)

  size_of : (k : ℕ) (lock : Lock) → slice_get locks k ≡ Some lock →
      slice_get (set sizes number (x.offset + 1)) k ≡ Some (length (cells_of (locks_in grown) lock))
  size_of k lock at =
      elim (cases_Bool (k == number)) [
        | inl same ↦
            let k_is : k ≡ number = eqb-true k number same in
            let both : Some x.lock ≡ Some lock = sym here ∙ ap (slice_get locks) (sym k_is) ∙ at in
            let lock_is : x.lock ≡ lock = cc in
            subst (λ (j : ℕ). slice_get (set sizes number (x.offset + 1)) j ≡ Some (length (cells_of (locks_in grown) lock))) (sym k_is) (own_size lock lock_is)
        | inr not_same ↦ other_size k lock (λ e. both_ways (k == number) not_same (eq-eqb k number e)) at
      ]

  pub cell_added : ArePlaced locks grown (set sizes number (x.offset + 1))
  cell_added = record {
    long = length-set sizes number (x.offset + 1) ∙ p.long;
    each = λ cell y e.
        elim (pushed_at cells x cell y (subst (λ (cs : List CellPlace). slice_get cs cell ≡ Some y) is e)) [
          | inl old ↦ old_placed cell y (p.each cell y old)
          | inr new ↦ subst (λ (z : CellPlace). IsPlaced locks grown cell z) new.1 (subst (λ (k : ℕ). IsPlaced locks grown k x) (sym new.0) new_placed)
        ];
    size = size_of;
  }

-- ---- what a placed cell shows

pub cell_listed : (locks : List Lock) (cells : List CellPlace) (cell : ℕ) (x : CellPlace) →
    IsPlaced locks cells cell x → Contains locks x.lock
cell_listed locks cells cell x p = contains_at locks p.number x.lock p.lock

-- the cell that an index reads
module _ (locks : List Lock) (cells : List CellPlace) (sizes : List ℕ) (cell : ℕ) (x : CellPlace) (p : ArePlaced locks cells sizes) (lt : cell < length (locks_in cells))
    (is_read : x ≡ get_or cells cell x) where
  pub cell_at : slice_get cells cell ≡ Some x
  cell_at = read_at cells cell x (omega (arith, lt, length-map cells (λ (y : CellPlace). y.lock))) is_read

  pub read_listed : Contains locks x.lock
  read_listed = cell_listed locks cells cell x (p.each cell x cell_at)

  pub read_slot : IsSlot (locks_in cells) cell x.lock x.offset
  read_slot = record {
    lock_is = map_at (λ (y : CellPlace). y.lock) cells cell x cell_at;
    offset_is = (p.each cell x cell_at).offset;
  }

-- the offset of the next cell is no more than there are cells
pub offset_few : (locks : List Lock) (cells : List CellPlace) (sizes : List ℕ) (number : ℕ) (lock : Lock) (offset : ℕ) → ArePlaced locks cells sizes →
    slice_get locks number ≡ Some lock → slice_get sizes number ≡ Some offset → offset ≤ length cells
offset_few locks cells sizes number lock offset p here size_is =
    let e : Some offset ≡ Some (length (cells_of (locks_in cells) lock)) = sym size_is ∙ p.size number lock here in
    let same : offset ≡ length (cells_of (locks_in cells) lock) = cc in
    omega (arith, same, few_cells cells lock)

-- ---- a layout with one more cell

pub one_longer : (l : LayoutOf) (cells grown : List CellPlace) (x : CellPlace) (locks : List Lock) →
    record { opening = openings_in cells; cell_locks = locks_in cells; locks = locks } ≡ l → grown ≡ cells ++ x ∷ [] →
    ◌≡◌ {A = LayoutOf} (record { opening = openings_in grown; cell_locks = locks_in grown; locks = locks }) (with_cell l x.opening x.lock)
one_longer l cells grown x locks is more =
    let made : List Value → List Lock → LayoutOf = λ opening cell_locks. record { opening = opening; cell_locks = cell_locks; locks = locks } in
    ap (λ (cs : List CellPlace). made (openings_in cs) (locks_in cs)) more
    ∙ ap (λ (vs : List Value). made vs (locks_in (cells ++ x ∷ []))) (map_push (λ (y : CellPlace). y.opening) cells x)
    ∙ ap (λ (ls : List Lock). made (openings_in cells ++ x.opening ∷ []) ls) (map_push (λ (y : CellPlace). y.lock) cells x)
    ∙ ap (λ (v : LayoutOf). with_cell v x.opening x.lock) is

-- the number of cells of a lock
pub size_within : (locks : List Lock) (sizes : List ℕ) (n size : ℕ) (lock : Lock) → length sizes ≡ length locks →
    slice_get locks n ≡ Some lock → size ≡ length sizes → n < size
size_within locks sizes n size lock long at is = let lt = slice_get_within locks n lock at in below n (length locks) (length sizes) size lt long is
  where
    below : (k a b d : ℕ) → k < a → b ≡ a → d ≡ b → k < d
    below k a b d lt e f = omega arith

pub size_read : (locks : List Lock) (cells : List CellPlace) (sizes : List ℕ) (n size : ℕ) (lock : Lock) →
    ArePlaced locks cells sizes → slice_get locks n ≡ Some lock →
    size ≡ get_or sizes n size → size ≡ length (cells_of (locks_in cells) lock)
size_read locks cells sizes n size lock placed at is =
    is ∙ get_or_from_slice_get sizes n (length (cells_of (locks_in cells) lock)) size (placed.size n lock at)
