-- The cells of each lock, by the lock's number.
use Rattle.std.proofs.Common.{◌≡◌, ◌≢◌, ℕ, zero, suc, ◌+◌, ◌<◌, ◌≤◌, List, [], ◌∷◌, ◌++◌, length, take, get_or, map}
use Rattle.std.proofs.Common.{set, replicate, Some, Vec, Global, refl, sym, ap, ◌∙◌, subst, arith}
use Rattle.std.specs.Prelude.{slice_get}
use Rattle.std.specs.List.{All}
use Rattle.std.proofs.lemmas.List.{length-map, take_more, take_all}
use Rattle.std.proofs.lemmas.Option.{none-some, slice_get_within, slice_get-get_or, get_or_from_slice_get}
use Rattle.locks.specs.declared.lock.Lock.{Lock}
use Rattle.layout.specs.LockCells.{cells_of}
use Rattle.layout.specs.Layouts.{LayoutOf, AreDistinct}
use Rattle.lock_manager.specs.Working.Committed.{rows, members_of}
use Rattle.core_lang.specs.Theory.Items.{contains_at, some_same, map_at, map_back}
use Rattle.layout.specs.Theory.Numbers.{distinct_rest, own_cell, other_cell, cell_is_of}

-- ---- what a row is

module _ (layout : LayoutOf) (vectors : List (Vec ℕ Global)) (are : rows vectors ≡ members_of layout) where
  pub rows_count : length vectors ≡ length layout.locks
  rows_count = sym (length-map vectors (λ (v : Vec ℕ Global). v.items)) ∙ ap length are ∙ length-map layout.locks (λ (l : Lock). cells_of layout.cell_locks l)

  pub row_is : (n : ℕ) (lock : Lock) (row : Vec ℕ Global) → slice_get layout.locks n ≡ Some lock →
      slice_get vectors n ≡ Some row → row.items ≡ cells_of layout.cell_locks lock
  row_is n lock row at there =
      some_same row.items (cells_of layout.cell_locks lock)
      (sym (map_at (λ (v : Vec ℕ Global). v.items) vectors n row there) ∙ ap (λ rs. slice_get rs n) are ∙ map_at (λ (l : Lock). cells_of layout.cell_locks l) layout.locks n lock at)

-- each cell of a lock is a cell
pub cells_within : (cell_locks : List Lock) (lock : Lock) →
    All (λ (cell : ℕ). cell < length cell_locks) (cells_of cell_locks lock)
cells_within cell_locks lock k d lt =
    let r = cell_is_of 0 cell_locks lock (get_or (cells_of cell_locks lock) k d) (contains_at (cells_of cell_locks lock) k (get_or (cells_of cell_locks lock) k d) (slice_get-get_or (cells_of cell_locks lock) k d lt)) in
    omega (arith, r.1, slice_get_within cell_locks r.0 lock r.2)

pub within_same : (cells : List ℕ) (n m : ℕ) → n ≡ m → All (λ (cell : ℕ). cell < n) cells →
    All (λ (cell : ℕ). cell < m) cells
within_same cells n m e all k d lt = omega (arith, e, all k d lt)

pub rows_long : (vectors : List (Vec ℕ Global)) → length (rows vectors) ≡ length vectors
rows_long vectors = length-map vectors (λ (v : Vec ℕ Global). v.items)

pub row_within : (layout : LayoutOf) (vectors : List (Vec ℕ Global)) → rows vectors ≡ members_of layout →
    (k : ℕ) (row : Vec ℕ Global) (n : ℕ) → length layout.cell_locks ≡ n →
    slice_get vectors k ≡ Some row → All (λ (cell : ℕ). cell < n) row.items
row_within layout vectors are k row n count at =
    let r = map_back (λ (l : Lock). cells_of layout.cell_locks l) layout.locks k row.items
    (sym (ap (λ rs. slice_get rs k) are) ∙ map_at (λ (v : Vec ℕ Global). v.items) vectors k row at) in
    within_same row.items (length layout.cell_locks) n count (subst (All (λ (cell : ℕ). cell < length layout.cell_locks)) r.2 (cells_within layout.cell_locks r.0))

-- ---- one cell after another

pub none_yet : (locks : List Lock) → map (λ (l : Lock). cells_of [] l) locks ≡ replicate (length locks) []
none_yet [] = refl
none_yet (l ∷ ls) = ap (λ (rs : List (List ℕ)). [] ∷ rs) (none_yet ls)

others : (cell_locks locks : List Lock) (l : Lock) →
    ((k : ℕ) (other : Lock) → slice_get locks k ≡ Some other → l ≢ other) →
    map (λ (x : Lock). cells_of cell_locks x) locks ≡ map (λ (x : Lock). cells_of (cell_locks ++ l ∷ []) x) locks
others cell_locks [] l ne = refl
others cell_locks (x ∷ xs) l ne =
    ap (λ (c : List ℕ). c ∷ map (λ (y : Lock). cells_of cell_locks y) xs) (sym (other_cell cell_locks l x (ne 0 x refl)))
    ∙ ap (λ (rs : List (List ℕ)). cells_of (cell_locks ++ l ∷ []) x ∷ rs) (others cell_locks xs l (λ k other at. ne (suc k) other at))

one_more : (cell_locks locks : List Lock) (l : Lock) (n : ℕ) → AreDistinct locks → slice_get locks n ≡ Some l →
    set (map (λ (x : Lock). cells_of cell_locks x) locks) n (cells_of cell_locks l ++ length cell_locks ∷ []) ≡ map (λ (x : Lock). cells_of (cell_locks ++ l ∷ []) x) locks
one_more cell_locks [] l n d at = absurd (none-some l at)
one_more cell_locks (x ∷ xs) l zero d at =
    let same : x ≡ l = some_same x l at in
    ap (λ (c : List ℕ). c ∷ map (λ (y : Lock). cells_of cell_locks y) xs) (sym (own_cell cell_locks l) ∙ ap (λ (y : Lock). cells_of (cell_locks ++ l ∷ []) y) (sym same))
    ∙ ap (λ (rs : List (List ℕ)). cells_of (cell_locks ++ l ∷ []) x ∷ rs)
    (others cell_locks xs l (λ k other there e. let bad : suc k ≡ 0 = d (suc k) 0 other there (ap Some (same ∙ e)) in absurd (omega (arith, bad))))
one_more cell_locks (x ∷ xs) l (suc n) d at =
    let ne : l ≢ x = λ e. let bad : suc n ≡ 0 = d (suc n) 0 l at (ap Some (sym e)) in absurd (omega (arith, bad)) in
    ap (λ (c : List ℕ). c ∷ set (map (λ (y : Lock). cells_of cell_locks y) xs) n (cells_of cell_locks l ++ length cell_locks ∷ [])) (sym (other_cell cell_locks l x ne))
    ∙ ap (λ (rs : List (List ℕ)). cells_of (cell_locks ++ l ∷ []) x ∷ rs) (one_more cell_locks xs l n (distinct_rest x xs d) at)

map_set : (vectors : List (Vec ℕ Global)) (n : ℕ) (v : Vec ℕ Global) →
    rows (set vectors n v) ≡ set (rows vectors) n v.items
map_set [] n v = refl
map_set (x ∷ xs) zero v = refl
map_set (x ∷ xs) (suc n) v = ap (λ (rs : List (List ℕ)). x.items ∷ rs) (map_set xs n v)

length_take : {X : Type 0} (k : ℕ) (xs : List X) → k ≤ length xs → length (take k xs) ≡ k
length_take zero xs le = refl
length_take (suc k) [] le = absurd (omega (arith, le))
length_take (suc k) (x ∷ xs) le = ap suc (length_take k xs (omega (arith, le)))

-- the next cell goes to the row of its lock
pub cell_added : (locks cell_locks : List Lock) (vectors : List (Vec ℕ Global)) (old more : Vec ℕ Global) (cell n : ℕ) (lock : Lock) → AreDistinct locks →
    rows vectors ≡ map (λ (x : Lock). cells_of (take cell cell_locks) x) locks → slice_get cell_locks cell ≡ Some lock → slice_get locks n ≡ Some lock →
    slice_get vectors n ≡ Some old → more.items ≡ old.items ++ cell ∷ [] →
    rows (set vectors n more) ≡ map (λ (x : Lock). cells_of (take (cell + 1) cell_locks) x) locks
cell_added locks cell_locks vectors old more cell n lock d are at numbered there pushed =
    let lt = slice_get_within cell_locks cell lock at in
    let row : old.items ≡ cells_of (take cell cell_locks) lock =
    some_same old.items (cells_of (take cell cell_locks) lock)
    (sym (map_at (λ (v : Vec ℕ Global). v.items) vectors n old there) ∙ ap (λ rs. slice_get rs n) are ∙ map_at (λ (x : Lock). cells_of (take cell cell_locks) x) locks n lock numbered) in
    let longer : take (cell + 1) cell_locks ≡ take cell cell_locks ++ lock ∷ [] =
    take_more cell_locks cell lock lt ∙ ap (λ (x : Lock). take cell cell_locks ++ x ∷ []) (get_or_from_slice_get cell_locks cell lock lock at) in
    let long : length (take cell cell_locks) ≡ cell = length_take cell cell_locks (omega (arith, lt)) in
    map_set vectors n more
    ∙ ap (λ (rs : List (List ℕ)). set rs n more.items) are
    ∙ ap (λ (r : List ℕ). set (map (λ (x : Lock). cells_of (take cell cell_locks) x) locks) n r)
    (pushed ∙ ap (λ (r : List ℕ). r ++ cell ∷ []) row ∙ ap (λ (k : ℕ). cells_of (take cell cell_locks) lock ++ k ∷ []) (sym long))
    ∙ one_more (take cell cell_locks) locks lock n d numbered
    ∙ ap (λ (ls : List Lock). map (λ (x : Lock). cells_of ls x) locks) (sym longer)

pub all_cells : (locks cell_locks : List Lock) (n : ℕ) → length cell_locks ≤ n →
    map (λ (x : Lock). cells_of (take n cell_locks) x) locks ≡ map (λ (x : Lock). cells_of cell_locks x) locks
all_cells locks cell_locks n le = ap (λ (ls : List Lock). map (λ (x : Lock). cells_of ls x) locks) (take_all n cell_locks le)

pub as_many : (vectors : List (Vec ℕ Global)) (cell_locks locks : List Lock) →
    rows vectors ≡ map (λ (x : Lock). cells_of cell_locks x) locks → length vectors ≡ length locks
as_many vectors cell_locks locks are =
    sym (length-map vectors (λ (v : Vec ℕ Global). v.items)) ∙ ap length are ∙ length-map locks (λ (x : Lock). cells_of cell_locks x)
