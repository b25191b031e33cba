-- Grants, and the cells that they have.
use Rattle.std.proofs.Common.{◌≡◌, ◌≢◌, ℕ, zero, suc, ◌+◌, ◌<◌, ◌≤◌, List, [], ◌∷◌, ◌++◌, length, take, set, Some, None}
use Rattle.std.proofs.Common.{inl, inr, refl, sym, ap, ◌∙◌, subst, arith, length-append}
use Rattle.std.specs.Prelude.{slice_get}
use Rattle.std.specs.List.{All, Contains}
use Rattle.std.proofs.lemmas.List.{take_more}
use Rattle.std.proofs.lemmas.List.Elements.{All-head, All-tail, Contains-append_cases}
use Rattle.std.proofs.lemmas.Option.{none-some, same_Some, slice_get_within, get_or_from_slice_get}
use Rattle.core_lang.specs.declared.value.Value.{Value}
use Rattle.locks.specs.declared.lock.Lock.{Lock}
use Rattle.code.specs.Memory.{value_at, with_changed}
use Rattle.layout.specs.LockCells.{cells_of, IsSlot}
use Rattle.layout.specs.Layouts.{AreDistinct}
use Rattle.moved_cells.specs.Working.Grants.{GrantOf, numbered, cells_in, IsWhole, locks_of}
use Rattle.moved_cells.specs.Working.Laws.{OffsetsFindValues, OffsetsChangeCells}
use Rattle.runner_machine.specs.Working.Held.{cells_granted}
use Rattle.runner_machine.specs.Working.Kept.{cells_under, values_count, IsGrantAt, IsSpot, IsElsewhere}
use Rattle.runner_machine.proofs.Lists.{first, get_right, past, changed_left, changed_right}
use Rattle.core_lang.specs.Theory.Items.{in_rest, still_at}
use Rattle.layout.specs.Theory.Numbers.{has_lock, distinct_rest, distinct_first}
use Rattle.code.specs.Theory.Values.{value_left, value_right}

-- ---- grants one after another

pub locks_append : (gs hs : List GrantOf) → locks_of (gs ++ hs) ≡ locks_of gs ++ locks_of hs
locks_append [] hs = refl
locks_append (g ∷ gs) hs = ap (λ (ls : List Lock). g.lock ∷ ls) (locks_append gs hs)

pub count_append : (gs hs : List GrantOf) → values_count (gs ++ hs) ≡ values_count gs + values_count hs
count_append [] hs = omega arith
count_append (g ∷ gs) hs = omega (arith, count_append gs hs)

glue : (xs ys zs : List (ℕ × Value)) → xs ++ (ys ++ zs) ≡ (xs ++ ys) ++ zs
glue [] ys zs = refl
glue (x ∷ xs) ys zs = ap (λ (t : List (ℕ × Value)). x ∷ t) (glue xs ys zs)

pub append_none : (xs : List (ℕ × Value)) → xs ++ [] ≡ xs
append_none [] = refl
append_none (x ∷ xs) = ap (λ (ys : List (ℕ × Value)). x ∷ ys) (append_none xs)

pub granted_append : (cell_locks : List Lock) (gs hs : List GrantOf) →
    cells_granted cell_locks (gs ++ hs) ≡ cells_granted cell_locks gs ++ cells_granted cell_locks hs
granted_append cell_locks [] hs = refl
granted_append cell_locks (g ∷ gs) hs =
    ap (λ (xs : List (ℕ × Value)). cells_in cell_locks g ++ xs) (granted_append cell_locks gs hs)
    ∙ glue (cells_in cell_locks g) (cells_granted cell_locks gs) (cells_granted cell_locks hs)

pub length_locks : (gs : List GrantOf) → length (locks_of gs) ≡ length gs
length_locks [] = refl
length_locks (g ∷ gs) = ap suc (length_locks gs)

-- ---- the number of cells

length_numbered : (cs : List ℕ) (vs : List Value) → length vs ≡ length cs → length (numbered cs vs) ≡ length vs
length_numbered [] [] e = refl
length_numbered [] (v ∷ vs) e = absurd (omega (arith, e))
length_numbered (c ∷ cs) [] e = refl
length_numbered (c ∷ cs) (v ∷ vs) e = ap suc (length_numbered cs vs (omega (arith, e)))

pub granted_count : (cell_locks : List Lock) (gs : List GrantOf) → All (IsWhole cell_locks) gs →
    length (cells_granted cell_locks gs) ≡ values_count gs
granted_count cell_locks [] whole = refl
granted_count cell_locks (g ∷ gs) whole =
    omega (
      arith,
      length-append (cells_in cell_locks g) (cells_granted cell_locks gs),
      length_numbered (cells_of cell_locks g.lock) g.values (All-head (IsWhole cell_locks) g gs whole),
      granted_count cell_locks gs (All-tail (IsWhole cell_locks) g gs whole),
    )

pub under_count : (cell_locks : List Lock) (gs : List GrantOf) → All (IsWhole cell_locks) gs →
    length (cells_under cell_locks (locks_of gs)) ≡ values_count gs
under_count cell_locks [] whole = refl
under_count cell_locks (g ∷ gs) whole =
    let all : length g.values ≡ length (cells_of cell_locks g.lock) = All-head (IsWhole cell_locks) g gs whole in
    omega (
      arith,
      length-append (cells_of cell_locks g.lock) (cells_under cell_locks (locks_of gs)),
      all,
      under_count cell_locks gs (All-tail (IsWhole cell_locks) g gs whole),
    )

pub count_within : (gs : List GrantOf) (i : ℕ) (g : GrantOf) → slice_get gs i ≡ Some g →
    values_count (take i gs) + length g.values ≤ values_count gs
count_within [] i g at = absurd (none-some g at)
count_within (h ∷ gs) zero g at =
    let same : length h.values ≡ length g.values = ap (λ (x : GrantOf). length x.values) (same_Some h g at) in omega (arith, same)
count_within (h ∷ gs) (suc i) g at = omega (arith, count_within gs i g at)

-- ---- finding

pub whole_at : (cell_locks : List Lock) (gs : List GrantOf) (i : ℕ) (g : GrantOf) → All (IsWhole cell_locks) gs →
    slice_get gs i ≡ Some g → IsWhole cell_locks g
whole_at cell_locks gs i g whole at =
    subst (IsWhole cell_locks) (get_or_from_slice_get gs i g g at) (whole i g (slice_get_within gs i g at))

pub spot_from : (cell_locks : List Lock) (gs : List GrantOf) (lock : Lock) (cell index first offset : ℕ) →
    All (IsWhole cell_locks) gs →
    IsGrantAt gs lock index first → IsSlot cell_locks cell lock offset → IsSpot cell_locks gs cell index offset (first + offset)
spot_from cell_locks gs lock cell index first offset whole at slot =
    let here : IsSlot cell_locks cell at.grant.lock offset = subst (λ (l : Lock). IsSlot cell_locks cell l offset) (sym at.lock_is) slot in
    let all : length at.grant.values ≡ length (cells_of cell_locks at.grant.lock) = whole_at cell_locks gs index at.grant whole at.is in
    let fits : offset < length at.grant.values = omega (arith, slice_get_within (cells_of cell_locks at.grant.lock) offset cell here.offset_is, all) in
    let within : values_count (take index gs) + length at.grant.values ≤ values_count gs = count_within gs index at.grant at.is in
    record {
      grant = at.grant;
      is = at.is;
      slot = here;
      place_is = ap (λ (n : ℕ). n + offset) at.first_is;
      offset_fits = fits;
      place_fits = omega (arith, within, fits, at.first_is);
    }

-- ---- the value of a cell

outside_numbered : (cs : List ℕ) (vs : List Value) (c : ℕ) → (Contains cs c → ⊥) → value_at (numbered cs vs) c ≡ None
outside_numbered [] vs c out = refl
outside_numbered (d ∷ cs) [] c out = refl
outside_numbered (d ∷ cs) (v ∷ vs) c out =
    past (d, v) (numbered cs vs) c (λ e. out (first d cs c e)) ∙ outside_numbered cs vs c (λ has. out (in_rest d c cs has))

-- a grant of another lock does not have the cell
other_grant : (cell_locks : List Lock) (g : GrantOf) (cell : ℕ) (lock : Lock) →
    slice_get cell_locks cell ≡ Some lock → g.lock ≢ lock →
    value_at (cells_in cell_locks g) cell ≡ None
other_grant cell_locks g cell lock is ne =
    outside_numbered (cells_of cell_locks g.lock) g.values cell
    (λ has. ne (same_Some g.lock lock (sym (has_lock cell_locks g.lock cell has) ∙ is)))

lock_at : (gs : List GrantOf) (i : ℕ) (g : GrantOf) → slice_get gs i ≡ Some g → Contains (locks_of gs) g.lock
lock_at [] i g at = absurd (none-some g at)
lock_at (h ∷ gs) zero g at = first h.lock (locks_of gs) g.lock (ap (λ (x : GrantOf). x.lock) (same_Some h g at))
lock_at (h ∷ gs) (suc i) g at = in_rest h.lock g.lock (locks_of gs) (lock_at gs i g at)

-- the first grant is not one of the later ones
first_other : (h : GrantOf) (gs : List GrantOf) (i : ℕ) (g : GrantOf) → AreDistinct (locks_of (h ∷ gs)) →
    slice_get gs i ≡ Some g → h.lock ≢ g.lock
first_other h gs i g d at e = distinct_first h.lock (locks_of gs) d (subst (Contains (locks_of gs)) (sym e) (lock_at gs i g at))

pub elsewhere : (cell_locks : List Lock) (gs : List GrantOf) (cell : ℕ) → IsElsewhere cell_locks gs cell →
    value_at (cells_granted cell_locks gs) cell ≡ None
elsewhere cell_locks [] cell out = refl
elsewhere cell_locks (g ∷ gs) cell out =
    value_right (cells_in cell_locks g) (cells_granted cell_locks gs) cell
    (outside_numbered (cells_of cell_locks g.lock) g.values cell
    (λ has. out.other g.lock (has_lock cell_locks g.lock cell has) (first g.lock (locks_of gs) g.lock refl)))
    ∙ elsewhere cell_locks gs cell (record { other = λ lock is has. out.other lock is (in_rest g.lock lock (locks_of gs) has) })

module _ (cell_locks : List Lock) (cell offset : ℕ) (g : GrantOf) (slot : IsSlot cell_locks cell g.lock offset) (read : OffsetsFindValues) where
  pub granted_value : (gs : List GrantOf) (i : ℕ) (v : Value) → All (IsWhole cell_locks) gs →
      AreDistinct (locks_of gs) → slice_get gs i ≡ Some g →
      slice_get g.values offset ≡ Some v → value_at (cells_granted cell_locks gs) cell ≡ Some v
  granted_value [] i v whole d at is = absurd (none-some g at)
  granted_value (h ∷ gs) zero v whole d at is =
      let same : h ≡ g = same_Some h g at in
      let all : IsWhole cell_locks g = whole_at cell_locks (h ∷ gs) 0 g whole at in
      value_left (cells_in cell_locks h) (cells_granted cell_locks gs) cell v
      (ap (λ (x : GrantOf). value_at (cells_in cell_locks x) cell) same ∙ read cell_locks g cell offset all slot ∙ is)
  granted_value (h ∷ gs) (suc i) v whole d at is =
      value_right (cells_in cell_locks h) (cells_granted cell_locks gs) cell (other_grant cell_locks h cell g.lock slot.lock_is (first_other h gs i g d at))
      ∙ granted_value gs i v (All-tail (IsWhole cell_locks) h gs whole) (distinct_rest h.lock (locks_of gs) d) at is

  pub granted_changed : (change : OffsetsChangeCells) (gs : List GrantOf) (i : ℕ) (old v : Value) →
      All (IsWhole cell_locks) gs → AreDistinct (locks_of gs) →
      slice_get gs i ≡ Some g → slice_get g.values offset ≡ Some old →
      cells_granted cell_locks (set gs i (record g { values = set g.values offset v })) ≡ with_changed (cells_granted cell_locks gs) cell v
  granted_changed change [] i old v whole d at is = absurd (none-some g at)
  granted_changed change (h ∷ gs) zero old v whole d at is =
      let same : h ≡ g = same_Some h g at in
      let all : IsWhole cell_locks g = whole_at cell_locks (h ∷ gs) 0 g whole at in
      ap (λ (xs : List (ℕ × Value)). xs ++ cells_granted cell_locks gs) (change cell_locks g cell offset v all slot)
      ∙ sym (changed_left (cells_in cell_locks g) (cells_granted cell_locks gs) cell old v (read cell_locks g cell offset all slot ∙ is))
      ∙ ap (λ (x : GrantOf). with_changed (cells_in cell_locks x ++ cells_granted cell_locks gs) cell v) (sym same)
  granted_changed change (h ∷ gs) (suc i) old v whole d at is =
      ap (λ (xs : List (ℕ × Value)). cells_in cell_locks h ++ xs)
      (granted_changed change gs i old v (All-tail (IsWhole cell_locks) h gs whole) (distinct_rest h.lock (locks_of gs) d) at is)
      ∙ sym (changed_right (cells_in cell_locks h) (cells_granted cell_locks gs) cell v (other_grant cell_locks h cell g.lock slot.lock_is (first_other h gs i g d at)))

-- ---- the place of a cell

pub cell_at : (cell_locks : List Lock) (gs : List GrantOf) (i : ℕ) (g : GrantOf) (cell offset : ℕ) →
    All (IsWhole cell_locks) gs → slice_get gs i ≡ Some g →
    slice_get (cells_of cell_locks g.lock) offset ≡ Some cell →
    slice_get (cells_under cell_locks (locks_of gs)) (values_count (take i gs) + offset) ≡ Some cell
cell_at cell_locks [] i g cell offset whole at is = absurd (none-some g at)
cell_at cell_locks (h ∷ gs) zero g cell offset whole at is =
    ap (λ (n : ℕ). slice_get (cells_of cell_locks h.lock ++ cells_under cell_locks (locks_of gs)) n) (let e : 0 + offset ≡ offset = omega arith in e)
    ∙ still_at (cells_of cell_locks h.lock) (cells_under cell_locks (locks_of gs)) offset cell
    (ap (λ (x : GrantOf). slice_get (cells_of cell_locks x.lock) offset) (same_Some h g at) ∙ is)
cell_at cell_locks (h ∷ gs) (suc i) g cell offset whole at is =
    let all : length h.values ≡ length (cells_of cell_locks h.lock) = All-head (IsWhole cell_locks) h gs whole in
    get_right (cells_of cell_locks h.lock) (cells_under cell_locks (locks_of gs)) ((length h.values + values_count (take i gs)) + offset) (values_count (take i gs) + offset) (omega (arith, all))
    ∙ cell_at cell_locks gs i g cell offset (All-tail (IsWhole cell_locks) h gs whole) at is

-- ---- other values of a grant

pub locks_set : (gs : List GrantOf) (i : ℕ) (g : GrantOf) (vs : List Value) → slice_get gs i ≡ Some g →
    locks_of (set gs i (record g { values = vs })) ≡ locks_of gs
locks_set [] i g vs at = refl
locks_set (h ∷ gs) zero g vs at = ap (λ (x : GrantOf). x.lock ∷ locks_of gs) (sym (same_Some h g at))
locks_set (h ∷ gs) (suc i) g vs at = ap (λ (ls : List Lock). h.lock ∷ ls) (locks_set gs i g vs at)

pub count_set : (gs : List GrantOf) (i : ℕ) (g : GrantOf) (vs : List Value) → slice_get gs i ≡ Some g →
    length vs ≡ length g.values →
    values_count (set gs i (record g { values = vs })) ≡ values_count gs
count_set [] i g vs at e = refl
count_set (h ∷ gs) zero g vs at e =
    let same : length h.values ≡ length g.values = ap (λ (x : GrantOf). length x.values) (same_Some h g at) in omega (arith, same, e)
count_set (h ∷ gs) (suc i) g vs at e = ap (λ (n : ℕ). length h.values + n) (count_set gs i g vs at e)
