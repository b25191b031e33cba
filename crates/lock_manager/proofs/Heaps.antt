-- Values of cells.
use Rattle.std.proofs.Common.{◌≡◌, ◌≢◌, ℕ, zero, suc, ◌+◌, ◌-◌, ◌<◌, ◌≤◌, List, [], ◌∷◌, ◌++◌, length, take, get_or}
use Rattle.std.proofs.Common.{Option, Some, None, ◌⊎◌, refl, sym, ap, ◌∙◌, subst, arith, inl, inr, drop, set}
use Rattle.std.specs.Prelude.{slice_get}
use Rattle.std.specs.List.{All, Contains}
use Rattle.std.proofs.lemmas.Bool.Decides.{eqb_tells}
use Rattle.std.proofs.lemmas.Bool.{cases_eq}
use Rattle.std.proofs.lemmas.List.{take_all, take_more, at_drop_all}
use Rattle.std.proofs.lemmas.Option.{none-some, slice_get_within, slice_get-get_or}
use Rattle.core_lang.specs.declared.value.Value.{Value}
use Rattle.code.specs.Memory.{value_at, overwritten, Agrees}
use Rattle.moved_cells.specs.Working.Grants.{numbered, values_on, if_there}
use Rattle.lock_manager.specs.Working.Ties.{Rise}
use Rattle.std.proofs.Math.Seq.{drop-cons}
use Rattle.core_lang.specs.Theory.Items.{get_some}
use Rattle.code.specs.Theory.Values.{first_is, first_is_not}

-- ---- what was read

pub agrees_push : (heap : List Value) (rs : List (ℕ × Value)) (r : ℕ × Value) → Agrees heap rs →
    slice_get heap r.0 ≡ Some r.1 → Agrees heap (rs ++ r ∷ [])
agrees_push heap [] r a e = (e, tt)
agrees_push heap (x ∷ rs) r a e = (a.0, agrees_push heap rs r a.1 e)

pub agrees_more : (heap : List Value) (rs : List (ℕ × Value)) (k : ℕ) (d : ℕ × Value) → k < length rs →
    Agrees heap (take k rs) →
    slice_get heap (get_or rs k d).0 ≡ Some (get_or rs k d).1 → Agrees heap (take (k + 1) rs)
agrees_more heap rs k d lt a e = subst (Agrees heap) (sym (take_more rs k d lt)) (agrees_push heap (take k rs) (get_or rs k d) a e)

pub agrees_at : (heap : List Value) (rs : List (ℕ × Value)) (k : ℕ) (d : ℕ × Value) → k < length rs → Agrees heap rs →
    slice_get heap (get_or rs k d).0 ≡ Some (get_or rs k d).1
agrees_at heap [] k d lt a = absurd (omega (arith, lt))
agrees_at heap (r ∷ rs) zero d lt a = a.0
agrees_at heap (r ∷ rs) (suc k) d lt a = agrees_at heap rs k d (omega (arith, lt)) a.1

pub beyond : (heap : List Value) (rs : List (ℕ × Value)) (k : ℕ) (d : ℕ × Value) → k < length rs →
    length heap ≤ (get_or rs k d).0 → Agrees heap rs → ⊥
beyond heap rs k d lt past a = absurd (omega (arith, past, slice_get_within heap (get_or rs k d).0 (get_or rs k d).1 (agrees_at heap rs k d lt a)))

-- the values of cells, with the cells' numbers
pub have_at : (heap : List Value) (cs : List ℕ) (vs : List Value) (k c : ℕ) (v : Value) → length vs ≡ length cs →
    k < length cs → Agrees heap (numbered cs vs) →
    slice_get heap (get_or cs k c) ≡ Some (get_or vs k v)
have_at heap [] vs k c v e lt a = absurd (omega (arith, lt))
have_at heap (x ∷ cs) [] k c v e lt a = absurd (omega (arith, e))
have_at heap (x ∷ cs) (y ∷ vs) zero c v e lt a = a.0
have_at heap (x ∷ cs) (y ∷ vs) (suc k) c v e lt a = have_at heap cs vs k c v (omega (arith, e)) (omega (arith, lt)) a.1

have_suc : (heap : List Value) (cs : List ℕ) (vs : List Value) (k c : ℕ) (v : Value) → length vs ≡ length cs →
    k < length cs →
    Agrees heap (numbered (take k cs) (take k vs)) → slice_get heap (get_or cs k c) ≡ Some (get_or vs k v) → Agrees heap (numbered (take (suc k) cs) (take (suc k) vs))
have_suc heap [] vs k c v e lt a at = absurd (omega (arith, lt))
have_suc heap (x ∷ cs) [] k c v e lt a at = absurd (omega (arith, e))
have_suc heap (x ∷ cs) (y ∷ vs) zero c v e lt a at = (at, tt)
have_suc heap (x ∷ cs) (y ∷ vs) (suc k) c v e lt a at = (a.0, have_suc heap cs vs k c v (omega (arith, e)) (omega (arith, lt)) a.1 at)

pub have_more : (heap : List Value) (cs : List ℕ) (vs : List Value) (k c : ℕ) (v : Value) → length vs ≡ length cs →
    k < length cs →
    Agrees heap (numbered (take k cs) (take k vs)) → slice_get heap (get_or cs k c) ≡ Some (get_or vs k v) → Agrees heap (numbered (take (k + 1) cs) (take (k + 1) vs))
have_more heap cs vs k c v e lt a at =
    let sum : suc k ≡ k + 1 = omega arith in
    subst (λ (n : ℕ). Agrees heap (numbered (take n cs) (take n vs))) sum (have_suc heap cs vs k c v e lt a at)

-- ---- what is written

-- none of the writes so far is of the cell
none_before_suc : (ws : List (ℕ × Value)) (k cell : ℕ) (d : ℕ × Value) → k < length ws →
    value_at (take k ws) cell ≡ None → (get_or ws k d).0 ≢ cell →
    value_at (take (suc k) ws) cell ≡ None
none_before_suc [] k cell d lt e ne = absurd (omega (arith, lt))
none_before_suc (w ∷ ws) zero cell d lt e ne = first_is_not w.0 cell w.1 None ne
none_before_suc (w ∷ ws) (suc k) cell d lt e ne = elim (eqb_tells w.0 cell) [
  | inl h ↦ absurd (none-some w.1 (sym e ∙ first_is w.0 cell w.1 (value_at (take k ws) cell) h.1))
  | inr h ↦ first_is_not w.0 cell w.1 (value_at (take (suc k) ws) cell) h.1
      ∙ none_before_suc ws k cell d (omega (arith, lt)) (sym (first_is_not w.0 cell w.1 (value_at (take k ws) cell) h.1) ∙ e) ne
]

pub none_before_more : (ws : List (ℕ × Value)) (k cell : ℕ) (d : ℕ × Value) → k < length ws →
    value_at (take k ws) cell ≡ None → (get_or ws k d).0 ≢ cell →
    value_at (take (k + 1) ws) cell ≡ None
none_before_more ws k cell d lt e ne =
    let sum : suc k ≡ k + 1 = omega arith in
    subst (λ (n : ℕ). value_at (take n ws) cell ≡ None) sum (none_before_suc ws k cell d lt e ne)

pub first_found : (ws : List (ℕ × Value)) (k cell : ℕ) (d : ℕ × Value) → k < length ws →
    value_at (take k ws) cell ≡ None → (get_or ws k d).0 ≡ cell →
    value_at ws cell ≡ Some (get_or ws k d).1
first_found [] k cell d lt e same = absurd (omega (arith, lt))
first_found (w ∷ ws) zero cell d lt e same = first_is w.0 cell w.1 (value_at ws cell) same
first_found (w ∷ ws) (suc k) cell d lt e same = elim (eqb_tells w.0 cell) [
  | inl h ↦ absurd (none-some w.1 (sym e ∙ first_is w.0 cell w.1 (value_at (take k ws) cell) h.1))
  | inr h ↦ first_is_not w.0 cell w.1 (value_at ws cell) h.1
      ∙ first_found ws k cell d (omega (arith, lt)) (sym (first_is_not w.0 cell w.1 (value_at (take k ws) cell) h.1) ∙ e) same
]

-- ---- writes in order

rise_far_from : (ws : List (ℕ × Value)) (i k j : ℕ) (d : ℕ × Value) → Rise ws → j ≡ i + suc k → j < length ws →
    (get_or ws i d).0 < (get_or ws j d).0
rise_far_from ws i zero j d r e lt =
    let next : j ≡ i + 1 = omega (arith, e) in
    subst (λ (n : ℕ). (get_or ws i d).0 < (get_or ws n d).0) (sym next) (r i d (omega (arith, lt, next)))
rise_far_from ws i (suc k) j d r e lt =
    let before : j ≡ (i + suc k) + 1 = omega (arith, e) in
    let step = r (i + suc k) d (omega (arith, lt, before)) in
    let far = rise_far_from ws i k (i + suc k) d r refl (omega (arith, lt, before)) in
    subst (λ (n : ℕ). (get_or ws i d).0 < (get_or ws n d).0) (sym before) (omega (arith, step, far))

pub rise_far : (ws : List (ℕ × Value)) (i j : ℕ) (d : ℕ × Value) → Rise ws → i < j → j < length ws →
    (get_or ws i d).0 < (get_or ws j d).0
rise_far ws i j d r lt within = let gap : j ≡ i + suc (j - i - 1) = omega (arith, lt) in rise_far_from ws i (j - i - 1) j d r gap within

same_default : (ws : List (ℕ × Value)) (i : ℕ) (d e : ℕ × Value) → i < length ws → get_or ws i d ≡ get_or ws i e
same_default [] i d e lt = absurd (omega (arith, lt))
same_default (w ∷ ws) zero d e lt = refl
same_default (w ∷ ws) (suc i) d e lt = same_default ws i d e (omega (arith, lt))

-- the lesser half of the writes, and the greater half
pub below_more : (ws : List (ℕ × Value)) (middle cell : ℕ) (e : ℕ × Value) → Rise ws → middle < length ws →
    (get_or ws middle e).0 < cell →
    (i : ℕ) (d : ℕ × Value) → i < middle + 1 → (get_or ws i d).0 < cell
below_more ws middle cell e r within less i d lt =
    let here = ap (λ (w : ℕ × Value). w.0) (same_default ws middle d e within) in
    elim (cases_eq i middle) [
      | inl same ↦ subst (λ (n : ℕ). (get_or ws n d).0 < cell) (sym same) (omega (arith, here, less))
      | inr other ↦ (let before : i < middle = omega (arith, lt, other) in omega (arith, rise_far ws i middle d r before within, here, less))
    ]

pub above_more : (ws : List (ℕ × Value)) (middle cell : ℕ) (e : ℕ × Value) → Rise ws → middle < length ws →
    cell ≤ (get_or ws middle e).0 →
    (i : ℕ) (d : ℕ × Value) → middle ≤ i → i < length ws → cell ≤ (get_or ws i d).0
above_more ws middle cell e r within more i d le lt =
    let here = ap (λ (w : ℕ × Value). w.0) (same_default ws middle d e within) in
    elim (cases_eq i middle) [
      | inl same ↦ subst (λ (n : ℕ). cell ≤ (get_or ws n d).0) (sym same) (omega (arith, here, more))
      | inr other ↦ (let after : middle < i = omega (arith, le, other) in omega (arith, rise_far ws middle i d r after lt, here, more))
    ]

side : (i k : ℕ) → i ≢ k → (i < k) ⊎ (k < i)
side zero zero ne = absurd (ne refl)
side zero (suc k) ne = inl (omega arith)
side (suc i) zero ne = inr (omega arith)
side (suc i) (suc k) ne = elim (side i k (λ e. ne (ap suc e))) [ inl h ↦ inl (omega (arith, h)) | inr h ↦ inr (omega (arith, h)) ]

-- a cell that is not at the index where a sorted list would have it is not in the list
pub not_there : (ws : List (ℕ × Value)) (low cell : ℕ) (e : ℕ × Value) → Rise ws → low < length ws →
    (get_or ws low e).0 ≢ cell →
    ((i : ℕ) (d : ℕ × Value) → i < low → (get_or ws i d).0 < cell) → ((i : ℕ) (d : ℕ × Value) → low ≤ i → i < length ws → cell ≤ (get_or ws i d).0) →
    (i : ℕ) (d : ℕ × Value) → i < length ws → (get_or ws i d).0 ≢ cell
not_there ws low cell e r within ne below above i d lt same =
    let here = ap (λ (w : ℕ × Value). w.0) (same_default ws low d e within) in
    elim (cases_eq i low) [
      | inl eq ↦ ne (sym here ∙ ap (λ (n : ℕ). (get_or ws n d).0) (sym eq) ∙ same)
      | inr other ↦ elim (side i low other) [
        | inl before ↦ absurd (let less = below i d before in omega (arith, less, same))
        | inr after ↦ absurd (let far = rise_far ws low i d r after lt in let past = above low d (omega arith) within in omega (arith, far, past, same))
      ]
    ]

pub none_taken : (ws : List (ℕ × Value)) (k cell : ℕ) → k ≤ length ws →
    ((i : ℕ) (d : ℕ × Value) → i < k → (get_or ws i d).0 ≢ cell) → value_at (take k ws) cell ≡ None
none_taken ws zero cell le f = refl
none_taken [] (suc k) cell le f = absurd (omega (arith, le))
none_taken (w ∷ ws) (suc k) cell le f =
    first_is_not w.0 cell w.1 (value_at (take k ws) cell) (f 0 w (omega arith)) ∙ none_taken ws k cell (omega (arith, le)) (λ i d lt. f (suc i) d (omega (arith, lt)))

pub none_written : (ws : List (ℕ × Value)) (cell : ℕ) →
    ((i : ℕ) (d : ℕ × Value) → i < length ws → (get_or ws i d).0 ≢ cell) → value_at ws cell ≡ None
none_written ws cell f = ap (λ xs. value_at xs cell) (sym (take_all (length ws) ws (omega arith))) ∙ none_taken ws (length ws) cell (omega arith) f

-- ---- values of some cells

pub values_on-push : (heap : List Value) (cs : List ℕ) (c : ℕ) (v : Value) → slice_get heap c ≡ Some v →
    values_on heap (cs ++ c ∷ []) ≡ values_on heap cs ++ v ∷ []
values_on-push heap [] c v e = ap (λ o. if_there o []) e
values_on-push heap (x ∷ cs) c v e = in_front (slice_get heap x) (values_on heap (cs ++ c ∷ [])) (values_on heap cs) (values_on-push heap cs c v e)
  where
    in_front : (o : Option Value) (a b : List Value) → a ≡ b ++ v ∷ [] → if_there o a ≡ if_there o b ++ v ∷ []
    in_front None a b e = e
    in_front (Some y) a b e = ap (λ ys. y ∷ ys) e

pub values_on-more : (heap : List Value) (cs : List ℕ) (k d : ℕ) (v : Value) → k < length cs →
    slice_get heap (get_or cs k d) ≡ Some v →
    values_on heap (take (k + 1) cs) ≡ values_on heap (take k cs) ++ v ∷ []
values_on-more heap cs k d v lt e = ap (values_on heap) (take_more cs k d lt) ∙ values_on-push heap (take k cs) (get_or cs k d) v e

-- one more cell of a row, with its value
pub one_value_more : (heap : List Value) (cs : List ℕ) (k d : ℕ) (e : Value) (vs more : List Value) → k < length cs →
    get_or cs k d < length heap →
    vs ≡ values_on heap (take k cs) → more ≡ vs ++ get_or heap (get_or cs k d) e ∷ [] → more ≡ values_on heap (take (k + 1) cs)
one_value_more heap cs k d e vs more lt within so_far next =
    next ∙ ap (λ (xs : List Value). xs ++ get_or heap (get_or cs k d) e ∷ []) so_far
    ∙ sym (values_on-more heap cs k d (get_or heap (get_or cs k d) e) lt (slice_get-get_or heap (get_or cs k d) e within))

pub length-values_on : (heap : List Value) (cs : List ℕ) → All (λ (c : ℕ). c < length heap) cs →
    length (values_on heap cs) ≡ length cs
length-values_on heap [] all = refl
length-values_on heap (c ∷ cs) all =
    let v = get_some heap c (all 0 c (omega arith)) in
    ap (λ o. length (if_there o (values_on heap cs))) v.1 ∙ ap suc (length-values_on heap cs (λ k d lt. all (suc k) d (omega (arith, lt))))

-- values with which a heap agrees at some cells are the heap's values there
pub values_agree : (heap : List Value) (cs : List ℕ) (vs : List Value) → length vs ≡ length cs →
    Agrees heap (numbered cs vs) → vs ≡ values_on heap cs
values_agree heap [] [] e a = refl
values_agree heap [] (v ∷ vs) e a = absurd (omega (arith, e))
values_agree heap (c ∷ cs) [] e a = absurd (omega (arith, e))
values_agree heap (c ∷ cs) (v ∷ vs) e a = ap (λ xs. v ∷ xs) (values_agree heap cs vs (omega (arith, e)) a.1) ∙ sym (ap (λ o. if_there o (values_on heap cs)) a.0)

-- heaps that agree at some cells have the same values there
pub values_same : (heap other : List Value) (cs : List ℕ) →
    ((c : ℕ) → Contains cs c → slice_get heap c ≡ slice_get other c) → values_on heap cs ≡ values_on other cs
values_same heap other [] f = refl
values_same heap other (c ∷ cs) f =
    ap (λ o. if_there o (values_on heap cs)) (f c (0, omega arith, refl))
    ∙ ap (if_there (slice_get other c)) (values_same heap other cs (λ d k. f d (suc k.0, omega (arith, k.1), k.2)))

later_cell : (P : Type 0) (c cell : ℕ) (cs : List ℕ) (j : ℕ) → j < length (c ∷ cs) → get_or (c ∷ cs) j cell ≡ cell →
    c ≢ cell → (Contains cs cell → P) → P
later_cell P c cell cs zero lt e ne go = absurd (ne e)
later_cell P c cell cs (suc j) lt e ne go = go (j, omega (arith, lt), e)

-- the value of one of some cells in a heap
pub value_among : (heap : List Value) (cs : List ℕ) (cell : ℕ) → All (λ (c : ℕ). c < length heap) cs →
    Contains cs cell →
    value_at (numbered cs (values_on heap cs)) cell ≡ slice_get heap cell
value_among heap [] cell all k = absurd (omega (arith, k.1))
value_among heap (c ∷ cs) cell all k =
    let v = get_some heap c (all 0 c (omega arith)) in
    let rest : All (λ (c : ℕ). c < length heap) cs = λ j d lt. all (suc j) d (omega (arith, lt)) in
    ap (λ o. value_at (numbered (c ∷ cs) (if_there o (values_on heap cs))) cell) v.1 ∙ elim (eqb_tells c cell) [
      | inl h ↦ first_is c cell v.0 (value_at (numbered cs (values_on heap cs)) cell) h.1 ∙ sym v.1 ∙ ap (slice_get heap) h.1
      | inr h ↦ first_is_not c cell v.0 (value_at (numbered cs (values_on heap cs)) cell) h.1
          ∙ later_cell (value_at (numbered cs (values_on heap cs)) cell ≡ slice_get heap cell) c cell cs k.0 k.1 k.2 h.1 (λ there. value_among heap cs cell rest there)
    ]

-- ---- one more write

pub rise_more : (ws : List (ℕ × Value)) (k : ℕ) (w : ℕ × Value) → 1 ≤ k → k < length ws →
    ((i : ℕ) (d : ℕ × Value) → i + 1 < k → (get_or ws i d).0 < (get_or ws (i + 1) d).0) →
    (get_or ws (k - 1) w).0 < (get_or ws k w).0 → (i : ℕ) (d : ℕ × Value) → i + 1 < k + 1 → (get_or ws i d).0 < (get_or ws (i + 1) d).0
rise_more ws k w low lt rise step i d within = elim (cases_eq (i + 1) k) [
  | inl e ↦ (
      let first : k - 1 ≡ i = omega (arith, e) in
      let here = ap (λ (x : ℕ × Value). x.0) (same_default ws i d w (omega (arith, e, lt))) in
      let next = ap (λ (x : ℕ × Value). x.0) (same_default ws (i + 1) d w (omega (arith, e, lt))) in
      let less = subst (λ (n : ℕ). (get_or ws i w).0 < (get_or ws n w).0) (sym e) (subst (λ (n : ℕ). (get_or ws n w).0 < (get_or ws k w).0) first step) in
      omega (arith, here, next, less))
  | inr ne ↦ rise i d (omega (arith, within, ne))
]

-- the writes are made from the last to the first
pub one_more_made : (heap : List Value) (ws : List (ℕ × Value)) (left : ℕ) (d : ℕ × Value) (now : List Value) →
    0 < left → left ≤ length ws → now ≡ overwritten heap (drop left ws) →
    set now (get_or ws (left - 1) d).0 (get_or ws (left - 1) d).1 ≡ overwritten heap (drop (left - 1) ws)
one_more_made heap ws left d now more le is =
    let next : left ≡ suc (left - 1) = omega (arith, more) in
    ap (λ (h : List Value). set h (get_or ws (left - 1) d).0 (get_or ws (left - 1) d).1) (is ∙ ap (λ (n : ℕ). overwritten heap (drop n ws)) next)
    ∙ sym (ap (overwritten heap) (drop-cons ws (left - 1) d (omega (arith, more, le))))

pub none_made : (heap : List Value) (ws : List (ℕ × Value)) → heap ≡ overwritten heap (drop (length ws) ws)
none_made heap ws = sym (at_drop_all (overwritten heap) ws (length ws) (omega arith))

pub one_less_left : (left n : ℕ) → left ≤ n → left - 1 ≤ n
one_less_left left n le = omega (arith, le)
