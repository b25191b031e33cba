-- Values of cells, and heaps that they are written into. Nobody has to believe this: it is proved here, for proofs of
-- this crate and of those above.
use Rattle.std.proofs.Common.{◌≡◌, ◌≢◌, ℕ, ◌<◌, List, [], ◌∷◌, ◌++◌, length, map, Option, Some, None, Bool, true, false}
use Rattle.std.proofs.Common.{inl, inr, refl, sym, ap, ◌∙◌, arith, length-set, get_or-set_same, get_or-set_other}
use Rattle.std.specs.Prelude.{slice_get, slice_set, nat_eq, nat_lt, if◌then◌else◌}
use Rattle.std.proofs.lemmas.Bool.Decides.{eqb_tells}
use Rattle.std.proofs.lemmas.List.{set-set, set_comm}
use Rattle.std.proofs.lemmas.Option.{none-some, slice_get_cases, slice_get-get_or, slice_get_past}
use Rattle.core_lang.specs.declared.value.Value.{Value}
use Rattle.code.specs.Memory.{value_at, with_value, with_changed, overwritten, Agrees, IsCovered}

-- ---- the first of the list, and the rest

pub same_cell : (a b : ℕ) → nat_eq a b ≡ true → a ≡ b
same_cell a b e = elim (eqb_tells a b) [ inl h ↦ h.1 | inr h ↦ absurd (let bad : true ≡ false = sym e ∙ h.0 in cc) ]

pub other_cell : (a b : ℕ) → nat_eq a b ≡ false → a ≢ b
other_cell a b e = elim (eqb_tells a b) [ inl h ↦ absurd (let bad : true ≡ false = sym h.0 ∙ e in cc) | inr h ↦ h.1 ]

pub first_is : (a k : ℕ) (v : Value) (rest : Option Value) → a ≡ k → (if nat_eq a k then Some v else rest) ≡ Some v
first_is a k v rest e =
    elim (eqb_tells a k) [ inl h ↦ ap (λ b. if b then Some v else rest) h.0 | inr h ↦ absurd (h.1 e) ]

pub first_is_not : (a k : ℕ) (v : Value) (rest : Option Value) → a ≢ k → (if nat_eq a k then Some v else rest) ≡ rest
first_is_not a k v rest ne =
    elim (eqb_tells a k) [ inl h ↦ absurd (ne h.1) | inr h ↦ ap (λ b. if b then Some v else rest) h.0 ]

-- ---- one list after another

pub value_left : (xs ys : List (ℕ × Value)) (c : ℕ) (v : Value) → value_at xs c ≡ Some v →
    value_at (xs ++ ys) c ≡ Some v
value_left [] ys c v e = absurd (none-some v e)
value_left (x ∷ xs) ys c v e = elim (eqb_tells x.0 c) [
  | inl h ↦ first_is x.0 c x.1 (value_at (xs ++ ys) c) h.1 ∙ sym (first_is x.0 c x.1 (value_at xs c) h.1) ∙ e
  | inr h ↦ first_is_not x.0 c x.1 (value_at (xs ++ ys) c) h.1
      ∙ value_left xs ys c v (sym (first_is_not x.0 c x.1 (value_at xs c) h.1) ∙ e)
]

pub value_right : (xs ys : List (ℕ × Value)) (c : ℕ) → value_at xs c ≡ None → value_at (xs ++ ys) c ≡ value_at ys c
value_right [] ys c e = refl
value_right (x ∷ xs) ys c e = elim (eqb_tells x.0 c) [
  | inl h ↦ absurd (none-some x.1 (sym e ∙ first_is x.0 c x.1 (value_at xs c) h.1))
  | inr h ↦ first_is_not x.0 c x.1 (value_at (xs ++ ys) c) h.1
      ∙ value_right xs ys c (sym (first_is_not x.0 c x.1 (value_at xs c) h.1) ∙ e)
]

-- ---- with a cell's value set

set_same_by : (lt eq : Bool) (x : ℕ × Value) (xs : List (ℕ × Value)) (c : ℕ) (v : Value) → nat_eq c x.0 ≡ eq →
    value_at (with_value xs c v) c ≡ Some v →
    value_at (if lt then (c, v) ∷ x ∷ xs else if eq then (c, v) ∷ xs else x ∷ with_value xs c v) c ≡ Some v
set_same_by true eq x xs c v e ih = first_is c c v (value_at (x ∷ xs) c) refl
set_same_by false true x xs c v e ih = first_is c c v (value_at xs c) refl
set_same_by false false x xs c v e ih =
    first_is_not x.0 c x.1 (value_at (with_value xs c v) c) (λ q. other_cell c x.0 e (sym q)) ∙ ih

pub set_same : (xs : List (ℕ × Value)) (c : ℕ) (v : Value) → value_at (with_value xs c v) c ≡ Some v
set_same [] c v = first_is c c v None refl
set_same (x ∷ xs) c v = set_same_by (nat_lt c x.0) (nat_eq c x.0) x xs c v refl (set_same xs c v)

set_other_by : (lt eq : Bool) (x : ℕ × Value) (xs : List (ℕ × Value)) (c k : ℕ) (v : Value) → nat_eq c x.0 ≡ eq →
    c ≢ k →
    value_at (with_value xs c v) k ≡ value_at xs k →
    value_at (if lt then (c, v) ∷ x ∷ xs else if eq then (c, v) ∷ xs else x ∷ with_value xs c v) k ≡ value_at (x ∷ xs) k
set_other_by true eq x xs c k v e ne ih = first_is_not c k v (value_at (x ∷ xs) k) ne
set_other_by false true x xs c k v e ne ih =
    first_is_not c k v (value_at xs k) ne
    ∙ sym (first_is_not x.0 k x.1 (value_at xs k) (λ q. ne (same_cell c x.0 e ∙ q)))
set_other_by false false x xs c k v e ne ih = ap (λ t. if nat_eq x.0 k then Some x.1 else t) ih

pub set_other : (xs : List (ℕ × Value)) (c k : ℕ) (v : Value) → c ≢ k → value_at (with_value xs c v) k ≡ value_at xs k
set_other [] c k v ne = first_is_not c k v None ne
set_other (x ∷ xs) c k v ne = set_other_by (nat_lt c x.0) (nat_eq c x.0) x xs c k v refl ne (set_other xs c k v ne)

-- ---- with a cell's value changed

changed_same_by : (eq : Bool) (x : ℕ × Value) (xs : List (ℕ × Value)) (c : ℕ) (old v : Value) → nat_eq x.0 c ≡ eq →
    (if eq then Some x.1 else value_at xs c) ≡ Some old → (value_at xs c ≡ Some old → value_at (with_changed xs c v) c ≡ Some v) →
    value_at (if eq then (c, v) ∷ xs else x ∷ with_changed xs c v) c ≡ Some v
changed_same_by true x xs c old v e there ih = first_is c c v (value_at xs c) refl
changed_same_by false x xs c old v e there ih =
    first_is_not x.0 c x.1 (value_at (with_changed xs c v) c) (other_cell x.0 c e) ∙ ih there

pub changed_same : (xs : List (ℕ × Value)) (c : ℕ) (old v : Value) → value_at xs c ≡ Some old →
    value_at (with_changed xs c v) c ≡ Some v
changed_same [] c old v there = absurd (none-some _ there)
changed_same (x ∷ xs) c old v there = changed_same_by (nat_eq x.0 c) x xs c old v refl there (changed_same xs c old v)

changed_other_by : (eq : Bool) (x : ℕ × Value) (xs : List (ℕ × Value)) (c k : ℕ) (v : Value) → nat_eq x.0 c ≡ eq →
    c ≢ k →
    value_at (with_changed xs c v) k ≡ value_at xs k →
    value_at (if eq then (c, v) ∷ xs else x ∷ with_changed xs c v) k ≡ value_at (x ∷ xs) k
changed_other_by true x xs c k v e ne ih =
    first_is_not c k v (value_at xs k) ne
    ∙ sym (first_is_not x.0 k x.1 (value_at xs k) (λ q. ne (sym (same_cell x.0 c e) ∙ q)))
changed_other_by false x xs c k v e ne ih = ap (λ t. if nat_eq x.0 k then Some x.1 else t) ih

pub changed_other : (xs : List (ℕ × Value)) (c k : ℕ) (v : Value) → c ≢ k →
    value_at (with_changed xs c v) k ≡ value_at xs k
changed_other [] c k v ne = refl
changed_other (x ∷ xs) c k v ne = changed_other_by (nat_eq x.0 c) x xs c k v refl ne (changed_other xs c k v ne)

changed_cells_by : (eq : Bool) (x : ℕ × Value) (xs : List (ℕ × Value)) (c : ℕ) (v : Value) → nat_eq x.0 c ≡ eq →
    map (λ (y : ℕ × Value). y.0) (with_changed xs c v) ≡ map (λ (y : ℕ × Value). y.0) xs →
    map (λ (y : ℕ × Value). y.0) (if eq then (c, v) ∷ xs else x ∷ with_changed xs c v) ≡ map (λ (y : ℕ × Value). y.0) (x ∷ xs)
changed_cells_by true x xs c v e ih = ap (λ n. n ∷ map (λ (y : ℕ × Value). y.0) xs) (sym (same_cell x.0 c e))
changed_cells_by false x xs c v e ih = ap (λ t. x.0 ∷ t) ih

pub changed_cells : (xs : List (ℕ × Value)) (c : ℕ) (v : Value) →
    map (λ (y : ℕ × Value). y.0) (with_changed xs c v) ≡ map (λ (y : ℕ × Value). y.0) xs
changed_cells [] c v = refl
changed_cells (x ∷ xs) c v = changed_cells_by (nat_eq x.0 c) x xs c v refl (changed_cells xs c v)

pub changed_covered : (xs : List (ℕ × Value)) (c : ℕ) (old v : Value) (heap : List Value) → value_at xs c ≡ Some old →
    IsCovered xs heap →
    IsCovered (with_changed xs c v) heap
changed_covered xs c old v heap there covered k w is =
    elim (eqb_tells c k) [
      | inl h ↦ covered k old (ap (value_at xs) (sym h.1) ∙ there)
      | inr h ↦ covered k w (sym (changed_other xs c k v h.1) ∙ is)
    ]

-- ---- a heap with values written into it

pub length-overwritten : (heap : List Value) (ws : List (ℕ × Value)) → length (overwritten heap ws) ≡ length heap
length-overwritten heap [] = refl
length-overwritten heap (w ∷ ws) = length-set (overwritten heap ws) w.0 w.1 ∙ length-overwritten heap ws

pub set_here : (xs : List Value) (i : ℕ) (v : Value) → i < length xs → slice_get (slice_set xs i v) i ≡ Some v
set_here xs i v lt =
    let lt' : i < length (slice_set xs i v) = omega (arith, length-set xs i v) in
    slice_get-get_or (slice_set xs i v) i v lt' ∙ ap Some (get_or-set_same xs i v v lt)

pub set_there : (xs : List Value) (i j : ℕ) (v : Value) → j ≢ i → slice_get (slice_set xs i v) j ≡ slice_get xs j
set_there xs i j v ne =
    elim (slice_get_cases xs j).1 [
      | inl h ↦
          let lt' : j < length (slice_set xs i v) = omega (arith, length-set xs i v, h.1) in
          slice_get-get_or (slice_set xs i v) j h.0 lt' ∙ ap Some (get_or-set_other xs i j v h.0 ne ∙ h.3) ∙ sym h.2
      | inr h ↦ slice_get_past (slice_set xs i v) j (omega (arith, length-set xs i v, h.0)) ∙ sym h.1
    ]

-- a cell that was written has the written value, and any other its former value
pub written_cell : (heap : List Value) (ws : List (ℕ × Value)) (c : ℕ) (v : Value) → c < length heap →
    value_at ws c ≡ Some v →
    slice_get (overwritten heap ws) c ≡ Some v
written_cell heap [] c v lt is = absurd (none-some _ is)
written_cell heap (w ∷ ws) c v lt is =
    elim (eqb_tells w.0 c) [
      | inl h ↦
          ap (λ k. slice_get (slice_set (overwritten heap ws) k w.1) c) h.1
          ∙ set_here (overwritten heap ws) c w.1 (omega (arith, length-overwritten heap ws))
          ∙ sym (first_is w.0 c w.1 (value_at ws c) h.1) ∙ is
      | inr h ↦
          set_there (overwritten heap ws) w.0 c w.1 (λ q. h.1 (sym q))
          ∙ written_cell heap ws c v lt (sym (first_is_not w.0 c w.1 (value_at ws c) h.1) ∙ is)
    ]

pub unwritten_cell : (heap : List Value) (ws : List (ℕ × Value)) (c : ℕ) → value_at ws c ≡ None →
    slice_get (overwritten heap ws) c ≡ slice_get heap c
unwritten_cell heap [] c none = refl
unwritten_cell heap (w ∷ ws) c none =
    elim (eqb_tells w.0 c) [
      | inl h ↦ absurd (none-some _ (sym none ∙ first_is w.0 c w.1 (value_at ws c) h.1))
      | inr h ↦
          set_there (overwritten heap ws) w.0 c w.1 (λ q. h.1 (sym q))
          ∙ unwritten_cell heap ws c (sym (first_is_not w.0 c w.1 (value_at ws c) h.1) ∙ none)
    ]

overwritten_by : (lt eq : Bool) (heap : List Value) (x : ℕ × Value) (xs : List (ℕ × Value)) (c : ℕ) (v : Value) →
    nat_eq c x.0 ≡ eq →
    overwritten heap (with_value xs c v) ≡ slice_set (overwritten heap xs) c v →
    overwritten heap (if lt then (c, v) ∷ x ∷ xs else if eq then (c, v) ∷ xs else x ∷ with_value xs c v) ≡ slice_set (overwritten heap (x ∷ xs)) c v
overwritten_by true eq heap x xs c v e ih = refl
overwritten_by false true heap x xs c v e ih =
    sym (set-set (overwritten heap xs) c x.1 v)
    ∙ ap (λ k. slice_set (slice_set (overwritten heap xs) k x.1) c v) (same_cell c x.0 e)
overwritten_by false false heap x xs c v e ih =
    ap (λ h. slice_set h x.0 x.1) ih ∙ set_comm (overwritten heap xs) c x.0 v x.1 (other_cell c x.0 e)

-- a further write is made to the heap with the earlier ones
pub overwritten_with : (heap : List Value) (xs : List (ℕ × Value)) (c : ℕ) (v : Value) →
    overwritten heap (with_value xs c v) ≡ slice_set (overwritten heap xs) c v
overwritten_with heap [] c v = refl
overwritten_with heap (x ∷ xs) c v =
    overwritten_by (nat_lt c x.0) (nat_eq c x.0) heap x xs c v refl (overwritten_with heap xs c v)

-- ---- a heap that has the values read

agrees_by : (lt eq : Bool) (heap : List Value) (x : ℕ × Value) (xs : List (ℕ × Value)) (c : ℕ) (v : Value) →
    nat_eq c x.0 ≡ eq →
    ((old : Value) → value_at (x ∷ xs) c ≡ Some old → old ≡ v) →
    (((old : Value) → value_at xs c ≡ Some old → old ≡ v) → Agrees heap (with_value xs c v) → (slice_get heap c ≡ Some v) × Agrees heap xs) →
    Agrees heap (if lt then (c, v) ∷ x ∷ xs else if eq then (c, v) ∷ xs else x ∷ with_value xs c v) →
    (slice_get heap c ≡ Some v) × Agrees heap (x ∷ xs)
agrees_by true eq heap x xs c v e same ih agrees = agrees
agrees_by false true heap x xs c v e same ih agrees =
    let here : c ≡ x.0 = same_cell c x.0 e in
    let old : x.1 ≡ v = same x.1 (first_is x.0 c x.1 (value_at xs c) (sym here)) in
    (agrees.0, (ap (slice_get heap) (sym here) ∙ agrees.0 ∙ ap Some (sym old), agrees.1))
agrees_by false false heap x xs c v e same ih agrees =
    let rest = ih (λ old is. same old (first_is_not x.0 c x.1 (value_at xs c) (λ q. other_cell c x.0 e (sym q)) ∙ is)) agrees.1 in
    (rest.0, (agrees.0, rest.1))

-- a heap that has the values with one more noted has the cell's value, and the earlier ones
pub agrees_noted : (heap : List Value) (xs : List (ℕ × Value)) (c : ℕ) (v : Value) →
    ((old : Value) → value_at xs c ≡ Some old → old ≡ v) → Agrees heap (with_value xs c v) → (slice_get heap c ≡ Some v) × Agrees heap xs
agrees_noted heap [] c v same agrees = agrees
agrees_noted heap (x ∷ xs) c v same agrees =
    agrees_by (nat_lt c x.0) (nat_eq c x.0) heap x xs c v refl same (agrees_noted heap xs c v) agrees

noted_agrees_by : (lt eq : Bool) (heap : List Value) (x : ℕ × Value) (xs : List (ℕ × Value)) (c : ℕ) (v : Value) →
    slice_get heap c ≡ Some v →
    Agrees heap (x ∷ xs) → Agrees heap (with_value xs c v) →
    Agrees heap (if lt then (c, v) ∷ x ∷ xs else if eq then (c, v) ∷ xs else x ∷ with_value xs c v)
noted_agrees_by true eq heap x xs c v is agrees ih = (is, agrees)
noted_agrees_by false true heap x xs c v is agrees ih = (is, agrees.1)
noted_agrees_by false false heap x xs c v is agrees ih = (agrees.0, ih)

-- the converse
pub noted_agrees : (heap : List Value) (xs : List (ℕ × Value)) (c : ℕ) (v : Value) → slice_get heap c ≡ Some v →
    Agrees heap xs →
    Agrees heap (with_value xs c v)
noted_agrees heap [] c v is agrees = (is, tt)
noted_agrees heap (x ∷ xs) c v is agrees =
    noted_agrees_by (nat_lt c x.0) (nat_eq c x.0) heap x xs c v is agrees (noted_agrees heap xs c v is agrees.1)
